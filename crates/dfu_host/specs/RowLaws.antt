-- If a property holds in each phase to which a row may lead, it holds after the row.
use Rattle.std.proofs.Common.{◌≡◌, ℕ, zero, suc, nat_lt, ◌==◌, Bool, true, false, cond, [], length, slice_index_or, refl, ◌∙◌}
use Rattle.std.specs.Str.{bytes_eq}
use Rattle.std.proofs.lemmas.Bool.{ltb-true}
use Rattle.std.proofs.lemmas.Slice.Eq.{bytes_eq-Decides}
use Rattle.dfu_wire.specs.declared.codes.Code.{Code}
use Rattle.dfu_wire.specs.declared.codes.Code.TheVariants as code
use Rattle.dfu_wire.specs.declared.states.State.{State}
use Rattle.dfu_wire.specs.declared.states.State.TheVariants as state
use Rattle.dfu_host.specs.declared.report.Report.TheVariants.{Different, Installed, TooManyBlocks, Unconfirmed, Verified}
use Rattle.dfu_host.specs.Phases.{Task, Phase, Find, FindAgain, Detach, Enter, Clear, Quit, WaitFind, ResetFind, Block, Ask, Poll, WaitPoll, Close, AskLast, Manifest, WaitManifest, WaitLast, Trouble, Fetch, LastUploaded, Compare, Last, GiveUp, Over, OverUploaded, Heard, Acked, Status, Part, StateIs, Stalled, Waited, WasReset}
use Rattle.dfu_host.specs.Table.{work_start, session_blocks, phase_after_status, phase_in_trouble, polled_phase, manifest_phase, asked_phase, asked_last_phase, on_status, on_state, on_ack, on_waited, on_reset, host_row}
use Rattle.dfu_host.specs.CommonPhases.{NoKnownFact, IsCommonPhase, IsDownloading, IsSeekingPhase, CommonInvariant, DownloadInvariant}
use Rattle.dfu_host.specs.Installing.{DfuIdleReported, LastPartMatched}

module _ (P : Phase → Type 0) where
  -- The property holds after a test if it holds on each branch that the test may take.
  pub choice_gives_property : (b : Bool) (x y : Phase) → (b ≡ true → P x) → (b ≡ false → P y) → P (cond b x y)
  choice_gives_property true x y p q = p refl
  choice_gives_property false x y p q = q refl

  -- The property holds after a request whose answer has no bytes, if it holds in each of the three phases that may follow.
  pub ack_gives_property : (heard : Heard) (acked stalled nothing : Phase) → P acked → P stalled → P nothing
      → P (on_ack heard acked stalled nothing)
  ack_gives_property Acked acked stalled nothing p q r = p
  ack_gives_property Stalled acked stalled nothing p q r = q
  ack_gives_property heard acked stalled nothing p q r = r

  -- The property holds after a wait if it holds in both phases that may follow.
  pub wait_gives_property : (heard : Heard) (waited again : Phase) → P waited → P again → P (on_waited heard waited again)
  wait_gives_property Waited waited again p q = p
  wait_gives_property heard waited again p q = q

  -- The property holds after a reset of the bus if it holds in both phases that may follow.
  pub reset_has_property : (heard : Heard) (done again : Phase) → P done → P again → P (on_reset heard done again)
  reset_has_property WasReset done again p q = p
  reset_has_property heard done again p q = q

  -- The property holds after GETSTATUS if it holds in each phase that may follow. The proof may use the fact `Known` about the result.
  pub status_gives_property : (Known : Heard → Type 0) (heard : Heard) (told : Code → ℕ → State → Phase) (stalled nothing : Phase)
      → ((c : Code) (poll : ℕ) (s : State) → Known (Status c poll s) → P (told c poll s)) → P stalled → P nothing → Known heard
      → P (on_status heard told stalled nothing)
  status_gives_property Known (Status c poll s) told stalled nothing p q r k = p c poll s k
  status_gives_property Known Stalled told stalled nothing p q r k = q
  status_gives_property Known heard told stalled nothing p q r k = r

  -- The property holds after GETSTATE if it holds in each phase that may follow. The proof may use the fact `Known` about the result.
  pub state_gives_property : (Known : Heard → Type 0) (heard : Heard) (told : State → Phase) (stalled nothing : Phase)
      → ((s : State) → Known (StateIs s) → P (told s)) → P stalled → P nothing → Known heard → P (on_state heard told stalled nothing)
  state_gives_property Known (StateIs s) told stalled nothing p q r k = p s k
  state_gives_property Known Stalled told stalled nothing p q r k = q
  state_gives_property Known heard told stalled nothing p q r k = r

module _ (task : Task) (P : Phase → Type 0) (Known : Heard → Type 0) (holds : CommonInvariant task P Known) where
  -- An invariant of the common phases holds in the phase that the device's state in a status selects.
  state_of_status_gives_property : (c : Code) (poll : ℕ) (s : State) → Known (Status c poll s) →
      P (phase_after_status (work_start task.goal) s poll)
  state_of_status_gives_property c poll state.DfuIdle k = holds.begins c poll k
  state_of_status_gives_property c poll s k = holds.holds_in_each_phase (phase_after_status (work_start task.goal) s poll) tt

  -- An invariant of the common phases holds after a status in phase Trouble.
  pub trouble_gives_property : (c : Code) (poll : ℕ) (s : State) → Known (Status c poll s) →
      P (phase_in_trouble (work_start task.goal) c poll s)
  trouble_gives_property code.Ok poll s k = state_of_status_gives_property code.Ok poll s k
  trouble_gives_property code.StalledPkt poll s k = state_of_status_gives_property code.StalledPkt poll s k
  trouble_gives_property c poll state.Error k = holds.refused c
  trouble_gives_property c poll s k = state_of_status_gives_property c poll s k

  -- An invariant of the common phases holds after the row of each of them.
  pub common_phase_gives_property : (phase : Phase) (heard : Heard) → IsCommonPhase phase → (IsSeekingPhase phase → Known heard)
      → P (host_row task phase heard)
  common_phase_gives_property Find heard a k = status_gives_property P Known heard _ FindAgain Find state_of_status_gives_property
      (holds.holds_in_each_phase FindAgain tt)
      (holds.holds_in_each_phase Find tt) (k tt)
  common_phase_gives_property FindAgain heard a k = status_gives_property P Known heard _ ResetFind FindAgain state_of_status_gives_property
      (holds.holds_in_each_phase ResetFind tt)
      (holds.holds_in_each_phase FindAgain tt) (k tt)
  common_phase_gives_property Detach heard a k = ack_gives_property P heard Enter Find Find (holds.holds_in_each_phase Enter tt)
      (holds.holds_in_each_phase Find tt)
      (holds.holds_in_each_phase Find tt)
  common_phase_gives_property Enter heard a k = choice_gives_property P task.will_detach _ _
      (λ e. wait_gives_property P heard Find Enter (holds.holds_in_each_phase Find tt) (holds.holds_in_each_phase Enter tt))
      (λ e. reset_has_property P heard Find Enter (holds.holds_in_each_phase Find tt) (holds.holds_in_each_phase Enter tt))
  common_phase_gives_property Clear heard a k = holds.holds_in_each_phase Find tt
  common_phase_gives_property Quit heard a k = holds.holds_in_each_phase Find tt
  common_phase_gives_property (WaitFind poll) heard a k = wait_gives_property P heard Find (WaitFind poll) (holds.holds_in_each_phase Find
      tt)
      (holds.holds_in_each_phase (WaitFind poll) tt)
  common_phase_gives_property ResetFind heard a k = reset_has_property P heard Find ResetFind (holds.holds_in_each_phase Find tt)
      (holds.holds_in_each_phase ResetFind tt)
  common_phase_gives_property Trouble heard a k = status_gives_property P Known heard _ FindAgain Trouble trouble_gives_property
      (holds.holds_in_each_phase FindAgain tt)
      (holds.holds_in_each_phase Trouble tt) (k tt)
  common_phase_gives_property GiveUp heard a k = holds.aborted
  common_phase_gives_property phase heard a k = elim a [ ]

module _ (task : Task) (P : Phase → Type 0) (holds : DownloadInvariant task P) where
  -- A common phase is a phase of a download before its last reset.
  common_phase_is_download_phase : (phase : Phase) → IsCommonPhase phase → IsDownloading phase
  common_phase_is_download_phase (Fetch k kept) c = c
  common_phase_is_download_phase (LastUploaded kept) c = c
  common_phase_is_download_phase (Compare k) c = c
  common_phase_is_download_phase (Last report) c = c
  common_phase_is_download_phase (Over report) c = c
  common_phase_is_download_phase (OverUploaded kept) c = c
  common_phase_is_download_phase phase c = tt

  -- An invariant of the phases of a download is an invariant of the common phases.
  pub download_invariant_is_common : CommonInvariant task P NoKnownFact
  download_invariant_is_common = record {
    holds_in_each_phase = λ phase c. holds.holds_in_each_phase phase (common_phase_is_download_phase phase c);
    begins = λ code poll k. holds.begins;
    refused = holds.refused;
    aborted = holds.aborted;
  }

  -- An invariant of the phases of a download holds after the GETSTATE that checks for the arrival of a block.
  ask_gives_property : (n : ℕ) (s : State) → P (asked_phase n s)
  ask_gives_property n state.DownloadSync = holds.holds_in_each_phase (Poll n) tt
  ask_gives_property zero state.DfuIdle = holds.holds_in_each_phase (Block zero) tt
  ask_gives_property (suc n) state.DownloadIdle = holds.holds_in_each_phase (Block (suc n)) tt
  ask_gives_property n s = holds.holds_in_each_phase Trouble tt

  -- An invariant of the phases of a download holds after the GETSTATE that checks for the arrival of the close.
  ask_last_gives_property : (s : State) → P (asked_last_phase s)
  ask_last_gives_property state.ManifestSync = holds.holds_in_each_phase Manifest tt
  ask_last_gives_property state.DownloadIdle = holds.holds_in_each_phase Close tt
  ask_last_gives_property s = holds.holds_in_each_phase Trouble tt

  -- An invariant of the phases of a download holds after the host polls the status of a block.
  poll_gives_property : (blocks n : ℕ) (c : Code) (poll : ℕ) (s : State) → P (polled_phase (work_start task.goal) blocks n c poll s)
  poll_gives_property blocks n c poll state.DownloadSync = holds.holds_in_each_phase (WaitPoll n poll) tt
  poll_gives_property blocks n c poll state.DownloadBusy = holds.holds_in_each_phase (WaitPoll n poll) tt
  poll_gives_property blocks n c poll state.DownloadIdle = choice_gives_property P (suc n == blocks) Close (Block (suc n))
      (λ e. holds.holds_in_each_phase Close tt) (λ e. holds.holds_in_each_phase (Block (suc n)) tt)
  poll_gives_property blocks n c poll s = trouble_gives_property task P NoKnownFact download_invariant_is_common c poll s tt

  -- An invariant of the phases of a download holds after a status in Manifest, if it holds in the last reset of a confirmed install.
  manifest_gives_property : (tolerant : Bool) (c : Code) (poll : ℕ) (s : State)
      → (tolerant ≡ true → Status c poll s ≡ Status code.Ok poll state.DfuIdle → P (Last Installed))
      → P (manifest_phase (work_start task.goal) tolerant c poll s)
  manifest_gives_property true c poll state.ManifestSync confirmed = holds.holds_in_each_phase (WaitManifest poll) tt
  manifest_gives_property true c poll state.Manifest confirmed = holds.holds_in_each_phase (WaitManifest poll) tt
  manifest_gives_property true code.Ok poll state.DfuIdle confirmed = confirmed refl refl
  manifest_gives_property true c poll s confirmed = trouble_gives_property task P NoKnownFact download_invariant_is_common c poll s tt
  manifest_gives_property false c poll state.ManifestSync confirmed = holds.holds_in_each_phase (WaitLast poll) tt
  manifest_gives_property false c poll state.Manifest confirmed = holds.holds_in_each_phase (WaitLast poll) tt
  manifest_gives_property false c poll state.DfuIdle confirmed = holds.unconfirmed
  manifest_gives_property false c poll state.ManifestWaitReset confirmed = holds.unconfirmed
  manifest_gives_property false c poll s confirmed = trouble_gives_property task P NoKnownFact download_invariant_is_common c poll s tt

  -- An invariant of the phases of a download holds after the row of each of them, if it holds in the last reset of a confirmed install.
  pub download_phase_gives_property : (phase : Phase) (heard : Heard) → IsDownloading phase → (DfuIdleReported task phase heard →
      P (Last Installed))
      → P (host_row task phase heard)
  download_phase_gives_property (Block n) heard d confirmed = ack_gives_property P heard (Poll n) Trouble (Ask n)
      (holds.holds_in_each_phase (Poll n) tt)
      (holds.holds_in_each_phase Trouble tt) (holds.holds_in_each_phase (Ask n) tt)
  download_phase_gives_property (Ask n) heard d confirmed = state_gives_property P NoKnownFact heard (asked_phase n) Trouble (Ask n) (λ s k.
      ask_gives_property n s)
      (holds.holds_in_each_phase Trouble tt) (holds.holds_in_each_phase (Ask n) tt) tt
  download_phase_gives_property (Poll n) heard d confirmed = status_gives_property P NoKnownFact heard _ Trouble (Poll n)
      (λ c poll s k. poll_gives_property (length (session_blocks task)) n c poll s) (holds.holds_in_each_phase Trouble tt)
      (holds.holds_in_each_phase (Poll n) tt) tt
  download_phase_gives_property (WaitPoll n poll) heard d confirmed = wait_gives_property P heard (Poll n) (WaitPoll n poll)
      (holds.holds_in_each_phase (Poll n) tt)
      (holds.holds_in_each_phase (WaitPoll n poll) tt)
  download_phase_gives_property Close heard d confirmed = ack_gives_property P heard Manifest Trouble AskLast (holds.holds_in_each_phase
      Manifest tt)
      (holds.holds_in_each_phase Trouble tt) (holds.holds_in_each_phase AskLast tt)
  download_phase_gives_property AskLast heard d confirmed = state_gives_property P NoKnownFact heard asked_last_phase Trouble AskLast (λ s
      k. ask_last_gives_property s)
      (holds.holds_in_each_phase Trouble tt) (holds.holds_in_each_phase AskLast tt) tt
  download_phase_gives_property Manifest heard d confirmed = status_gives_property P (λ x. heard ≡ x) heard _ Trouble Manifest
      (λ c poll s k. manifest_gives_property task.tolerant c poll s (λ tolerant told. confirmed (record {
        closed = refl;
        tolerant = tolerant;
        poll = poll;
        told = k ∙ told;
      }))) (holds.holds_in_each_phase Trouble tt) (holds.holds_in_each_phase Manifest tt) refl
  download_phase_gives_property (WaitManifest poll) heard d confirmed = wait_gives_property P heard Manifest (WaitManifest poll)
      (holds.holds_in_each_phase Manifest tt)
      (holds.holds_in_each_phase (WaitManifest poll) tt)
  download_phase_gives_property (WaitLast poll) heard d confirmed = wait_gives_property P heard (Last Unconfirmed) (WaitLast poll)
      holds.unconfirmed
      (holds.holds_in_each_phase (WaitLast poll) tt)
  download_phase_gives_property (Fetch k kept) heard d confirmed = elim d [ ]
  download_phase_gives_property (LastUploaded kept) heard d confirmed = elim d [ ]
  download_phase_gives_property (Compare k) heard d confirmed = elim d [ ]
  download_phase_gives_property (Last report) heard d confirmed = elim d [ ]
  download_phase_gives_property (Over report) heard d confirmed = elim d [ ]
  download_phase_gives_property (OverUploaded kept) heard d confirmed = elim d [ ]
  download_phase_gives_property phase heard d confirmed = common_phase_gives_property task P NoKnownFact download_invariant_is_common phase
      heard tt (λ x. tt)

-- The property holds after a compared part if it holds in each phase that may follow. Only the last matching part leads to Verified.
pub compared_part_gives_property : (task : Task) (P : Phase → Type 0) (k : ℕ) (heard : Heard) → P Find → P (Last Different)
    → P (Over TooManyBlocks) → P (Compare (suc k)) → (LastPartMatched task (Compare k) heard → P (Last Verified))
    → P (host_row task (Compare k) heard)
compared_part_gives_property task P k (Part bytes) find different many more matched =
    let t = task.transfer in let block = slice_index_or (session_blocks task) k [] in
    choice_gives_property P (nat_lt t (length bytes)) _ _ (λ long. find)
    (λ fits. choice_gives_property P (bytes_eq bytes block) _ _
    (λ same. choice_gives_property P (nat_lt (length bytes) t) _ _
    (λ short. matched (record {
      k = k;
      bytes = bytes;
      compares = refl;
      came = refl;
      same = (bytes_eq-Decides bytes block).0 same;
      last = ltb-true _ _ short;
    }))
    (λ full. choice_gives_property P (suc k == 65535) _ _ (λ e. many) (λ e. more)))
    (λ other. different))
compared_part_gives_property task P k heard find different many more matched = find
