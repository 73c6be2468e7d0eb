-- Effect of each request and each wait in a clean run.
use Rattle.std.proofs.Common.{◌≡◌, ℕ, zero, suc, ◌+◌, ◌<◌, Bool, true, cond, List, [], ◌∷◌, length, slice_index_or, refl, sym, ap, ◌∙◌, subst, arith}
use Rattle.std.specs.Str.{bytes_eq}
use Rattle.std.proofs.lemmas.Slice.Eq.{bytes_eq-Decides}
use Rattle.std.proofs.lemmas.Bool.{eq-eqb}
use Rattle.dfu_wire.specs.declared.codes.Code.{Code}
use Rattle.dfu_wire.specs.declared.codes.Code.TheVariants as code
use Rattle.dfu_wire.specs.declared.states.State.{State}
use Rattle.dfu_wire.specs.declared.states.State.TheVariants as state
use Rattle.dfu_wire.specs.State.{state_byte}
use Rattle.dfu_wire.specs.Status.{StatusFields}
use Rattle.dfu_wire.specs.OneValue.{bytes_encode_one_status}
use Rattle.dfuse_host.specs.declared.plan.Plan.{Plan}
use Rattle.dfuse_host.specs.declared.phase.Phase.{Phase}
use Rattle.dfuse_host.specs.declared.phase.Phase.TheVariants.{Over}
use Rattle.dfuse_host.specs.declared.work.Work.{Work}
use Rattle.dfuse_host.specs.declared.place.Place.{Place}
use Rattle.dfuse_host.specs.declared.place.Place.TheVariants as place
use Rattle.dfuse_host.specs.declared.step.Step.TheVariants as step
use Rattle.dfuse_host.specs.declared.report.Report.TheVariants.{Verified}
use Rattle.dfuse_host.specs.declared.report.Leaving.TheVariants as leaving
use Rattle.dfuse_host.specs.declared.seen.Seen.{Seen}
use Rattle.dfuse_host.specs.declared.seen.Seen.TheVariants as seen
use Rattle.dfuse_host.specs.Commands.{command_of, phase_after_command}
use Rattle.dfuse_host.specs.Deeds.{read_bytes}
use Rattle.dfuse_host.specs.Settling.{phase_with_step, settled_phase}
use Rattle.dfuse_host.specs.Sessions.{session_after_action, session_after_step_heard}
use Rattle.dfuse_host.specs.Table.{state_found, phase_after_poll, place_with_reading_begun, place_with_reading_ended, read_on, close_polled}
use Rattle.dfuse_host.specs.Wire.{DfuseReadsStatus, DfuseReadsState, DfuseSeenMeaning, heard_of_compare}
use Rattle.dfuse_host.proofs.ForCallers.{AnyHeard, heards_have_fact, heard_comparison, heard_nothing}
use Rattle.dfuse_link.specs.CleanRuns.{BytesAnswered, StatusAnswered, BusyReported, StateAnswered}
use Rattle.dfu_wire.specs.OneValue.{state_byte_is_injective}
use Rattle.dfuse_link.proofs.CleanRunCounts.{wait_count_of, session_in_phase, CleanRunLasts, lasts_by_equal_counts, LeadsToLastingPhase, step_lasts_one_more, request_lasts_one_more, acked_request_lasts_one_more}

-- A comparison of a list of bytes with itself finds no difference.
equal_bytes_compare_equal : (xs : List ℕ) → heard_of_compare xs xs ≡ heard_comparison true
equal_bytes_compare_equal xs =
    ap (λ (t : Bool). cond t (heard_comparison (bytes_eq xs xs)) heard_nothing) (eq-eqb (length xs) (length xs) refl)
    ∙ ap heard_comparison ((bytes_eq-Decides xs xs).1 refl)

module _ (plan : Plan) (w : Work) (p : Place) where
  bytes_answered_are_no_wait : (bytes : List ℕ) (x : Seen) → BytesAnswered bytes x → wait_count_of x ≡ 0
  bytes_answered_are_no_wait bytes (seen.Bytes b) is = refl
  bytes_answered_are_no_wait bytes x is = absurd is

  status_answered_is_no_wait : (status : StatusFields) (x : Seen) → StatusAnswered status x → wait_count_of x ≡ 0
  status_answered_is_no_wait status (seen.Bytes b) is = refl
  status_answered_is_no_wait status x is = absurd is

  idle_state_goes_on : (n u : ℕ) → CleanRunLasts plan (settled_phase plan w place.Lost) n u → (x : Seen) (h : AnyHeard) →
      BytesAnswered (state_byte state.DfuIdle ∷ []) x → DfuseSeenMeaning plan w step.AskState x h →
      LeadsToLastingPhase plan w p step.AskState h n u
  idle_state_goes_on n u l (seen.Bytes bytes) h is hears =
      heards_have_fact (λ y. DfuseReadsState bytes.now y → LeadsToLastingPhase plan w p step.AskState y n u) (λ r. absurd r) (λ t r.
      absurd r)
      (λ t r.
      let idle : t ≡ state.DfuIdle = state_byte_is_injective t state.DfuIdle (ap (λ (xs : List ℕ). slice_index_or xs 0 0) (sym r
      ∙ is)) in
      record {
        next = settled_phase plan w place.Lost;
        next_phase_lasts = l;
        comes = λ actions restarts.
            ap (λ (q : State). session_after_action (session_in_phase plan (phase_with_step w p step.AskState) actions restarts)
            (state_found plan w q)
            restarts) idle;
      })
      (λ b r. absurd r) (λ r. absurd r) (λ r. absurd (r state.DfuIdle is)) (λ r. absurd r) (λ r. absurd r) h hears
  idle_state_goes_on n u l x h is hears = absurd is

  busy_status_goes_to_wait : (n u : ℕ) → ((ms : ℕ) → 0 < ms → CleanRunLasts plan (phase_with_step w p (step.PollWait ms)) n u) →
      (x : Seen) (h : AnyHeard)
      → BusyReported x →
      DfuseSeenMeaning plan w (step.Poll zero) x h → LeadsToLastingPhase plan w p (step.Poll zero) h n u
  busy_status_goes_to_wait n u l (seen.Bytes bytes) h is hears =
      heards_have_fact (λ y. DfuseReadsStatus bytes.now y → LeadsToLastingPhase plan w p (step.Poll zero) y n u) (λ r. absurd r)
      (λ t r.
      let same : is.status ≡ t = bytes_encode_one_status is.status t bytes.now is.told r in
      let busy : t.state ≡ state.DownloadBusy = ap (λ (z : StatusFields). z.state) (sym same) ∙ is.is_busy in
      record {
        next = phase_with_step w p (step.PollWait t.poll_ms);
        next_phase_lasts = l t.poll_ms (subst (λ (z : StatusFields). 0 < z.poll_ms) same is.time);
        comes = λ actions restarts.
            ap (λ (q : State). session_after_action (session_in_phase plan (phase_with_step w p (step.Poll zero)) actions restarts)
            (phase_after_poll plan w p t.code t.poll_ms q) restarts) busy;
      })
      (λ t r. absurd r) (λ b r. absurd r) (λ r. absurd r) (λ r. absurd (r is.status is.told)) (λ r. absurd r) (λ r. absurd r) h hears
  busy_status_goes_to_wait n u l x h is hears = absurd is.told

  idle_status_ends_command : (last n u : ℕ) → CleanRunLasts plan (phase_after_command plan w (command_of plan w p)) n u →
      (x : Seen) (h : AnyHeard) →
      StateAnswered state.DownloadIdle x → DfuseSeenMeaning plan w (step.Poll (suc last)) x h →
      LeadsToLastingPhase plan w p (step.Poll (suc last)) h n u
  idle_status_ends_command last n u l (seen.Bytes bytes) h is hears =
      heards_have_fact (λ y. DfuseReadsStatus bytes.now y → LeadsToLastingPhase plan w p (step.Poll (suc last)) y n u) (λ r. absurd r)
      (λ t r.
      let same : is.status ≡ t = bytes_encode_one_status is.status t bytes.now is.told r in
      let idle : t.state ≡ state.DownloadIdle = ap (λ (z : StatusFields). z.state) (sym same) ∙ is.is_there in
      record {
        next = phase_after_command plan w (command_of plan w p);
        next_phase_lasts = l;
        comes = λ actions restarts.
            ap (λ (q : State). session_after_action (session_in_phase plan (phase_with_step w p (step.Poll (suc last))) actions restarts)
            (phase_after_poll plan w p t.code t.poll_ms q) restarts) idle;
      })
      (λ t r. absurd r) (λ b r. absurd r) (λ r. absurd r) (λ r. absurd (r is.status is.told)) (λ r. absurd r) (λ r. absurd r) h hears
  idle_status_ends_command last n u l x h is hears = absurd is.told

  manifest_status_ends_session : (n u : ℕ) → CleanRunLasts plan (Over (Verified leaving.Left)) n u → (x : Seen) (h : AnyHeard) →
      StateAnswered state.Manifest x →
      DfuseSeenMeaning plan w step.ClosePoll x h → LeadsToLastingPhase plan w p step.ClosePoll h n u
  manifest_status_ends_session n u l (seen.Bytes bytes) h is hears =
      heards_have_fact (λ y. DfuseReadsStatus bytes.now y → LeadsToLastingPhase plan w p step.ClosePoll y n u) (λ r. absurd r)
      (λ t r.
      let same : is.status ≡ t = bytes_encode_one_status is.status t bytes.now is.told r in
      let there : t.state ≡ state.Manifest = ap (λ (z : StatusFields). z.state) (sym same) ∙ is.is_there in
      let ok : t.code ≡ code.Ok = ap (λ (z : StatusFields). z.code) (sym same) ∙ is.no_fault in
      let left : close_polled w p t.code t.state ≡ Over (Verified leaving.Left) =
      ap (λ (q : State). close_polled w p t.code q) there ∙ ap (λ (c : Code). close_polled w p c state.Manifest) ok in
      record {
        next = Over (Verified leaving.Left);
        next_phase_lasts = l;
        comes = λ actions restarts.
            ap (λ (q : Phase). session_after_action (session_in_phase plan (phase_with_step w p step.ClosePoll) actions restarts) q
            restarts) left;
      })
      (λ t r. absurd r) (λ b r. absurd r) (λ r. absurd r) (λ r. absurd (r is.status is.told)) (λ r. absurd r) (λ r. absurd r) h hears
  manifest_status_ends_session n u l x h is hears = absurd is.told

  block_read_goes_on : (n u : ℕ) → CleanRunLasts plan (settled_phase plan (read_on plan w) p) n u → (x : Seen) (h : AnyHeard)
      → BytesAnswered (read_bytes plan w) x →
      DfuseSeenMeaning plan w step.Read x h → LeadsToLastingPhase plan w p step.Read h n u
  block_read_goes_on n u l (seen.Bytes bytes) h is hears =
      let same : h ≡ heard_comparison true =
      hears ∙ ap (λ (xs : List ℕ). heard_of_compare (read_bytes plan w) xs) is ∙ equal_bytes_compare_equal (read_bytes plan w) in
      record {
        next = settled_phase plan (read_on plan w) p;
        next_phase_lasts = l;
        comes = λ actions restarts.
            ap (λ y. session_after_step_heard (session_in_phase plan (phase_with_step w p step.Read) actions restarts) w p step.Read y)
            same;
      }
  block_read_goes_on n u l x h is hears = absurd is

  pub abort_lasts_one_more : (n u : ℕ) → CleanRunLasts plan (phase_with_step w place.Lost step.AskState) n u
      → CleanRunLasts plan (phase_with_step w p step.Abort) (suc n) u
  abort_lasts_one_more n u l = acked_request_lasts_one_more plan w p step.Abort (phase_with_step w place.Lost step.AskState) n u (λ x c. c)
      (λ h e actions restarts.
      ap (λ y. session_after_step_heard (session_in_phase plan (phase_with_step w p step.Abort) actions restarts) w p step.Abort y) e) l

  pub ask_state_lasts_one_more : (n u : ℕ) → CleanRunLasts plan (settled_phase plan w place.Lost) n u
      → CleanRunLasts plan (phase_with_step w p step.AskState) (suc n) u
  ask_state_lasts_one_more n u l =
      request_lasts_one_more plan w p step.AskState n u (λ x c. bytes_answered_are_no_wait (state_byte state.DfuIdle ∷ []) x c) (λ x h c e.
      idle_state_goes_on n u l x h c e)

  pub begin_reading_lasts_one_more : (n u : ℕ) → CleanRunLasts plan (settled_phase plan w (place_with_reading_begun p)) n u
      → CleanRunLasts plan (phase_with_step w p step.BeginReading) (suc n) u
  begin_reading_lasts_one_more n u l = acked_request_lasts_one_more plan w p step.BeginReading (settled_phase plan w
      (place_with_reading_begun p)) n u (λ x c. c)
      (λ h e actions restarts.
      ap (λ y. session_after_step_heard (session_in_phase plan (phase_with_step w p step.BeginReading) actions restarts) w p
      step.BeginReading y) e) l

  pub end_reading_lasts_one_more : (n u : ℕ) → CleanRunLasts plan (settled_phase plan w (place_with_reading_ended p)) n u
      → CleanRunLasts plan (phase_with_step w p step.EndReading) (suc n) u
  end_reading_lasts_one_more n u l = acked_request_lasts_one_more plan w p step.EndReading (settled_phase plan w (place_with_reading_ended
      p)) n u (λ x c. c)
      (λ h e actions restarts.
      ap (λ y. session_after_step_heard (session_in_phase plan (phase_with_step w p step.EndReading) actions restarts) w p step.EndReading
      y) e) l

  pub read_lasts_one_more : (n u : ℕ) → CleanRunLasts plan (settled_phase plan (read_on plan w) p) n u →
      CleanRunLasts plan (phase_with_step w p step.Read) (suc n) u
  read_lasts_one_more n u l = request_lasts_one_more plan w p step.Read n u (λ x c. bytes_answered_are_no_wait (read_bytes plan w) x c) (λ
      x h c e. block_read_goes_on n u l x h c e)

  -- The leave request, a DNLOAD without bytes, takes two results: its acknowledgement, and the status after it.
  pub close_lasts_two_more : (n u : ℕ) → CleanRunLasts plan (Over (Verified leaving.Left)) n u →
      CleanRunLasts plan (phase_with_step w p step.Close) (suc (suc n)) u
  close_lasts_two_more n u l = acked_request_lasts_one_more plan w p step.Close (phase_with_step w p step.ClosePoll) (suc n) u (λ x c. c)
      (λ h e actions restarts.
      ap (λ y. session_after_step_heard (session_in_phase plan (phase_with_step w p step.Close) actions restarts) w p step.Close y) e)
      (request_lasts_one_more plan w p step.ClosePoll n u (λ x c. status_answered_is_no_wait c.status x c.told) (λ x h c e.
      manifest_status_ends_session n u l x h c e))

  -- A poll after a wait finds the command done, and adds one result.
  poll_lasts_one_more : (ms n u : ℕ) → 0 < ms → CleanRunLasts plan (phase_after_command plan w (command_of plan w p)) n u
      → CleanRunLasts plan (phase_with_step w p (step.Poll ms)) (suc n) u
  poll_lasts_one_more zero n u some l = absurd (omega (arith, some))
  poll_lasts_one_more (suc last) n u some l =
      request_lasts_one_more plan w p (step.Poll (suc last)) n u (λ x c. status_answered_is_no_wait c.status x c.told) (λ x h c e.
      idle_status_ends_command last n u l x h c e)

  poll_wait_lasts_one_more : (ms n u : ℕ) → CleanRunLasts plan (phase_with_step w p (step.Poll ms)) n u
      → CleanRunLasts plan (phase_with_step w p (step.PollWait ms)) (suc n) (1 + u)
  poll_wait_lasts_one_more ms n u l = step_lasts_one_more plan w p (step.PollWait ms) n u 1 (λ x c. ap wait_count_of c)
      (λ x h c hears. record {
        next = phase_with_step w p (step.Poll ms);
        next_phase_lasts = l;
        comes = λ actions restarts.
            ap (λ y. session_after_step_heard (session_in_phase plan (phase_with_step w p (step.PollWait ms)) actions restarts) w p
            (step.PollWait ms) y)
            (subst (λ (y : Seen). DfuseSeenMeaning plan w (step.PollWait ms) y h) c hears);
      })

  -- A command takes four results: the acknowledgement of its DNLOAD, two statuses, and the end of a wait.
  pub command_lasts_four_more : (n u : ℕ) → CleanRunLasts plan (phase_after_command plan w (command_of plan w p)) n u
      → CleanRunLasts plan (phase_with_step w p step.Send) (4 + n) (1 + u)
  command_lasts_four_more n u l =
      let busy : CleanRunLasts plan (phase_with_step w p (step.Poll zero)) (suc (suc (suc n))) (1 + u) =
      request_lasts_one_more plan w p (step.Poll zero) (suc (suc n)) (1 + u) (λ x c. status_answered_is_no_wait c.status x c.told)
      (λ x h c e. busy_status_goes_to_wait (suc (suc n)) (1 + u) (λ ms some. poll_wait_lasts_one_more ms (suc n) u (poll_lasts_one_more ms
      n u some l)) x h c e) in
      let all : CleanRunLasts plan (phase_with_step w p step.Send) (suc (suc (suc (suc n)))) (1 + u) =
      acked_request_lasts_one_more plan w p step.Send (phase_with_step w p (step.Poll zero)) (suc (suc (suc n))) (1 + u) (λ x c. c)
      (λ h e actions restarts. ap (λ y. session_after_step_heard
      (session_in_phase plan (phase_with_step w p step.Send) actions restarts) w p step.Send y) e) busy in
      lasts_by_equal_counts plan (phase_with_step w p step.Send) (suc (suc (suc (suc n)))) (4 + n) (1 + u) (1 + u) (omega arith) refl all
