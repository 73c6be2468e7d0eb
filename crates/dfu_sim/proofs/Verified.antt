-- Up to its last reset, a verified download is the same as one that is not verified.
use Rattle.std.proofs.Common.{◌≡◌, ℕ, zero, suc, Bool, true, false, List, Some, None, refl, sym, ap, ◌∙◌, subst}
use Rattle.dfu_device.specs.Stage.{Profile, Reply, Ack}
use Rattle.dfu_device.specs.Table.{plan}
use Rattle.dfu_device.specs.Outcome.{Situation, Luck, Works, plan_outcome}
use Rattle.dfu_device.specs.Rows.{request_for_table}
use Rattle.dfu_host.specs.declared.report.Report.{Report}
use Rattle.dfu_host.specs.Phases.{Goal, LoadGoal, VerifyGoal, Task, Phase, Find, Last, GiveUp, Over, OverUploaded, Deed, Send, Heard, Part, WasReset, Restarted, Left}
use Rattle.dfu_host.specs.Table.{deed, goal_after, host_row}
use Rattle.dfu_host.specs.Host.{HostState, host_after_restart, host_after_result, host_after_phase, after}
use Rattle.dfu_host.specs.TaskLaws.{host_gives_task_after}
use Rattle.dfu_sim.specs.Happening.{Pass}
use Rattle.dfu_sim.specs.Delivery.{delivery_of}
use Rattle.dfu_sim.specs.LinkView.{Session, NoLiveSession, HostSession}
use Rattle.dfu_sim.specs.Opening.{task_for}
use Rattle.dfu_sim.specs.Play.{Link, silent, HostOutcome, settled_session, host_outcome, heard_of_reply, heard_with_room, has_room, PlayResult, action_result, next_action_result}
use Rattle.dfu_sim.specs.CleanRun.{PassesTo, QuietPasses, here, there}

-- The phase is not that of the last reset.
abbrev IsBeforeLastReset : Phase → Type 0
IsBeforeLastReset (Last r) = ⊥
IsBeforeLastReset phase = Unit {0}

-- The meaning of a reply is never Left.
reply_is_not_leaving : (r : Reply) → heard_of_reply r ≡ Left → ⊥
reply_is_not_leaving Ack e = absurd cc
reply_is_not_leaving r e = absurd cc

-- Missing memory does not turn a result into Left.
no_memory_is_no_leaving : (heard : Heard) (room : Bool) → (heard ≡ Left → ⊥) → heard_with_room heard room ≡ Left → ⊥
no_memory_is_no_leaving (Part bytes) false never e = absurd cc
no_memory_is_no_leaving heard room never e = never e

module _ (c : Profile) (p : List ℕ) where
  -- In an action with the fate Pass the host never receives Left.
  pass_is_not_leaving : (s : Situation) (d : Deed) (l k : Luck) → (action_result c s d (delivery_of Pass) l k).heard ≡ Left → ⊥
  pass_is_not_leaving s (Send q body) l k e = reply_is_not_leaving (plan_outcome s.image (plan c s.image s.stage (request_for_table q
      body)) l).reply e
  pass_is_not_leaving s d l k e = absurd cc

  -- Task of the download.
  abbrev plain : Task
  plain = task_for c (LoadGoal p)

  -- Task of the verified download.
  abbrev checked : Task
  checked = task_for c (VerifyGoal p)

  -- Before the last reset the host's table has the same rows for both downloads.
  verify_row_is_load_row : (phase : Phase) (heard : Heard) → IsBeforeLastReset phase → host_row checked phase heard
      ≡ host_row plain phase heard
  verify_row_is_load_row (Last r) heard b = elim b [ ]
  verify_row_is_load_row phase heard b = refl

  -- Before the last reset the goal of a verified download does not change.
  verify_goal_before_last_reset : (phase : Phase) (heard : Heard) → IsBeforeLastReset phase → goal_after (VerifyGoal p) phase heard
      ≡ VerifyGoal p
  verify_goal_before_last_reset (Last r) heard b = elim b [ ]
  verify_goal_before_last_reset phase heard b = refl

  -- The goal of a download does not change.
  load_goal_stays : (phase : Phase) (heard : Heard) → goal_after (LoadGoal p) phase heard ≡ LoadGoal p
  load_goal_stays (Last r) WasReset = refl
  load_goal_stays (Last r) heard = refl
  load_goal_stays phase heard = refl

  -- The host of a download, changed into one that verifies.
  abbrev pub host_verifying : HostState → HostState
  host_verifying h = record h { task = checked }

  -- Host with this task, in this phase, that may still perform `left` actions and survive `again` restarts.
  abbrev host : Task → Phase → (left again : ℕ) → HostState
  host task phase left again = record { task = task; phase = phase; actions = left; restarts = again }

  -- A restart changes the hosts of both downloads in the same way.
  verified_host_restarts_alike : (phase : Phase) (left again restarts : ℕ)
      → host_after_restart (host checked phase left again) phase restarts ≡ host_verifying
      (host_after_restart (host plain phase left again) phase restarts)
  verified_host_restarts_alike GiveUp left again restarts = refl
  verified_host_restarts_alike phase left again zero = refl
  verified_host_restarts_alike phase left again (suc restarts) = refl

  -- Before the last reset, each result but Left changes live hosts of both downloads in the same way.
  verified_host_told_alike : (phase : Phase) (heard : Heard) (left again : ℕ) → IsBeforeLastReset phase → (heard ≡ Left → ⊥)
      → host_after_result (host checked phase left again) phase heard
      ≡ host_verifying (host_after_result (host plain phase left again) phase heard)
  verified_host_told_alike phase Restarted left again b never = verified_host_restarts_alike phase left again again
  verified_host_told_alike phase Left left again b never = absurd (never refl)
  verified_host_told_alike phase heard left again b never = rw (
    verify_row_is_load_row phase heard b,
    verify_goal_before_last_reset phase
        heard b,
  ) refl

  -- Before the last reset, each result but Left changes the hosts of both downloads in the same way.
  verified_host_hears_alike : (phase : Phase) (heard : Heard) (left again : ℕ) → IsBeforeLastReset phase → (heard ≡ Left → ⊥)
      → host_after_phase (host checked phase left again) phase heard
      ≡ host_verifying (host_after_phase (host plain phase left again) phase heard)
  verified_host_hears_alike (Over r) heard left again b never = refl
  verified_host_hears_alike (OverUploaded kept) heard left again b never = refl
  verified_host_hears_alike (Last r) heard left again b never = elim b [ ]
  verified_host_hears_alike phase heard left again b never = verified_host_told_alike phase heard left again tt never

  -- The session of a download, changed into one that verifies.
  abbrev pub session_verifying : Session → Session
  session_verifying NoLiveSession = NoLiveSession
  session_verifying (HostSession h) = HostSession (host_verifying h)

  -- The outcome of a download, changed into that of a verified one.
  abbrev outcome_verifying : HostOutcome → HostOutcome
  outcome_verifying t = record { session = session_verifying t.session; answer = t.answer }

  -- In each phase the sessions of both downloads stay live, or both end with the same report.
  verified_host_settles_alike : (h : HostState) (phase : Phase) → settled_session (host_verifying h) phase
      ≡ outcome_verifying (settled_session h phase)
  verified_host_settles_alike h (Over r) = refl
  verified_host_settles_alike h phase = refl

  -- Before the last reset, both downloads have the same outcome for each result but Left.
  verified_outcome_is_alike : (phase : Phase) (heard : Heard) (left again : ℕ) → IsBeforeLastReset phase → (heard ≡ Left → ⊥)
      → host_outcome (host checked phase left again) heard ≡ outcome_verifying (host_outcome (host plain phase left again) heard)
  verified_outcome_is_alike phase heard left again b never = let h = host_after_phase (host plain phase left again) phase heard in
      ap (λ (z : HostState). settled_session z z.phase) (verified_host_hears_alike phase heard left again b never)
      ∙ verified_host_settles_alike h h.phase

  -- The link of a download, changed into one that verifies.
  abbrev pub link_verifying : Link → Link
  link_verifying w = record { device = w.device; session = session_verifying w.session }

  -- The result of a download's event, changed into that of a verified one.
  abbrev play_result_verifying : PlayResult → PlayResult
  play_result_verifying x = record { link = link_verifying x.link; answer = x.answer }

  -- Both downloads have the same deed in each phase.
  verify_deed_is_alike : (phase : Phase) → deed checked phase ≡ deed plain phase
  verify_deed_is_alike Find = refl
  verify_deed_is_alike phase = refl

  -- Before the last reset, both downloads have the same result of an action with the fate Pass.
  verified_action_is_alike : (s : Situation) (phase : Phase) (left again : ℕ) (other : Luck) (room : Bool) → IsBeforeLastReset phase
      → let w : Session → Link = λ x. record { device = s; session = x } in
      let v : Session = HostSession (host checked phase left again) in
      let o : Session = HostSession (host plain phase left again) in
      next_action_result c (w v) v Pass Works other room ≡ play_result_verifying (next_action_result c (w o) o Pass Works other room)
  verified_action_is_alike s phase left again other room b =
      let d = action_result c s (deed plain phase) (delivery_of Pass) Works other in
      rw (verify_deed_is_alike phase)
      (ap (λ (t : HostOutcome). record { link = record { device = d.device; session = t.session }; answer = t.answer })
      (verified_outcome_is_alike phase (heard_with_room d.heard (has_room phase room)) left again b
      (no_memory_is_no_leaving d.heard (has_room phase room) (pass_is_not_leaving s (deed plain phase) Works other))))

  -- No session is live, or the live one is that of the download.
  abbrev pub IsDownload : Session → Type 0
  IsDownload NoLiveSession = Unit {0}
  IsDownload (HostSession h) = h.task ≡ plain

  -- If a download's session stays live, it still has the task of the download.
  settled_session_is_download : (h : HostState) (phase : Phase) → h.task ≡ plain → IsDownload (settled_session h phase).session
  settled_session_is_download h (Over r) e = tt
  settled_session_is_download h (OverUploaded kept) e = tt
  settled_session_is_download h phase e = e

  -- If a download's session stays live after any result but Left, it still has the task of the download.
  outcome_session_is_download : (phase : Phase) (heard : Heard) (left again : ℕ) → (heard ≡ Left → ⊥)
      → IsDownload (host_outcome (host plain phase left again) heard).session
  outcome_session_is_download phase heard left again never =
      let h = host plain phase left again in
      settled_session_is_download (after h heard) (after h heard).phase
      (host_gives_task_after h heard never ∙ ap (λ (g : Goal). task_for c g) (load_goal_stays phase heard))

  -- The pass of a download's last reset makes a report.
  last_pass_is_not_silent : (s : Situation) (r : Report) (left again : ℕ) (w' : Link)
      → PassesTo c (record { device = s; session = HostSession (host plain (Last r) left again) }) w' silent → ⊥
  last_pass_is_not_silent s r left again w' f =
      let e : Some r ≡ None = ap (λ (x : PlayResult). x.answer.report) (f Works true) in absurd cc

  -- The silent pass from w to w' is a silent pass of the verified download too. After the pass the session of the download is live, or no
  -- session is live.
  record PassesAlike (w w' : Link) : Type 0 where
    passes : PassesTo c (link_verifying w) (link_verifying w') silent
    stays : IsDownload w'.session

  -- A silent pass of a download is a silent pass of the verified download too.
  verified_pass_is_alike : (s : Situation) (phase : Phase) (left again : ℕ) (w' : Link)
      → PassesTo c (record { device = s; session = HostSession (host plain phase left again) }) w' silent
      → PassesAlike (record { device = s; session = HostSession (host plain phase left again) }) w'
  verified_pass_is_alike s (Last r) left again w' f = absurd (last_pass_is_not_silent s r left again w' f)
  verified_pass_is_alike s phase left again w' f =
      let d = action_result c s (deed plain phase) (delivery_of Pass) Works Works in
      record {
        passes = λ other room. verified_action_is_alike s phase left again other room tt ∙ ap play_result_verifying (f other room);
        stays = subst IsDownload (ap (λ (x : PlayResult). x.link.session) (f Works true))
            (outcome_session_is_download phase (heard_with_room d.heard (has_room phase true)) left again
            (no_memory_is_no_leaving d.heard (has_room phase true) (pass_is_not_leaving s (deed plain phase) Works Works)));
      }

  -- If the live session of a link is a download, or none is live, a silent pass is a silent pass of the verified download too.
  verified_link_passes_alike : (s : Situation) (session : Session) (w' : Link) → IsDownload session
      → PassesTo c (record { device = s; session = session }) w' silent → PassesAlike (record { device = s; session = session }) w'
  verified_link_passes_alike s NoLiveSession w' e f = record {
    passes = λ other room. ap play_result_verifying (f other room);
    stays = subst (λ (z : Link). IsDownload z.session) (ap (λ (q : PlayResult). q.link) (f Works true)) tt;
  }
  verified_link_passes_alike s (HostSession h) w' e f =
      let is : h ≡ host plain h.phase h.actions h.restarts = ap (λ (t : Task). host t h.phase h.actions h.restarts) e in
      subst (λ (z : HostState). PassesAlike (record { device = s; session = HostSession z }) w') (sym is)
      (verified_pass_is_alike s h.phase h.actions h.restarts w'
      (subst (λ (z : HostState). PassesTo c (record { device = s; session = HostSession z }) w' silent) is f))

  -- Quiet passes of a download are quiet passes of the verified download.
  pub verify_passes_quietly : {w w' : Link} {n : ℕ} → IsDownload w.session → QuietPasses c w n w'
      → QuietPasses c (link_verifying w) n (link_verifying w')
  verify_passes_quietly e here = here
  verify_passes_quietly {w = w} e (there {mid = mid} f q) =
      let x = verified_link_passes_alike w.device w.session mid e f in there x.passes (verify_passes_quietly x.stays q)
