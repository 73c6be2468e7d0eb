-- Laws of sessions between a host in C and a board in C.
use Rattle.std.specs.Prelude.{◌≡◌, ℕ, pos, List, [], ◌++◌, Option}
use Rattle.std.proofs.Common.{refl, sym, subst}
use Rattle.std.proofs.lemmas.List.{append-nil}
use Rattle.dfu_wire.specs.declared.states.State.{State}
use Rattle.dfu_slots.specs.Medium.{MediumState}
use Rattle.dfu_slots.specs.Image.{Active}
use Rattle.dfu_device.specs.Setting.{Setting}
use Rattle.dfu_host.specs.Phases.{FetchGoal}
use Rattle.dfu_host.specs.Host.{host_for_goal, aborted_host}
use Rattle.dfu_sim.specs.declared.offering.Purpose.{Purpose}
use Rattle.dfu_sim.specs.declared.offering.Purpose.TheVariants.{Install, Verify}
use Rattle.dfu_sim.specs.LinkView.{Session, NoLiveSession, HostSession}
use Rattle.dfu_sim.specs.Opening.{goal_of_purpose}
use Rattle.dfu_sim.specs.Play.{Answered}
use Rattle.dfu_sim.specs.LinkInvariant.{SessionIsCounted}
use Rattle.dfu_core.specs.Board.{CoreBoard}
use Rattle.dfu_host_core.specs.BeginCalls.{IsInitialRecord}
use Rattle.dfu_host_core.specs.Runs.{BegunSessionIsInitialHost, CoreSessionsRefineHosts, NextIsHostAction, HasPayload}
use Rattle.dfu_laws.specs.board.Board.{Board, state_on, BoardStep}
use Rattle.dfu_laws.specs.link.Plays.{BoardPlays, starts, offers, uploads, aborts, goes_on, ends, copies}
use Rattle.dfu_laws.specs.in_c.Steps.{CoreStep, board_of_core, IsBoardOfCore}
use Rattle.dfu_laws.specs.in_c.Marks.{no_core_mark_or_end, IsCoreRunWithMarks}
use Rattle.dfu_laws.specs.in_c.Plays.{CorePlays, CoreLinkStep, CoreReportMeansInPlace, CoreUploadIsActiveImage, CoreActiveImageIsKnown, CoreActiveImageKnownWithin}
use Rattle.dfu_laws.specs.ends.Sessions.{CoreSession, NoSession, InSession, IsSessionOf, CoreTrialMayEnd}
use Rattle.dfu_laws.specs.ends.EndsSteps.{EndsStep, mark_is_set}
use Rattle.dfu_laws.specs.ends.Plays.{EndsPlay, no_session_yet, download_begins, upload_begins, session_is_given_up, and_then, trial_is_over, operations_come, CoreEndsLink, CoreEndsPlay, CoreEndsStep, SessionsOfEndsHaveHosts, EndsReportMeansInPlace, EndsUploadIsActiveImage, EndsActiveImageIsKnown, EndsActiveImageKnownWithin, EndsContinue}
use Rattle.dfu_laws.proofs.in_c.StepsInC.{power_outcome_starts_board}
use Rattle.dfu_laws.proofs.in_c.Runs.{core_flash_is_board_flash, core_state_is_board_state}
use Rattle.dfu_laws.proofs.in_c.Played.{core_board_is_one_board}
use Rattle.dfu_laws.proofs.in_c.TrialMarks.{core_mark_marks_board, core_trial_end_ends_board, core_run_with_marks_append, core_run_then_mark, core_run_then_trial_end}
use Rattle.dfu_laws.proofs.in_c.CopyOperations.{core_home_copy_copies_board, core_run_then_home_copy}
use Rattle.dfu_laws.proofs.in_c.ContinuedSessions.{board_steps_of_append}
use Rattle.dfu_laws.proofs.ends.Actions.{core_session_has_live_host, trial_may_end_with_host}
use Rattle.dfu_laws.proofs.ends.ResultNumbers.{abort_matches_aborted_host}
use Rattle.dfu_laws.proofs.ends.ReportsInC.{aborted_host_is_counted}
use Rattle.dfu_laws.proofs.ends.EventsInC.{came}

-- The sessions in C are sessions of a host, and the live session in C is the live session of that host.
record PlaysWithHost (b : Board) (steps : List BoardStep) (past back : List (List ℕ)) (last : Option (List ℕ)) (s : CoreSession) (now :
    Board)
    : Type 0 where
  session : Session
  is : IsSessionOf s session
  counted : SessionIsCounted session
  plays : BoardPlays b steps past back last (record { board = now; session = session })

no_core_session_is_none : (session : Session) → IsSessionOf NoSession session → session ≡ NoLiveSession
no_core_session_is_none NoLiveSession is = refl
no_core_session_is_none (HostSession h) is = absurd is

goal_has_payload : (purpose : Purpose) (payload : List ℕ) → HasPayload (goal_of_purpose purpose payload) payload
goal_has_payload Install payload = refl
goal_has_payload Verify payload = refl

module _ (begin : BegunSessionIsInitialHost) (refine : CoreSessionsRefineHosts) (tells : NextIsHostAction) where
  ends_plays_are_host_plays : (b : Board) (steps : List BoardStep) (past back : List (List ℕ)) (last : Option (List ℕ)) (s : CoreSession)
      (now : Board)
      → EndsPlay b steps past back last s now → PlaysWithHost b steps past back last s now
  ends_plays_are_host_plays b _ _ _ _ _ _ no_session_yet = record { session = NoLiveSession; is = tt; counted = tt; plays = starts }
  ends_plays_are_host_plays b steps _ _ _ _ now (download_begins {past = past} {back = back} {last = last} purpose payload buffer limits r
      p some begun) =
      let o = ends_plays_are_host_plays b steps past back last NoSession now p in
      let start = host_for_goal now.asking.config.functional (goal_of_purpose purpose payload) limits in
      record {
        session = HostSession start;
        is = begin payload buffer r start begun (goal_has_payload purpose payload);
        counted = tt;
        plays = offers purpose payload limits o.plays (no_core_session_is_none o.session o.is) some;
      }
  ends_plays_are_host_plays b steps past back _ _ now (upload_begins {last = last} unused buffer limits r p begun) =
      let o = ends_plays_are_host_plays b steps past back last NoSession now p in
      let start = host_for_goal now.asking.config.functional FetchGoal limits in
      record {
        session = HostSession start;
        is = begin unused buffer r start begun tt;
        counted = tt;
        plays = uploads limits o.plays (no_core_session_is_none o.session o.is);
      }
  ends_plays_are_host_plays b steps past back last _ now (session_is_given_up {payload = payload} {x = x} {x' = x'} p called) =
      let o = ends_plays_are_host_plays b steps past back last (InSession payload x) now p in
      let h = core_session_has_live_host payload x (InSession payload x) o.session refl o.is in
      record {
        session = HostSession (aborted_host h.host);
        is = abort_matches_aborted_host refine payload x x' h.host h.is called;
        counted = aborted_host_is_counted h.host h.host.phase refl (subst SessionIsCounted h.live o.counted);
        plays = aborts o.plays h.live;
      }
  ends_plays_are_host_plays b _ past back last _ _ (and_then {steps = steps} {more = more} {s = s} {s' = s'} {now = now} {b' = b'}
      {answer = answer} p comes) =
      let o = ends_plays_are_host_plays b steps past back last s now p in
      let w = came refine tells now s o.session o.is o.counted more answer s' b' comes in
      record { session = w.later; is = w.is; counted = w.counted; plays = goes_on o.plays w.comes }
  ends_plays_are_host_plays b steps _ _ last s _ (trial_is_over {past = past} {back = back} {now = now} {b' = b'} {begins = begins} image p
      may end active) =
      let o = ends_plays_are_host_plays b steps past back last s now p in
      record {
        session = o.session;
        is = o.is;
        counted = o.counted;
        plays = ends image o.plays (trial_may_end_with_host s o.session (state_on now) begins o.is may) end active;
      }
  ends_plays_are_host_plays b steps past back last s _ (operations_come {now = now} {b' = b'} p copy) =
      let o = ends_plays_are_host_plays b steps past back last s now p in
      record { session = o.session; is = o.is; counted = o.counted; plays = copies o.plays copy }

  -- Sessions between both ends in C are sessions of a board in C with a host.
  ends_plays_are_core_plays : (b : CoreBoard) (steps : List CoreStep) (past back : List (List ℕ)) (last : Option (List ℕ)) (l :
      CoreEndsLink)
      (p : CoreEndsPlay b steps past back last l) (o : PlaysWithHost p.first p.calls past back last l.session p.now)
      → CorePlays b steps past back last (record { board = l.board; session = o.session })
  ends_plays_are_core_plays b steps past back last l p o = record {
    run = p.run;
    first = p.first;
    is_first = p.is_first;
    calls = p.calls;
    are = p.are;
    link = record { board = p.now; session = o.session };
    is_link = record { board = p.is_now; session = refl };
    plays = o.plays;
  }

  pub sessions_of_ends_have_hosts : SessionsOfEndsHaveHosts
  sessions_of_ends_have_hosts b steps past back last l p =
      let o = ends_plays_are_host_plays p.first p.calls past back last l.session p.now p.plays in
      record { session = o.session; is = o.is; plays = ends_plays_are_core_plays b steps past back last l p o }

  -- The next event of the sessions in C is the next event of sessions with a host.
  pub record NextEventWithHost (b : CoreBoard) (steps more : List CoreStep) (past back : List (List ℕ)) (last : Option (List ℕ)) (l l' :
      CoreEndsLink)
      (answer : Answered) : Type 0 where
    pub session : Session
    pub plays : CorePlays b steps past back last (record { board = l.board; session = session })
    pub later : Session
    pub comes : CoreLinkStep (record { board = l.board; session = session }) more answer (record { board = l'.board; session = later })

  pub next_event_has_host : (b : CoreBoard) (steps more : List CoreStep) (past back : List (List ℕ)) (last : Option (List ℕ)) (l l' :
      CoreEndsLink)
      (answer : Answered) → CoreEndsPlay b steps past back last l → CoreEndsStep l more answer l'
      → NextEventWithHost b steps more past back last l l' answer
  next_event_has_host b steps more past back last l l' answer p c =
      let o = ends_plays_are_host_plays p.first p.calls past back last l.session p.now p.plays in
      let w = came refine tells c.before l.session o.session o.is o.counted c.calls answer l'.session c.after c.comes in
      record {
        session = o.session;
        plays = ends_plays_are_core_plays b steps past back last l p o;
        later = w.later;
        comes = record {
          run = c.run;
          before = record { board = c.before; session = o.session };
          is_before = record { board = c.is_before; session = refl };
          calls = c.calls;
          are = c.are;
          after = record { board = c.after; session = w.later };
          is_after = record { board = c.is_after; session = refl };
          comes = w.comes;
        };
      }

  pub ends_report_means_in_place : CoreReportMeansInPlace → EndsReportMeansInPlace
  ends_report_means_in_place installs b steps more past back last l l' answer on p c says =
      let n = next_event_has_host b steps more past back last l l' answer p c in
      installs b steps more past back last (record { board = l.board; session = n.session })
      (record { board = l'.board; session = n.later }) answer on n.plays n.comes says

  pub ends_upload_is_active_image : CoreUploadIsActiveImage → EndsUploadIsActiveImage
  ends_upload_is_active_image gives b steps more past back last l l' answer bytes on p c e =
      let n = next_event_has_host b steps more past back last l l' answer p c in
      gives b steps more past back last (record { board = l.board; session = n.session })
      (record { board = l'.board; session = n.later }) answer bytes on n.plays n.comes e

  pub ends_active_image_is_known : CoreActiveImageIsKnown → EndsActiveImageIsKnown
  ends_active_image_is_known knows b steps past back last l image on active p =
      let o = sessions_of_ends_have_hosts b steps past back last l p in
      knows b steps past back last (record { board = l.board; session = o.session }) image on active o.plays

  pub ends_active_image_known_within : CoreActiveImageKnownWithin → EndsActiveImageKnownWithin
  ends_active_image_known_within knows b mid steps front rest past back last l l' answer image on active p c run =
      let n = next_event_has_host b steps (front ++ rest) past back last l l' answer p c in
      knows b mid steps front rest past back last (record { board = l.board; session = n.session })
      (record { board = l'.board; session = n.later }) answer image on active n.plays n.comes run

-- If the board and its steps are unchanged, the sessions in C continue with another live session.
ends_play_with_other_session : {b : CoreBoard} {steps : List CoreStep} {past past' back back' : List (List ℕ)} {last last' : Option (List
    ℕ)}
    {on : CoreBoard} {was mine : CoreSession} (p : CoreEndsPlay b steps past back last (record { board = on; session = was }))
    → EndsPlay p.first p.calls past' back' last' mine p.now → CoreEndsPlay b steps past' back' last' (record { board = on; session = mine })
ends_play_with_other_session p plays = record {
  run = p.run;
  first = p.first;
  is_first = p.is_first;
  calls = p.calls;
  are = p.are;
  now = p.now;
  is_now = p.is_now;
  plays = plays;
}

-- If a board in C changes between steps, the sessions in C continue with the changed board.
ends_play_on_changed_board : {b on b' : CoreBoard} {steps : List CoreStep} {past back back' : List (List ℕ)} {last : Option (List ℕ)}
    {s : CoreSession} (p : CoreEndsPlay b steps past back last (record { board = on; session = s })) (now : Board) → IsBoardOfCore b' now
    → IsCoreRunWithMarks b steps b' → EndsPlay p.first p.calls past back' last s now
    → CoreEndsPlay b steps past back' last (record { board = b'; session = s })
ends_play_on_changed_board p now is run plays = record {
  run = run;
  first = p.first;
  is_first = p.is_first;
  calls = p.calls;
  are = p.are;
  now = now;
  is_now = is;
  plays = plays;
}

-- Sessions between both ends in C may continue with each of the events of `EndsContinue`.
pub ends_sessions_go_on : EndsContinue
ends_sessions_go_on = record {
  starts = λ b on.
      let start = power_outcome_starts_board b (pos 0) on.begins on.powers in
      let is : IsBoardOfCore b (board_of_core b on.powers.after) = record { kept = start.0.kept; is = refl } in
      record {
        run = no_core_mark_or_end;
        first = board_of_core b on.powers.after;
        is_first = is;
        calls = [];
        are = tt;
        now = board_of_core b on.powers.after;
        is_now = is;
        plays = no_session_yet;
      };
  offers = λ b steps past back last on purpose payload buffer limits r p some begun. ends_play_with_other_session p
      (download_begins purpose payload buffer limits r p.plays some
      (subst (λ (s : Setting). IsInitialRecord r (host_for_goal s.functional (goal_of_purpose purpose payload) limits))
      (sym p.is_now.kept.set_up.config_is) begun));
  uploads = λ b steps past back last on unused buffer limits r p begun. ends_play_with_other_session p
      (upload_begins unused buffer limits r p.plays
      (subst (λ (s : Setting). IsInitialRecord r (host_for_goal s.functional FetchGoal limits)) (sym p.is_now.kept.set_up.config_is)
      begun));
  aborts = λ b steps past back last on payload x x' p called. ends_play_with_other_session p (session_is_given_up p.plays called);
  goes_on = λ b steps more past back last l l' answer p c. record {
    run = core_run_with_marks_append b l.board l'.board steps more p.run c.run;
    first = p.first;
    is_first = p.is_first;
    calls = p.calls ++ c.calls;
    are = board_steps_of_append steps more p.calls c.calls p.are c.are;
    now = c.after;
    is_now = c.is_after;
    plays = and_then p.plays (subst (λ (x : Board). EndsStep l.session x c.calls answer l'.session c.after)
        (core_board_is_one_board l.board c.before p.now c.is_before p.is_now) c.comes);
  };
  marks = λ b b' on steps past back last s p mark.
      let x = core_mark_marks_board on b' p.now p.is_now mark in
      ends_play_on_changed_board p x.board x.is (core_run_then_mark b on b' steps p.run mark)
      (subst (λ (ts : List BoardStep). EndsPlay p.first ts past back last s x.board) (append-nil p.calls)
      (and_then p.plays (mark_is_set x.mark)));
  ends = λ b b' on steps past back last s state begins image p is may end active.
      let x = core_trial_end_ends_board on b' begins p.now p.is_now end in
      ends_play_on_changed_board p x.board x.is (core_run_then_trial_end b on b' begins steps p.run end)
      (trial_is_over image p.plays
      (subst (λ (y : State). CoreTrialMayEnd s y begins) (sym (core_state_is_board_state on p.now state p.is_now is)) may)
      x.end (subst (λ (m : MediumState). Active m image) (sym (core_flash_is_board_flash b' x.board x.is)) active));
  copies = λ b b' on steps past back last s p copy.
      let x = core_home_copy_copies_board on b' p.now p.is_now copy in
      ends_play_on_changed_board p x.board x.is (core_run_then_home_copy b on b' steps p.run copy) (operations_come p.plays x.copy);
}
