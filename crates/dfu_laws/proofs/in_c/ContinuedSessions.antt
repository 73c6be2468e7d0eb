-- Sessions with a board in C continue as sessions with a board do.
use Rattle.std.specs.Prelude.{◌≡◌, ℕ, List, [], ◌∷◌, ◌++◌, Option, pos}
use Rattle.std.proofs.Common.{refl, sym, ap, ◌∙◌, subst}
use Rattle.std.proofs.lemmas.List.{append-nil}
use Rattle.dfu_wire.specs.declared.states.State.{State}
use Rattle.dfu_slots.specs.Medium.{MediumState}
use Rattle.dfu_slots.specs.Image.{Active}
use Rattle.dfu_device.specs.Setting.{Setting}
use Rattle.dfu_host.specs.Phases.{FetchGoal}
use Rattle.dfu_host.specs.Host.{host_for_goal}
use Rattle.dfu_sim.specs.Opening.{goal_of_purpose}
use Rattle.dfu_sim.specs.LinkView.{Session, NoLiveSession, HostSession}
use Rattle.dfu_laws.specs.board.Board.{state_on, BoardStep}
use Rattle.dfu_laws.specs.link.LinkSteps.{marks}
use Rattle.dfu_laws.specs.link.Trials.{TrialMayEnd}
use Rattle.dfu_laws.specs.link.Plays.{BoardPlays, starts as begins, offers as event_offers_were_offered, uploads as uploads_on, aborts as abort_moves_host, goes_on as comes_next, ends as trial_ends, copies as home_copy_comes}
use Rattle.dfu_core.specs.Board.{CoreBoard}
use Rattle.dfu_laws.specs.in_c.Steps.{CoreStep, board_of_core, IsBoardOfCore, AreBoardStepsOf}
use Rattle.dfu_laws.specs.in_c.Marks.{no_core_mark_or_end}
use Rattle.dfu_laws.specs.in_c.Plays.{CoreLink, CorePlays, CorePlaysContinue}
use Rattle.dfu_laws.proofs.in_c.StepsInC.{power_outcome_starts_board}
use Rattle.dfu_laws.proofs.in_c.Runs.{core_flash_is_board_flash, core_state_is_board_state}
use Rattle.dfu_laws.proofs.in_c.TrialMarks.{core_mark_marks_board, core_trial_end_ends_board, core_run_with_marks_append, core_run_then_mark, core_run_then_trial_end}
use Rattle.dfu_laws.proofs.in_c.Played.{event_comes_to_board}
use Rattle.dfu_laws.proofs.in_c.CopyOperations.{core_home_copy_copies_board, core_run_then_home_copy}

pub board_steps_of_append : (xs ys : List CoreStep) (ts us : List BoardStep) → AreBoardStepsOf xs ts → AreBoardStepsOf ys us →
    AreBoardStepsOf (xs ++ ys) (ts ++ us)
board_steps_of_append [] ys [] us are more = more
board_steps_of_append (x ∷ xs) ys (t ∷ ts) us are more = (are.0, board_steps_of_append xs ys ts us are.1 more)
board_steps_of_append [] ys (t ∷ ts) us are more = absurd are
board_steps_of_append (x ∷ xs) ys [] us are more = absurd are

-- If the board and its steps are unchanged, the sessions in C continue with another live session.
core_plays_with_other_session : {b : CoreBoard} {steps : List CoreStep} {past past' back back' : List (List ℕ)} {last last' : Option (List
    ℕ)} {l : CoreLink}
    {mine theirs : Session} (p : CorePlays b steps past back last l) → theirs ≡ mine
    → BoardPlays p.first p.calls past' back' last' (record { board = p.link.board; session = theirs })
    → CorePlays b steps past' back' last' (record { board = l.board; session = mine })
core_plays_with_other_session {mine = mine} {theirs = theirs} p same plays = record {
  run = p.run;
  first = p.first;
  is_first = p.is_first;
  calls = p.calls;
  are = p.are;
  link = record { board = p.link.board; session = theirs };
  is_link = record { board = p.is_link.board; session = same };
  plays = plays;
}

-- Sessions with a board in C may continue with each of the events of `CorePlaysContinue`.
pub core_plays_continue : CorePlaysContinue
core_plays_continue = record {
  starts = λ b on.
      let start = power_outcome_starts_board b (pos 0) on.begins on.powers in
      let x = board_of_core b on.powers.after in
      let is : IsBoardOfCore b x = record { kept = start.0.kept; is = refl } in
      record {
        run = no_core_mark_or_end;
        first = x;
        is_first = is;
        calls = [];
        are = tt;
        link = record { board = x; session = NoLiveSession };
        is_link = record { board = is; session = refl };
        plays = begins;
      };
  offers = λ b steps past back last l purpose payload limits p none some. core_plays_with_other_session p
      (ap (λ (s : Setting). HostSession (host_for_goal s.functional (goal_of_purpose purpose payload) limits))
      p.is_link.board.kept.set_up.config_is)
      (event_offers_were_offered purpose payload limits p.plays (p.is_link.session ∙ none) some);
  uploads = λ b steps past back last l limits p none. core_plays_with_other_session p
      (ap (λ (s : Setting). HostSession (host_for_goal s.functional FetchGoal limits)) p.is_link.board.kept.set_up.config_is)
      (uploads_on limits p.plays (p.is_link.session ∙ none));
  aborts = λ b steps past back last l h p live. core_plays_with_other_session p refl (abort_moves_host p.plays (p.is_link.session ∙ live));
  goes_on = λ b steps more past back last l l' answer p c. record {
    run = core_run_with_marks_append b l.board l'.board steps more p.run c.run;
    first = p.first;
    is_first = p.is_first;
    calls = p.calls ++ c.calls;
    are = board_steps_of_append steps more p.calls c.calls p.are c.are;
    link = c.after;
    is_link = c.is_after;
    plays = comes_next p.plays (event_comes_to_board b steps more past back last l l' answer p c);
  };
  marks = λ b b' steps past back last l p mark.
      let x = core_mark_marks_board l.board b' p.link.board p.is_link.board mark in
      record {
        run = core_run_then_mark b l.board b' steps p.run mark;
        first = p.first;
        is_first = p.is_first;
        calls = p.calls;
        are = p.are;
        link = record { board = x.board; session = p.link.session };
        is_link = record { board = x.is; session = p.is_link.session };
        plays = subst (λ (ts : List BoardStep). BoardPlays p.first ts past back last (record { board = x.board; session = p.link.session }))
            (append-nil p.calls) (comes_next p.plays (marks x.mark));
      };
  ends = λ b b' steps past back last l state begins image p is may end active.
      let x = core_trial_end_ends_board l.board b' begins p.link.board p.is_link.board end in
      let here : state_on p.link.board ≡ state = core_state_is_board_state l.board p.link.board state p.is_link.board is in
      record {
        run = core_run_then_trial_end b l.board b' begins steps p.run end;
        first = p.first;
        is_first = p.is_first;
        calls = p.calls;
        are = p.are;
        link = record { board = x.board; session = p.link.session };
        is_link = record { board = x.is; session = p.is_link.session };
        plays = trial_ends image p.plays
            (subst (λ (s : Session). TrialMayEnd s (state_on p.link.board) begins) (sym p.is_link.session)
            (subst (λ (s : State). TrialMayEnd l.session s begins) (sym here) may))
            x.end (subst (λ (m : MediumState). Active m image) (sym (core_flash_is_board_flash b' x.board x.is)) active);
      };
  copies = λ b b' steps past back last l p copy.
      let x = core_home_copy_copies_board l.board b' p.link.board p.is_link.board copy in
      record {
        run = core_run_then_home_copy b l.board b' steps p.run copy;
        first = p.first;
        is_first = p.is_first;
        calls = p.calls;
        are = p.are;
        link = record { board = x.board; session = p.link.session };
        is_link = record { board = x.is; session = p.is_link.session };
        plays = home_copy_comes p.plays x.copy;
      };
}
