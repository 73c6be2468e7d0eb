-- Steps of a board over a link, which are runs between marks, ends of trials and copies.
use Rattle.std.specs.Prelude.{◌≡◌, ◌⊎◌, ℕ, Bool, Option, List, [], ◌∷◌, ◌++◌}
use Rattle.std.proofs.Common.{inl, inr, refl, sym, ◌∙◌, subst}
use Rattle.dfu_device.specs.declared.objection.Objection.{Objection}
use Rattle.dfu_sim.specs.Play.{Answered}
use Rattle.dfu_asks.specs.Lent.{SameConfig}
use Rattle.dfu_laws.specs.board.Board.{Board, Event, Handle, BoardReply, BoardStep}
use Rattle.dfu_laws.specs.board.Happens.{EventOutcome, IsRun}
use Rattle.dfu_laws.specs.link.Calls.{CallReaches, lost, once, twice, ImageRefusedAtClose, close_refused_once, close_refused_then_repeated, CallCutOff, behind, within, power_lost_in_second_call}
use Rattle.dfu_laws.specs.link.Marks.{IsMarkedBoard, TrialEnd, MarksOrTrialEnds, no_mark_or_end, one_more, then_trial_end, then_home_copy, IsRunWithMarks, AreStepsJoined}
use Rattle.dfu_laws.specs.link.Copies.{HomeCopy}
use Rattle.dfu_laws.specs.link.LinkSteps.{BoardLink, BoardLinkStep, passes, sends, refuses, waits, resets, is_reset_by_other_cause, restarts, leaves, restarts_at_reset, marks}
use Rattle.dfu_laws.specs.link.Plays.{BoardPlays, starts, offers, uploads, aborts as abort_moves_host, goes_on, ends, copies, PlaysAreRuns}

run_append : (b mid b' : Board) (xs ys : List BoardStep) → IsRun b xs mid → IsRun mid ys b' → IsRun b (xs ++ ys) b'
run_append b mid b' [] ys run more = subst (λ (x : Board). IsRun x ys b') run more
run_append b mid b' (x ∷ xs) ys run more = (run.0, run.1, run.2, run_append x.after mid b' xs ys run.3 more)

-- A run consists of two parts, with this board between them.
pub record RunParts (b : Board) (xs ys : List BoardStep) (b' : Board) : Type 0 where
  pub mid : Board
  -- The first steps lead to this board.
  pub first : IsRun b xs mid
  -- The other steps begin at this board.
  pub second : IsRun mid ys b'

-- A run over two joined lists of steps is a run over the first and then one over the second.
pub run_has_parts : (b : Board) (xs ys : List BoardStep) (b' : Board) → IsRun b (xs ++ ys) b' → RunParts b xs ys b'
run_has_parts b [] ys b' run = record { mid = b; first = refl; second = run }
run_has_parts b (x ∷ xs) ys b' run =
    let more = run_has_parts x.after xs ys b' run.3 in
    record { mid = more.mid; first = (run.0, run.1, run.2, more.first); second = more.second }

-- The same steps from the same board lead to the same board.
pub run_leads_to_one_board : (b : Board) (steps : List BoardStep) (x y : Board) → IsRun b steps x → IsRun b steps y → x ≡ y
run_leads_to_one_board b [] x y h k = h ∙ sym k
run_leads_to_one_board b (s ∷ rest) x y h k = run_leads_to_one_board s.after rest x y h.3 k.3

-- The steps of a call that arrives over the link are a run of the board.
pub reached_call_is_run : (call : Event) (b b' : Board) (steps : List BoardStep) (says : BoardReply) → CallReaches call b steps says b'
    → IsRun b steps b'
reached_call_is_run call b _ _ _ lost = refl
reached_call_is_run call b _ steps _ (once serves) = serves.run
reached_call_is_run call b b' _ _ (twice {first = first} {second = second} {mid = mid} serves more) =
    run_append b mid b' first second serves.run more.run

refused_close_is_run : (setup body : List ℕ) (why : Objection) (b b' : Board) (steps : List BoardStep) (says : BoardReply)
    → ImageRefusedAtClose setup body why b steps says b' → IsRun b steps b'
refused_close_is_run setup body why b _ steps _ (close_refused_once serves) = serves.run
refused_close_is_run setup body why b b' _ _ (close_refused_then_repeated {first = first} {second = second} {mid = mid} serves more) =
    run_append b mid b' first second serves.run more.run

cut_off_call_is_run : (call : Event) (b b' : Board) (steps : List BoardStep) → CallCutOff call b steps b' → IsRun b steps b'
cut_off_call_is_run call b b' _ (behind {steps = steps} {says = says} {mid = mid} power begins reaches run e) =
    run_append b mid b' steps (power ∷ []) (reached_call_is_run call b mid steps says reaches) run
cut_off_call_is_run call b b' steps (within run br) = run
cut_off_call_is_run call b b' _ (power_lost_in_second_call {first = first} {second = second} {mid = mid} serves run br) =
    run_append b mid b' first second serves.run run

-- The steps are a run from b to b', or there are none, and a mark changes b to b'.
abbrev pub IsRunOrMark : Board → List BoardStep → Board → Type 0
IsRunOrMark b steps b' = IsRun b steps b' ⊎ ((steps ≡ []) × IsMarkedBoard b b')

pub link_step_is_run_or_mark : (l l' : BoardLink) (steps : List BoardStep) (answer : Answered) → BoardLinkStep l steps answer l' →
    IsRunOrMark l.board steps l'.board
link_step_is_run_or_mark l _ steps _ (passes serves) = inl serves.run
link_step_is_run_or_mark l _ steps _ (sends {setup = setup} {body = body} {says = says} {b' = b'} live is asked (inl reaches) hears room) =
    inl (reached_call_is_run (Handle setup body) l.board b' steps says reaches)
link_step_is_run_or_mark l _ steps _ (sends {setup = setup} {body = body} {says = says} {b' = b'} live is asked (inr (why, refused)) hears
    room) =
    inl (refused_close_is_run setup body why l.board b' steps says refused)
link_step_is_run_or_mark l _ steps _ (refuses serves) = inl serves.run
link_step_is_run_or_mark l _ _ _ (waits live is) = inl refl
link_step_is_run_or_mark l _ steps _ (resets live is serves) = inl serves.run
link_step_is_run_or_mark l _ _ _ (is_reset_by_other_cause {call = call} {steps = steps} {more = more} {says = says} {mid = mid} {b' = b'}
    way reaches serves) =
    inl (run_append l.board mid b' steps more (reached_call_is_run call l.board mid steps says reaches) serves.run)
link_step_is_run_or_mark l _ steps _ (restarts {call = call} {b' = b'} way stops) = inl (cut_off_call_is_run call l.board b' steps stops)
link_step_is_run_or_mark l _ _ _ (leaves live enters run event) = inl run
link_step_is_run_or_mark l _ _ _ (restarts_at_reset live is way run event) = inl run
link_step_is_run_or_mark l _ _ _ (marks mark) = inr (refl, mark)

-- The steps xs are a run from b to some board.
pub record RunOfFirstSteps (b : Board) (xs : List BoardStep) : Type 0 where
  pub mid : Board
  -- The steps lead to this board.
  pub run : IsRun b xs mid

pub first_steps_are_run : (b b' : Board) (xs ys : List BoardStep) → IsRunOrMark b (xs ++ ys) b' → RunOfFirstSteps b xs
first_steps_are_run b b' xs ys (inl run) = let p = run_has_parts b xs ys b' run in record { mid = p.mid; run = p.first }
first_steps_are_run b b' [] ys (inr (none, mark)) = record { mid = b; run = refl }
first_steps_are_run b b' (x ∷ xs) ys (inr (none, mark)) = absurd (cc)

run_is_run_with_marks : (b b' : Board) (steps : List BoardStep) → IsRun b steps b' → IsRunWithMarks b steps b'
run_is_run_with_marks b b' [] same = subst (λ (x : Board). MarksOrTrialEnds b x) (sym same) no_mark_or_end
run_is_run_with_marks b b' (s ∷ rest) (same, happens, alike, more) = (
  subst (λ (x : Board). MarksOrTrialEnds b x) (sym same) no_mark_or_end,
  subst (λ (x : Board). EventOutcome x s.event s.says s.after) (sym same) happens,
  subst (λ (x : Board). SameConfig x.asking s.after.asking) (sym same) alike,
  run_is_run_with_marks s.after b' rest more,
)

run_or_mark_has_marks : (b b' : Board) (steps : List BoardStep) → IsRunOrMark b steps b' → IsRunWithMarks b steps b'
run_or_mark_has_marks b b' steps (inl run) = run_is_run_with_marks b b' steps run
run_or_mark_has_marks b b' steps (inr (none, mark)) = subst (λ (l : List BoardStep). IsRunWithMarks b l b') (sym none) (one_more
    no_mark_or_end mark)

-- Two sequences of changes between steps, one after the other, are a sequence of such changes.
marks_append : (b mid b' : Board) → MarksOrTrialEnds b mid → MarksOrTrialEnds mid b' → MarksOrTrialEnds b b'
marks_append b mid _ marked no_mark_or_end = marked
marks_append b mid _ marked (one_more {mid = late} {b' = b'} more mark) = one_more (marks_append b mid late marked more) mark
marks_append b mid _ marked (then_trial_end {mid = late} {b' = b'} {begins = begins} more end) = then_trial_end (marks_append b mid late
    marked more) end
marks_append b mid _ marked (then_home_copy {mid = late} {b' = b'} more copy) = then_home_copy (marks_append b mid late marked more) copy

run_then_trial_end : (b mid b' : Board) (begins : Bool) (steps : List BoardStep) → IsRunWithMarks b steps mid → TrialEnd mid begins b'
    → IsRunWithMarks b steps b'
run_then_trial_end b mid b' begins [] marked end = then_trial_end marked end
run_then_trial_end b mid b' begins (s ∷ rest) run end = (run.0, run.1, run.2, run_then_trial_end s.after mid b' begins rest run.3 end)

run_then_home_copy : (b mid b' : Board) (steps : List BoardStep) → IsRunWithMarks b steps mid → HomeCopy mid b' → IsRunWithMarks b steps b'
run_then_home_copy b mid b' [] marked copy = then_home_copy marked copy
run_then_home_copy b mid b' (s ∷ rest) run copy = (run.0, run.1, run.2, run_then_home_copy s.after mid b' rest run.3 copy)

run_with_marks_append : (b mid b' : Board) (xs ys : List BoardStep) → IsRunWithMarks b xs mid → IsRunWithMarks mid ys b' →
    IsRunWithMarks b (xs ++ ys) b'
run_with_marks_append b mid b' [] [] marked more = marks_append b mid b' marked more
run_with_marks_append b mid b' [] (y ∷ ys) marked more = (marks_append b mid y.before marked more.0, more.1, more.2, more.3)
run_with_marks_append b mid b' (x ∷ xs) ys run more = (run.0, run.1, run.2, run_with_marks_append x.after mid b' xs ys run.3 more)

joined_steps_are_run : (b b' : Board) (steps : List BoardStep) → IsRunWithMarks b steps b' → AreStepsJoined b steps b' → IsRun b steps b'
joined_steps_are_run b b' [] marked same = same
joined_steps_are_run b b' (s ∷ rest) (marked, happens, alike, more) (same, joined) = (
  same,
  subst (λ (x : Board). EventOutcome x s.event s.says s.after) same happens,
  subst (λ (x : Board). SameConfig x.asking s.after.asking) same alike,
  joined_steps_are_run s.after b' rest more joined,
)

plays_are_runs_with_marks : (b : Board) (steps : List BoardStep) (past back : List (List ℕ)) (last : Option (List ℕ)) (l : BoardLink)
    → BoardPlays b steps past back last l → IsRunWithMarks b steps l.board
plays_are_runs_with_marks b _ _ _ _ _ starts = no_mark_or_end
plays_are_runs_with_marks b steps _ _ _ _ (offers {past = past} {back = back} {last = last} {l = l} purpose payload limits p none some) =
    plays_are_runs_with_marks b steps past back last l p
plays_are_runs_with_marks b steps past back _ _ (uploads {last = last} {l = l} limits p none) = plays_are_runs_with_marks b steps past back
    last l p
plays_are_runs_with_marks b steps past back last _ (abort_moves_host {l = l} p live) = plays_are_runs_with_marks b steps past back last l p
plays_are_runs_with_marks b _ past back last _ (goes_on {steps = steps} {more = more} {l = l} {l' = l'} {answer = answer} p comes) =
    run_with_marks_append b l.board l'.board steps more (plays_are_runs_with_marks b steps past back last l p)
    (run_or_mark_has_marks l.board l'.board more (link_step_is_run_or_mark l l' more answer comes))
plays_are_runs_with_marks b steps _ _ last _ (ends {past = past} {back = back} {l = l} {b' = b'} {begins = begins} image p may end active) =
    run_then_trial_end b l.board b' begins steps (plays_are_runs_with_marks b steps past back last l p) end
plays_are_runs_with_marks b steps past back last _ (copies {l = l} {b' = b'} p copy) =
    run_then_home_copy b l.board b' steps (plays_are_runs_with_marks b steps past back last l p) copy

-- The steps of sessions with a board are runs between marks, ends of trials and copies.
pub plays_are_runs : PlaysAreRuns
plays_are_runs b steps past back last l p =
    let marked = plays_are_runs_with_marks b steps past back last l p in
    record { marked = marked; joined = joined_steps_are_run b l.board steps marked }
