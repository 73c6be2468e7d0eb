-- Marks and ends of trials on a board in C, as marks and ends on the board that it represents.
use Rattle.std.specs.Prelude.{◌≡◌, pos, Bool, List, [], ◌∷◌, ◌++◌}
use Rattle.std.proofs.Common.{refl, sym, ap, subst}
use Rattle.dfu_slots.specs.Medium.{MediumState}
use Rattle.dfu_boot.specs.trial.Unread.{ChangedUnreadBytes}
use Rattle.dfu_core.specs.declared.config.DfuConfig.{DfuConfig}
use Rattle.dfu_core.specs.RecordMeaning.{IsRecordOf}
use Rattle.dfu_core.specs.Board.{CoreBoard, medium_of_core}
use Rattle.dfu_core.specs.Happens.{CoreEventOutcome}
use Rattle.dfu_laws.specs.board.Board.{Board, medium_on}
use Rattle.dfu_laws.specs.link.Marks.{IsMarkedBoard, OpenGateWasClosed, TrialEnd}
use Rattle.dfu_laws.specs.in_c.Steps.{CoreStep, IsCoreRun, board_of_core, IsBoardOfCore}
use Rattle.dfu_laws.specs.in_c.Marks.{IsMarkedCoreBoard, CoreTrialEnd, CoreMarksOrTrialEnds, no_core_mark_or_end, then_core_mark, then_core_trial_end, then_core_home_copy, IsCoreRunWithMarks, AreCoreStepsJoined}
use Rattle.dfu_laws.proofs.in_c.RecordDevices.{same_config_same_setup}
use Rattle.dfu_laws.proofs.in_c.StepsInC.{power_outcome_starts_board}
use Rattle.dfu_laws.proofs.in_c.Runs.{core_flash_is_board_flash}

-- The board in C represents the board x after a mark.
pub record MarkedBoardOfCore (x : Board) (b' : CoreBoard) : Type 0 where
  pub board : Board
  -- The board in C represents this board after the mark.
  pub is : IsBoardOfCore b' board
  -- The mark changes `x` to this board.
  pub mark : IsMarkedBoard x board

pub core_mark_marks_board : (b b' : CoreBoard) (x : Board) → IsBoardOfCore b x → IsMarkedCoreBoard b b' → MarkedBoardOfCore x b'
core_mark_marks_board b b' x is mark =
    let flashed : CoreBoard = record b { flash = b'.flash } in
    let re : b' ≡ flashed = mark.same in
    let y = board_of_core flashed x.asking in
    let now : IsBoardOfCore flashed y = record { kept = is.kept; is = refl } in
    let un : ChangedUnreadBytes (medium_of_core b) (medium_of_core flashed) =
    subst (λ (z : CoreBoard). ChangedUnreadBytes (medium_of_core b) (medium_of_core z)) re mark.unread in
    subst (λ (z : CoreBoard). MarkedBoardOfCore x z) (sym re) (record {
      board = y;
      is = now;
      mark = record {
        unread = subst (λ (m : MediumState). ChangedUnreadBytes m (medium_on y)) (sym (core_flash_is_board_flash b x is))
            (subst (λ (m : MediumState). ChangedUnreadBytes (medium_of_core b) m) (sym (core_flash_is_board_flash flashed y now)) un);
        same = ap (λ (z : Board). record z { flash = b'.flash }) (sym is.is);
      };
    })

-- The board in C represents the board x after the end of a trial.
pub record EndedBoardOfCore (x : Board) (begins : Bool) (b' : CoreBoard) : Type 0 where
  pub board : Board
  -- The board in C represents this board after the end of the trial.
  pub is : IsBoardOfCore b' board
  -- The end of the trial changes `x` to this board.
  pub end : TrialEnd x begins board

pub core_trial_end_ends_board : (b b' : CoreBoard) (begins : Bool) (x : Board) → IsBoardOfCore b x → CoreTrialEnd b begins b' →
    EndedBoardOfCore x begins b'
core_trial_end_ends_board b b' begins x is end =
    let on = power_outcome_starts_board b' (pos 0) begins end.powers in
    let y = board_of_core b' end.powers.after in
    let now : IsBoardOfCore b' y = record { kept = on.0.kept; is = refl } in
    record {
      board = y;
      is = now;
      end = record {
        closed = subst (λ (m : MediumState). OpenGateWasClosed m y.flash) (sym (core_flash_is_board_flash b x is)) end.closed;
        starts = on.1;
        same = same_config_same_setup b.config b.kept b'.kept x.asking end.powers.after is.kept
            (subst (λ (c : DfuConfig). IsRecordOf c b'.kept end.powers.after) end.config on.0.kept);
      };
    }

core_marks_append : (b mid b' : CoreBoard) → CoreMarksOrTrialEnds b mid → CoreMarksOrTrialEnds mid b' → CoreMarksOrTrialEnds b b'
core_marks_append b mid _ marked no_core_mark_or_end = marked
core_marks_append b mid _ marked (then_core_mark {mid = late} {b' = b'} more mark) = then_core_mark (core_marks_append b mid late marked
    more) mark
core_marks_append b mid _ marked (then_core_trial_end {mid = late} {b' = b'} {begins = begins} more end) = then_core_trial_end
    (core_marks_append b mid late marked more) end
core_marks_append b mid _ marked (then_core_home_copy {mid = late} {b' = b'} more copy) = then_core_home_copy
    (core_marks_append b mid late marked more) copy

pub core_run_with_marks_append : (b mid b' : CoreBoard) (xs ys : List CoreStep) → IsCoreRunWithMarks b xs mid → IsCoreRunWithMarks mid ys b'
    → IsCoreRunWithMarks b (xs ++ ys) b'
core_run_with_marks_append b mid b' [] [] marked more = core_marks_append b mid b' marked more
core_run_with_marks_append b mid b' [] (y ∷ ys) marked more = (core_marks_append b mid y.before marked more.0, more.1, more.2)
core_run_with_marks_append b mid b' (x ∷ xs) ys run more = (run.0, run.1, core_run_with_marks_append x.after mid b' xs ys run.2 more)

pub core_run_then_mark : (b mid b' : CoreBoard) (steps : List CoreStep) → IsCoreRunWithMarks b steps mid → IsMarkedCoreBoard mid b'
    → IsCoreRunWithMarks b steps b'
core_run_then_mark b mid b' [] marked mark = then_core_mark marked mark
core_run_then_mark b mid b' (s ∷ rest) run mark = (run.0, run.1, core_run_then_mark s.after mid b' rest run.2 mark)

pub core_run_then_trial_end : (b mid b' : CoreBoard) (begins : Bool) (steps : List CoreStep) → IsCoreRunWithMarks b steps mid
    → CoreTrialEnd mid begins b' → IsCoreRunWithMarks b steps b'
core_run_then_trial_end b mid b' begins [] marked end = then_core_trial_end marked end
core_run_then_trial_end b mid b' begins (s ∷ rest) run end = (run.0, run.1, core_run_then_trial_end s.after mid b' begins rest run.2 end)

pub core_joined_steps_are_run : (b b' : CoreBoard) (steps : List CoreStep) → IsCoreRunWithMarks b steps b' → AreCoreStepsJoined b steps b'
    → IsCoreRun b steps b'
core_joined_steps_are_run b b' [] marked same = same
core_joined_steps_are_run b b' (s ∷ rest) (marked, happens, more) (same, joined) = (
  same,
  subst (λ (x : CoreBoard). CoreEventOutcome x s.event s.number s.out s.after) same happens,
  core_joined_steps_are_run s.after b' rest more joined,
)
