-- The copy between two areas on a board in C, as a copy on the board that it represents.
use Rattle.std.specs.Prelude.{◌≡◌, pos, List, [], ◌∷◌}
use Rattle.std.proofs.Common.{refl, sym, subst}
use Rattle.dfu_slots.specs.Medium.{MediumState}
use Rattle.dfu_core.specs.declared.config.DfuConfig.{DfuConfig}
use Rattle.dfu_core.specs.RecordMeaning.{IsRecordOf}
use Rattle.dfu_core.specs.Board.{CoreBoard, medium_of_core}
use Rattle.dfu_laws.specs.board.Board.{Board, medium_on}
use Rattle.dfu_laws.specs.board.Happens.{BoardStarts}
use Rattle.dfu_laws.specs.link.Copies.{HomeOperations, HomeCopy}
use Rattle.dfu_laws.specs.in_c.Steps.{CoreStep, board_of_core, IsBoardOfCore}
use Rattle.dfu_laws.specs.in_c.Marks.{CoreHomeCopy, then_core_home_copy, IsCoreRunWithMarks}
use Rattle.dfu_laws.proofs.in_c.RecordDevices.{same_config_same_setup}
use Rattle.dfu_laws.proofs.in_c.StepsInC.{power_outcome_starts_board}
use Rattle.dfu_laws.proofs.in_c.Runs.{core_flash_is_board_flash}
use Rattle.dfu_laws.proofs.in_c.Played.{core_board_is_one_board}

-- The board in C represents the board x after a copy.
pub record CopiedBoardOfCore (x : Board) (b' : CoreBoard) : Type 0 where
  pub board : Board
  -- The copy changes `x` to this board.
  pub copy : HomeCopy x board
  -- The board in C represents this board after the copy.
  pub is : IsBoardOfCore b' board

pub core_home_copy_copies_board : (b b' : CoreBoard) (x : Board) → IsBoardOfCore b x → CoreHomeCopy b b' → CopiedBoardOfCore x b'
core_home_copy_copies_board b b' x is copy =
    let was = power_outcome_starts_board b (pos 0) copy.begins copy.power in
    let same : board_of_core b copy.power.after ≡ x =
    core_board_is_one_board b (board_of_core b copy.power.after) x (record { kept = was.0.kept; is = refl }) is in
    let on = power_outcome_starts_board b' (pos 0) copy.begins copy.starts in
    let y = board_of_core b' copy.starts.after in
    let now : IsBoardOfCore b' y = record { kept = on.0.kept; is = refl } in
    record {
      board = y;
      copy = record {
        begins = copy.begins;
        power = subst (λ (z : Board). BoardStarts copy.begins z) same was.1;
        operations = subst (λ (m : MediumState). HomeOperations m (medium_on y)) (sym (core_flash_is_board_flash b x is))
            (subst (λ (m : MediumState). HomeOperations (medium_of_core b) m) (sym (core_flash_is_board_flash b' y now)) copy.operations);
        starts = on.1;
        same = same_config_same_setup b.config b.kept b'.kept x.asking copy.starts.after is.kept
            (subst (λ (c : DfuConfig). IsRecordOf c b'.kept copy.starts.after) copy.config on.0.kept);
      };
      is = now;
    }

pub core_run_then_home_copy : (b mid b' : CoreBoard) (steps : List CoreStep) → IsCoreRunWithMarks b steps mid → CoreHomeCopy mid b'
    → IsCoreRunWithMarks b steps b'
core_run_then_home_copy b mid b' [] marked copy = then_core_home_copy marked copy
core_run_then_home_copy b mid b' (s ∷ rest) run copy = (run.0, run.1, core_run_then_home_copy s.after mid b' rest run.2 copy)
