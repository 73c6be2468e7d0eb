use Rattle.std.proofs.Common.{inl, inr, ℕ, refl, sym, ◌∙◌, subst, w32, arith}
use Rattle.std.proofs.lemmas.Int.{to_z-of_z}
use Rattle.std.proofs.lemmas.Result.{IfOk-at_ok, IfErr-at_err}
use Rattle.dfu_asks.specs.Steps.{Step}
use Rattle.dfu_asks.specs.Carried.{IsStepPiece, ErasesSectorOrPrograms}
use Rattle.dfu_asks.specs.Asks.{steps_in}
use Rattle.dfu_asks.specs.Lent.{LentDevice, lent}
use Rattle.dfu_core.specs.Writes.{HasRowPending, device_is_not_found, piece_is_refused}
use Rattle.dfu_device_c.proofs.HandedWrites.{kind_is_erase_or_program, program_kind_does_not_erase, step_by_kind, step_by_kind_is_by_flag, handed_write_is_step}
use Rattle.dfu_device_c.proofs.Split.{memory_is_front_and_rest, parts_make_same_device, IsDeviceOfSplitMemory, found_device_has_split_memory, device_memory_is_split}
use Rattle.dfu_device_c.proofs.calls.dfu_core_next.Goals.{After-split_at}
use Rattle.dfu_device_c.proofs.calls.dfu_core_next.Goals as goal

pub split_at-requires : goal.split_at-requires
split_at-requires c = omega (arith, IfOk-at_ok _ c.in-Ok.is c.found.ensures.room, c.from.ensures)

pub returns-in-Err-clause-outcome : goal.returns-in-Err-clause-outcome
returns-in-Err-clause-outcome c = inr (
  device_is_not_found c.in-Err.refusal (to_z-of_z w32 _ (omega (arith, c.number.type_inv)) ∙ c.number.ensures)
      (IfErr-at_err _ c.in-Err.is c.found.ensures.err),
  refl,
)

pub returns-in-Err-clause-step : goal.returns-in-Err-clause-step
returns-in-Err-clause-step c = handed_write_is_step _ _ _ _ _ _ _ _ (returns-in-Err-clause-outcome c)

-- The record represents the device that was found, and the device's memory is split in two.
record_device_is_split : (c : After-split_at) → IsDeviceOfSplitMemory c.args.config.now c.args.device.now c.in-Ok.asking c.args.block.now
    c.split_at.result.0.now c.split_at.result.1.now
record_device_is_split c = found_device_has_split_memory _ _ _ _ _ _ _ c.in-Ok.is c.found.ensures.ok c.found.ensures.config
    c.found.ensures.room
    (memory_is_front_and_rest c.from.result _ _ _ c.split_at.ensures.front c.split_at.ensures.back)
    (omega (arith, c.split_at.ensures.front_len, c.from.ensures))

pub returns-in_default-clause-outcome : goal.returns-in_default-clause-outcome
returns-in_default-clause-outcome c =
    let p = record_device_is_split (goal.at.returns-in_default-clause-outcome c).After-split_at in
    inr (
      piece_is_refused c.in-Ok.asking (to_z-of_z w32 _ (omega (arith, c.number-in_default.type_inv)) ∙ c.number-in_default.ensures)
          p.config p.room p.kept
          (inl (λ at.
          let there = subst (λ (l : LentDevice). HasRowPending l c.args.flash.now) (parts_make_same_device (device_memory_is_split p)) at in
          c.in_default.ensures.none_pending there.0 there.1 there.2 there.3)),
      λ i. record c.args.ask.now { bytes = c.in_default.ensures.unchanged i },
    )

pub returns-in_default-clause-step : goal.returns-in_default-clause-step
returns-in_default-clause-step c = handed_write_is_step _ _ _ _ _ _ _ _ (returns-in_default-clause-outcome c)

pub returns-then-flash-gt4294967295-clause-outcome : goal.returns-then-flash-gt4294967295-clause-outcome
returns-then-flash-gt4294967295-clause-outcome c = inr (
  piece_is_refused c.in-Ok.asking
      (to_z-of_z w32 _ (omega (arith, c.number-then-flash-gt4294967295.type_inv)) ∙ c.number-then-flash-gt4294967295.ensures)
      (IfOk-at_ok _ c.in-Ok.is c.found.ensures.config) (IfOk-at_ok _ c.in-Ok.is c.found.ensures.room)
      (IfOk-at_ok _ c.in-Ok.is c.found.ensures.ok) (inr (omega (arith, c.if-flash-gt4294967295.true))),
  refl,
)

pub returns-then-flash-gt4294967295-clause-step : goal.returns-then-flash-gt4294967295-clause-step
returns-then-flash-gt4294967295-clause-step c = handed_write_is_step _ _ _ _ _ _ _ _ (returns-then-flash-gt4294967295-clause-outcome c)

pub returns-clause-outcome : goal.returns-clause-outcome
returns-clause-outcome c =
    let p = record_device_is_split (goal.at.returns-clause-outcome c).After-split_at in
    let says = c.in-Some.ensures in
    let due = says.due in
    let piece = c.in-Some.piece in
    let same = step_by_kind_is_by_flag piece.erases c.kind_of-ask.result piece.at piece.len c.next.new.out c.kind_of-ask.ensures in
    let l = lent c.in-Ok.asking c.split_at.result.0.now c.split_at.result.1.now in
    inl (record {
      number_is = refl;
      config = p.config;
      room = p.room;
      asking = c.in-Ok.asking;
      is = p.kept;
      work = due.0;
      work_is = due.1.work_is;
      kind = kind_is_erase_or_program piece.erases c.kind_of-ask.result c.kind_of-ask.ensures;
      piece = subst (λ (x : LentDevice). IsStepPiece (steps_in x due.0) due.0.done
          (step_by_kind c.kind_of-ask.result piece.at piece.len c.next.new.out))
          (sym (parts_make_same_device (device_memory_is_split p)))
          (subst (λ (s : Step). IsStepPiece (steps_in l due.0) due.0.done s) (sym same) (says.piece due.0 due.1.work_is));
      some = says.piece_bounds.some;
      most = λ is. says.piece_bounds.programs (program_kind_does_not_erase piece.erases c.kind_of-ask.result c.kind_of-ask.ensures is);
      sector =
          subst (λ (n : ℕ). ErasesSectorOrPrograms n (step_by_kind c.kind_of-ask.result piece.at piece.len c.next.new.out))
          p.kept.set_up.sector_is
          (subst (λ (s : Step). ErasesSectorOrPrograms l.sector.size s) (sym same) says.sector);
      spare = says.spare;
    })

pub returns-clause-step : goal.returns-clause-step
returns-clause-step c = handed_write_is_step _ _ _ _ _ _ _ _ (returns-clause-outcome c)
