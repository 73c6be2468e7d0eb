-- Each run of a USB DFU 1.1 device with the bmAttributes and habits of a DfuSe device is also a run of a DfuSe device.
use Rattle.std.specs.Prelude.{◌≡◌, ◌&&◌, Bool, true, false, List, [], ◌∷◌}
use Rattle.std.proofs.Common.{refl, inl, inr}
use Rattle.dfu_conformance.specs.declared.row.StandardState.{StandardState}
use Rattle.dfu_conformance.specs.declared.event.LogEvent.{LogEvent}
use Rattle.dfu_conformance.specs.declared.event.Response.{Response}
use Rattle.dfu_conformance.specs.declared.event.Response.TheVariants as answer
use Rattle.dfu_conformance.specs.RowMatches.{may_stay_by_answer}
use Rattle.dfu_conformance.specs.MayAnswer.{MayAnswer as StandardAnswer, Run as StandardRun}
use Rattle.dfu_conformance.specs.dfuse.Laws.{StandardIsIncluded}
use Rattle.dfu_conformance.specs.dfuse.Runs.{dfuse_attributes, dfuse_habits, reports_place, DfuseMayAnswer, DfuseRun}

-- A device that may stay in its state may also stay if fewer requests must be answered.
fewer_duties_allow_staying : (plain other : Bool) (a : Response) → may_stay_by_answer plain a ≡ true
    → may_stay_by_answer (plain && other) a ≡ true
fewer_duties_allow_staying plain other answer.Nothing e = refl
fewer_duties_allow_staying false other answer.Stall e = refl
fewer_duties_allow_staying true other answer.Stall e = absurd cc
fewer_duties_allow_staying plain other (answer.Bytes count first fifth) e = absurd cc

-- DfuSe allows every answer that the other tables allow a device with the bmAttributes and habits of a DfuSe device.
standard_answer_is_dfuse_answer : (from next : StandardState) (e : LogEvent) → StandardAnswer dfuse_attributes dfuse_habits from e next →
    DfuseMayAnswer from e next
standard_answer_is_dfuse_answer from next e (inl by_s) = inl by_s
standard_answer_is_dfuse_answer from next e (inr (inl by_m)) = inr (inl by_m)
standard_answer_is_dfuse_answer from next e (inr (inr (inl by_h))) = inr (inr (inl by_h))
standard_answer_is_dfuse_answer from next e (inr (inr (inr (same, stay)))) = inr (inr (inr (inr (
  same,
  fewer_duties_allow_staying e.is_plain
      (reports_place e.asked) e.answer stay,
))))

-- Each run of a USB DFU 1.1 device with the bmAttributes and habits of a DfuSe device is also a run of a DfuSe device.
pub standard_run_is_dfuse_run : StandardIsIncluded
standard_run_is_dfuse_run [] from last run = run
standard_run_is_dfuse_run (e ∷ events) from last (here, next, moved, may, rest) =
    (here, next, moved, standard_answer_is_dfuse_answer here next e may, standard_run_is_dfuse_run events next last rest)
