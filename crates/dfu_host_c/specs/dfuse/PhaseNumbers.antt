-- Phases of DfuSe sessions as numbers.
use Rattle.std.specs.Prelude.{ℕ, ◌==◌, if◌then◌else◌, List, [], ◌∷◌, Option, option_map, option_and_then}
use Rattle.std.specs.List.{slice_get}
use Rattle.dfuse_host.specs.declared.phase.Phase.{Phase}
use Rattle.dfuse_host.specs.declared.phase.Phase.TheVariants.{On, Over}
use Rattle.dfuse_host.specs.declared.work.Work.{Work}
use Rattle.dfuse_host.specs.declared.work.Work.TheVariants as work
use Rattle.dfuse_host.specs.declared.place.Place.{Place}
use Rattle.dfuse_host.specs.declared.place.Place.TheVariants as place
use Rattle.dfuse_host.specs.declared.step.Step.{Step}
use Rattle.dfuse_host.specs.declared.step.Step.TheVariants as step
use Rattle.dfu_host_c.specs.dfuse.ReportNumbers.{dfuse_report_at, dfuse_report_numbers}
use Rattle.dfu_host_c.specs.declared.dfuse.phases.EncodedDfusePhase.{EncodedDfusePhase}

-- The works in the order of their numbers, 0 to 6, at the address `at`. Those with an end address end at `end`; Leave has no address.
abbrev works_in_order : (at end : ℕ) → List Work
works_in_order at end =
    work.Erase at ∷ work.EraseAgain at end ∷ work.Write at end ∷ work.Compare at ∷ work.WriteFront at ∷ work.CompareFront at ∷
    work.Leave ∷ []

-- The work with this number and its addresses; None for a number over 6.
abbrev pub work_at : (number at end : ℕ) → Option Work
work_at number at end = slice_get (works_in_order at end) number

-- The `Place` with this number: 0 if the device's address pointer is unknown, 1 if the pointer was set to the address `pointer`, 2 if the
-- device is also ready for UPLOAD. None for a number over 2.
abbrev pub place_at : (number pointer : ℕ) → Option Place
place_at number pointer = slice_get (place.Lost ∷ place.At pointer ∷ place.Reading pointer ∷ []) number

-- The steps in the order of their numbers, 0 to 14. Those with a time have the time `ms`.
abbrev steps_in_order : (ms : ℕ) → List Step
steps_in_order ms =
    step.Abort ∷ step.AskState ∷ step.AskStatus ∷ step.ClearWait ms ∷ step.ClearStatus ∷ step.Send ∷ step.Probe ∷ step.Poll ms ∷
    step.PollWait ms ∷ step.BeginReading ∷ step.EndReading ∷ step.Read ∷ step.Close ∷ step.CloseProbe ∷ step.ClosePoll ∷ []

-- The step with this number, and with the time `ms` if it has one; None for a number over 14.
abbrev pub step_at : (number ms : ℕ) → Option Step
step_at number ms = slice_get (steps_in_order ms) number

-- The phase of a session that is not over, made of its work, its `Place` and its step.
abbrev dfuse_phase_of_parts : Work → Place → Step → Phase
dfuse_phase_of_parts w p s = On (record { work = w; place = p; step = s })

-- The phase with these numbers. If the number of the work is 7, the session is over. None if no phase has these numbers.
abbrev pub dfuse_phase_at : EncodedDfusePhase → Option Phase
dfuse_phase_at n =
    if n.work == 7 then option_map Over (dfuse_report_at n.report n.more)
    else option_and_then (λ w. option_and_then (λ p. option_map (dfuse_phase_of_parts w p) (step_at n.step n.more)) (place_at n.place
    n.pointer))
    (work_at n.work n.at n.end)

-- Numbers of a work, as `work_at` reads them: its number, its current address, and its end address; 0 for an address that it doesn't have.
abbrev pub work_numbers : Work → ℕ × ℕ × ℕ
work_numbers (work.Erase at) = (0, at, 0)
work_numbers (work.EraseAgain page end) = (1, page, end)
work_numbers (work.Write at end) = (2, at, end)
work_numbers (work.Compare at) = (3, at, 0)
work_numbers (work.WriteFront at) = (4, at, 0)
work_numbers (work.CompareFront at) = (5, at, 0)
work_numbers work.Leave = (6, 0, 0)

-- Numbers of a `Place`, as `place_at` reads them: its number, and the address to which the pointer was set, or 0 if the pointer is unknown.
abbrev pub place_numbers : Place → ℕ × ℕ
place_numbers place.Lost = (0, 0)
place_numbers (place.At pointer) = (1, pointer)
place_numbers (place.Reading pointer) = (2, pointer)

-- Numbers of a step, as `step_at` reads them: its number, and its time, or 0 for a step without a time.
abbrev pub step_numbers : Step → ℕ × ℕ
step_numbers step.Abort = (0, 0)
step_numbers step.AskState = (1, 0)
step_numbers step.AskStatus = (2, 0)
step_numbers (step.ClearWait ms) = (3, ms)
step_numbers step.ClearStatus = (4, 0)
step_numbers step.Send = (5, 0)
step_numbers step.Probe = (6, 0)
step_numbers (step.Poll ms) = (7, ms)
step_numbers (step.PollWait ms) = (8, ms)
step_numbers step.BeginReading = (9, 0)
step_numbers step.EndReading = (10, 0)
step_numbers step.Read = (11, 0)
step_numbers step.Close = (12, 0)
step_numbers step.CloseProbe = (13, 0)
step_numbers step.ClosePoll = (14, 0)

-- Numbers that the library writes for a phase; 0 for those that the phase doesn't use.
abbrev pub dfuse_numbers_in : Phase → EncodedDfusePhase
dfuse_numbers_in (On s) = record {
  work = (work_numbers s.work).0;
  at = (work_numbers s.work).1;
  end = (work_numbers s.work).2;
  place = (place_numbers s.place).0;
  pointer = (place_numbers s.place).1;
  step = (step_numbers s.step).0;
  more = (step_numbers s.step).1;
  report = 0;
}
dfuse_numbers_in (Over report) = record {
  work = 7;
  at = 0;
  end = 0;
  place = 0;
  pointer = 0;
  step = 0;
  more = (dfuse_report_numbers report).1;
  report = (dfuse_report_numbers report).0;
}
