-- Outcome of a row, which depends on the medium's writes.
use Rattle.std.specs.Prelude.{ℕ, List}
use Rattle.dfu_slots.specs.declared.fault.WriteFault.{WriteFault}
use Rattle.dfu_device.specs.Stage.{Request, Reply, Profile, Stage, InAppIdle, InError}
use Rattle.dfu_device.specs.Table.{Plan, Sure, Writes, Commits, write_code, commit_code, plan, time_plan, reset_stage}

-- Situation of a device: its active image and its stage.
pub record Situation : Type 0 where
  pub image : List ℕ
  pub stage : Stage

-- Luck of a row, which the medium's writes determine: all of them worked; or one had a fault and the old image is active; or one had a
-- fault and the new image is active.
pub data Luck : Type 0 where
  Works : Luck
  FailsOld : WriteFault → Luck
  FailsNew : WriteFault → Luck

-- Outcome of a row: the reply, and the situation after it.
pub record Outcome : Type 0 where
  pub reply : Reply
  pub after : Situation

-- Outcome of a plan. After a fault the device is in dfuERROR with the fault's code. After a fault in the write of a block the active image
-- stays.
abbrev pub plan_outcome : List ℕ → Plan → Luck → Outcome
plan_outcome image (Sure reply stage) luck = record { reply = reply; after = record { image = image; stage = stage } }
plan_outcome image (Writes before block reply stage bad) Works = record { reply = reply; after = record { image = image; stage = stage } }
plan_outcome image (Writes before block reply stage bad) (FailsOld fault) =
    record { reply = bad fault; after = record { image = image; stage = InError (write_code fault) } }
plan_outcome image (Writes before block reply stage bad) (FailsNew fault) =
    record { reply = bad fault; after = record { image = image; stage = InError (write_code fault) } }
plan_outcome image (Commits taken reply stage bad) Works = record { reply = reply; after = record { image = taken; stage = stage } }
plan_outcome image (Commits taken reply stage bad) (FailsOld fault) =
    record { reply = bad fault; after = record { image = image; stage = InError (commit_code fault) } }
plan_outcome image (Commits taken reply stage bad) (FailsNew fault) =
    record { reply = bad fault; after = record { image = taken; stage = InError (commit_code fault) } }

-- Outcome of the row of a request in a situation, given the luck of the medium.
abbrev pub handled : Profile → Situation → Request → Luck → Outcome
handled c s request luck = plan_outcome s.image (plan c s.image s.stage request) luck

-- Situation after `ms` elapsed milliseconds, given the luck of the medium.
abbrev pub situation_after_ms : Profile → Situation → ℕ → Luck → Situation
situation_after_ms c s ms luck = (plan_outcome s.image (time_plan c s.stage ms) luck).after

-- Situation after a reset of the bus: the image stays, and reset_stage gives the stage.
abbrev pub after_reset : Situation → Situation
after_reset s = record { image = s.image; stage = reset_stage s.stage }

-- Situation after a power cycle: the image stays, and the device is in appIDLE.
abbrev pub situation_after_power : Situation → Situation
situation_after_power s = record { image = s.image; stage = InAppIdle }
