-- The phases of a session after the close, in which the device has the whole payload and must install it.
use Rattle.std.specs.Prelude.{Bool, true, false}
use Rattle.dfu_host.specs.Phases.{Goal, LoadGoal, FetchGoal, VerifyGoal, CompareGoal, Phase}
use Rattle.dfu_host.specs.PhaseClasses.{Common, Sending, Closing, Manifesting, Fetching, Comparing, Ending, EndingUpload, Ended, EndedUpload, class_of}

-- True if a session with this goal still has to install a payload.
abbrev pub goal_installs : Goal → Bool
goal_installs (LoadGoal payload) = true
goal_installs FetchGoal = false
goal_installs (VerifyGoal payload) = true
goal_installs (CompareGoal payload) = false

-- True if the close is done: the host requests the status of the new image or waits for it, or is about to do the last reset of a download.
abbrev pub is_behind_close : Goal → Phase → Bool
is_behind_close goal phase = elim (class_of phase) [
  | Common ↦ false
  | Sending n ↦ false
  | Closing ↦ false
  | Manifesting ↦ true
  | Fetching k kept ↦ false
  | Comparing k ↦ false
  | Ending report ↦ goal_installs goal
  | EndingUpload kept ↦ false
  | Ended report ↦ false
  | EndedUpload kept ↦ false
]
