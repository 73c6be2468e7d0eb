-- Histories of a device, and the bytes that their last steps gathered.
use Rattle.std.specs.Prelude.{◌≡◌, ℕ, Bool, true, false, List, [], ◌∷◌, ◌++◌}
use Rattle.dfu_device.specs.declared.answer.Answer.{Answer}
use Rattle.dfu_device.specs.DeviceView.{DeviceView}
use Rattle.dfu_device.specs.Rows.{Cause, Row}

-- Step of a history: the device before, a cause, the answer with its bytes, and the device after.
pub record HistoryStep : Type 0 where
  pub before : DeviceView
  pub cause : Cause
  pub answer : Answer
  pub out : List ℕ
  pub after : DeviceView

-- The step is a row of the device table.
abbrev pub IsTableRow : HistoryStep → Type 0
IsTableRow s = Row s.before s.cause s.answer s.out s.after

-- A history leads from device w to w': each step is a row of the table, and begins with the device that the previous step left.
abbrev pub IsHistory : DeviceView → List HistoryStep → DeviceView → Type 0
IsHistory w [] w' = w' ≡ w
IsHistory w (s ∷ rest) w' = (s.before ≡ w) × IsTableRow s × IsHistory s.after rest w'

-- Parts of all steps of a history, concatenated in order.
abbrev pub joined_parts : (HistoryStep → List ℕ) → List HistoryStep → List ℕ
joined_parts part [] = []
joined_parts part (s ∷ rest) = part s ++ joined_parts part rest

-- The test `inside` is true for each step of a history.
abbrev pub AllStepsInside : (HistoryStep → Bool) → List HistoryStep → Type 0
AllStepsInside inside [] = Unit {0}
AllStepsInside inside (s ∷ rest) = (inside s ≡ true) × AllStepsInside inside rest

-- A history gathers these bytes: the parts of the steps after the last step for which `inside` is false, or of all steps if there is none.
pub data Gathered (inside : HistoryStep → Bool) (part : HistoryStep → List ℕ) (h : List HistoryStep) (bytes : List ℕ) : Type 0 where
  -- `inside` is true for every step, so the parts of all steps are gathered.
  from_start : AllStepsInside inside h → bytes ≡ joined_parts part h → Gathered inside part h bytes
  -- `inside` is false for the step `last` and true for every later step, so only the parts of the later steps are gathered.
  since : (old : List HistoryStep) (last : HistoryStep) (recent : List HistoryStep) → h ≡ old ++ last ∷ recent
      → inside last ≡ false → AllStepsInside inside recent → bytes ≡ joined_parts part recent → Gathered inside part h bytes
