-- The limit of a text, and the line in which reading it stops.
use Rattle.std.specs.Prelude.{◌≡◌, ℕ, ◌-◌, ◌<◌, ◌≤◌, List, ◌∷◌, ◌++◌, length, take, true, Option, None}
use Rattle.dfu_link.specs.Words.{has_no_newline, lines_of}
use Rattle.dfu_link.specs.Lines.{line_of}
use Rattle.dfu_link.specs.declared.scripting.fault.ScriptFault.{ScriptFault}
use Rattle.dfu_link.specs.declared.scripting.fault.ScriptFault.TheVariants.{BadLine, TooLarge, Read}

-- The text begins with `lines`, which end within its first 16,777,216 bytes; `left` is the rest of the text.
pub record HasFrontLines (text : List ℕ) (lines : List (List ℕ)) : Type 0 where
  pub front : List ℕ
  pub left : List ℕ
  pub split : text ≡ front ++ left
  pub are : lines_of text ≡ lines ++ lines_of left
  pub within : length front ≤ 16777216

-- The rest of a text exceeds its limit of `room` bytes in its first line: the rest is longer, the first line doesn't end within `room`
-- bytes, and `room` is at most 65,536, the limit of a line.
pub record ExceedsLimit (room : ℕ) (left : List ℕ) : Type 0 where
  pub over : room < length left
  pub short : room ≤ 65536
  pub no_end : has_no_newline (take room left) ≡ true

-- Reading stops with the fault in the first line of the rest of a text. With TooLarge the rest exceeds the limit. With any other fault but
-- Read, the rest does not exceed it.
abbrev pub ReadingIsStopped : ℕ → List ℕ → ScriptFault → Type 0
ReadingIsStopped room left TooLarge = ExceedsLimit room left
ReadingIsStopped room left Read = Unit {0}
ReadingIsStopped room left fault = ¬ ExceedsLimit room left

-- Reading a text stops in the line after `lines`.
abbrev pub ReadingStopsAfter : List ℕ → List (List ℕ) → ScriptFault → Type 0
ReadingStopsAfter text lines fault = (b : HasFrontLines text lines) × ReadingIsStopped (16777216 - length b.front) b.left fault

-- No line of the language is read from the rest of a text, whose first line is line k: the text exceeds its limit, the reader fails, or
-- line k is not of the language.
abbrev pub NoLineRead : (given : Option (List ℕ)) → ℕ → List (List ℕ) → ScriptFault → Type 0
NoLineRead given k lines TooLarge = Unit {0}
NoLineRead given k lines Read = Unit {0}
NoLineRead given k (line ∷ lines) (BadLine n) = (n ≡ k) × (line_of given line ≡ None)
NoLineRead given k lines fault = ⊥
