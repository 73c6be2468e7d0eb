-- Lines of a log, read one byte at a time.
use Rattle.std.specs.Prelude.{◌≡◌, ◌≢◌, ℕ, ◌+◌, ◌<◌, ◌≤◌, ◌==◌, Bool, true, false, List, [], ◌∷◌, ◌++◌, length, Option, Some, None}
use Rattle.std.specs.List.{list_any}
use Rattle.dfu_conformance.specs.declared.log.Line.{Line}
use Rattle.dfu_conformance.specs.declared.log.LineFault.{LineFault}
use Rattle.dfu_conformance.specs.declared.log.LineFault.TheVariants.{Long}
use Rattle.dfu_conformance.specs.Line.{LineMeaning, why_unread}
use Rattle.dfu_output.specs.declared.judge.fault.LogFault.{LogFault}
use Rattle.dfu_output.specs.declared.judge.fault.LogFault.TheVariants.{BadLine, TooLarge}

-- State of a reader of lines: the open line, the number of bytes that the log may still have, and the number of lines that have ended.
pub record LinesState : Type 0 where
  -- Bytes of the open line.
  pub line : List ℕ
  -- Number of bytes that the log may still have.
  pub room : ℕ
  -- Number of lines that have ended.
  pub number : ℕ

-- A byte other than 0Ah is added to the open line. The log and the line have room for it; a line has at most 262,158 bytes.
pub record ByteInLine (s t : LinesState) (byte : ℕ) : Type 0 where
  -- The log's room shrinks by one byte.
  pub room : t.room + 1 ≡ s.room
  -- The byte isn't 0Ah.
  pub inner : byte ≢ 10
  -- The line has room for the byte.
  pub short : length s.line < 262158
  -- The byte is added to the end of the line.
  pub line : t.line ≡ s.line ++ byte ∷ []
  -- The number of ended lines stays unchanged.
  pub number : t.number ≡ s.number

-- True if the byte is 0Ah, which ends a line.
abbrev pub is_end : ℕ → Bool
is_end byte = byte == 10

-- Bytes other than 0Ah are added to the open line. The log and the line have room for them.
pub record BytesInLine (s t : LinesState) (bytes : List ℕ) : Type 0 where
  -- The log's room shrinks by the number of these bytes.
  pub room : t.room + length bytes ≡ s.room
  -- None of the bytes is 0Ah.
  pub inner : list_any is_end bytes ≡ false
  -- The line has room for the bytes.
  pub short : length s.line + length bytes ≤ 262158
  -- The bytes are added to the end of the line.
  pub line : t.line ≡ s.line ++ bytes
  -- The number of ended lines stays unchanged.
  pub number : t.number ≡ s.number

-- The byte 0Ah ends the open line, whose meaning is `says`. The log has room for the byte, and the next line is empty.
pub record ByteEndsLine (interface : ℕ) (s t : LinesState) (byte : ℕ) (says : Line) : Type 0 where
  -- The log's room shrinks by one byte.
  pub room : t.room + 1 ≡ s.room
  -- The byte is 0Ah.
  pub end : byte ≡ 10
  -- The line has the meaning `says`.
  pub said : LineMeaning interface s.line (Some says)
  -- The next line is empty.
  pub line : t.line ≡ []
  -- The line that ended is counted.
  pub number : t.number ≡ s.number + 1

-- The byte was accepted: it was added to the open line, or it ended the line with the meaning `says`.
abbrev pub ByteAccepted : (interface : ℕ) (s t : LinesState) (byte : ℕ) → Option Line → Type 0
ByteAccepted interface s t byte None = ByteInLine s t byte
ByteAccepted interface s t byte (Some says) = ByteEndsLine interface s t byte says

-- True if the first byte is a line feed, 0Ah; false if there are no bytes.
abbrev pub next_is_line_feed : List ℕ → Bool
next_is_line_feed [] = false
next_is_line_feed (byte ∷ bytes) = byte == 10

-- The open line is bad: it ends here and has no meaning, or it has 262,158 bytes and doesn't end here.
abbrev pub IsBadLine : (interface : ℕ) (line rest : List ℕ) → LineFault → Type 0
IsBadLine interface line rest Long = (length line ≡ 262158) × (next_is_line_feed rest ≡ false)
IsBadLine interface line rest why = LineMeaning interface line None × (why ≡ why_unread line) × (next_is_line_feed rest ≡ true)

-- The first byte of `rest` isn't accepted because of this fault: the log has no room for it, or its line is bad.
abbrev pub ByteRefused : (interface : ℕ) → LinesState → (rest : List ℕ) → LogFault → Type 0
ByteRefused interface s rest (BadLine n why) = (n ≡ s.number + 1) × IsBadLine interface s.line rest why
ByteRefused interface s rest TooLarge = s.room ≡ 0
ByteRefused interface s rest fault = ⊥
