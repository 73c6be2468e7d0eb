-- Lines that a source reads from a text.
use Rattle.std.specs.Prelude.{◌≡◌, ℕ, ◌+◌, ◌<◌, List, [], ◌∷◌, ◌++◌, length, Option, Some, None, IfSome, ⊤, Bool, true, false, if◌then◌else◌, ◌≤◌}
use Rattle.std.specs.Io.KnownBytes.{Consumes, IsAtEnd, prepend_known}
use Rattle.dfu_link.specs.Words.{has_no_newline, lines_of}
use Rattle.dfu_link.specs.TextLimit.{ExceedsLimit, ReadingIsStopped, NoLineRead}
use Rattle.dfu_link.specs.declared.scripting.fault.ScriptFault.{ScriptFault}

-- Bytes in the buffer, and all bytes that were not taken yet, if the reader's text is known.
pub record PiecesState : Type 0 where
  pub ready : List ℕ
  pub left : Option (List ℕ)

-- Bytes in the buffer, followed by the rest of the reader's text, if that is known.
abbrev pub pieces_state : List ℕ → Option (List ℕ) → PiecesState
pieces_state ready given = record { ready = ready; left = prepend_known ready given }

-- State of a source: the rest of the text, if it is known, the number of bytes that the source may still take, the number of the current
-- line, and that line.
pub record SourceState : Type 0 where
  pub left : Option (List ℕ)
  pub room : ℕ
  pub number : ℕ
  pub line : List ℕ

-- State of a source by its rest, its room, the number of the current line, and that line.
abbrev pub source_state : Option (List ℕ) → ℕ → ℕ → List ℕ → SourceState
source_state left room number line = record { left = left; room = room; number = number; line = line }

-- A piece of `bytes` bytes was taken from the text and appended to the line. If the piece ends the line, its last byte is the line feed,
-- which is not appended.
pub record PieceRead (left : Option (List ℕ)) (line : List ℕ) (bytes : ℕ) (ended : Bool) (left' : Option (List ℕ)) (line' : List ℕ)
    : Type 0 where
  pub piece : List ℕ
  pub longer : line' ≡ line ++ piece
  pub no_end : has_no_newline piece ≡ true
  pub short : length line' + (if ended then 1 else 0) ≤ 65537
  pub count : bytes ≡ length piece + (if ended then 1 else 0)
  pub some : 0 < bytes
  pub taken : Consumes left left' (if ended then piece ++ 10 ∷ [] else piece)

-- The lines were read from the front of a text, and the room shrank by the bytes that they took.
pub record LinesRead (text : List ℕ) (room : ℕ) (lines : List (List ℕ)) (left : List ℕ) (room' : ℕ) : Type 0 where
  pub front : List ℕ
  pub split : text ≡ front ++ left
  pub are : lines_of text ≡ lines ++ lines_of left
  pub rooms : room ≡ length front + room'

-- If the text is known, the lines were read from it, and the rest is known.
abbrev pub LinesReadFrom : Option (List ℕ) → ℕ → List (List ℕ) → Option (List ℕ) → ℕ → Type 0
LinesReadFrom None room lines left room' = ⊤
LinesReadFrom (Some text) room lines None room' = ⊥
LinesReadFrom (Some text) room lines (Some left) room' = LinesRead text room lines left room'

-- A source read these lines in their order.
pub record SourceLines (s : SourceState) (lines : List (List ℕ)) (s' : SourceState) : Type 0 where
  pub count : s'.number ≡ s.number + length lines
  pub takes : LinesReadFrom s.left s.room lines s'.left s'.room

-- A source read one line, which ends within the limit.
pub record SourceLine (s s' : SourceState) : Type 0 where
  pub gives : SourceLines s (s'.line ∷ []) s'
  pub ends : IfSome s.left (λ left. ¬ ExceedsLimit s.room left)
  pub less : s'.room < s.room

-- A source read its next line, or is at its end.
abbrev pub NextLineOrEnd : SourceState → Bool → SourceState → Type 0
NextLineOrEnd s true s' = SourceLine s s'
NextLineOrEnd s false s' = IsAtEnd s.left

-- If the text is known, reading the next line of a source stops with the fault.
abbrev pub SourceStops : (given : Option (List ℕ)) → SourceState → ScriptFault → Type 0
SourceStops given s fault =
    IfSome s.left (λ left. ReadingIsStopped s.room left fault × NoLineRead given (s.number + 1) (lines_of left) fault)
