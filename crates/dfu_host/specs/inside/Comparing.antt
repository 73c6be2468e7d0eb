-- Meaning of a part of an image in a comparison.
use Rattle.std.specs.Prelude.{◌≡◌, ℕ, Bool, List, [], length, slice_index_or}
use Rattle.std.specs.Str.{bytes_eq}
use Rattle.dfu_host.specs.declared.phase.Phase.{Phase}
use Rattle.dfu_host.specs.declared.phase.Phase.TheVariants as phase
use Rattle.dfu_host.specs.declared.heard.Heard.{Heard}
use Rattle.dfu_host.specs.Phases.{Task}
use Rattle.dfu_host.specs.Table.{session_blocks}
use Rattle.dfu_host.specs.inside.PartMemory.{Came, HeardPartCompared, HeardPartWithoutRoom, HeardNoPart, part_heard}

-- The part was compared with block k of the payload, which is empty beyond the last block. `same` is true if the part equals the block, and
-- `len` is the part's length.
pub record IsCompared (task : Task) (k : ℕ) (part : List ℕ) (same : Bool) (len : ℕ) : Type 0 where
  pub is_same : bytes_eq part (slice_index_or (session_blocks task) k []) ≡ same
  pub size : length part ≡ len

-- Part k of a comparison means the result of comparing the part, and not its length alone.
abbrev pub ComparesPart : Task → (k : ℕ) → (part : List ℕ) → Heard → Type 0
ComparesPart task k part word = elim (part_heard word) [
  | Came len ↦ ⊥
  | HeardPartCompared same len ↦ IsCompared task k part same len
  | HeardPartWithoutRoom ↦ Unit {0}
  | HeardNoPart ↦ Unit {0}
]

-- In a phase that compares, a part means the result of comparing the part. Other phases are not constrained here.
abbrev pub ComparedMeaning : Task → Phase → (part : List ℕ) → Heard → Type 0
ComparedMeaning task (phase.Compare k) part word = ComparesPart task k part word
ComparedMeaning task phase part word = Unit {0}
