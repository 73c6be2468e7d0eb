-- Lemmas about writes that keep the size of a medium.
use Rattle.std.proofs.Common.{◌≡◌, ◌≢◌, ◌==◌, false, ◌∙◌, ℕ, ◌+◌, ◌≤◌, ◌<◌, List, [], ◌∷◌, ◌++◌, length, ap, arith}
use Rattle.std.proofs.lemmas.Bool.{cond-false, ne_eqb}
use Rattle.dfu_slots.specs.Medium.{MediumState, Write, AllWrites}
use Rattle.dfu_slots.specs.Image.{IsSizedMedium}
use Rattle.dfu_slots.specs.Writes.{sector_erases, erasing_write, write_some}
use Rattle.dfu_slots.proofs.Series.{SameSize, all_writes_keep_size}
use Rattle.dfu_slots.proofs.WritesWithErases.{sector_erases_lie_inside, write_some_lies_inside}
use Rattle.dfu_slots.proofs.Edges.{sized_medium_ends_at_edge}

-- The erases before a write keep the size of a medium.
pub erases_keep_size : (m mid : MediumState) (at n : ℕ) → IsSizedMedium m → 0 < m.grain.sector → at + n ≤ length m.bytes
    → AllWrites m (sector_erases m.grain.sector at n) mid → SameSize m mid
erases_keep_size m mid at n sized some fits all = all_writes_keep_size (sector_erases m.grain.sector at n) m mid
    (sector_erases_lie_inside m.grain.sector 0 (length m.bytes) (sized_medium_ends_at_edge m sized some) at n (omega arith) fits) all

module _ (m mid : MediumState) (at : ℕ) (bytes : List ℕ) (sized : IsSizedMedium m) (fits : at + length bytes ≤ length m.bytes) where
  -- A write of any length, even 0, with its erases keeps the size of a medium.
  pub write_some_keeps_size : AllWrites m (write_some m.grain.sector at bytes) mid → SameSize m mid
  write_some_keeps_size all = all_writes_keep_size (write_some m.grain.sector at bytes) m mid
      (write_some_lies_inside m.grain.sector 0 (length m.bytes) at bytes (sized_medium_ends_at_edge m sized) (omega arith) fits) all

-- On a medium with sectors erasing_write makes the erases of the range and then one write.
pub erasing_write_with_sectors : (sector at : ℕ) (bytes : List ℕ) → sector ≢ 0
    → erasing_write sector at bytes ≡ sector_erases sector at (length bytes) ++ record { at = at; bytes = bytes } ∷ []
erasing_write_with_sectors sector at bytes some = ap (λ (ws : List Write). ws ++ record { at = at; bytes = bytes } ∷ [])
    (cond-false (sector == 0) [] (sector_erases sector at (length bytes)) (ne_eqb sector 0 some))

-- On a medium with sectors write_some of at least one byte makes the erases of the range and then one write.
pub write_some_with_sectors : (sector at : ℕ) (bytes : List ℕ) → (length bytes == 0) ≡ false → sector ≢ 0
    → write_some sector at bytes ≡ sector_erases sector at (length bytes) ++ record { at = at; bytes = bytes } ∷ []
write_some_with_sectors sector at bytes filled some =
    cond-false (length bytes == 0) [] (erasing_write sector at bytes) filled ∙ erasing_write_with_sectors sector at bytes some
