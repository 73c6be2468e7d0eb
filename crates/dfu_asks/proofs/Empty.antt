-- A job whose writes contain no bytes has no writes.
use Rattle.std.proofs.Common.{◌≡◌, ◌==◌, inl, inr, Bool, true, false, if◌then◌else◌, ℕ, ◌+◌, ◌≤◌, ◌<◌, List, [], ◌∷◌, ◌++◌, length, take, drop, replicate, refl, arith}
use Rattle.std.proofs.lemmas.Bool.{cases_eq, eqb-false}
use Rattle.std.proofs.lemmas.List.{length-replicate}
use Rattle.dfu_slots.specs.Units.{Grain, gate_size, gate_room, whole_part}
use Rattle.dfu_slots.specs.Layout.{OPEN, gate_unit, header_unit}
use Rattle.dfu_slots.specs.Medium.{Write}
use Rattle.dfu_slots.specs.Writes.{sector_erases, closed_gate, erasing_write, write_some, head_write_size, put_writes, held_writes, open_writes}
use Rattle.dfu_slots.proofs.Parts.{gate_unit_has_size, header_unit_has_size}
use Rattle.dfu_slots.proofs.Sectors.{gate_unit_at_least_16}
use Rattle.dfu_asks.specs.declared.pending_writes.SlotWrite.{SlotWrite}
use Rattle.dfu_asks.specs.declared.pending_writes.SlotWrite.TheVariants.{Block, Commit}
use Rattle.dfu_asks.specs.Carried.{total}
use Rattle.dfu_asks.specs.Jobs.{held_bytes_place, job_writes}
use Rattle.dfu_asks.proofs.Pieces.{list_totals_add_up}

-- A write preceded by its erases has at least as many bytes as the write alone.
write_anew_has_its_bytes : (sector at : ℕ) (bytes : List ℕ) → length bytes ≤ total (erasing_write sector at bytes)
write_anew_has_its_bytes sector at bytes = omega (
  arith,
  list_totals_add_up (if sector == 0 then [] else sector_erases sector at (length bytes)) (record { at = at; bytes = bytes } ∷ []),
)

-- `write_some` makes no write if its writes contain no bytes.
empty_write_some_has_no_write : (sector at : ℕ) (bytes : List ℕ) → total (write_some sector at bytes) ≤ 0 → write_some sector at bytes ≡ []
empty_write_some_has_no_write sector at bytes = by_test (length bytes == 0) refl
  where
    by_test : (b : Bool) → (length bytes == 0) ≡ b → total (if b then [] else erasing_write sector at bytes) ≤ 0
        → ◌≡◌ {A = List Write} (if b then [] else erasing_write sector at bytes) []
    by_test true e le = refl
    by_test false e le = absurd (eqb-false (length bytes) 0 e (omega (arith, le, write_anew_has_its_bytes sector at bytes)))

-- Suppose that each of two lists is empty if its writes have 0 bytes. Then the joined list is empty if its writes have 0 bytes.
empty_lists_join_empty : (xs ys : List Write) → (total xs ≤ 0 → xs ≡ []) → (total ys ≤ 0 → ys ≡ []) → total (xs ++ ys) ≤ 0 → xs ++ ys ≡ []
empty_lists_join_empty xs ys first second le =
    let count = list_totals_add_up xs ys in
    λ i. first (omega (arith, le, count)) i ++ second (omega (arith, le, count)) i

-- The write that closes a gate has at least one byte.
closed_gate_has_bytes : (w : Grain) → 0 < length (closed_gate w)
closed_gate_has_bytes w = by_test (w.sector == 0) refl
  where
    some : (n : ℕ) {k : ℕ} → (n ≡ 0 → ⊥) → k ≡ n → 0 < k
    some n not_none size = elim (cases_eq n 0) [
      | inl none ↦ absurd (not_none none)
      | inr more ↦ omega (arith, more, size)
    ]

    by_test : (b : Bool) → (w.sector == 0) ≡ b → 0 < length (if b then gate_unit (gate_size w.unit) 0 else replicate w.sector 255)
    by_test true e = omega (arith, gate_unit_has_size (gate_size w.unit) 0 (gate_unit_at_least_16 w.unit), gate_unit_at_least_16 w.unit)
    by_test false e = some w.sector (eqb-false w.sector 0 e) (length-replicate {A = ℕ} w.sector 255)

-- If the optional write that closes a gate has 0 bytes, there is no such write.
empty_close_has_no_write : (w : Grain) (at : ℕ) (close : Bool) →
    let shut : List Write = if close then record { at = at; bytes = closed_gate w } ∷ [] else [] in total shut ≤ 0 → shut ≡ []
empty_close_has_no_write w at true le = absurd (omega (arith, le, closed_gate_has_bytes w))
empty_close_has_no_write w at false le = refl

-- Opening a slot writes at least one byte.
open_writes_have_bytes : (w : Grain) (at gen len crc : ℕ) → 0 < total (open_writes w at gen len crc)
open_writes_have_bytes w at gen len crc =
    let header = header_unit (gate_size w.unit) gen len crc in
    omega (
      arith,
      list_totals_add_up (erasing_write w.sector (at + gate_room w) header) (erasing_write w.sector at (gate_unit (gate_size w.unit) OPEN)),
      write_anew_has_its_bytes w.sector (at + gate_room w) header,
      header_unit_has_size (gate_size w.unit) gen len crc (gate_unit_at_least_16 w.unit),
      gate_unit_at_least_16 w.unit,
    )

pub empty_job_has_no_writes : (j : SlotWrite) (w : Grain) (end : ℕ) (held block : List ℕ) → total (job_writes j w end held block) ≤ 0
    → job_writes j w end held block ≡ []
empty_job_has_no_writes (Block spare close) w end held block le =
    let at = held_bytes_place w spare end held in
    let all = held ++ block in
    let head = head_write_size w.unit held block in
    empty_lists_join_empty (if close then record { at = spare; bytes = closed_gate w } ∷ [] else []) (put_writes w at held block)
    (empty_close_has_no_write w spare close)
    (empty_lists_join_empty (write_some w.sector at (take head all))
    (write_some w.sector (at + head) (drop head (take (whole_part w.unit (length all)) all)))
    (empty_write_some_has_no_write w.sector at (take head all))
    (empty_write_some_has_no_write w.sector (at + head) (drop head (take (whole_part w.unit (length all)) all)))) le
empty_job_has_no_writes (Commit spare gen crc) w end held block le =
    absurd (omega (
      arith,
      le,
      list_totals_add_up (held_writes w (held_bytes_place w spare end held) held) (open_writes w spare gen end crc),
      open_writes_have_bytes w spare gen end crc,
    ))
