-- Lemmas about writes with the erases before them: the range that they change, and the bytes that they leave.
use Rattle.std.proofs.Common.{◌≡◌, ◌≢◌, inl, ⊎_elim, ◌==◌, Bool, true, false, if◌then◌else◌, ℕ, zero, suc, ◌+◌, ◌%◌, ◌≤◌, List, [], ◌∷◌, ◌++◌, length, slice_range, refl, sym, ◌∙◌, ap, subst, arith}
use Rattle.std.proofs.lemmas.List.{nil_from_length, length-replicate}
use Rattle.std.proofs.lemmas.Bool.{eqb-true, eqb-false}
use Rattle.dfu_slots.specs.Medium.{MediumState, Write, ChangedWithin, AllWrites, written}
use Rattle.dfu_slots.specs.Writes.{erase_write, sector_erases, erasing_write, write_some}
use Rattle.dfu_slots.proofs.BytesOutsideWrite.{written_bytes_in_range, range_kept_outside_write, two_changes_are_one_change, wider_frame_holds}
use Rattle.dfu_slots.proofs.ReadBack.{HasBytesAt, empty_list_is_at_any_place, joined_parts_are_stored}
use Rattle.dfu_slots.proofs.Series.{AllWritesInside, writes_inside_keep_rest, list_has_two_parts, untested_writes_all_worked, chosen_writes_inside, appended_writes_inside}
use Rattle.dfu_slots.proofs.WritesWithinRanges.{empty_write_keeps_all}
use Rattle.dfu_slots.proofs.Sectors.{IsSectorEdge, sector_ends_before_edge}

-- The erases of the sectors that begin in a range lie in every range that contains it and ends at a sector edge.
pub sector_erases_lie_inside : (sector from to : ℕ) → to % sector ≡ 0 → (at n : ℕ) → from ≤ at → at + n ≤ to
    → AllWritesInside from to (sector_erases sector at n)
sector_erases_lie_inside sector from to edge at zero low high = tt
sector_erases_lie_inside sector from to edge at (suc n) low high =
    appended_writes_inside from to (if at % sector == 0 then erase_write sector at ∷ [] else []) (sector_erases sector (at + 1) n)
    (in_either_result (at % sector == 0) refl) (sector_erases_lie_inside sector from to edge (at + 1) n (omega arith) (omega (arith, high)))
  where
    in_either_result : (b : Bool) → (at % sector == 0) ≡ b → AllWritesInside from to (if b then erase_write sector at ∷ [] else [])
    in_either_result true is = (
      low,
      omega (
        arith,
        length-replicate {A = ℕ} sector 255,
        sector_ends_before_edge sector at to (eqb-true _ _ is) edge (omega (
          arith,
          high,
        )),
      ),
      tt,
    )
    in_either_result false is = tt

-- Erases before a write of n bytes; none if the medium has no sectors.
abbrev pub erases_before : ℕ → ℕ → ℕ → List Write
erases_before sector at n = if sector == 0 then [] else sector_erases sector at n

erases_before_write_inside : (sector from to at n : ℕ) → IsSectorEdge sector to → from ≤ at → at + n ≤ to →
    AllWritesInside from to (erases_before sector at n)
erases_before_write_inside sector from to at n edge low high = in_either_result (sector == 0) refl
  where
    in_either_result : (b : Bool) → (sector == 0) ≡ b → AllWritesInside from to (if b then [] else sector_erases sector at n)
    in_either_result true is = tt
    in_either_result false is =
        let some : sector ≢ 0 = eqb-false _ _ is in
        sector_erases_lie_inside sector from to (edge (omega (arith, some))) at n low high

-- A write and the erases before it lie in every range that contains its bytes and ends at a sector edge.
pub write_with_erases_inside : (sector from to at : ℕ) (bytes : List ℕ) → IsSectorEdge sector to → from ≤ at → at + length bytes ≤ to
    → AllWritesInside from to (erasing_write sector at bytes)
write_with_erases_inside sector from to at bytes edge low high =
    appended_writes_inside from to (erases_before sector at (length bytes)) (record { at = at; bytes = bytes } ∷ [])
    (erases_before_write_inside sector from to at (length bytes) edge low high) (low, high, tt)

-- A write of any length, even 0, and the erases before it lie in every range that contains its bytes and ends at a sector edge.
pub write_some_lies_inside : (sector from to at : ℕ) (bytes : List ℕ) → IsSectorEdge sector to → from ≤ at → at + length bytes ≤ to
    → AllWritesInside from to (write_some sector at bytes)
write_some_lies_inside sector from to at bytes edge low high =
    chosen_writes_inside from to (length bytes == 0) [] (erasing_write sector at bytes) tt (write_with_erases_inside sector from to at bytes
    edge low high)

-- A change left `bytes` at `at`, and no byte before `at` changed, nor any byte from `to` on.
abbrev pub LeavesBytesAt : ℕ → ℕ → List ℕ → List ℕ → List ℕ → Type 0
LeavesBytesAt at to bytes old now = ChangedWithin at to old now × HasBytesAt now at bytes

-- If one change leaves the bytes `a`, and the next one leaves `c` directly after them, both together leave `a ++ c`.
pub left_bytes_join : (at to n : ℕ) (a c old mid now : List ℕ) → n ≡ length a → at + length a + length c ≤ to → to ≤ length old
    → LeavesBytesAt at to a old mid → LeavesBytesAt (at + n) to c mid now → LeavesBytesAt at to (a ++ c) old now
left_bytes_join at to n a c old mid now size fits room (first, stands) (second, more) = (
  two_changes_are_one_change at to old mid now first (wider_frame_holds (at + n) to at to mid now second (omega arith) (omega arith)),
  joined_parts_are_stored now at a c (omega (arith, fits, room, first.size, second.size))
      (range_kept_outside_write (at + n) to mid now at (at + length a) second (inl (omega (arith, size))) ∙ stands)
      (subst (λ (k : ℕ). HasBytesAt now (at + k) c) size more),
)

-- A write followed its erases: the erases left the bytes `left`, and the write replaced its range in these bytes.
pub record IsWrittenAfterErases (at to : ℕ) (bytes old now : List ℕ) : Type 0 where
  pub left : List ℕ
  pub erased : ChangedWithin at to old left
  pub is : now ≡ written left at bytes
  pub keeps : ChangedWithin at to old now

module _ (sector to at : ℕ) (bytes : List ℕ) (edge : IsSectorEdge sector to) (high : at + length bytes ≤ to) (s now : MediumState)
    (room : to ≤ length s.bytes) where
  -- A write with its erases replaces its range in the bytes that the erases left. No byte before `at` changes, nor any byte from `to` on.
  pub write_goes_over_erases : AllWrites s (erasing_write sector at bytes) now → IsWrittenAfterErases at to bytes s.bytes now.bytes
  write_goes_over_erases all =
      let parts = list_has_two_parts (erases_before sector at (length bytes)) (record { at = at; bytes = bytes } ∷ []) s now all in
      record {
        left = parts.0.bytes;
        erased = writes_inside_keep_rest at to (erases_before sector at (length bytes)) s parts.0 room
            (erases_before_write_inside sector at to at (length bytes) edge (omega arith) high) parts.1.first;
        is = ap (λ (m : MediumState). m.bytes) parts.1.second.2 ∙ parts.1.second.1.bytes;
        keeps = writes_inside_keep_rest at to (erasing_write sector at bytes) s now room
            (write_with_erases_inside sector at to at bytes edge
            (omega arith) high) all;
      }

  -- A write with its erases leaves its bytes at `at`.
  pub erasing_write_leaves_bytes : AllWrites s (erasing_write sector at bytes) now → LeavesBytesAt at to bytes s.bytes now.bytes
  erasing_write_leaves_bytes all =
      let w = write_goes_over_erases all in (
        w.keeps,
        ap (λ (l : List ℕ). slice_range l at (at + length bytes)) w.is
            ∙ written_bytes_in_range w.left at bytes (omega (arith, w.erased.size, high, room)),
      )

  -- A write of any length, even 0, with its erases leaves its bytes at `at`.
  pub write_some_leaves_bytes : AllWrites s (write_some sector at bytes) now → LeavesBytesAt at to bytes s.bytes now.bytes
  write_some_leaves_bytes all = (
    writes_inside_keep_rest at to (write_some sector at bytes) s now room (write_some_lies_inside sector at to at bytes edge (omega arith)
        high) all,
    ⊎_elim
        (λ none. subst (λ (l : List ℕ). HasBytesAt now.bytes at l) (sym (nil_from_length bytes (eqb-true _ _ none.0)))
        (empty_list_is_at_any_place now.bytes at))
        (λ one. (erasing_write_leaves_bytes one.1).1)
        (untested_writes_all_worked s now (length bytes == 0) (erasing_write sector at bytes) all),
  )

-- On a medium without sectors a write of any length, even 0, stores its bytes and changes no other byte.
pub write_some_is_write_in_place : (s now : MediumState) (at : ℕ) (bytes : List ℕ) → AllWrites s (write_some 0 at bytes) now
    → now.bytes ≡ written s.bytes at bytes
write_some_is_write_in_place s now at bytes all =
    ⊎_elim
    (λ none. ap (λ (m : MediumState). m.bytes) none.1
    ∙ sym (ap (λ (l : List ℕ). written s.bytes at l) (nil_from_length bytes (eqb-true _ _ none.0)) ∙ empty_write_keeps_all s.bytes at))
    (λ one. ap (λ (m : MediumState). m.bytes) one.1.2 ∙ one.1.1.bytes)
    (untested_writes_all_worked s now (length bytes == 0) (record { at = at; bytes = bytes } ∷ []) all)
