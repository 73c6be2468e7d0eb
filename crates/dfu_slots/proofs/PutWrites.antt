-- Lemmas about the writes of a `put`, and the bytes that they leave.
use Rattle.std.proofs.Common.{◌≡◌, Bool, true, false, if◌then◌else◌, ◌==◌, ℕ, ◌+◌, ◌-◌, ◌≤◌, min, List, ◌++◌, length, take, drop, sym, ◌∙◌, ap, subst, arith, length-append, length-drop, take-append-drop}
use Rattle.std.proofs.lemmas.List.{length-take-le, take-take}
use Rattle.dfu_slots.specs.declared.layout.Unit.{Unit as WriteUnit}
use Rattle.dfu_slots.specs.Units.{Grain, unit_size, whole_part}
use Rattle.dfu_slots.specs.Medium.{MediumState, AllWrites, written}
use Rattle.dfu_slots.specs.Writes.{write_some, head_write_size, put_writes, put_rest}
use Rattle.dfu_slots.proofs.Sectors.{IsSectorEdge}
use Rattle.dfu_slots.proofs.Series.{AllWritesInside, list_has_two_parts, appended_writes_inside}
use Rattle.dfu_slots.proofs.WritesWithErases.{LeavesBytesAt, write_some_lies_inside, write_some_leaves_bytes, left_bytes_join, write_some_is_write_in_place}
use Rattle.dfu_slots.proofs.WritesWithinRanges.{two_writes_are_one}

chosen_number_at_most : (b : Bool) (m n k : ℕ) → m ≤ k → n ≤ k → (if b then m else n) ≤ k
chosen_number_at_most true m n k x y = x
chosen_number_at_most false m n k x y = y

module _ (w : Grain) (held bytes : List ℕ) where
  abbrev u : WriteUnit
  u = w.unit

  abbrev all : List ℕ
  all = held ++ bytes

  abbrev whole : ℕ
  whole = whole_part u (length all)

  abbrev head : ℕ
  head = head_write_size u held bytes

  -- The first write of a `put` is not longer than all its whole units.
  pub head_at_most_whole_units : head ≤ whole
  head_at_most_whole_units = chosen_number_at_most (length held == 0) 0 (min (unit_size u) whole) whole (omega arith) (omega arith)

  -- The whole units are not longer than the held bytes and the block together.
  pub whole_units_at_most_length : whole ≤ length all
  whole_units_at_most_length = omega arith

  -- The number of bytes held back is the number of all bytes minus that of the whole units.
  pub put_rest_is_all_but_units : length (put_rest u held bytes) ≡ length all - whole
  put_rest_is_all_but_units = length-drop whole all

  head_and_units_are_whole : take head all ++ drop head (take whole all) ≡ take whole all
  head_and_units_are_whole = ap (λ (l : List ℕ). l ++ drop head (take whole all)) (sym (take-take head whole all head_at_most_whole_units))
      ∙ take-append-drop head (take whole all)

  -- The first write has exactly `head` bytes.
  pub head_write_has_head : length (take head all) ≡ head
  head_write_has_head = length-take-le head all (omega (arith, head_at_most_whole_units, whole_units_at_most_length))

  whole_units_taken_length : length (take whole all) ≡ whole
  whole_units_taken_length = length-take-le whole all whole_units_at_most_length

  -- The second write has the remaining bytes of the whole units.
  pub further_units_are_rest : length (drop head (take whole all)) ≡ whole - head
  further_units_are_rest = length-drop head (take whole all) ∙ ap (λ (n : ℕ). n - head) whole_units_taken_length

  abbrev back : List ℕ
  back = drop head (take whole all)

  -- The writes of a `put` lie in every range that contains the held bytes and the block and ends at a sector edge.
  pub put_writes_lie_inside : (from to at : ℕ) → IsSectorEdge w.sector to → from ≤ at → at + length all ≤ to
      → AllWritesInside from to (put_writes w at held bytes)
  put_writes_lie_inside from to at edge low high =
      appended_writes_inside from to (write_some w.sector at (take head all)) (write_some w.sector (at + head) back)
      (write_some_lies_inside w.sector from to at (take head all) edge low (omega (
        arith,
        high,
        head_write_has_head,
        head_at_most_whole_units,
        whole_units_at_most_length,
      )))
      (write_some_lies_inside w.sector from to (at + head) back edge (omega (arith, low))
      (omega (arith, high, further_units_are_rest, head_at_most_whole_units, whole_units_at_most_length)))

  module _ (s now : MediumState) (to at : ℕ) (edge : IsSectorEdge w.sector to) (high : at + length all ≤ to) (room : to ≤ length s.bytes)
      (came : AllWrites s (put_writes w at held bytes) now) where
    -- After the writes of a `put` all whole units are on the medium, and no byte before them changed.
    pub put_leaves_whole_units : LeavesBytesAt at to (take whole all) s.bytes now.bytes
    put_leaves_whole_units =
        let parts = list_has_two_parts (write_some w.sector at (take head all)) (write_some w.sector (at + head) back) s now came in
        let mid = parts.0 in
        let first = write_some_leaves_bytes w.sector to at (take head all) edge (omega (
          arith,
          high,
          head_write_has_head,
          head_at_most_whole_units,
          whole_units_at_most_length,
        )) s mid room
        parts.1.first in
        let second = write_some_leaves_bytes w.sector to (at + head) back edge (omega (
          arith,
          high,
          further_units_are_rest,
          head_at_most_whole_units,
          whole_units_at_most_length,
        )) mid now
        (omega (arith, room, first.0.size)) parts.1.second in
        subst (λ (l : List ℕ). LeavesBytesAt at to l s.bytes now.bytes) head_and_units_are_whole
        (left_bytes_join at to head (take head all) back s.bytes mid.bytes now.bytes (sym head_write_has_head)
        (omega (arith, high, head_write_has_head, further_units_are_rest, head_at_most_whole_units, whole_units_at_most_length)) room first
        second)

  -- On a medium without sectors a `put` leaves the same bytes as one write of all whole units.
  pub put_is_one_write_in_place : (s now : MediumState) (at : ℕ) → w.sector ≡ 0 → at + length all ≤ length s.bytes
      → AllWrites s (put_writes w at held bytes) now → now.bytes ≡ written s.bytes at (take whole all)
  put_is_one_write_in_place s now at none fits came =
      let plain : AllWrites s (write_some 0 at (take head all) ++ write_some 0 (at + head) back) now =
      subst (λ (n : ℕ). AllWrites s (write_some n at (take head all) ++ write_some n (at + head) back) now) none came in
      let parts = list_has_two_parts (write_some 0 at (take head all)) (write_some 0 (at + head) back) s now plain in
      let half = parts.0 in
      let one : half.bytes ≡ written s.bytes at (take head all) = write_some_is_write_in_place s half at (take head all) parts.1.first in
      let two : now.bytes ≡ written half.bytes (at + head) back = write_some_is_write_in_place half now (at + head) back parts.1.second in
      two
      ∙ (λ i. written (one i) (at + sym head_write_has_head i) back)
      ∙ two_writes_are_one s.bytes at (take head all) back
      (omega (arith, fits, head_write_has_head, further_units_are_rest, head_at_most_whole_units, whole_units_at_most_length))
      ∙ ap (λ (l : List ℕ). written s.bytes at l) head_and_units_are_whole

  -- Writing the whole units and then the bytes held back is the same as writing all bytes.
  pub put_with_rest_is_all_bytes : (d : List ℕ) (k : ℕ) → k + length all ≤ length d
      → written (written d k (take whole all)) (k + whole) (put_rest u held bytes) ≡ written d k all
  put_with_rest_is_all_bytes d k fits =
      (λ i. written (written d k (take whole all)) (k + sym whole_units_taken_length i) (drop whole all))
      ∙ two_writes_are_one d k (take whole all) (drop whole all) (omega (
        arith,
        fits,
        whole_units_taken_length,
        put_rest_is_all_but_units,
        whole_units_at_most_length,
      ))
      ∙ ap (λ (l : List ℕ). written d k l) (take-append-drop whole all)

  -- Writing all bytes is the same as writing the held bytes and then the bytes of the put.
  pub put_follows_held_bytes : (d : List ℕ) (k : ℕ) → k + length all ≤ length d → written d k all
      ≡ written (written d k held) (k + length held) bytes
  put_follows_held_bytes d k fits = sym (two_writes_are_one d k held bytes (omega (arith, fits, length-append held bytes)))
