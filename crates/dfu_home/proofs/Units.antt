-- Bytes that a copy programs, and the operations that program them.
use Rattle.std.proofs.Common.{◌≡◌, inl, inr, ℕ, ◌+◌, ◌-◌, ◌*◌, ◌≤◌, ◌==◌, List, [], ◌∷◌, ◌++◌, length, take, drop, replicate, Option, if◌then◌else◌, refl, sym, ◌∙◌, ap, subst, arith}
use Rattle.std.proofs.lemmas.List.{drop-replicate, take-replicate, take_all}
use Rattle.std.proofs.lemmas.Bool.{cond-false, ne_eqb}
use Rattle.std.proofs.Math.Seq.{take-append-add}
use Rattle.dfu_suffix.specs.Register.{register}
use Rattle.dfu_slots.specs.Units.{gate_size}
use Rattle.dfu_slots.specs.Medium.{MediumState}
use Rattle.dfu_slots.specs.Layout.{OPEN, generation, next_generation, header_length, gate_unit, header_unit}
use Rattle.dfu_slots.specs.Image.{gate_of}
use Rattle.dfu_slots.proofs.Sectors.{gate_room_at_least_16}
use Rattle.dfu_boot.specs.install.Area.{program_piece}
use Rattle.dfu_boot.specs.install.Next.{IsNextDue as Fills}
use Rattle.dfu_boot.specs.declared.install.due.Due.{Due as FillDue}
use Rattle.dfu_home.specs.declared.due.Due.{Due}
use Rattle.dfu_home.specs.declared.due.Due.TheVariants.{Refuse, Home, Erase, Program}
use Rattle.dfu_home.specs.Places.{first_of, second_slot_of, away_image, HasCopiedBytes, last_in_data}
use Rattle.dfu_home.specs.Next.{IsByteCopyDue, IsHeaderOrGateDue, IsCopyDue, program_bytes}

-- After bytes are copied to the front of a buffer of 256 zeros, the buffer contains these bytes, and zeros after them.
pub unit_buffer_is_padded : (bytes copied : List ℕ) → copied ≡ bytes
    → copied ++ drop (length bytes) (replicate 256 0) ≡ bytes ++ replicate (256 - length bytes) 0
unit_buffer_is_padded bytes copied is = λ i. is i ++ drop-replicate (length bytes) 256 0 i

-- If a buffer contains `front` and zeros after it, so do its first `len` bytes, unless `front` has more than `len` bytes.
pub unit_buffer_begins_padded : (front after : List ℕ) (len : ℕ) → after ≡ front ++ replicate (256 - length front) 0 → length front ≤ len →
    len ≤ 256
    → take len after ≡ front ++ replicate (len - length front) 0
unit_buffer_begins_padded front after len is low high =
    let zeros : List ℕ = replicate (256 - length front) 0 in
    let e : len ≡ length front + (len - length front) = omega (arith, low) in
    ap (λ (l : List ℕ). take len l) is ∙ ap (λ (k : ℕ). take k (front ++ zeros)) e ∙ take-append-add front zeros (len - length front)
    ∙ ap (λ (l : List ℕ). front ++ l) (take-replicate (len - length front) (256 - length front) 0 (omega (arith, low, high)))

module _ (m : MediumState) where
  abbrev g : ℕ
  g = gate_of m

  abbrev size : ℕ
  size = gate_size m.grain.unit

  abbrev header_unit_bytes : List ℕ
  header_unit_bytes = header_unit size (next_generation (generation (second_slot_of m))) (header_length (second_slot_of m))
      (register (away_image m))

  -- A piece of the image equals the bytes of the program at the piece's offset.
  piece_is_program_bytes : (d : ℕ) → program_piece (away_image m) d ≡ program_bytes m (2 * g + d)
  piece_is_program_bytes d =
      let at = 2 * g + d in
      let wide = gate_room_at_least_16 m.grain in
      let e : at - 2 * g ≡ d = omega arith in
      sym (cond-false (at == 0) (gate_unit size OPEN) (if at == g then header_unit_bytes else program_piece (away_image m) (at - 2 * g))
      (ne_eqb at 0 (λ none. omega (arith, none, wide)))
      ∙ cond-false (at == g) header_unit_bytes (program_piece (away_image m) (at - 2 * g)) (ne_eqb at g (λ is. omega (arith, is, wide)))
      ∙ ap (λ (k : ℕ). program_piece (away_image m) k) e)

  -- The next operation that fills a run area with the image of the second slot is the next byte copy, if the run area has the bytes of the
  -- first slot's data.
  pub copies : (image run : List ℕ) (sector : ℕ) (last shown : Option ℕ) (due : FillDue) → image ≡ away_image m
      → run ≡ (first_of m).data_bytes → sector ≡ m.grain.sector → shown ≡ last_in_data (2 * g) last → Fills image run sector shown due
      → IsByteCopyDue m last due
  copies image run sector last shown due is data_is sector_is shown_is does =
      subst (λ (l : List ℕ). Fills l (first_of m).data_bytes m.grain.sector (last_in_data (2 * g) last) due) is
      (subst (λ (l : List ℕ). Fills image l m.grain.sector (last_in_data (2 * g) last) due) data_is
      (subst (λ (n : ℕ). Fills image run n (last_in_data (2 * g) last) due) sector_is
      (subst (λ (o : Option ℕ). Fills image run sector o due) shown_is does)))

  -- A buffer of 256 bytes with a piece of the image contains the bytes of the program at the piece's offset.
  pub filled_piece_is_program_bytes : (image after : List ℕ) (d : ℕ) → image ≡ away_image m → after ≡ program_piece image d →
      length after ≡ 256
      → take 256 after ≡ program_bytes m (2 * g + d)
  filled_piece_is_program_bytes image after d is made long =
      ap (λ (k : ℕ). take k after) (sym long) ∙ whole after ∙ made ∙ ap (λ (l : List ℕ). program_piece l d) is ∙ piece_is_program_bytes d
    where
      whole : (l : List ℕ) → take (length l) l ≡ l
      whole l = take_all (length l) l (omega arith)

  -- Once the bytes are copied, the next operation of the header or the gate is the next operation of the copy.
  pub header_due_is_copy_due : (last : Option ℕ) (due : Due) → HasCopiedBytes m → IsHeaderOrGateDue m last due → IsCopyDue m last due
  header_due_is_copy_due last (Refuse refusal) bytes head = head
  header_due_is_copy_due last Home bytes head = head
  header_due_is_copy_due last (Erase at) bytes (inl head) = inr (inl ((bytes, head.0), head.1, head.2))
  header_due_is_copy_due last (Erase at) bytes (inr head) = inr (inr ((bytes, head.0), head.1, head.2))
  header_due_is_copy_due last (Program at len) bytes (inl head) = inr (inl ((bytes, head.0), head.1, head.2, head.3))
  header_due_is_copy_due last (Program at len) bytes (inr head) = inr (inr ((bytes, head.0), head.1, head.2, head.3))

  -- For an image of 0 bytes, `HasCopiedBytes` always holds.
  pub empty_image_has_copied_bytes : length (away_image m) ≡ 0 → HasCopiedBytes m
  empty_image_has_copied_bytes none = empty (away_image m) none
    where
      empty : (l : List ℕ) → length l ≡ 0 → take (length l) (first_of m).data_bytes ≡ l
      empty [] none = refl
      empty (x ∷ xs) none = absurd (omega (arith, none))
