-- Lemmas about blank ranges, which are read piece by piece or follow an erase.
use Rattle.std.proofs.Common.{◌≡◌, ℕ, ◌+◌, ◌≤◌, List, ◌++◌, length, take, replicate, slice_range, sym, ◌∙◌, ap, subst, arith}
use Rattle.std.proofs.lemmas.List.{length-replicate, take-replicate, replicate-append-replicate}
use Rattle.dfu_slots.specs.Medium.{MediumState, WroteBytes, WroteOrLied, FailedWrite}
use Rattle.dfu_slots.specs.declared.fault.WriteFault.TheVariants.{NotVerified}
use Rattle.dfu_slots.specs.Medium.{IsBlank}
use Rattle.dfu_slots.proofs.ReadBack.{HasBytesAt, joined_parts_are_stored, first_part_is_stored, second_part_is_stored}
use Rattle.dfu_slots.proofs.Written.{write_worked, write_lied}

ff_bytes_have_length_n : (n : ℕ) → length (replicate {A = ℕ} n 255) ≡ n
ff_bytes_have_length_n n = length-replicate {A = ℕ} n 255

-- Every byte of a blank range reads as FFh.
pub blank_range_reads_ff : (m : List ℕ) (at n : ℕ) → IsBlank m at n → HasBytesAt m at (replicate n 255)
blank_range_reads_ff m at n blank = ap (λ (k : ℕ). slice_range m at (at + k)) (ff_bytes_have_length_n n) ∙ blank

pub ff_range_is_blank : (m : List ℕ) (at n : ℕ) → HasBytesAt m at (replicate n 255) → IsBlank m at n
ff_range_is_blank m at n stands = sym (ap (λ (k : ℕ). slice_range m at (at + k)) (ff_bytes_have_length_n n)) ∙ stands

module _ (m : List ℕ) (at a b : ℕ) (room : at + a + b ≤ length m) where
  blank_ranges_fit : at + length (replicate {A = ℕ} a 255) + length (replicate {A = ℕ} b 255) ≤ length m
  blank_ranges_fit = omega (arith, ff_bytes_have_length_n a, ff_bytes_have_length_n b, room)

  -- Two adjacent blank ranges form one blank range.
  pub blank_ranges_join : IsBlank m at a → IsBlank m (at + a) b → IsBlank m at (a + b)
  blank_ranges_join first second = ff_range_is_blank m at (a + b) (subst (λ (l : List ℕ). HasBytesAt m at l) (replicate-append-replicate
      a b 255)
      (joined_parts_are_stored m at (replicate a 255) (replicate b 255) blank_ranges_fit (blank_range_reads_ff m at a first)
      (subst (λ (p : ℕ). HasBytesAt m p (replicate b 255)) (ap (λ (k : ℕ). at + k) (sym (ff_bytes_have_length_n a))) (blank_range_reads_ff m
      (at + a) b second))))

  joined_ff_bytes_are_stored : IsBlank m at (a + b) → HasBytesAt m at (replicate a 255 ++ replicate b 255)
  joined_ff_bytes_are_stored whole =
      subst (λ (l : List ℕ). HasBytesAt m at l) (sym (replicate-append-replicate a b 255)) (blank_range_reads_ff m
      at (a + b) whole)

  -- A prefix of a blank range is blank.
  pub blank_range_begins_blank : IsBlank m at (a + b) → IsBlank m at a
  blank_range_begins_blank whole = ff_range_is_blank m at a (first_part_is_stored m at (replicate a 255) (replicate b 255) blank_ranges_fit
      (joined_ff_bytes_are_stored whole))

  -- The rest of a blank range after a prefix is blank.
  pub blank_ends_blank : IsBlank m at (a + b) → IsBlank m (at + a) b
  blank_ends_blank whole = ff_range_is_blank m (at + a) b (subst (λ (p : ℕ). HasBytesAt m p (replicate b 255)) (ap (λ (k : ℕ). at + k)
      (ff_bytes_have_length_n a))
      (second_part_is_stored m at (replicate a 255) (replicate b 255) blank_ranges_fit (joined_ff_bytes_are_stored whole)))

-- The first n bytes of an array of FFh are FFh.
pub ff_array_front_is_ff : (n most : ℕ) → n ≤ most → take n (replicate {A = ℕ} most 255) ≡ replicate n 255
ff_array_front_is_ff n most le = take-replicate n most 255 le

-- If a range equals a list of FFh, it is blank.
pub range_of_ff_piece_is_blank : (m : List ℕ) (at n : ℕ) (piece : List ℕ) → piece ≡ replicate n 255 → HasBytesAt m at piece → IsBlank m at n
range_of_ff_piece_is_blank m at n piece is stands = ff_range_is_blank m at n (subst (λ (l : List ℕ). HasBytesAt m at l) is stands)

-- A blank range equals a list of FFh of the same length.
pub blank_range_reads_as_piece : (m : List ℕ) (at n : ℕ) (piece : List ℕ) → piece ≡ replicate n 255 → IsBlank m at n → HasBytesAt m at piece
blank_range_reads_as_piece m at n piece is blank = subst (λ (l : List ℕ). HasBytesAt m at l) (sym is) (blank_range_reads_ff m at n blank)

-- An erase that returned Ok worked if its range is blank afterwards.
pub blank_erase_worked : {old now : MediumState} {at : ℕ} (n : ℕ) → at + n ≤ length old.bytes → WroteOrLied old at (replicate n 255) now
    → IsBlank now.bytes at n → WroteBytes old at (replicate n 255) now
blank_erase_worked {now = now} {at = at} n room answered blank =
    write_worked (omega (arith, ff_bytes_have_length_n n, room)) answered (blank_range_reads_ff now.bytes at n blank)

-- An erase that returned Ok lied if its range is not blank afterwards.
pub unblank_erase_lied : {old now : MediumState} {at : ℕ} (n : ℕ) → at + n ≤ length old.bytes → WroteOrLied old at (replicate n 255) now
    → ¬ IsBlank now.bytes at n → FailedWrite NotVerified old at (replicate n 255) now
unblank_erase_lied {now = now} {at = at} n room answered missing =
    write_lied (omega (arith, ff_bytes_have_length_n n, room)) answered (λ s. missing (ff_range_is_blank now.bytes at n s))
