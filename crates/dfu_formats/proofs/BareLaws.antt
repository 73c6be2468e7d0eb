-- The reader of lines removes the blanks at the end of each line.
use Rattle.std.proofs.Common.{◌≡◌, ℕ, zero, suc, ◌+◌, ◌-◌, ◌<◌, ◌≤◌, true, false, List, length, take, refl, ap, arith, slice_index_or}
use Rattle.std.specs.List.{suffix_len}
use Rattle.std.proofs.lemmas.List.{take_all}
use Rattle.std.proofs.lemmas.List.Sums.{suffix_len-take_yes, suffix_len-take_no}
use Rattle.dfu_formats.specs.images.Text.{is_blank_byte}
use Rattle.dfu_formats.specs.images.Lines.{without_trailing_blanks}

-- The trailing blanks of `bytes` are all bytes from index `end` on, together with the trailing blanks of the bytes before `end`.
abbrev pub OnlyBlanksFollow : (bytes : List ℕ) (end : ℕ) → Type 0
OnlyBlanksFollow bytes end = suffix_len is_blank_byte bytes ≡ suffix_len is_blank_byte (take end bytes) + (length bytes - end)

-- If the bytes from `end` on are blanks, and the byte before `end` is a blank, the bytes from `end - 1` on are blanks.
pub blanks_follow_one_earlier : (bytes : List ℕ) (end : ℕ) → 0 < end → end ≤ length bytes → OnlyBlanksFollow bytes end
    → is_blank_byte (slice_index_or bytes (end - 1) 0) ≡ true → OnlyBlanksFollow bytes (end - 1)
blanks_follow_one_earlier bytes end some within are is =
    omega (arith, some, within, are, suffix_len-take_yes is_blank_byte bytes end 0 some within is)

-- If the first `end` bytes end in no blank, and only blanks follow, they are `bytes` without its trailing blanks.
front_is_without_trailing_blanks : (bytes : List ℕ) (end : ℕ) → end ≤ length bytes → OnlyBlanksFollow bytes end →
    suffix_len is_blank_byte (take end bytes) ≡ 0
    → take end bytes ≡ without_trailing_blanks bytes
front_is_without_trailing_blanks bytes end within are none =
    ap (λ (n : ℕ). take n bytes) (omega (arith, within, are, none))

-- If all bytes are blanks, no bytes remain after the trailing blanks are removed.
pub empty_front_has_no_blanks : (bytes : List ℕ) (end : ℕ) → end ≤ 0 → OnlyBlanksFollow bytes end → take end bytes
    ≡ without_trailing_blanks bytes
empty_front_has_no_blanks bytes zero least are = front_is_without_trailing_blanks bytes 0 (omega (arith)) are refl
empty_front_has_no_blanks bytes (suc end) least are = absurd (omega (arith, least))

-- If the byte before index `end` is not a blank, and only blanks follow it, the first `end` bytes are `bytes` without its trailing blanks.
pub nonblank_last_ends_front : (bytes : List ℕ) (end : ℕ) → 0 < end → end ≤ length bytes → OnlyBlanksFollow bytes end
    → is_blank_byte (slice_index_or bytes (end - 1) 0) ≡ false → take end bytes ≡ without_trailing_blanks bytes
nonblank_last_ends_front bytes end some within are is =
    front_is_without_trailing_blanks bytes end within are (suffix_len-take_no is_blank_byte bytes end 0 some within is)

-- `OnlyBlanksFollow` holds at the end of the bytes, because no byte follows.
pub only_blanks_follow_all_bytes : (bytes : List ℕ) → OnlyBlanksFollow bytes (length bytes)
only_blanks_follow_all_bytes bytes =
    omega (arith, ap (λ (kept : List ℕ). suffix_len is_blank_byte kept) (take_all (length bytes) bytes (omega (arith))))
