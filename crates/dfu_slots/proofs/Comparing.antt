-- Lemmas about the comparison of a slot's header with a well-formed header.
use Rattle.std.proofs.Common.{◌≡◌, ◌↔◌, Bool, true, false, ◌&&◌, nat_le, IsTrue, ℕ, ◌*◌, ◌+◌, ◌≤◌, ◌<◌, List, length, take, drop, refl, sym, ◌∙◌, ap, subst, arith}
use Rattle.std.specs.Int.{w32, from_le_bytes}
use Rattle.std.specs.Str.{bytes_eq}
use Rattle.std.proofs.lemmas.Bool.{and_left, le-leb, lt-leb}
use lib.Pointwise.{bytes_decides}
use Rattle.dfu_suffix.specs.Register.{register}
use Rattle.dfu_slots.specs.Layout.{slot_size, capacity, slot, Slot, generation, header_length, header}
use Rattle.dfu_slots.specs.Image.{is_intact}
use Rattle.dfu_slots.proofs.Headers.{IsHeaderOfOwnFields}
use Rattle.dfu_slots.proofs.Parts.{data_length}

-- Two tests that decide the same fact give the same result.
tests_of_one_fact_agree : (a b : Bool) {P : Type 0} → IsTrue a ↔ P → (b ≡ true → P) × (P → b ≡ true) → a ≡ b
tests_of_one_fact_agree true b t d = sym (d.1 (t.0 refl))
tests_of_one_fact_agree false true t d = t.1 (d.0 refl)
tests_of_one_fact_agree false false t d = refl

module _ (g : ℕ) (bytes : List ℕ) (at : ℕ) (end : at + slot_size bytes ≤ length bytes) (room : 2 * g ≤ slot_size bytes) (shown : List ℕ)
    (shown_is : shown ≡ (slot g bytes at).header) (len : ℕ) (len_is : len ≡ from_le_bytes w32 (take 4 (drop 4 shown))) where
  abbrev s : Slot
  s = slot g bytes at

  read_length_is_header_length : len ≡ header_length s
  read_length_is_header_length = len_is ∙ ap (λ (h : List ℕ). from_le_bytes w32 (take 4 (drop 4 h))) shown_is

  slot_data_has_capacity : length s.data_bytes ≡ capacity g bytes
  slot_data_has_capacity = data_length g bytes at end room

  -- A header whose length is over the capacity is not well formed.
  pub long_header_not_intact : capacity g bytes < len → false ≡ is_intact s
  unfolding is_intact
  long_header_not_intact large = sym (and_left (nat_le (header_length s) (length s.data_bytes)) _ (lt-leb _ _ (omega (
    arith,
    large,
    read_length_is_header_length,
    slot_data_has_capacity,
  ))))

  -- If a header's length is at most the capacity, is_intact is true for its slot exactly if the header equals that of version 2 with its
  -- own generation and length and the CRC register of the image.
  pub compared_header_is_intact : len ≤ capacity g bytes → (same : Bool) (crc : ℕ) → crc ≡ register (take len s.data_bytes)
      → IsTrue same ↔ IsHeaderOfOwnFields shown 2 crc → same ≡ is_intact s
  unfolding is_intact
  compared_header_is_intact fits same crc crc_is test =
      let made : List ℕ = header 2 (generation s) (header_length s) (register (take (header_length s) s.data_bytes)) in
      let crc_told : crc ≡ register (take (header_length s) s.data_bytes) =
      crc_is ∙ ap (λ (n : ℕ). register (take n s.data_bytes)) read_length_is_header_length in
      let test' : IsTrue same ↔ (s.header ≡ made) =
      subst (λ (n : ℕ). IsTrue same ↔ IsHeaderOfOwnFields s.header 2 n) crc_told
      (subst (λ (l : List ℕ). IsTrue same ↔ IsHeaderOfOwnFields l 2 crc) shown_is test) in
      tests_of_one_fact_agree same (bytes_eq s.header made) test' (bytes_decides s.header made)
      ∙ sym (ap (λ (b : Bool). b && bytes_eq s.header made) (le-leb _ _ (omega (
        arith,
        fits,
        read_length_is_header_length,
        slot_data_has_capacity,
      ))))
