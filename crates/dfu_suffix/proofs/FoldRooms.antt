-- The residue at an offset of the room, and one step of the loop that folds.
use Rattle.std.proofs.Common.{◌≡◌, ℕ, ◌+◌, ◌-◌, ◌^◌, ◌<◌, ◌≤◌, List, [], ◌∷◌, ◌++◌, length, take, drop, set, get_or, bit_xor, sym, ap, subst, ◌∙◌, arith}
use Rattle.std.proofs.lemmas.List.{drop-drop, drop-set-add, drop-take, get_or-drop, get_or-take, length-drop, length-set, length-take-le, take_all, take_at, take_more_set}
use Rattle.std.proofs.lemmas.Nat.{xor_lt}
use Rattle.std.specs.List.{copy_within}
use Rattle.dfu_suffix.proofs.Bytes.{AreBytes-drop, AreBytes-set, AreBytes-take}
use Rattle.dfu_suffix.proofs.Tables.{register_after_one_more_byte}
use Rattle.dfu_suffix.specs.Laws.{AreBytes}
use Rattle.dfu_suffix.specs.Register.{after_bits, bits_of, low_bits}
use Rattle.dfu_suffix.specs.inside.Folding.{combined_numbers, register_of_residue}
use Rattle.dfu_suffix.proofs.FoldSteps.{folding_takes_byte, folded_byte}

-- Byte `k` of the residue at offset `i` is byte `i + k` of the room.
residue_byte_is_room_byte : (room : List ℕ) (i k : ℕ) → k < 1968 → get_or (take 1968 (drop i room)) k 0 ≡ get_or room (i + k) 0
residue_byte_is_room_byte room i k h = get_or-take 1968 (drop i room) k 0 h ∙ get_or-drop i room k 0

-- If the byte after the residue is set, the residue at the next offset ends in this byte.
residue_slides_by_byte : (room : List ℕ) (i c : ℕ) → i + 1968 < length room →
    take 1968 (drop (i + 1) (set room (i + 1968) c)) ≡ drop 1 (take 1968 (drop i room)) ++ c ∷ []
residue_slides_by_byte room i c h =
    let place : i + 1968 ≡ (i + 1) + 1967 = omega arith in
    let fits : 1967 < length (drop (i + 1) room) = omega (arith, length-drop (i + 1) room) in
    ap (λ (k : ℕ). take 1968 (drop (i + 1) (set room k c))) place
    ∙ (ap (take 1968) (drop-set-add (i + 1) room 1967 c)
    ∙ (take_more_set (drop (i + 1) room) 1967 c fits
    ∙ ap (λ (ys : List ℕ). ys ++ c ∷ []) (ap (take 1967) (sym (drop-drop 1 i room)) ∙ sym (drop-take 1 1967 (drop i room)))))

-- The folded byte for byte `m` of the input. It is stored after the residue at offset `i` of the room.
abbrev pub folded_byte_at : ℕ → List ℕ → ℕ → ℕ
folded_byte_at m room i =
    bit_xor (bit_xor (bit_xor (bit_xor (bit_xor (bit_xor m (get_or room i 0)) (get_or room (i + 720) 0)) (get_or room (i + 848) 0))
    (get_or room (i + 1184) 0)) (get_or room (i + 1280) 0)) (get_or room (i + 1920) 0)

-- The folded byte is below 256.
folded_byte_is_byte : (m : ℕ) (room : List ℕ) (i : ℕ) → m < 256 → AreBytes room → folded_byte_at m room i < 256
folded_byte_is_byte m room i h f =
    let b = λ (k : ℕ). get_or room k 0 in
    let n0 = bit_xor m (b i) in
    let n1 = bit_xor n0 (b (i + 720)) in
    let n2 = bit_xor n1 (b (i + 848)) in
    let n3 = bit_xor n2 (b (i + 1184)) in
    let n4 = bit_xor n3 (b (i + 1280)) in
    let h0 : n0 < 2 ^ 8 = xor_lt 8 m (b i) h (f i) in
    let h1 : n1 < 2 ^ 8 = xor_lt 8 n0 (b (i + 720)) h0 (f (i + 720)) in
    let h2 : n2 < 2 ^ 8 = xor_lt 8 n1 (b (i + 848)) h1 (f (i + 848)) in
    let h3 : n3 < 2 ^ 8 = xor_lt 8 n2 (b (i + 1184)) h2 (f (i + 1184)) in
    let h4 : n4 < 2 ^ 8 = xor_lt 8 n3 (b (i + 1280)) h3 (f (i + 1280)) in
    xor_lt 8 n4 (b (i + 1920)) h4 (f (i + 1920))

-- The folded byte from the room's bytes is the folded byte of the residue at offset `i`.
folded_byte_at_is_of_residue : (m : ℕ) (room : List ℕ) (i : ℕ) → folded_byte_at m room i ≡ folded_byte m (take 1968 (drop i room))
unfolding combined_numbers
folded_byte_at_is_of_residue m room i =
    let here : i ≡ i + 0 = omega arith in
    let e0 = ap (λ (k : ℕ). get_or room k 0) here ∙ sym (residue_byte_is_room_byte room i 0 (omega arith)) in
    let e1 = residue_byte_is_room_byte room i 720 (omega arith) in
    let e2 = residue_byte_is_room_byte room i 848 (omega arith) in
    let e3 = residue_byte_is_room_byte room i 1184 (omega arith) in
    let e4 = residue_byte_is_room_byte room i 1280 (omega arith) in
    let e5 = residue_byte_is_room_byte room i 1920 (omega arith) in
    cc

-- Invariant of folding: the room has 6,064 bytes, and the residue at offset `i` represents the register `start` after the first `i` bytes.
pub record FoldedSoFar (start : ℕ) (bytes room : List ℕ) (i : ℕ) : Type 0 where
  pub long : length room ≡ 6064
  pub each : AreBytes room
  pub so_far : register_of_residue (take 1968 (drop i room)) ≡ after_bits start (bits_of (take i bytes))

-- After byte `i` of at most 4,096 is folded, FoldedSoFar holds for offset `i + 1`.
pub fold_turn_takes_byte : (start : ℕ) (bytes room : List ℕ) (i : ℕ) → FoldedSoFar start bytes room i → AreBytes bytes → i < length bytes →
    length bytes ≤ 4096 → FoldedSoFar start bytes (set room (i + 1968) (folded_byte_at (get_or bytes i 0) room i)) (i + 1)
fold_turn_takes_byte start bytes room i p f h short =
    let m = get_or bytes i 0 in
    let c = folded_byte_at m room i in
    let residue = take 1968 (drop i room) in
    let behind : i + 1968 < length room = omega (arith, p.long) in
    let fits : c < 256 = folded_byte_is_byte m room i (f i) p.each in
    let long : length residue ≡ 1968 = length-take-le 1968 (drop i room) (omega (arith, length-drop i room)) in
    let each : AreBytes residue = AreBytes-take 1968 (drop i room) (AreBytes-drop room i p.each) in
    record {
      long = length-set room (i + 1968) c ∙ p.long;
      each = AreBytes-set room (i + 1968) c p.each fits;
      so_far =
          ap register_of_residue (residue_slides_by_byte room i c behind)
          ∙ (folding_takes_byte m c residue long each (f i) fits (folded_byte_at_is_of_residue m room i)
          ∙ (ap (λ (r : ℕ). after_bits r (low_bits 8 m)) p.so_far ∙ sym (register_after_one_more_byte start bytes i h)));
    }

-- After all bytes are folded, the residue is copied to the front of the room, and represents the register after them.
pub folded_residue_moves_to_front : (start i : ℕ) (bytes room : List ℕ) → FoldedSoFar start bytes room i → i ≡ length bytes
    → length bytes ≤ 4096 →
    register_of_residue (take 1968 (copy_within room (length bytes) (length bytes + 1968) 0)) ≡ after_bits start (bits_of bytes)
folded_residue_moves_to_front start i bytes room p all short =
    let n = length bytes in
    let q : FoldedSoFar start bytes room n = subst (FoldedSoFar start bytes room) all p in
    let size : n + 1968 - n ≡ 1968 = omega arith in
    let residue = take 1968 (drop n room) in
    let long : length residue ≡ 1968 = length-take-le 1968 (drop n room) (omega (arith, length-drop n room, q.long)) in
    ap (λ (k : ℕ). register_of_residue (take 1968 (take k (drop n room) ++ drop (0 + k) room))) size
    ∙ (ap register_of_residue (take_at residue (drop 1968 room) 1968 long)
    ∙ (q.so_far ∙ ap (λ (xs : List ℕ). after_bits start (bits_of xs)) (take_all n bytes (omega arith))))
