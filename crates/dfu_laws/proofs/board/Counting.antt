-- Number of pieces into which a list of write steps is divided.
use Rattle.std.proofs.Common.{◌≡◌, inl, inr, Bool, true, false, if◌then◌else◌, ◌==◌, ℕ, zero, suc, ◌+◌, ◌-◌, ◌*◌, ◌/◌, ◌%◌, ◌≤◌, ◌<◌, min, List, [], ◌∷◌, ◌++◌, length, sym, ◌∙◌, ap, subst, arith, length-append}
use Rattle.std.proofs.Math.Nat.{mod-lt, mod-add-mod, mod-eq_of_lt, mod_self, le-div_iff_mul-le}
use Rattle.std.proofs.lemmas.Bool.{ne_eqb}
use Rattle.dfu_slots.specs.Medium.{Write}
use Rattle.dfu_slots.specs.Writes.{erase_write, sector_erases}
use Rattle.dfu_asks.specs.Steps.{Step, steps_of_writes, program_step, write_anew_steps, write_some_steps}
use Rattle.dfu_asks.specs.Carried.{IsStepPiece}
use Rattle.dfu_laws.proofs.board.Pieces.{below_or_at_least}

-- Number of pieces of a write step of n bytes: one for an erase, and one for each 256 bytes of a program.
abbrev pub part_count : Bool → ℕ → ℕ
part_count true n = min 1 n
part_count false n = (n + 255) / 256

-- Number of remaining pieces of write steps once their first n bytes are written.
abbrev pub count_behind_bytes : List Step → ℕ → ℕ
count_behind_bytes [] n = 0
count_behind_bytes (s ∷ ss) n = part_count s.erases (length s.write.bytes - n) + count_behind_bytes ss (n - length s.write.bytes)

-- Number of pieces of all write steps in a list.
abbrev pub piece_count : List Step → ℕ
piece_count [] = 0
piece_count (s ∷ ss) = part_count s.erases (length s.write.bytes) + piece_count ss

parts_fewer_behind_part : (b : Bool) (len n k : ℕ) → k ≡ (if b then len - n else min 256 (len - n)) → 0 < k → n + k ≤ len
    → suc (part_count b (len - (n + k))) ≤ part_count b (len - n)
parts_fewer_behind_part true len n k size some le = omega (arith, size, some, le)
parts_fewer_behind_part false len n k size some le = omega (arith, size, some, le)

pub no_parts_of_no_bytes : (b : Bool) (x : ℕ) → x ≡ 0 → part_count b x ≡ 0
no_parts_of_no_bytes true x e = omega (arith, e)
no_parts_of_no_bytes false x e = omega (arith, e)

parts_grow_with_bytes : (b : Bool) (x y : ℕ) → x ≤ y → part_count b x ≤ part_count b y
parts_grow_with_bytes true x y le = omega (arith, le)
parts_grow_with_bytes false x y le = omega (arith, le)

-- After each piece, one fewer piece remains.
pub one_piece_fewer_behind : (ss : List Step) (n : ℕ) (p : Step) → IsStepPiece ss n p →
    suc (count_behind_bytes ss (n + length p.write.bytes)) ≤ count_behind_bytes ss n
one_piece_fewer_behind [] n p absent = absurd absent
one_piece_fewer_behind (s ∷ ss) n p (inl part) =
    let e : n + length p.write.bytes - length s.write.bytes ≡ n - length s.write.bytes = omega (arith, part.within) in
    omega (
      arith,
      ap (λ (x : ℕ). count_behind_bytes ss x) e,
      parts_fewer_behind_part s.erases (length s.write.bytes) n (length p.write.bytes) part.size part.some part.within,
    )
one_piece_fewer_behind (s ∷ ss) n p (inr (past, piece)) =
    let k = length p.write.bytes in
    let len = length s.write.bytes in
    let e : n + k - len ≡ n - len + k = omega (arith, past) in
    let here : len - n ≡ 0 = omega (arith, past) in
    let there : len - (n + k) ≡ 0 = omega (arith, past) in
    omega (
      arith,
      ap (λ (x : ℕ). count_behind_bytes ss x) e,
      one_piece_fewer_behind ss (n - len) p piece,
      no_parts_of_no_bytes s.erases (len - n) here,
      no_parts_of_no_bytes s.erases (len - (n + k)) there,
    )

-- The remaining pieces are at most as many as all pieces of the steps.
pub count_behind_at_most_count : (ss : List Step) (n : ℕ) → count_behind_bytes ss n ≤ piece_count ss
count_behind_at_most_count [] n = omega arith
count_behind_at_most_count (s ∷ ss) n =
    let le : length s.write.bytes - n ≤ length s.write.bytes = omega arith in
    omega (
      arith,
      parts_grow_with_bytes s.erases (length s.write.bytes - n) (length s.write.bytes) le,
      count_behind_at_most_count ss (n -
          length s.write.bytes),
    )

pub piece_count_of_append : (xs ys : List Step) → piece_count (xs ++ ys) ≡ piece_count xs + piece_count ys
piece_count_of_append [] ys = omega arith
piece_count_of_append (x ∷ xs) ys = omega (arith, piece_count_of_append xs ys)

marked_steps_count_bound : (ws : List Write) → piece_count (steps_of_writes true ws) ≤ length ws
marked_steps_count_bound [] = omega arith
marked_steps_count_bound (w ∷ ws) = omega (arith, marked_steps_count_bound ws)

-- Erases for n bytes that are written from offset `at`; none on flash without sectors.
abbrev pub erases_for_write : (sector at n : ℕ) → List Write
erases_for_write sector at n = if sector == 0 then [] else sector_erases sector at n

pub write_anew_count_bound : (sector at : ℕ) (bytes : List ℕ)
    → piece_count (write_anew_steps sector at bytes) ≤ length (erases_for_write sector at (length bytes)) + (length bytes + 255) / 256
write_anew_count_bound sector at bytes =
    let gone = erases_for_write sector at (length bytes) in
    omega (arith, piece_count_of_append (steps_of_writes true gone) (program_step at bytes ∷ []), marked_steps_count_bound gone)

pub write_some_count_bound : (sector at : ℕ) (bytes : List ℕ)
    → piece_count (write_some_steps sector at bytes) ≤ length (erases_for_write sector at (length bytes)) + (length bytes + 255) / 256
write_some_count_bound sector at bytes = by_test (length bytes == 0)
  where
    by_test : (b : Bool) → piece_count (if b then [] else write_anew_steps sector at bytes)
        ≤ length (erases_for_write sector at (length bytes)) + (length bytes + 255) / 256
    by_test true = omega arith
    by_test false = write_anew_count_bound sector at bytes

-- A range needs as many erases as its two parts together.
pub erases_of_joined_ranges : (s a b at : ℕ) → length (sector_erases s at (a + b)) ≡ length (sector_erases s at a) + length
    (sector_erases s (at + a) b)
erases_of_joined_ranges s zero b at =
    let none : 0 + b ≡ b = omega arith in
    let here : at + 0 ≡ at = omega arith in
    omega (arith, ap (λ (x : ℕ). length (sector_erases s at x)) none, ap (λ (x : ℕ). length (sector_erases s x b)) here)
erases_of_joined_ranges s (suc a) b at =
    let here : List Write = if at % s == 0 then erase_write s at ∷ [] else [] in
    let e : at + 1 + a ≡ at + suc a = omega arith in
    let one : suc a + b ≡ suc (a + b) = omega arith in
    omega (
      arith,
      length-append here (sector_erases s (at + 1) (a + b)),
      length-append here (sector_erases s (at + 1) a),
      erases_of_joined_ranges s a b (at + 1),
      ap (λ (x : ℕ). length (sector_erases s x b)) e,
      ap (λ (x : ℕ). length (sector_erases s at x)) one,
    )

-- Number of bytes of c sectors with s bytes each.
abbrev pub bytes_of_sectors : (s c : ℕ) → ℕ
bytes_of_sectors s zero = 0
bytes_of_sectors s (suc c) = s + bytes_of_sectors s c

pub bytes_of_sectors_add : (s a b : ℕ) → bytes_of_sectors s (a + b) ≡ bytes_of_sectors s a + bytes_of_sectors s b
bytes_of_sectors_add s zero b = let none : 0 + b ≡ b = omega arith in omega (arith, ap (λ (x : ℕ). bytes_of_sectors s x) none)
bytes_of_sectors_add s (suc a) b =
    let one : suc a + b ≡ suc (a + b) = omega arith in omega (arith, bytes_of_sectors_add s a b, ap (λ (x : ℕ). bytes_of_sectors s x) one)

bytes_of_sectors_mul : (s c : ℕ) → bytes_of_sectors s c ≡ c * s
bytes_of_sectors_mul s zero = grind arith
bytes_of_sectors_mul s (suc c) = ap (λ (x : ℕ). s + x) (bytes_of_sectors_mul s c) ∙ grind arith

-- If c sectors fit in n bytes, c is at most n / s.
pub sectors_that_fit : (s c n : ℕ) → 0 < s → bytes_of_sectors s c ≤ n → c ≤ n / s
sectors_that_fit s c n some le = (le-div_iff_mul-le {k = s} {x = c} {y = n} some).1 (subst (λ (x : ℕ). x ≤ n) (bytes_of_sectors_mul s c) le)

-- Number of bytes from an offset to the next sector of s bytes, if the offset modulo s is r.
abbrev bytes_up_to_sector : (s r : ℕ) → ℕ
bytes_up_to_sector s zero = 0
bytes_up_to_sector s (suc r) = s - suc r

gap_of_next_place : (s r : ℕ) → r < s → bytes_up_to_sector s ((r + 1) % s) ≡ s - 1 - r
gap_of_next_place s r low = elim (below_or_at_least (suc r) s) [
  | inl more ↦
      let e : (r + 1) % s ≡ suc r = mod-eq_of_lt (omega (arith, more)) ∙ omega arith in
      ap (λ (x : ℕ). bytes_up_to_sector s x) e ∙ omega arith
  | inr all ↦
      let e : (r + 1) % s ≡ 0 = ap (λ (x : ℕ). x % s) (omega (arith, all, low)) ∙ mod_self s in
      ap (λ (x : ℕ). bytes_up_to_sector s x) e ∙ omega (arith, all, low)
]

gap_below_sector : (s r : ℕ) → r < s → bytes_up_to_sector s r ≤ s - 1
gap_below_sector s zero low = omega arith
gap_below_sector s (suc r) low = omega (arith, low)

sector_erases_bound_step : (s n : ℕ) (w : Write) (rest : List Write) (r : ℕ) → r < s →
    bytes_of_sectors s (length rest) + bytes_up_to_sector s ((r + 1) % s) ≤ n + s - 1
    → bytes_of_sectors s (length ((if r == 0 then w ∷ [] else []) ++ rest)) + bytes_up_to_sector s r ≤ suc n + s - 1
sector_erases_bound_step s n w rest zero low le = omega (arith, low, le, gap_of_next_place s 0 low)
sector_erases_bound_step s n w rest (suc r) low le =
    let inside : (suc r == 0) ≡ false = ne_eqb (suc r) 0 (omega arith) in
    omega (
      arith,
      low,
      le,
      gap_of_next_place s (suc r) low,
      ap (λ (b : Bool). bytes_of_sectors s (length ((if b then w ∷ [] else [])
          ++ rest))) inside,
    )

-- The sectors of s bytes that begin in a range of n bytes have at most n + s - 1 bytes together.
pub sector_erases_bound : (s : ℕ) → 0 < s → (n at : ℕ) → bytes_of_sectors s (length (sector_erases s at n)) + bytes_up_to_sector s (at % s)
    ≤ n + s - 1
sector_erases_bound s some zero at = omega (arith, gap_below_sector s (at % s) (mod-lt at some))
sector_erases_bound s some (suc n) at =
    sector_erases_bound_step s n (erase_write s at) (sector_erases s (at + 1) n) (at % s) (mod-lt at some)
    (subst (λ (x : ℕ). bytes_of_sectors s (length (sector_erases s (at + 1) n)) + bytes_up_to_sector s x
    ≤ n + s - 1) (sym (mod-add-mod at s 1))
    (sector_erases_bound s some n (at + 1)))
