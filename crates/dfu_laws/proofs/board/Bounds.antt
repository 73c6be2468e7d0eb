-- Upper bounds for the number of pieces of a block or a commit.
use Rattle.std.proofs.Common.{◌≡◌, ◌≢◌, inl, inr, Bool, true, false, not, if◌then◌else◌, ◌==◌, ℕ, zero, suc, ◌+◌, ◌-◌, ◌/◌, ◌≤◌, ◌<◌, min, List, [], ◌∷◌, ◌++◌, length, take, drop, replicate, refl, sym, ◌∙◌, ap, subst, arith, eq-eqb, length-append, length-drop}
use Rattle.std.proofs.lemmas.Bool.{cases_eq, ne_eqb, true≢false}
use Rattle.std.proofs.lemmas.List.{length-take, length-replicate}
use Rattle.dfu_slots.specs.declared.layout.Unit.{Unit as WriteUnit}
use Rattle.dfu_slots.specs.declared.layout.Unit.TheVariants.{Byte}
use Rattle.dfu_slots.specs.Units.{Grain, unit_size, gate_size, gate_room, whole_part, fill_size, filled_units}
use Rattle.dfu_slots.specs.Layout.{OPEN, gate_unit, header_unit}
use Rattle.dfu_slots.specs.Writes.{sector_erases, head_write_size}
use Rattle.dfu_asks.specs.declared.pending_writes.SlotWrite.TheVariants as slot_write
use Rattle.dfu_asks.specs.Steps.{write_some_steps, write_anew_steps, put_steps, open_steps, close_step}
use Rattle.dfu_asks.specs.Jobs.{held_bytes_place, job_steps}
use Rattle.dfu_laws.specs.board.Counts.{block_erases, block_programs, commit_erases, commit_programs}
use Rattle.dfu_laws.proofs.board.Counting.{part_count, piece_count, piece_count_of_append, erases_for_write, write_anew_count_bound, write_some_count_bound, erases_of_joined_ranges, bytes_of_sectors, sectors_that_fit, sector_erases_bound}

-- A write unit has at most 256 bytes.
unit_at_most_256 : (u : WriteUnit) → unit_size u ≤ 256
unit_at_most_256 Byte = omega arith
unit_at_most_256 _ = omega arith

pub unit_has_a_byte : (u : WriteUnit) → 0 < unit_size u
unit_has_a_byte Byte = omega arith
unit_has_a_byte _ = omega arith

gate_size_at_most_256 : (u : WriteUnit) → gate_size u ≤ 256
gate_size_at_most_256 Byte = omega arith
gate_size_at_most_256 _ = omega arith

pub gate_unit_length_at_most_256 : (u : WriteUnit) (gate : ℕ) → length (gate_unit (gate_size u) gate) ≤ 256
gate_unit_length_at_most_256 u gate = omega (arith, gate_size_at_most_256 u, length-replicate {A = ℕ} (gate_size u - 1) 0)

pub header_unit_at_most_256 : (u : WriteUnit) (gen len crc : ℕ) → length (header_unit (gate_size u) gen len crc) ≤ 256
header_unit_at_most_256 u gen len crc = omega (arith, gate_size_at_most_256 u, length-replicate {A = ℕ} (gate_size u - 16) 0)

filled_up_at_most_256 : (u : WriteUnit) (n : ℕ) → n < unit_size u → n + fill_size u n ≤ 256
filled_up_at_most_256 Byte n low = omega (arith, low)
filled_up_at_most_256 _ n low = omega (arith, low)

filled_held_at_most_256 : (u : WriteUnit) (held : List ℕ) → length held < unit_size u → length (filled_units u held) ≤ 256
filled_held_at_most_256 u held low =
    let n = fill_size u (length held) in
    omega (arith, length-append held (replicate n 0), length-replicate {A = ℕ} n 0, filled_up_at_most_256 u (length held) low)

-- Sizes of the two writes of a `put`, for h bytes held back before and a block of b bytes. The first write has at most 256 bytes, and it is
-- empty if no bytes were held back. The second has at most b bytes, and both together have at most h + b.
record ArePutParts (h b first second : ℕ) : Type 0 where
  few : first ≤ 256
  block : second ≤ b
  both : first + second ≤ h + b
  none : h ≡ 0 → first ≡ 0

module _ (u : WriteUnit) (held block : List ℕ) (low : length held < unit_size u) where
  abbrev all : List ℕ
  all = held ++ block

  abbrev whole : ℕ
  whole = whole_part u (length all)

  abbrev head : ℕ
  head = head_write_size u held block

  head_at_most_whole : (b : Bool) → (if b then 0 else min (unit_size u) whole) ≤ whole
  head_at_most_whole true = omega arith
  head_at_most_whole false = omega arith

  sizes : (b : Bool) → (length held == 0) ≡ b → (b ≡ true → length held ≡ 0) → (b ≡ false → length held ≢ 0)
      → let n : ℕ = if b then 0 else min (unit_size u) whole in ArePutParts (length held) (length block) n (whole - n)
  sizes true e empty some = record {
    few = omega arith;
    block = omega (arith, empty refl, length-append held block);
    both = omega (arith, length-append held block);
    none = λ h. refl;
  }
  sizes false e empty some =
      let more : length held ≢ 0 = some refl in
      record {
        few = omega (arith, unit_at_most_256 u);
        block = omega (arith, low, length-append held block);
        both = omega (arith, length-append held block);
        none = λ h. absurd (more h);
      }

  -- The two writes of a `put` have the sizes of `ArePutParts`.
  put_has_two_parts : ArePutParts (length held) (length block) head (whole - head)
  put_has_two_parts = elim (cases_eq (length held) 0) [
    | inl none ↦ sizes (length held == 0) refl (λ e. none) (λ e. absurd (true≢false (sym (eq-eqb (length held) 0 none) ∙ e)))
    | inr some ↦ sizes (length held == 0) refl (λ e. absurd (true≢false (sym e ∙ ne_eqb (length held) 0 some))) (λ e. some)
  ]

  -- A `put` needs at most the erases of its two writes, and one program for each 256 bytes of a write.
  put_pieces_bound : (sector at : ℕ) → piece_count (put_steps (record { unit = u; sector = sector }) at held block)
      ≤ length (erases_for_write sector at head) + (head + 255) / 256
      + (length (erases_for_write sector (at + head) (whole - head)) + (whole - head + 255) / 256)
  put_pieces_bound sector at =
      let h = head in
      let one : List ℕ = take h all in
      let two : List ℕ = drop h (take whole all) in
      let within : h ≤ whole = head_at_most_whole (length held == 0) in
      let le : whole ≤ length all = omega arith in
      let size : length one ≡ h = omega (arith, length-take h all, within, le) in
      let more : length two ≡ whole - h = omega (arith, length-drop h (take whole all), length-take whole all, within, le) in
      omega (
        arith,
        piece_count_of_append (write_some_steps sector at one) (write_some_steps sector (at + h) two),
        write_some_count_bound sector at one,
        write_some_count_bound sector (at + h) two,
        ap (λ (x : ℕ). length (erases_for_write sector at x)) size,
        ap (λ (x : ℕ). length (erases_for_write sector (at + h) x)) more,
        size,
        more,
      )

-- Closing a gate takes at most one piece: a program, or on flash with sectors an erase.
pub gate_close_is_one_piece : (u : WriteUnit) (sector spare : ℕ) →
    piece_count (close_step (record { unit = u; sector = sector }) spare ∷ []) ≤ 1
gate_close_is_one_piece u zero spare = omega (arith, gate_unit_length_at_most_256 u 0)
gate_close_is_one_piece u (suc k) spare =
    let some : (suc k == 0) ≡ false = ne_eqb (suc k) 0 (omega arith) in
    let closed : Bool → List ℕ = λ b. if b then gate_unit (gate_size u) 0 else replicate (suc k) 255 in
    subst (λ (b : Bool). part_count (if b then false else true) (length (closed b)) + 0 ≤ 1) (sym some) (omega arith)

-- Number of a flag: 1 for true, and 0 for false.
abbrev pub number_of_flag : Bool → ℕ
number_of_flag true = 1
number_of_flag false = 0

optional_close_piece_bound : (u : WriteUnit) (sector spare : ℕ) (close : Bool)
    → piece_count (if close then close_step (record { unit = u; sector = sector }) spare ∷ [] else []) ≤ number_of_flag close
optional_close_piece_bound u sector spare true = gate_close_is_one_piece u sector spare
optional_close_piece_bound u sector spare false = omega arith

-- For a block of b bytes and sectors of s bytes, closing the gate and the two writes need at most 1 + ⌈b / s⌉ erases.
block_sector_erases_bound : (close : Bool) (h b s c : ℕ) → 256 ≤ s → h ≤ 256 → (close ≡ true → h ≡ 0) → bytes_of_sectors s c ≤ h + b + s - 1
    → number_of_flag close + c ≤ 1 + (b + s - 1) / s
block_sector_erases_bound true h b s c wide few none le =
    let n : h ≡ 0 = none refl in
    omega (arith, sectors_that_fit s c (b + s - 1) (omega (arith, wide)) (omega (arith, le, n)))
block_sector_erases_bound false h b s zero wide few none le = omega arith
block_sector_erases_bound false h b s (suc c) wide few none le =
    omega (arith, sectors_that_fit s c (b + s - 1) (omega (arith, wide)) (omega (arith, le, wide, few)))

-- For a block of b bytes, the gate and both writes need at most ⌈b / 256⌉ + 1 programs.
block_program_parts_bound : (close : Bool) (h b one two : ℕ) → ArePutParts h b one two → (close ≡ true → h ≡ 0)
    → number_of_flag close + ((one + 255) / 256 + (two + 255) / 256) ≤ (b + 255) / 256 + 1
block_program_parts_bound true h b one two p none = omega (arith, p.block, p.none (none refl))
block_program_parts_bound false h b one two p none = omega (arith, p.block, p.few)

-- If a condition is false, the conditional has the value of its second branch.
pub choice_takes_second : (b : Bool) → b ≡ false → (x : ℕ) → ◌≡◌ {A = ℕ} (if b then 0 else x) x
choice_takes_second true e x = absurd (true≢false e)
choice_takes_second false e x = refl

pub write_erases_its_sectors : (s at n : ℕ) → (s == 0) ≡ false → length (erases_for_write s at n) ≡ length (sector_erases s at n)
write_erases_its_sectors s at n e = ap (λ (b : Bool). length (if b then [] else sector_erases s at n)) e

-- A block has at most `block_erases` plus `block_programs` pieces.
pub block_pieces_bound : (u : WriteUnit) (sector spare : ℕ) (close : Bool) (end : ℕ) (held block : List ℕ) → length held < unit_size u
    → (close ≡ true → length held ≡ 0) → (0 < sector → 256 ≤ sector)
    → piece_count (job_steps (slot_write.Block spare close) (record { unit = u; sector = sector }) end held block)
    ≤ block_erases (length block) sector + block_programs (length block)
block_pieces_bound u zero spare close end held block low none wide =
    let g : Grain = record { unit = u; sector = 0 } in
    let at = held_bytes_place g spare end held in
    let p = put_has_two_parts u held block low in
    omega (
      arith,
      piece_count_of_append (if close then close_step g spare ∷ [] else []) (put_steps g at held block),
      optional_close_piece_bound u 0 spare close,
      put_pieces_bound u held block low 0 at,
      block_program_parts_bound close (length held) (length block) (head u held block low) (whole u held block low - head u held block low)
          p none,
    )
block_pieces_bound u (suc k) spare close end held block low none wide =
    let s = suc k in
    let g : Grain = record { unit = u; sector = s } in
    let at = held_bytes_place g spare end held in
    let h = head u held block low in
    let rest = whole u held block low - h in
    let p = put_has_two_parts u held block low in
    let some : 0 < s = omega arith in
    let on : (s == 0) ≡ false = ne_eqb s 0 (omega arith) in
    let few : length held ≤ 256 = omega (arith, low, unit_at_most_256 u) in
    let one = length (sector_erases s at h) in
    let two = length (sector_erases s (at + h) rest) in
    let spanned : bytes_of_sectors s (one + two) ≤ length held + length block + s - 1 = omega (
      arith,
      sector_erases_bound s some (h + rest) at,
      p.both,
      ap (λ (x : ℕ). bytes_of_sectors s x) (erases_of_joined_ranges s h rest at),
    ) in
    omega (
      arith,
      piece_count_of_append (if close then close_step g spare ∷ [] else []) (put_steps g at held block),
      optional_close_piece_bound u s spare close,
      put_pieces_bound u held block low s at,
      write_erases_its_sectors s at h on,
      write_erases_its_sectors s (at + h) rest on,
      block_sector_erases_bound close (length held) (length block) s (one + two) (wide some) few none spanned,
      block_program_parts_bound false (length held) (length block) h rest p (λ e. absurd (true≢false (sym e))),
      choice_takes_second (s == 0) on (1 + (length block + s - 1) / s),
    )

-- If sectors have at least 256 bytes, at most one begins in a range of 256 bytes.

range_of_256_spans_one_sector : (s c n : ℕ) → 256 ≤ s → n ≤ 256 → bytes_of_sectors s c ≤ n + s - 1 → c ≤ 1
range_of_256_spans_one_sector s zero n wide few le = omega arith
range_of_256_spans_one_sector s (suc zero) n wide few le = omega arith
range_of_256_spans_one_sector s (suc (suc c)) n wide few le = absurd (omega (arith, wide, few, le))

-- A write of at most 256 bytes takes one program, and on flash with sectors at most one erase.
pub unit_write_pieces_bound : (s at n : ℕ) → (0 < s → 256 ≤ s) → n ≤ 256 → length (erases_for_write s at n) + (n + 255) / 256
    ≤ number_of_flag (not (s == 0)) + 1
unit_write_pieces_bound zero at n wide few = omega (arith, few)
unit_write_pieces_bound (suc k) at n wide few =
    let s = suc k in
    let some : 0 < s = omega arith in
    let on : (s == 0) ≡ false = ne_eqb s 0 (omega arith) in
    let c = length (sector_erases s at n) in
    let le : bytes_of_sectors s c ≤ n + s - 1 = omega (arith, sector_erases_bound s some n at) in
    omega (
      arith,
      few,
      write_erases_its_sectors s at n on,
      range_of_256_spans_one_sector s c n (wide some) few le,
      ap (λ (b : Bool).
          number_of_flag (not b)) on,
    )

commit_pieces_sum_bound : (s : ℕ) → (number_of_flag (not (s == 0)) + 1) + ((number_of_flag (not (s == 0)) + 1) + (number_of_flag (not (s ==
    0)) + 1))
    ≤ commit_erases s + commit_programs
commit_pieces_sum_bound zero = omega arith
commit_pieces_sum_bound (suc k) =
    let on : (suc k == 0) ≡ false = ne_eqb (suc k) 0 (omega arith) in
    omega (arith, choice_takes_second (suc k == 0) on 3, ap (λ (b : Bool). number_of_flag (not b)) on)

pub commit_pieces_bound : (u : WriteUnit) (sector spare gen crc end : ℕ) (held block : List ℕ) → length held < unit_size u
    → (0 < sector → 256 ≤ sector)
    → piece_count (job_steps (slot_write.Commit spare gen crc) (record { unit = u; sector = sector }) end held block)
    ≤ commit_erases sector + commit_programs
commit_pieces_bound u sector spare gen crc end held block low wide =
    let g : Grain = record { unit = u; sector = sector } in
    let at = held_bytes_place g spare end held in
    let last = filled_units u held in
    let head = header_unit (gate_size u) gen end crc in
    let gate = gate_unit (gate_size u) OPEN in
    omega (
      arith,
      piece_count_of_append (write_some_steps sector at last) (open_steps g spare gen end crc),
      piece_count_of_append (write_anew_steps sector (spare + gate_room g) head) (write_anew_steps sector spare gate),
      write_some_count_bound sector at last,
      write_anew_count_bound sector (spare + gate_room g) head,
      write_anew_count_bound sector spare gate,
      unit_write_pieces_bound sector at (length last) wide (filled_held_at_most_256 u held low),
      unit_write_pieces_bound sector (spare + gate_room g) (length head) wide (header_unit_at_most_256 u gen end crc),
      unit_write_pieces_bound sector spare (length gate) wide (gate_unit_length_at_most_256 u OPEN),
      commit_pieces_sum_bound sector,
    )
