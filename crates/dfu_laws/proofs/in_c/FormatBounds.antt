-- Upper bounds for the number of pieces of a format.
use Rattle.std.proofs.Common.{◌≡◌, inl, inr, Bool, true, false, not, if◌then◌else◌, ◌==◌, ℕ, zero, suc, ◌+◌, ◌-◌, ◌*◌, ◌/◌, ◌%◌, ◌≤◌, ◌<◌, List, [], ◌∷◌, ◌++◌, length, take, drop, refl, ap, arith, length-drop}
use Rattle.std.proofs.lemmas.Bool.{ne_eqb}
use Rattle.std.proofs.lemmas.List.{length-take}
use Rattle.dfu_slots.specs.declared.layout.Unit.{Unit as WriteUnit}
use Rattle.dfu_slots.specs.declared.layout.Unit.TheVariants.{Byte}
use Rattle.dfu_slots.specs.Units.{Grain, unit_size, gate_size, gate_room, filled_units}
use Rattle.dfu_slots.specs.Layout.{OPEN, gate_unit, header_unit}
use Rattle.dfu_slots.specs.Writes.{sector_erases}
use Rattle.dfu_slots.proofs.Multiples.{filled_bytes_within}
use Rattle.dfu_asks.specs.declared.formatting.FormatStep.TheVariants.{CloseSecond}
use Rattle.dfu_asks.specs.Steps.{Step, write_anew_steps, open_steps, close_step}
use Rattle.dfu_asks.specs.Phases.{piece_steps, image_steps, format_steps_from}
use Rattle.dfu_laws.specs.in_c.FormatCounts.{format_erases, format_programs}
use Rattle.dfu_laws.proofs.board.Pieces.{below_or_at_least}
use Rattle.dfu_laws.proofs.board.Counting.{piece_count, piece_count_of_append, erases_for_write, write_anew_count_bound, erases_of_joined_ranges, bytes_of_sectors, bytes_of_sectors_add, sectors_that_fit, sector_erases_bound}
use Rattle.dfu_laws.proofs.board.Bounds.{number_of_flag, header_unit_at_most_256, gate_unit_length_at_most_256, gate_close_is_one_piece, unit_write_pieces_bound, choice_takes_second, write_erases_its_sectors}

-- A range needs as many erases as its two parts together, on flash with sectors or without.
write_erases_of_joined_ranges : (s a b at : ℕ) → length (erases_for_write s at (a + b))
    ≡ length (erases_for_write s at a) + length (erases_for_write s (at + a) b)
write_erases_of_joined_ranges s a b at = by_test (s == 0)
  where
    by_test : (t : Bool) → length (if t then [] else sector_erases s at (a + b))
        ≡ length (if t then [] else sector_erases s at a) + length (if t then [] else sector_erases s (at + a) b)
    by_test true = refl
    by_test false = erases_of_joined_ranges s a b at

-- Bytes that are written 4096 at a time need at most as many pieces as one write of all bytes.
pieces_of_4096_count_bound : (sector n at : ℕ) (bytes : List ℕ)
    → piece_count (piece_steps sector n at bytes) ≤ length (erases_for_write sector at (length bytes)) + (length bytes + 255) / 256
pieces_of_4096_count_bound sector zero at bytes = omega arith
pieces_of_4096_count_bound sector (suc n) at [] = omega arith
pieces_of_4096_count_bound sector (suc n) at (x ∷ xs) =
    let bytes : List ℕ = x ∷ xs in
    let front : List ℕ = take 4096 bytes in
    let back : List ℕ = drop 4096 bytes in
    let here = length-take 4096 bytes in
    let there = length-drop 4096 bytes in
    elim (below_or_at_least (length bytes) 4096) [
      | inl low ↦
          let a : length front ≡ length bytes = omega (arith, here, low) in
          let b : length back ≡ 0 = omega (arith, there, low) in
          omega (
            arith,
            piece_count_of_append (write_anew_steps sector at front) (piece_steps sector n (at + 4096) back),
            write_anew_count_bound sector at front,
            pieces_of_4096_count_bound sector n (at + 4096) back,
            a,
            b,
            ap (λ (i : ℕ). length (erases_for_write sector at i)) a,
            ap (λ (i : ℕ). length (erases_for_write sector (at + 4096) i)) b,
            nothing_erased_of_no_bytes sector (at + 4096),
          )
      | inr high ↦
          let a : length front ≡ 4096 = omega (arith, here, high) in
          let e : 4096 + length back ≡ length bytes = omega (arith, there, high) in
          omega (
            arith,
            piece_count_of_append (write_anew_steps sector at front) (piece_steps sector n (at + 4096) back),
            write_anew_count_bound sector at front,
            pieces_of_4096_count_bound sector n (at + 4096) back,
            a,
            e,
            ap (λ (i : ℕ). length (erases_for_write sector at i)) a,
            ap (λ (i : ℕ). length (erases_for_write sector at i)) e,
            write_erases_of_joined_ranges sector 4096 (length back) at,
          )
    ]
  where
    nothing_erased_of_no_bytes : (s at : ℕ) → length (erases_for_write s at 0) ≡ 0
    nothing_erased_of_no_bytes s at = by_test (s == 0)
      where
        by_test : (t : Bool) → length (if t then [] else sector_erases s at 0) ≡ 0
        by_test true = refl
        by_test false = refl

-- If a sector is a multiple of 256 bytes, any number of sectors is.
sectors_are_whole_pages : (s q : ℕ) → s % 256 ≡ 0 → bytes_of_sectors s q % 256 ≡ 0
sectors_are_whole_pages s zero pages = refl
sectors_are_whole_pages s (suc q) pages = omega (arith, pages, sectors_are_whole_pages s q pages)

-- A multiple of 256 bytes is a multiple of the write unit.
pages_are_whole_units : (u : WriteUnit) (n : ℕ) → n % 256 ≡ 0 → n % unit_size u ≡ 0
pages_are_whole_units Byte n pages = omega arith
pages_are_whole_units _ n pages = omega (arith, pages)

-- ⌈n / s⌉ sectors of s bytes hold n bytes.
begun_sectors_hold_bytes : (s n : ℕ) → 0 < s → n ≤ bytes_of_sectors s ((n + s - 1) / s)
begun_sectors_hold_bytes s n some =
    let q = (n + s - 1) / s in
    elim (below_or_at_least (n + s - 1) (bytes_of_sectors s (suc q))) [
      | inl low ↦ omega (arith, low)
      | inr high ↦ absurd (omega (arith, sectors_that_fit s (suc q) (n + s - 1) some high))
    ]

-- The number of sectors that begin in n bytes is at most the number of sectors that hold n bytes.
begun_sectors_at_most_holding : (s c q n : ℕ) → 0 < s → n ≤ bytes_of_sectors s q → bytes_of_sectors s c ≤ n + s - 1 → c ≤ q
begun_sectors_at_most_holding s c q n some hold le = elim (below_or_at_least q c) [
  | inl more ↦
      let d = c - suc q in
      let e : c ≡ suc q + d = omega (arith, more) in
      absurd (omega (arith, some, hold, le, ap (λ (i : ℕ). bytes_of_sectors s i) e, bytes_of_sectors_add s (suc q) d))
  | inr few ↦ few
]

-- Filling the last write unit of an image adds no page of 256 bytes.
filled_image_has_no_more_pages : (u : WriteUnit) (image : List ℕ) → (length (filled_units u image) + 255) / 256 ≤ (length image + 255) / 256
filled_image_has_no_more_pages u image =
    let n = (length image + 255) / 256 * 256 in
    omega (arith, filled_bytes_within u n image (pages_are_whole_units u n (omega arith)) (omega arith))

-- Upper bounds for the pieces of each part of a format.
module _ (u : WriteUnit) (sector size crc : ℕ) (image : List ℕ) (pages : sector % 256 ≡ 0) where
  -- Write unit and sector size of the flash.
  abbrev w : Grain
  w = record { unit = u; sector = sector }

  -- The image with its last write unit filled up.
  abbrev units : List ℕ
  units = filled_units u image

  -- Offset of the data of the first slot.
  abbrev data_at : ℕ
  data_at = 2 * gate_room w + 0

  format_image_count_bound : piece_count (image_steps w image 0)
      ≤ length (erases_for_write sector data_at (length units)) + (length units + 255) / 256
  format_image_count_bound =
      let rest : List ℕ = drop 0 units in
      let e : length rest ≡ length units = omega (arith, length-drop 0 units) in
      omega (
        arith,
        pieces_of_4096_count_bound sector (length rest) data_at rest,
        e,
        ap (λ (i : ℕ). length (erases_for_write sector data_at i)) e,
      )

  format_open_count_bound : piece_count (open_steps w 0 0 (length image) crc)
      ≤ (number_of_flag (not (sector == 0)) + 1) + (number_of_flag (not (sector == 0)) + 1)
  format_open_count_bound =
      let head = header_unit (gate_size u) 0 (length image) crc in
      let gate = gate_unit (gate_size u) OPEN in
      let wide : 0 < sector → 256 ≤ sector = λ some. omega (arith, some, pages) in
      omega (
        arith,
        piece_count_of_append (write_anew_steps sector (0 + gate_room w) head) (write_anew_steps sector 0 gate),
        write_anew_count_bound sector (0 + gate_room w) head,
        write_anew_count_bound sector 0 gate,
        unit_write_pieces_bound sector (0 + gate_room w) (length head) wide (header_unit_at_most_256 u 0 (length image) crc),
        unit_write_pieces_bound sector 0 (length gate) wide (gate_unit_length_at_most_256 u OPEN),
      )

  -- A format has at most as many pieces as are needed to close two gates, write the image, and open a slot.
  all_count : piece_count (format_steps_from w size image crc CloseSecond)
      ≤ 2 + (length (erases_for_write sector data_at (length units)) + (length units + 255) / 256)
      + ((number_of_flag (not (sector == 0)) + 1) + (number_of_flag (not (sector == 0)) + 1))
  all_count =
      let rest = image_steps w image 0 ++ open_steps w 0 0 (length image) crc in
      let second : List Step = close_step w size ∷ [] in
      let first : List Step = close_step w 0 ∷ [] in
      omega (
        arith,
        piece_count_of_append second (first ++ rest),
        piece_count_of_append first rest,
        piece_count_of_append (image_steps w image 0) (open_steps w 0 0 (length image) crc),
        gate_close_is_one_piece u sector size,
        gate_close_is_one_piece u sector 0,
        format_image_count_bound,
        format_open_count_bound,
      )

format_image_erases_bound : (u : WriteUnit) (k at : ℕ) (image : List ℕ) → suc k % 256 ≡ 0
    → length (erases_for_write (suc k) at (length (filled_units u image))) ≤ (length image + suc k - 1) / suc k
format_image_erases_bound u k at image pages =
    let s = suc k in
    let some : 0 < s = omega arith in
    let n = length (filled_units u image) in
    let q = (length image + s - 1) / s in
    let on : (s == 0) ≡ false = ne_eqb s 0 (omega arith) in
    let hold : n ≤ bytes_of_sectors s q = filled_bytes_within u (bytes_of_sectors s q) image (pages_are_whole_units u (bytes_of_sectors s
    q) (sectors_are_whole_pages s q pages))
    (begun_sectors_hold_bytes s (length image) some) in
    let le : bytes_of_sectors s (length (sector_erases s at n)) ≤ n + s - 1 = omega (arith, sector_erases_bound s some n at) in
    omega (arith, write_erases_its_sectors s at n on, begun_sectors_at_most_holding s (length (sector_erases s at n)) q n some hold le)

-- A format has at most `format_erases` plus `format_programs` pieces.
pub format_pieces_bound : (u : WriteUnit) (sector size crc : ℕ) (image : List ℕ) → sector % 256 ≡ 0
    → piece_count (format_steps_from (record { unit = u; sector = sector }) size image crc CloseSecond)
    ≤ format_erases (length image) sector + format_programs (length image) sector
format_pieces_bound u zero size crc image pages = omega (arith, all_count u 0 size crc image pages, filled_image_has_no_more_pages u image)
format_pieces_bound u (suc k) size crc image pages =
    let on : (suc k == 0) ≡ false = ne_eqb (suc k) 0 (omega arith) in
    omega (
      arith,
      all_count u (suc k) size crc image pages,
      filled_image_has_no_more_pages u image,
      format_image_erases_bound u k (data_at u (suc k) size crc image pages) image pages,
      ap (λ (b : Bool). number_of_flag (not b)) on,
      choice_takes_second (suc k == 0) on (4 + (length image + suc k - 1) / suc k),
      fewer (suc k == 0) on,
    )
  where
    fewer : (b : Bool) → b ≡ false → ◌≡◌ {A = ℕ} (if b then 4 else 2) 2
    fewer b e = ap (λ (x : Bool). if x then 4 else 2) e
