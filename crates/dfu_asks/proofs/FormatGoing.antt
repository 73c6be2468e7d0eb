-- Progress of a format, piece by piece.
use Rattle.std.proofs.Common.{◌≡◌, ◌≢◌, inl, inr, ◌==◌, Bool, true, false, if◌then◌else◌, ℕ, zero, suc, ◌+◌, ◌*◌, ◌/◌, ◌^◌, ◌≤◌, ◌<◌, List, [], ◌∷◌, ◌++◌, length, take, drop, replicate, slice_range, refl, sym, ◌∙◌, ap, subst, arith}
use Rattle.std.proofs.lemmas.List.{append-nil, append_assoc, length-replicate}
use Rattle.std.proofs.lemmas.Bool.{cases_eq, ne_eqb, eq-eqb}
use Rattle.dfu_suffix.specs.Register.{register}
use Rattle.dfu_slots.specs.declared.fault.WriteFault.{WriteFault}
use Rattle.dfu_slots.specs.declared.fault.WriteFault.TheVariants.{NotVerified}
use Rattle.dfu_slots.specs.Units.{Grain, gate_size, gate_room, filled_units}
use Rattle.dfu_slots.specs.Medium.{MediumState, Write, Torn, FailedWrite, AllWrites, BrokenWrites}
use Rattle.dfu_slots.specs.Layout.{OPEN, slot_size, gate_unit, header_unit}
use Rattle.dfu_slots.specs.Image.{IsSizedMedium}
use Rattle.dfu_slots.specs.StoreView.{format_series}
use Rattle.dfu_slots.proofs.Stands.{sized_medium_has_two_slots}
use Rattle.dfu_slots.proofs.Written.{write_worked}
use Rattle.dfu_slots.proofs.Sectors.{first_byte_is_edge, gate_unit_at_most_256}
use Rattle.dfu_slots.proofs.Edges.{second_slot_begins_sector}
use Rattle.dfu_asks.specs.declared.formatting.FormatStep.{FormatStep}
use Rattle.dfu_asks.specs.declared.formatting.FormatStep.TheVariants as format_step
use Rattle.dfu_asks.specs.declared.formatting.Formatting.{Formatting}
use Rattle.dfu_asks.specs.Mapped.{mapped_medium}
use Rattle.dfu_asks.specs.Steps.{Step, step_writes, write_anew_steps, close_step, open_steps}
use Rattle.dfu_asks.specs.Carried.{total, bytes_after_writes, WritesWithin, IsStepPiece, EndsAtPiece, ErasesSectorOrPrograms}
use Rattle.dfu_asks.specs.Phases.{piece_steps, image_steps, format_steps_from, part_steps, format_steps, format_grain, remaining_steps, steps_of_part}
use Rattle.dfu_asks.specs.Formats.{medium_of_format, FormatUnderWay, FormatCompleted}
use Rattle.dfu_asks.proofs.Bits.{IsPartOfWrites, piece_is_part_of_writes}
use Rattle.dfu_asks.proofs.Pieces.{first_piece_is_in_joined, later_piece_is_in_joined, zero_bytes_end_at_piece, next_piece_ends_at_piece}
use Rattle.dfu_asks.proofs.JobPieces.{step_list_totals_add_up}
use Rattle.dfu_asks.proofs.SeriesBytes.{carried_series_is_all_writes, written_piece_carries_series, torn_piece_breaks_series}
use Rattle.dfu_asks.proofs.PartialSeries.{series_keeps_length, piece_lies_in_range}
use Rattle.dfu_asks.proofs.Inside.{writes_inside_are_within}
use Rattle.dfu_asks.proofs.RowErases.{StepsEraseSectors, steps_erase_sectors_append, write_anew_erases_sectors, close_step_erases_sector, next_piece_erases_sector}
use Rattle.dfu_asks.proofs.FormatParts.{image_next, format_steps_are_writes}
use Rattle.dfu_asks.proofs.FormatInside.{format_writes_inside_medium, format_makes_its_image_active}
use Rattle.dfu_asks.proofs.Cutting.{found_piece_is_in_part}
use Rattle.dfu_asks.specs.declared.cut.Cut.{Cut}
use Rattle.dfu_asks.specs.declared.pending_writes.WriteInputs.{WriteInputs}

-- The remaining steps of a format begin with the steps of the current part.
part_steps_come_first : (w : Grain) (size : ℕ) (image : List ℕ) (crc : ℕ) (this : FormatStep) → (next : List Step)
    × (format_steps_from w size image crc this ≡ part_steps w size image crc this ++ next)
part_steps_come_first w size image crc format_step.CloseSecond = (format_steps_from w size image crc format_step.CloseFirst, refl)
part_steps_come_first w size image crc format_step.CloseFirst = (image_steps w image 0 ++ open_steps w 0 0 (length image) crc, refl)
part_steps_come_first w size image crc (format_step.Image from) =
    (format_steps_from w size image crc (format_step.Image (from + 4096)), image_next w size image crc from)
part_steps_come_first w size image crc format_step.Header = (format_steps_from w size image crc format_step.Gate, refl)
part_steps_come_first w size image crc format_step.Gate = ([], sym (append-nil (part_steps w size image crc format_step.Gate)))
part_steps_come_first w size image crc format_step.Ended = ([], refl)

-- A piece of the current part is a piece of the remaining steps.
pub part_piece_remains : (f : Formatting) (size : ℕ) (image : List ℕ) (n : ℕ) (p : Step) → IsStepPiece (steps_of_part f size image) n p
    → IsStepPiece (remaining_steps f size image) n p
part_piece_remains f size image n p piece =
    let parts = part_steps_come_first (format_grain f) (size / 2) image f.register f.phase in
    subst (λ (ss : List Step). IsStepPiece ss n p) (sym parts.1) (first_piece_is_in_joined (steps_of_part f size image) parts.0 n p piece)

-- Closing a gate writes at least one byte.
pub close_step_has_bytes : (w : Grain) (at : ℕ) → 0 < length (close_step w at).write.bytes
close_step_has_bytes w at = elim (cases_eq w.sector 0) [
  | inl none ↦ by_test (w.sector == 0) (eq-eqb w.sector 0 none)
  | inr some ↦ sector_erase_has_bytes (w.sector == 0) (ne_eqb w.sector 0 some) some
]
  where
    by_test : (b : Bool) → b ≡ true → 0 < length (if b then gate_unit (gate_size w.unit) 0 else replicate w.sector 255)
    by_test true e = omega arith
    by_test false e = cc

    sector_erase_has_bytes : (b : Bool) → b ≡ false → w.sector ≢ 0 →
        0 < length (if b then gate_unit (gate_size w.unit) 0 else replicate w.sector 255)
    sector_erase_has_bytes true e some = cc
    sector_erase_has_bytes false e some = omega (arith, some, length-replicate {A = ℕ} w.sector 255)

-- Each step that writes an image erases a whole sector or programs bytes.
image_steps_erase_sectors : (sector n at : ℕ) (bytes : List ℕ) → StepsEraseSectors sector (piece_steps sector n at bytes)
image_steps_erase_sectors sector zero at bytes = tt
image_steps_erase_sectors sector (suc n) at [] = tt
image_steps_erase_sectors sector (suc n) at (x ∷ xs) =
    steps_erase_sectors_append sector (write_anew_steps sector at (take 4096 (x ∷ xs))) (piece_steps sector n (at + 4096) (drop 4096 (x ∷
    xs)))
    (write_anew_erases_sectors sector at (take 4096 (x ∷ xs))) (image_steps_erase_sectors sector n (at + 4096) (drop 4096 (x ∷ xs)))

-- Each step of a format erases a whole sector or programs bytes.
format_steps_erase_sectors : (m : MediumState) (image : List ℕ) → IsSizedMedium m → StepsEraseSectors m.grain.sector (format_steps m image)
format_steps_erase_sectors m image sized =
    let w = m.grain in
    let head = header_unit (gate_size w.unit) 0 (length image) (register image) in
    let gate = gate_unit (gate_size w.unit) OPEN in
    let units = filled_units w.unit image in (
      close_step_erases_sector w (slot_size m.bytes) (second_slot_begins_sector w m.bytes (sized_medium_has_two_slots m sized) sized.whole),
      (
        close_step_erases_sector w 0 (first_byte_is_edge w.sector),
        steps_erase_sectors_append w.sector (image_steps w image 0) (open_steps w 0 0 (length image) (register image))
            (image_steps_erase_sectors w.sector (length units) (2 * gate_room w + 0) units)
            (steps_erase_sectors_append w.sector (write_anew_steps w.sector (0 + gate_room w) head) (write_anew_steps w.sector 0 gate)
            (write_anew_erases_sectors w.sector (0 + gate_room w) head) (write_anew_erases_sectors w.sector 0 gate)),
      ),
    )

-- If each step of two joined lists erases a whole sector or programs bytes, so does each step of the second list.
later_steps_erase_sectors : (sector : ℕ) (xs ys : List Step) → StepsEraseSectors sector (xs ++ ys) → StepsEraseSectors sector ys
later_steps_erase_sectors sector [] ys all = all
later_steps_erase_sectors sector (x ∷ xs) ys all = later_steps_erase_sectors sector xs ys all.1

-- A medium of two slots has fewer than 2^32 bytes.
pub two_slot_medium_is_small : (m : MediumState) → IsSizedMedium m → length m.bytes < 2 ^ 32
two_slot_medium_is_small m sized = omega (arith, sized.even, sized.bound, sized.whole.bound, gate_unit_at_most_256 m.grain.unit)

module _ (f : Formatting) (image was flash : List ℕ) (way : FormatUnderWay f image was flash) where
  -- Medium before the first write of the format.
  abbrev m : MediumState
  m = medium_of_format f was

  abbrev steps : List Step
  steps = format_steps m image

  abbrev writes : List Write
  writes = step_writes steps

  abbrev left : List Step
  left = remaining_steps f (length was) image

  abbrev part : List Step
  part = steps_of_part f (length was) image

  -- Number of bytes of the format that are written so far, over all parts.
  abbrev before : ℕ
  before = total (step_writes way.front) + f.done

  format_writes_within_flash : WritesWithin writes (length was)
  format_writes_within_flash = subst (λ (ws : List Write). WritesWithin ws (length was)) (sym (format_steps_are_writes m image))
      (writes_inside_are_within (format_series m image) 0 (length was) (length was) (format_writes_inside_medium m image way.can) (omega
      arith))

  -- A format doesn't change the size of the flash.
  pub format_keeps_flash_size : length flash ≡ length was
  format_keeps_flash_size = ap length way.flash_is ∙ series_keeps_length writes was before format_writes_within_flash

  -- The flash has fewer than 2^32 bytes, and the image at most 2^24.
  pub flash_and_image_are_small : (length flash < 2 ^ 32) × (length image ≤ 2 ^ 24)
  flash_and_image_are_small = (
    omega (arith, format_keeps_flash_size, two_slot_medium_is_small m way.can.sized),
    omega (
      arith,
      way.can.fits,
      way.can.sized.bound,
    ),
  )

  -- A piece that the search found in the current part is the next piece of the remaining steps.
  pub found_piece_remains : (s : WriteInputs) → s.block.now ≡ image → (first : Cut) → first.inputs ≡ s → first.rest ≡ f.done → (p : Step)
      → IsStepPiece (steps_of_part f (length flash) first.inputs.block.now) first.rest p → IsStepPiece left f.done p
  found_piece_remains s block first inputs rest p found =
      part_piece_remains f (length was) image f.done p
      (found_piece_is_in_part f (length flash) (length was) format_keeps_flash_size image s block first inputs rest p found)

  module _ (p : Step) (piece : IsStepPiece left f.done p) where
    -- The next piece of the remaining steps is the next piece of the whole format.
    left_piece_is_in_format : IsStepPiece steps before p
    left_piece_is_in_format = subst (λ (ss : List Step). IsStepPiece ss before p) (sym way.series)
        (later_piece_is_in_joined way.front left before f.done p refl piece)

    -- The piece is a part of one of the writes of the format.
    piece_is_format_part : IsPartOfWrites writes before p.write
    piece_is_format_part = piece_is_part_of_writes steps before p left_piece_is_in_format

    pub format_piece_lies_within_flash : p.write.at + length p.write.bytes ≤ length flash
    format_piece_lies_within_flash = omega (
      arith,
      format_keeps_flash_size,
      (piece_lies_in_range (format_series m image) before p.write 0 (length was) (format_writes_inside_medium m image way.can)
          (subst (λ (ws : List Write). IsPartOfWrites ws before p.write) (format_steps_are_writes m image) piece_is_format_part)).1,
    )

    -- The next piece of a format erases a whole sector or programs bytes.
    pub format_piece_erases_sector : ErasesSectorOrPrograms f.sector.size p
    format_piece_erases_sector = next_piece_erases_sector f.sector.size left f.done p
        (later_steps_erase_sectors f.sector.size way.front left
        (subst (StepsEraseSectors f.sector.size) way.series (format_steps_erase_sectors m image way.can.sized))) way.reached piece

    module _ (now : List ℕ) (torn : Torn flash p.write.at p.write.bytes now) where
      piece_tears_format_flash : Torn (bytes_after_writes was writes before) p.write.at p.write.bytes now
      piece_tears_format_flash = subst (λ (l : List ℕ). Torn l p.write.at p.write.bytes now) way.flash_is torn

      -- A fault in the write of a piece breaks the format off, whichever bytes the piece left in its range.
      pub broken_piece_breaks_format : (fault : WriteFault) → BrokenWrites fault m (format_series m image) (medium_of_format f now)
      broken_piece_breaks_format fault = subst (λ (ws : List Write). BrokenWrites fault m ws (medium_of_format f now))
          (format_steps_are_writes m image)
          (torn_piece_breaks_series (format_grain f) fault writes was now before p.write format_writes_within_flash piece_is_format_part
          piece_tears_format_flash)

      -- If the flash contains the bytes of the piece, the format has advanced by this piece.
      pub format_one_piece_further : p.write.at + length p.write.bytes ≤ length now
          → slice_range now p.write.at (p.write.at + length p.write.bytes) ≡ p.write.bytes → (n : ℕ) → n ≡ f.done + length p.write.bytes
          → FormatUnderWay (record f { done = n }) image was now
      format_one_piece_further fits stands n count =
          let old = bytes_after_writes was writes before in
          let lied : FailedWrite NotVerified (mapped_medium (format_grain f) old) p.write.at p.write.bytes
          (mapped_medium (format_grain f) now) =
          record { bytes = piece_tears_format_flash; failures = omega arith; fuse = refl; grain = refl; tag = refl } in
          let is : before + length p.write.bytes ≡ total (step_writes way.front) + n = omega (arith, count) in
          record {
            can = record { sized = way.can.sized; fits = way.can.fits };
            sum = way.sum;
            front = way.front;
            series = way.series;
            reached = subst (λ (k : ℕ). EndsAtPiece left k) (sym count) (next_piece_ends_at_piece left f.done p way.reached piece);
            flash_is = (write_worked {old = mapped_medium (format_grain f) old} {at = p.write.at} {new = p.write.bytes}
                {now = mapped_medium (format_grain f) now} (omega (arith, fits, piece_tears_format_flash.size)) (inr lied) stands).bytes
                ∙ sym (written_piece_carries_series writes was before p.write format_writes_within_flash piece_is_format_part)
                ∙ ap (λ (k : ℕ). bytes_after_writes was writes k) is;
          }

  module _ (ended : f.done ≡ total (step_writes part)) where
    -- When a part is complete, the format continues with the next part.
    pub next_part_under_way : (next : FormatStep) → left ≡ part ++ format_steps_from (format_grain f) (length was / 2) image f.register next
        → FormatUnderWay (record f { phase = next; done = 0 }) image was flash
    next_part_under_way next follows =
        let rest = format_steps_from (format_grain f) (length was / 2) image f.register next in
        let count : before ≡ total (step_writes (way.front ++ part)) + 0 = omega (arith, ended, step_list_totals_add_up way.front part) in
        record {
          can = record { sized = way.can.sized; fits = way.can.fits };
          sum = way.sum;
          front = way.front ++ part;
          series = way.series ∙ ap (λ (ss : List Step). way.front ++ ss) follows ∙ sym (append_assoc way.front part rest);
          reached = zero_bytes_end_at_piece rest;
          flash_is = way.flash_is ∙ ap (λ (k : ℕ). bytes_after_writes was writes k) count;
        }

    -- When the last part is complete, the format is complete and its image is active.
    pub format_ends_with_last_part : left ≡ part ++ [] → FormatCompleted m image (medium_of_format f flash)
    format_ends_with_last_part follows =
        let all : steps ≡ way.front ++ part = way.series ∙ ap (λ (ss : List Step). way.front ++ ss) (follows ∙ append-nil part) in
        let count : total writes ≤ before = omega
        (arith, ap (λ (ss : List Step). total (step_writes ss)) all, step_list_totals_add_up way.front part, ended) in
        let came : AllWrites m writes (medium_of_format f flash) =
        subst (λ (l : List ℕ). AllWrites m writes (mapped_medium (format_grain f) l)) (sym way.flash_is)
        (carried_series_is_all_writes (format_grain f) writes was before count) in
        let series : AllWrites m (format_series m image) (medium_of_format f flash) =
        subst (λ (ws : List Write). AllWrites m ws (medium_of_format f flash)) (format_steps_are_writes m image) came in
        record { writes = series; active = format_makes_its_image_active m image way.can (medium_of_format f flash) series }
