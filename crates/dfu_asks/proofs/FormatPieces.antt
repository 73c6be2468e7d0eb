-- Lengths of the pieces of a format.
use Rattle.std.proofs.Common.{◌≡◌, ℕ, ◌+◌, ◌-◌, ◌*◌, ◌<◌, min, true, List, [], ◌∷◌, length, take, drop, refl, sym, ◌∙◌, subst, arith}
use Rattle.std.proofs.lemmas.List.{length-take, length-drop}
use Rattle.dfu_slots.specs.declared.layout.Unit.{Unit as WriteUnit}
use Rattle.dfu_slots.specs.declared.layout.Unit.TheVariants as unit
use Rattle.dfu_slots.specs.Units.{Grain, gate_size, gate_room, fill_size, filled_units}
use Rattle.dfu_slots.specs.Layout.{OPEN, gate_unit, header_unit}
use Rattle.dfu_slots.proofs.Multiples.{filled_length_sums}
use Rattle.dfu_slots.proofs.Parts.{gate_unit_has_size, header_unit_has_size}
use Rattle.dfu_slots.proofs.Sectors.{gate_unit_at_least_16}
use Rattle.dfu_asks.specs.Steps.{Step, step_writes, steps_of_writes, program_step, write_anew_steps, write_some_steps}
use Rattle.dfu_asks.specs.Carried.{total}
use Rattle.dfu_asks.proofs.Steps.{erases_before_write}
use Rattle.dfu_asks.proofs.Locating.{write_some_steps_are_anew}
use Rattle.dfu_asks.proofs.JobPieces.{step_list_totals_add_up}

-- An image of 0 bytes needs no fill zeros.
pub empty_list_needs_no_fill : (u : WriteUnit) → fill_size u 0 ≡ 0
empty_list_needs_no_fill unit.Byte = refl
empty_list_needs_no_fill unit.U16 = refl
empty_list_needs_no_fill unit.U64 = refl
empty_list_needs_no_fill unit.U256 = refl

-- If an image of `len` bytes is filled up to whole units, it has n bytes, the sum of `len` and the number of fill zeros.
pub filled_image_has_size : (u v : WriteUnit) (image : List ℕ) (len n : ℕ) → u ≡ v → length image ≡ len → n ≡ len + fill_size v len
    → length (filled_units u image) ≡ n
filled_image_has_size u v image len n same size is =
    filled_length_sums u image ∙ (λ i. size i + fill_size (same i) (size i)) ∙ sym is

-- The steps of a nonempty write contain at least one byte.
pub write_anew_steps_have_bytes : (sector at : ℕ) (bytes : List ℕ) → 0 < length bytes →
    0 < total (step_writes (write_anew_steps sector at bytes))
write_anew_steps_have_bytes sector at bytes some =
    omega (arith, some, step_list_totals_add_up (steps_of_writes true (erases_before_write sector at bytes)) (program_step at bytes ∷ []))

-- The steps that write a header contain at least one byte.
pub header_steps_have_bytes : (w : Grain) (at gen len crc : ℕ)
    → 0 < total (step_writes (write_anew_steps w.sector at (header_unit (gate_size w.unit) gen len crc)))
header_steps_have_bytes w at gen len crc = write_anew_steps_have_bytes w.sector at (header_unit (gate_size w.unit) gen len crc)
    (omega (arith, header_unit_has_size (gate_size w.unit) gen len crc (gate_unit_at_least_16 w.unit), gate_unit_at_least_16 w.unit))

-- The steps that open a gate contain at least one byte.
pub gate_steps_have_bytes : (w : Grain) (at : ℕ) → 0 < total (step_writes (write_anew_steps w.sector at (gate_unit (gate_size w.unit)
    OPEN)))
gate_steps_have_bytes w at = write_anew_steps_have_bytes w.sector at (gate_unit (gate_size w.unit) OPEN)
    (omega (arith, gate_unit_has_size (gate_size w.unit) OPEN (gate_unit_at_least_16 w.unit), gate_unit_at_least_16 w.unit))

module _ (w : Grain) (image : List ℕ) (from : ℕ) where
  abbrev units : List ℕ
  units = filled_units w.unit image

  -- Next bytes of the image, from `from` on: at most 4096.
  abbrev pub front : List ℕ
  front = take 4096 (drop from units)

  -- The next part of an image has 4096 bytes, or all bytes that are left if they are fewer.
  pub image_piece_is_4096_or_rest : length front ≡ min 4096 (length units - from)
  image_piece_is_4096_or_rest = omega (arith, length-take 4096 (drop from units), length-drop from units)

  -- While bytes of the image are left, the steps of its next part contain at least one byte.
  pub image_piece_has_bytes : from < length units → 0 < total (step_writes (write_some_steps w.sector (2 * gate_room w + from) front))
  image_piece_has_bytes left =
      let some : 0 < length front = omega (arith, left, image_piece_is_4096_or_rest) in
      subst (λ (ss : List Step). 0 < total (step_writes ss)) (sym (write_some_steps_are_anew w.sector (2 * gate_room w + from) front some))
      (write_anew_steps_have_bytes w.sector (2 * gate_room w + from) front some)
