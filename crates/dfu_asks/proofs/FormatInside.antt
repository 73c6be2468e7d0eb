-- Writes of a format lie within its medium, and make its image the active one.
use Rattle.std.proofs.Common.{ℕ, ◌+◌, List, ◌++◌, length, arith}
use Rattle.dfu_suffix.specs.Register.{register}
use Rattle.dfu_slots.specs.Units.{gate_size}
use Rattle.dfu_slots.specs.Medium.{MediumState, AllWrites}
use Rattle.dfu_slots.specs.Layout.{slot_size, OPEN, gate_unit, header_unit}
use Rattle.dfu_slots.specs.Image.{gate_of, Active}
use Rattle.dfu_slots.specs.Writes.{erasing_write, close_writes, image_writes, open_writes}
use Rattle.dfu_slots.specs.StoreView.{format_series}
use Rattle.dfu_slots.specs.Changes.{CanFormat}
use Rattle.dfu_slots.proofs.Stands.{sized_medium_has_two_slots}
use Rattle.dfu_slots.proofs.Parts.{gate_unit_has_size, header_unit_has_size}
use Rattle.dfu_slots.proofs.Series.{AllWritesInside, writes_inside_keep_rest, writes_keep_grain, appended_writes_inside}
use Rattle.dfu_slots.proofs.Sectors.{gate_unit_at_least_16}
use Rattle.dfu_slots.proofs.VisibleStores.{active_on_same_size}
use Rattle.dfu_slots.proofs.WritesWithErases.{write_with_erases_inside}
use Rattle.dfu_slots.proofs.Edges.{sized_medium_ends_at_edge}
use Rattle.dfu_slots.proofs.Formatted.{formatted_image_is_active}
use Rattle.dfu_slots.proofs.Formatting.{close_writes_lie_inside, image_writes_lie_inside}

module _ (s : MediumState) (image : List ℕ) (can : CanFormat s image) where
  abbrev size : ℕ
  size = length s.bytes

  open_writes_inside_medium : AllWritesInside 0 size (open_writes s.grain 0 0 (length image) (register image))
  open_writes_inside_medium =
      let edge = sized_medium_ends_at_edge s can.sized in
      let k = gate_size s.grain.unit in
      let head = header_unit k 0 (length image) (register image) in
      let gate = gate_unit k OPEN in
      let wide = gate_unit_at_least_16 s.grain.unit in
      appended_writes_inside 0 size (erasing_write s.grain.sector (0 + gate_of s) head) (erasing_write s.grain.sector 0 gate)
      (write_with_erases_inside s.grain.sector 0 size (0 + gate_of s) head edge (omega arith)
      (omega (arith, header_unit_has_size k 0 (length image) (register image) wide, can.sized.room, can.sized.even)))
      (write_with_erases_inside s.grain.sector 0 size 0 gate edge (omega arith)
      (omega (arith, gate_unit_has_size k OPEN wide, can.sized.room, can.sized.even)))

  pub format_writes_inside_medium : AllWritesInside 0 size (format_series s image)
  format_writes_inside_medium = appended_writes_inside 0 size (close_writes s.grain s.bytes)
      (image_writes s.grain image ++ open_writes s.grain 0 0 (length image) (register image)) (close_writes_lie_inside s can.sized)
      (appended_writes_inside 0 size (image_writes s.grain image) (open_writes s.grain 0 0 (length image) (register image))
      (image_writes_lie_inside s image can) open_writes_inside_medium)

  -- Once all writes of a format are made, its image is the active one.
  pub format_makes_its_image_active : (now : MediumState) → AllWrites s (format_series s image) now → Active now image
  format_makes_its_image_active now all =
      let kept = writes_inside_keep_rest 0 size (format_series s image) s now (omega arith) format_writes_inside_medium all in
      active_on_same_size {m = s} 0 (slot_size now.bytes) image (record {
        grain = writes_keep_grain (format_series s image) s now all;
        size
            = kept.size;
      })
      can.sized.whole
      (formatted_image_is_active s.grain s now image (sized_medium_has_two_slots s can.sized) can.sized.whole can.fits all)
