-- Lemmas about an image that the operations of its sequence write piece by piece.
use Rattle.std.proofs.Common.{◌≡◌, ℕ, ◌+◌, ◌*◌, ◌≤◌, ◌<◌, List, [], length, take, drop, refl, sym, ◌∙◌, ap, subst, arith, length-drop}
use Rattle.std.proofs.lemmas.List.{length-take, drop_all, drop-drop}
use Rattle.dfu_slots.specs.Units.{Grain, gate_room, IsMultiple, fill_size, filled_units}
use Rattle.dfu_slots.specs.declared.sequence.Sequence.TheVariants.{Image}
use Rattle.dfu_slots.specs.declared.fault.WriteFault.{WriteFault}
use Rattle.dfu_slots.specs.Medium.{MediumState, Write, AllWrites, BrokenWrites, IsWritableAhead}
use Rattle.dfu_slots.specs.Image.{gate_of, capacity_of}
use Rattle.dfu_slots.specs.Writes.{erasing_write, write_some, image_writes}
use Rattle.dfu_slots.specs.Operations.{ops_writes, operations}
use Rattle.dfu_slots.specs.Changes.{CanFormat}
use Rattle.dfu_slots.specs.inside.Carry.{MayWritePiece}
use Rattle.dfu_slots.proofs.Series.{SameSize, size_is_transitive}
use Rattle.dfu_slots.proofs.SizedOn.{write_some_keeps_size}
use Rattle.dfu_slots.proofs.ErasesAhead.{some_bytes_leave_blank_ahead}
use Rattle.dfu_slots.proofs.Multiples.{zero_is_multiple, sum_is_multiple, piece_size_is_multiple, filled_length_sums, filled_bytes_within, same_size_is_sized}
use Rattle.dfu_slots.proofs.Pieces.{PiecesWrittenTo, no_piece_written, next_piece_written, pieces_broken_at_next, all_pieces_written}
use Rattle.dfu_slots.proofs.Sequences.{nonempty_write_is_erasing, image_ops_make_writes}

-- If a medium can be formatted, so can every medium of the same size.
pub same_size_can_be_formatted : {s mid : MediumState} {image : List ℕ} → SameSize s mid → CanFormat s image → CanFormat mid image
same_size_can_be_formatted same can = record {
  sized = same_size_is_sized same can.sized;
  fits = omega (arith, can.fits, same.size, ap gate_room same.grain);
}

-- Bytes that are written for an image: the image, and zeros that fill its last unit.
abbrev pub image_units : MediumState → List ℕ → List ℕ
image_units m image = filled_units m.grain.unit image

-- The pieces of an image before `from` are written, and the others are not.
pub record ImageWrittenUpTo (old mid : MediumState) (image : List ℕ) (from : ℕ) : Type 0 where
  pub same : SameSize old mid
  pub whole : IsMultiple old.grain.unit from
  pub ahead : from < length (image_units old image) → IsWritableAhead mid (2 * gate_of old + from)
  pub told : (place : ℕ) → place ≡ 2 * gate_of old + from → PiecesWrittenTo old mid old.grain.sector (length (image_units old image))
      (2 * gate_of old) (image_units old image) place (drop from (image_units old image))

-- Before the first write no piece of the image is written.
pub no_image_piece_written : (s : MediumState) (image : List ℕ) → IsWritableAhead s (2 * gate_of s) → ImageWrittenUpTo s s image 0
no_image_piece_written s image ahead =
    let units = image_units s image in
    let here : 2 * gate_of s ≡ 2 * gate_of s + 0 = omega arith in
    record {
      same = record { grain = refl; size = refl };
      whole = zero_is_multiple s.grain.unit;
      ahead = λ some. subst (λ (k : ℕ). IsWritableAhead s k) here ahead;
      told = λ place is.
          let there : 2 * gate_of s ≡ place = omega (arith, is) in
          subst (λ (k : ℕ). PiecesWrittenTo s s s.grain.sector (length units) (2 * gate_of s) units k units) there
          (no_piece_written s s.grain.sector (length units) (2 * gate_of s) units (omega arith));
    }

module _ {old mid : MediumState} {image : List ℕ} {from : ℕ} (can : CanFormat old image) (way : ImageWrittenUpTo old mid image from) where
  abbrev units : List ℕ
  units = image_units old image

  abbrev g : ℕ
  g = gate_of old

  -- After the last piece, all writes of the image are made.
  pub all_image_pieces_written : length image + fill_size old.grain.unit (length image) ≤ from →
      AllWrites old (image_writes old.grain image) mid
  all_image_pieces_written end =
      all_pieces_written (way.told (2 * g + from) refl) (drop_all from units (omega (arith, end, filled_length_sums old.grain.unit image)))

  module _ (more : from < length image + fill_size old.grain.unit (length image)) where
    some : from < length units
    some = omega (arith, more, filled_length_sums old.grain.unit image)

    pub next_piece_may_be_written : MayWritePiece mid image from
    next_piece_may_be_written =
        let grain = way.same.grain in
        record {
          can = same_size_can_be_formatted way.same can;
          more = omega (arith, more, ap (λ (w : Grain). fill_size w.unit (length image)) grain);
          whole = subst (λ (w : Grain). IsMultiple w.unit from) (sym grain) way.whole;
          ahead = subst (λ (w : Grain). IsWritableAhead mid (2 * gate_room w + from)) (sym grain) (way.ahead some);
        }

    abbrev next_bytes : List ℕ
    next_bytes = take 4096 (drop from units)

    abbrev next_piece_writes : List Write
    next_piece_writes = ops_writes mid.grain.sector [] image [] (operations mid.grain (Image from (length image)))

    -- The next piece is written by one write_some, with the old medium's sector size and gate size, because the grain stays.
    next_writes_are_write_some : next_piece_writes ≡ write_some old.grain.sector (2 * g + from) next_bytes
    next_writes_are_write_some =
        image_ops_make_writes mid.grain image [] from
        ∙ (λ i. write_some (way.same.grain i).sector (2 * gate_room (way.same.grain i) + from)
        (take 4096 (drop from (filled_units (way.same.grain i).unit image))))

    next_piece_writes_anew : next_piece_writes ≡ erasing_write old.grain.sector (2 * g + from) next_bytes
    next_piece_writes_anew = next_writes_are_write_some
        ∙ nonempty_write_is_erasing old.grain.sector (2 * g + from) next_bytes
        (omega (arith, some, length-take 4096 (drop from units), length-drop from units))

    bytes_left_before_last_piece : 0 < length (drop from units)
    bytes_left_before_last_piece = omega (arith, some, length-drop from units)

    -- If the write of the next piece fails, its fault interrupts the writes of the image.
    pub broken_piece_breaks_image : (fault : WriteFault) (now : MediumState) → BrokenWrites fault mid next_piece_writes now
        → BrokenWrites fault old (image_writes old.grain image) now
    broken_piece_breaks_image fault now broken =
        pieces_broken_at_next (way.told (2 * g + from) refl) bytes_left_before_last_piece now fault
        (subst (λ (ws : List Write). BrokenWrites fault mid ws now) next_piece_writes_anew broken)

    next_piece_fits_medium : 2 * g + from + length next_bytes ≤ length mid.bytes
    next_piece_fits_medium = omega (
      arith,
      way.same.size,
      can.sized.room,
      can.sized.even,
      filled_bytes_within old.grain.unit (capacity_of old) image can.sized.whole.units can.fits,
      length-take 4096 (drop from units),
      length-drop from units,
      some,
    )

    -- After the next piece is written, the image is written up to the end of that piece.
    pub next_image_piece_written : (now : MediumState) → AllWrites mid next_piece_writes now → ImageWrittenUpTo old now image (from + 4096)
    next_image_piece_written now all =
        let sized = (same_size_can_be_formatted way.same can).sized in
        let put : AllWrites mid (write_some mid.grain.sector (2 * g + from) next_bytes) now =
        subst (λ (ws : List Write). AllWrites mid ws now)
        (next_writes_are_write_some ∙ ap (λ (w : Grain). write_some w.sector (2 * g + from) next_bytes) (sym way.same.grain)) all in
        record {
          same = size_is_transitive way.same (write_some_keeps_size mid now (2 * g + from) next_bytes sized next_piece_fits_medium put);
          whole = sum_is_multiple old.grain.unit from 4096 way.whole (piece_size_is_multiple old.grain.unit);
          ahead = λ further.
              let there : 2 * g + from + length next_bytes ≡ 2 * g + (from + 4096) =
              omega (arith, further, length-take 4096 (drop from units), length-drop from units) in
              subst (λ (k : ℕ). IsWritableAhead now k) there (some_bytes_leave_blank_ahead mid now (2 * g + from) next_bytes sized
              next_piece_fits_medium put (way.ahead some));
          told = λ place is.
              let there : 2 * g + from + 4096 ≡ place = omega (arith, is) in
              subst (λ (k : ℕ). PiecesWrittenTo old now old.grain.sector (length units) (2 * g) units k (drop (from + 4096) units)) there
              (subst (λ (l : List ℕ). PiecesWrittenTo old now old.grain.sector (length units) (2 * g) units (2 * g + from + 4096) l)
              (drop-drop 4096 from units)
              (next_piece_written (way.told (2 * g + from) refl) bytes_left_before_last_piece now
              (subst (λ (ws : List Write). AllWrites mid ws now) next_piece_writes_anew all)));
        }
