-- After a `put` the bytes that follow are erased up to the next sector.
use Rattle.std.proofs.Common.{◌≡◌, ℕ, ◌+◌, ◌≤◌, List, ◌++◌, length, take, drop, sym, subst, arith}
use Rattle.dfu_slots.specs.Units.{Grain, whole_part}
use Rattle.dfu_slots.specs.Medium.{MediumState, AllWrites, IsWritableAhead}
use Rattle.dfu_slots.specs.Image.{IsSizedMedium}
use Rattle.dfu_slots.specs.Writes.{head_write_size, write_some, put_writes}
use Rattle.dfu_slots.proofs.Series.{SameSize, list_has_two_parts}
use Rattle.dfu_slots.proofs.SizedOn.{write_some_keeps_size}
use Rattle.dfu_slots.proofs.Multiples.{same_size_is_sized}
use Rattle.dfu_slots.proofs.ErasesAhead.{some_bytes_leave_blank_ahead}
use Rattle.dfu_slots.proofs.PutWrites.{head_at_most_whole_units, whole_units_at_most_length, head_write_has_head, further_units_are_rest}

module _ (s now : MediumState) (at : ℕ) (held bytes : List ℕ) (sized : IsSizedMedium s)
    (fits : at + length (held ++ bytes) ≤ length s.bytes)
    (came : AllWrites s (put_writes s.grain at held bytes) now) (ahead : IsWritableAhead s at) where
  abbrev all : List ℕ
  all = held ++ bytes

  abbrev head : ℕ
  head = head_write_size s.grain.unit held bytes

  abbrev whole : ℕ
  whole = whole_part s.grain.unit (length all)

  abbrev back : List ℕ
  back = drop head (take whole all)

  head_write_fits_medium : at + length (take head all) ≤ length s.bytes
  head_write_fits_medium = omega (
    arith,
    head_write_has_head s.grain held bytes,
    fits,
    head_at_most_whole_units s.grain held bytes,
    whole_units_at_most_length s.grain held bytes,
  )

  module _ (mid : MediumState) (first : AllWrites s (write_some s.grain.sector at (take head all)) mid)
      (second : AllWrites mid (write_some s.grain.sector (at + head) back) now) where
    size_kept_by_head_write : SameSize s mid
    size_kept_by_head_write = write_some_keeps_size s mid at (take head all) sized head_write_fits_medium first

    erased_ahead_of_further_units : IsWritableAhead mid (at + head)
    erased_ahead_of_further_units = subst (λ (k : ℕ). IsWritableAhead mid (at + k)) (head_write_has_head s.grain held bytes)
        (some_bytes_leave_blank_ahead s mid at (take head all) sized head_write_fits_medium first ahead)

    further_units_fit_medium : at + head + length back ≤ length mid.bytes
    further_units_fit_medium = omega (
      arith,
      size_kept_by_head_write.size,
      further_units_are_rest s.grain held bytes,
      fits,
      head_at_most_whole_units s.grain held bytes,
      whole_units_at_most_length s.grain held bytes,
    )

    erased_behind_whole_units : IsWritableAhead now (at + whole)
    erased_behind_whole_units =
        let e : at + head + length back ≡ at + whole = omega (
          arith,
          further_units_are_rest s.grain held bytes,
          head_at_most_whole_units
              s.grain held bytes,
        ) in
        subst (λ (k : ℕ). IsWritableAhead now k) e
        (some_bytes_leave_blank_ahead mid now (at + head) back (same_size_is_sized size_kept_by_head_write sized) further_units_fit_medium
        (subst (λ (w : Grain). AllWrites mid (write_some w.sector (at + head) back) now) (sym size_kept_by_head_write.grain) second)
        erased_ahead_of_further_units)

  pub erased_ahead_of_put : IsWritableAhead now (at + whole)
  erased_ahead_of_put =
      let parts = list_has_two_parts (write_some s.grain.sector at (take head all))
      (write_some s.grain.sector (at + head) back) s now came in
      erased_behind_whole_units parts.0 parts.1.first parts.1.second
