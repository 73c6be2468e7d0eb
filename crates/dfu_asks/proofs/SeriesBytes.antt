-- Bytes of a medium while a series of writes is made piece by piece.
use Rattle.std.proofs.Common.{◌≡◌, inl, inr, ℕ, ◌+◌, ◌-◌, ◌≤◌, List, [], ◌∷◌, ◌++◌, length, take, drop, slice_range, refl, sym, ◌∙◌, ap, subst, arith}
use Rattle.std.proofs.lemmas.List.{take-take, length-take-le, take_all, drop-take, take-append-drop}
use Rattle.dfu_slots.specs.declared.fault.WriteFault.{WriteFault}
use Rattle.dfu_slots.specs.Units.{Grain}
use Rattle.dfu_slots.specs.Medium.{Write, WroteBytes, AllWrites, BrokenWrites, ChangedWithin, Torn, written}
use Rattle.dfu_slots.proofs.BytesOutsideWrite.{whole_write_is_torn, two_changes_are_one_change, wider_frame_holds}
use Rattle.dfu_slots.proofs.WritesWithinRanges.{two_writes_are_one, empty_write_keeps_all}
use Rattle.dfu_asks.specs.Mapped.{mapped_medium}
use Rattle.dfu_asks.specs.Carried.{total, bytes_after_writes, WritesWithin}
use Rattle.dfu_asks.proofs.Bits.{IsPartOfWrite, IsPartOfWrites}

-- A medium is unchanged while no byte of a series is written.
pub no_bytes_carried : (ws : List Write) (m : List ℕ) → bytes_after_writes m ws 0 ≡ m
no_bytes_carried [] m = refl
no_bytes_carried (w ∷ ws) m =
    let none : 0 - length w.bytes ≡ 0 = omega arith in
    (λ i. bytes_after_writes (empty_write_keeps_all m w.at i) ws (none i)) ∙ no_bytes_carried ws m

-- The first n elements of a list of at most n elements are the list.
long_prefix_is_list : (l : List ℕ) (n : ℕ) → length l ≤ n → take n l ≡ l
long_prefix_is_list l n le = take_all n l le

-- A write that lies within a medium doesn't change the medium's length.
write_keeps_length : (m : List ℕ) (at : ℕ) (new : List ℕ) → at + length new ≤ length m → length (written m at new) ≡ length m
write_keeps_length m at new fits = (whole_write_is_torn m at new fits).size

-- Writes that lie within a medium still do so after another write that lies within the medium.
writes_within_after_write : (ws : List Write) (m : List ℕ) (at : ℕ) (new : List ℕ) → at + length new ≤ length m → WritesWithin ws (length m)
    → WritesWithin ws (length (written m at new))
writes_within_after_write ws m at new fits inside = subst (λ (n : ℕ). WritesWithin ws n) (sym (write_keeps_length m at new fits)) inside

-- Writing the first n bytes of a write and then its next part equals writing all bytes up to the end of that part.
next_part_carries_write_on : (m : List ℕ) (w : Write) (n : ℕ) (p : Write) → w.at + length w.bytes ≤ length m → IsPartOfWrite w n p
    → written m w.at (take (n + length p.bytes) w.bytes) ≡ written (written m w.at (take n w.bytes)) p.at p.bytes
next_part_carries_write_on m w n p fits part =
    let k = length p.bytes in
    let front : length (take n w.bytes) ≡ n = length-take-le n w.bytes (omega (arith, part.within)) in
    let both : take (n + k) w.bytes ≡ take n w.bytes ++ p.bytes = prefix_splits_at_length w.bytes n k part.within
    ∙ ap (λ (l : List ℕ). take n w.bytes ++ l) (sym part.bytes_are) in
    ap (λ (l : List ℕ). written m w.at l) both
    ∙ sym (two_writes_are_one m w.at (take n w.bytes) p.bytes (omega (arith, front, fits, part.within)))
    ∙ (λ i. written (written m w.at (take n w.bytes)) (there front i) p.bytes)
  where
    prefix_splits_at_length : (l : List ℕ) (n k : ℕ) → n + k ≤ length l → take (n + k) l ≡ take n l ++ slice_range l n (n + k)
    prefix_splits_at_length l n k le =
        let e : n + k - n ≡ k = omega arith in
        sym (take-append-drop n (take (n + k) l))
        ∙ (λ i. take-take n (n + k) l (omega arith) i ++ (drop-take n k l ∙ ap (λ (j : ℕ). take j (drop n l)) (sym e)) i)

    there : length (take n w.bytes) ≡ n → w.at + length (take n w.bytes) ≡ p.at
    there front = ap (λ (x : ℕ). w.at + x) front ∙ sym part.place

-- Writing the first n bytes of a series and then its next piece equals writing all bytes up to the end of that piece.
pub written_piece_carries_series : (ws : List Write) (m : List ℕ) (n : ℕ) (p : Write) → WritesWithin ws (length m) → IsPartOfWrites ws n p
    → bytes_after_writes m ws (n + length p.bytes) ≡ written (bytes_after_writes m ws n) p.at p.bytes
written_piece_carries_series [] m n p inside none = absurd none
written_piece_carries_series (w ∷ ws) m n p (high, inside) (inl part) =
    let k = length p.bytes in
    let none : n - length w.bytes ≡ 0 = omega (arith, part.within, part.some) in
    let more : n + k - length w.bytes ≡ 0 = omega (arith, part.within) in
    (λ i. bytes_after_writes (written m w.at (take (n + k) w.bytes)) ws (more i))
    ∙ no_bytes_carried ws (written m w.at (take (n + k) w.bytes))
    ∙ next_part_carries_write_on m w n p high part
    ∙ ap (λ (l : List ℕ). written l p.at p.bytes)
    (sym ((λ i. bytes_after_writes (written m w.at (take n w.bytes)) ws (none i)) ∙ no_bytes_carried ws (written m w.at (take n w.bytes))))
written_piece_carries_series (w ∷ ws) m n p (high, inside) (inr (past, piece)) =
    let k = length p.bytes in
    let e : n + k - length w.bytes ≡ n - length w.bytes + k = omega (arith, past) in
    let first : take n w.bytes ≡ w.bytes = long_prefix_is_list w.bytes n past in
    let later : take (n + k) w.bytes ≡ w.bytes = long_prefix_is_list w.bytes (n + k) (omega (arith, past)) in
    let mid = written m w.at w.bytes in
    (λ i. bytes_after_writes (written m w.at (later i)) ws (e i))
    ∙ written_piece_carries_series ws mid (n - length w.bytes) p (writes_within_after_write ws m w.at w.bytes high inside) piece
    ∙ (λ i. written (bytes_after_writes (written m w.at (sym first i)) ws (n - length w.bytes)) p.at p.bytes)

module _ (u : Grain) where
  -- Storing all bytes of a write on a mapped medium is a successful write.
  mapped_write_works : (m : List ℕ) (w : Write) → WroteBytes (mapped_medium u m) w.at w.bytes (mapped_medium u (written m w.at w.bytes))
  mapped_write_works m w = record { bytes = refl; failures = omega arith; fuse = refl; grain = refl; tag = refl }

  -- If all bytes of a series are written, all its writes are made.
  pub carried_series_is_all_writes : (ws : List Write) (m : List ℕ) (n : ℕ) → total ws ≤ n
      → AllWrites (mapped_medium u m) ws (mapped_medium u (bytes_after_writes m ws n))
  carried_series_is_all_writes [] m n le = refl
  carried_series_is_all_writes (w ∷ ws) m n le =
      let mid = written m w.at w.bytes in
      let first : take n w.bytes ≡ w.bytes = long_prefix_is_list w.bytes n (omega (arith, le)) in (
        mapped_medium u mid,
        mapped_write_works m w,
        subst (λ (l : List ℕ). AllWrites (mapped_medium u mid) ws
            (mapped_medium u (bytes_after_writes (written m w.at l) ws (n - length w.bytes))))
            (sym first) (carried_series_is_all_writes ws mid (n - length w.bytes) (omega (arith, le))),
      )

  -- A fault in the write of a piece breaks off the series in that write, whichever bytes the piece left in its range.
  pub torn_piece_breaks_series : (fault : WriteFault) (ws : List Write) (m now : List ℕ) (n : ℕ) (p : Write) → WritesWithin ws (length m)
      → IsPartOfWrites ws n p → Torn (bytes_after_writes m ws n) p.at p.bytes now →
      BrokenWrites fault (mapped_medium u m) ws (mapped_medium u now)
  torn_piece_breaks_series fault [] m now n p inside none torn = absurd none
  torn_piece_breaks_series fault (w ∷ ws) m now n p (high, inside) (inl part) torn =
      let none : n - length w.bytes ≡ 0 = omega (arith, part.within, part.some) in
      let before = written m w.at (take n w.bytes) in
      let front : length (take n w.bytes) ≡ n = length-take-le n w.bytes (omega (arith, part.within)) in
      let was : bytes_after_writes before ws (n - length w.bytes) ≡ before = (λ i. bytes_after_writes before ws (none i))
      ∙ no_bytes_carried ws before in
      let first : ChangedWithin w.at (w.at + length w.bytes) m before =
      wider_frame_holds w.at (w.at + length (take n w.bytes)) w.at (w.at + length w.bytes) m before
      (whole_write_is_torn m w.at (take n w.bytes) (omega (arith, front, high, part.within))) (omega arith) (omega (
        arith,
        front,
        part.within,
      )) in
      let second : ChangedWithin w.at (w.at + length w.bytes) before now =
      wider_frame_holds p.at (p.at + length p.bytes) w.at (w.at + length w.bytes) before now
      (subst (λ (l : List ℕ). Torn l p.at p.bytes now) was torn) (omega (arith, part.place)) (omega (arith, part.place, part.within)) in
      inl (record {
        bytes = two_changes_are_one_change w.at (w.at + length w.bytes) m before now first second;
        failures = omega arith;
        fuse = refl;
        grain = refl;
        tag = refl;
      })
  torn_piece_breaks_series fault (w ∷ ws) m now n p (high, inside) (inr (past, piece)) torn =
      let mid = written m w.at w.bytes in
      let first : take n w.bytes ≡ w.bytes = long_prefix_is_list w.bytes n past in
      inr (
        mapped_medium u mid,
        mapped_write_works m w,
        torn_piece_breaks_series fault ws mid now (n - length w.bytes) p (writes_within_after_write ws m w.at w.bytes high inside) piece
            (subst (λ (l : List ℕ). Torn (bytes_after_writes (written m w.at l) ws (n - length w.bytes)) p.at p.bytes now) first torn),
      )
