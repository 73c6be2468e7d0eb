-- Lemmas about the bytes that are erased ahead of the next write.
use Rattle.std.proofs.Common.{◌≡◌, ◌≢◌, ◌⊎◌, ◌==◌, true, false, if◌then◌else◌, ℕ, zero, suc, ◌+◌, ◌-◌, ◌%◌, ◌≤◌, ◌<◌, List, [], ◌∷◌, ◌++◌, length, get_or, take, drop, replicate, slice_index, inl, inr, refl, sym, ◌∙◌, ap, subst, arith, ⊎_elim}
use Rattle.std.proofs.lemmas.List.{length-replicate, get_or-replicate, get_or-take, get_or-drop}
use Rattle.std.proofs.lemmas.Bool.{cases_lt, eqb-true, eqb-false}
use Rattle.std.proofs.Math.Nat.{add-mod_right}
use Rattle.dfu_slots.specs.Units.{Grain}
use Rattle.dfu_slots.specs.Medium.{MediumState, Write, AllWrites, ChangedWithin, IsErasedToSector, IsWritableAhead, IsWritable, written}
use Rattle.dfu_slots.specs.Image.{IsSizedMedium}
use Rattle.dfu_slots.specs.Writes.{erase_write, sector_erases, erasing_write, write_some}
use Rattle.dfu_slots.proofs.BytesOutsideWrite.{whole_write_is_torn, written_bytes_in_range, byte_kept_outside_write}
use Rattle.dfu_slots.proofs.Series.{writes_inside_keep_rest, list_has_two_parts, all_if, untested_writes_all_worked, writes_keep_grain}
use Rattle.dfu_slots.proofs.Sectors.{IsSectorEdge, sector_ends_before_edge}
use Rattle.dfu_slots.proofs.Edges.{sized_medium_ends_at_edge}
use Rattle.dfu_slots.proofs.WritesWithErases.{sector_erases_lie_inside}
use Rattle.dfu_slots.proofs.SizedOn.{erasing_write_with_sectors, erases_keep_size}

-- Writing may begin at the beginning of a sector, because that sector is erased first.
pub edge_is_writable_ahead : (m : MediumState) (at : ℕ) → IsSectorEdge m.grain.sector at → IsWritableAhead m at
edge_is_writable_ahead m at edge some p low high none = absurd (none at (omega arith) low (edge some))

-- If FFh is written over a range, each byte of the range is FFh.
erased_range_reads_ff : (old : List ℕ) (at n p : ℕ) → at + n ≤ length old → at ≤ p → p < at + n
    → slice_index (written old at (replicate n 255)) p ≡ 255
erased_range_reads_ff old at n p fits low high =
    let now = written old at (replicate n 255) in
    let size : length (replicate {A = ℕ} n 255) ≡ n = length-replicate {A = ℕ} n 255 in
    let e : at + (p - at) ≡ p = omega (arith, low) in
    let f : at + length (replicate {A = ℕ} n 255) - at ≡ n = omega (arith, size) in
    let range : take n (drop at now) ≡ replicate n 255 =
    ap (λ (k : ℕ). take k (drop at now)) (sym f) ∙ written_bytes_in_range old at (replicate n 255) (omega (arith, size, fits)) in
    ap (λ (k : ℕ). get_or now k 0) (sym e) ∙ sym (get_or-drop at now (p - at) 0)
    ∙ sym (get_or-take n (drop at now) (p - at) 0 (omega (arith, low, high)))
    ∙ ap (λ (l : List ℕ). get_or l (p - at) 0) range ∙ get_or-replicate n (p - at) 255 0 (omega (arith, low, high))

module _ (sector : ℕ) (some : 0 < sector) where
  -- After the erase of a sector that begins at `at`, the bytes from `at + 1` on are erased up to the next sector.
  sector_erase_erases_ahead : (old : List ℕ) (at : ℕ) → at + sector ≤ length old → at % sector ≡ 0
      → IsErasedToSector sector (written old at (replicate sector 255)) (at + 1) (at + 1)
  sector_erase_erases_ahead old at fits begins p low high none =
      ⊎_elim
      (λ inner. erased_range_reads_ff old at sector p fits (omega (arith, low)) inner)
      (λ past. absurd (none (at + sector) (omega (arith, some)) past (add-mod_right at sector ∙ begins)))
      (cases_lt p (at + sector))

  -- If the bytes from `at` on are erased up to the next sector, and no sector begins at `at`, the bytes from `at + 1` on are erased too.
  next_byte_on_stays_erased : (bytes : List ℕ) (at : ℕ) → at % sector ≢ 0 → IsErasedToSector sector bytes at at →
      IsErasedToSector sector bytes (at + 1) (at + 1)
  next_byte_on_stays_erased bytes at inner erased p low high none =
      erased p (omega (arith, low)) high (λ q from to. by_place q from to (cases_lt at q))
    where
      by_place : (q : ℕ) → at ≤ q → q ≤ p → ((at < q) ⊎ (q ≤ at)) → q % sector ≢ 0
      by_place q from to (inl behind) = none q (omega (arith, behind)) to
      by_place q from to (inr here) = let e : at ≡ q = omega (arith, from, here) in subst (λ (k : ℕ). k % sector ≢ 0) e inner

  byte_here_is_erased : (bytes : List ℕ) (at : ℕ) → at < length bytes → at % sector ≢ 0 → IsErasedToSector sector bytes at at →
      slice_index bytes at ≡ 255
  byte_here_is_erased bytes at fits inner erased =
      erased at (omega arith) fits
      (λ q from to. let e : at ≡ q = omega (arith, from, to) in subst (λ (k : ℕ). k % sector ≢ 0) e inner)

  -- Byte `at` is FFh, the bytes after it are erased up to the next sector, and the length of the medium is unchanged.
  abbrev FirstSectorErased : MediumState → ℕ → MediumState → Type 0
  FirstSectorErased s at mid = (length mid.bytes ≡ length s.bytes) × (slice_index mid.bytes at ≡ 255)
      × IsErasedToSector sector mid.bytes (at + 1) (at + 1)

  -- If the bytes from `at` on are erased up to the next sector, erasing the sectors that begin in a range from `at` leaves FFh in the whole
  -- range, and after it up to the next sector.
  pub range_erased_by_erases : (at n : ℕ) (s e : MediumState) → at + n ≤ length s.bytes → length s.bytes % sector ≡ 0
      → AllWrites s (sector_erases sector at n) e → IsErasedToSector sector s.bytes at at → IsErasedToSector sector e.bytes at (at + n)
  range_erased_by_erases at zero s e fits end same erased =
      let none : at ≡ at + 0 = omega arith in
      subst (λ (m : MediumState). IsErasedToSector sector m.bytes at (at + 0)) (sym same)
      (subst (λ (k : ℕ). IsErasedToSector sector s.bytes at k) none erased)
  range_erased_by_erases at (suc n) s e fits end all erased =
      let parts = list_has_two_parts (if at % sector == 0 then erase_write sector at ∷ [] else [])
      (sector_erases sector (at + 1) n) s e all in
      let first = begun (all_if s parts.0 (at % sector == 0) (erase_write sector at ∷ []) parts.1.first) in
      further parts.0 first parts.1.second
      (λ room whole rest ahead. range_erased_by_erases (at + 1) n parts.0 e room whole rest ahead)
    where
      begun : {mid : MediumState} → (((at % sector == 0) ≡ true) × AllWrites s (erase_write sector at ∷ []) mid)
          ⊎ (((at % sector == 0) ≡ false) × (mid ≡ s)) → FirstSectorErased s at mid
      begun {mid} (inl (found, one)) =
          let begins : at % sector ≡ 0 = eqb-true _ _ found in
          let room : at + sector ≤ length s.bytes = sector_ends_before_edge sector at (length s.bytes) begins end (omega (arith, fits)) in
          let is : mid.bytes ≡ written s.bytes at (replicate sector 255) = ap (λ (m : MediumState). m.bytes) one.2 ∙ one.1.bytes in
          let torn = whole_write_is_torn s.bytes at (replicate sector 255) (omega (arith, room, length-replicate {A = ℕ} sector 255)) in (
            ap length is ∙ torn.size,
            ap (λ (l : List ℕ). slice_index l at) is ∙ erased_range_reads_ff s.bytes at sector at room (omega arith) (omega (arith, some)),
            subst (λ (l : List ℕ). IsErasedToSector sector l (at + 1) (at + 1)) (sym is) (sector_erase_erases_ahead s.bytes at room begins),
          )
      begun {mid} (inr (missing, same)) =
          let inner : at % sector ≢ 0 = eqb-false _ _ missing in
          subst (λ (m : MediumState). FirstSectorErased s at m) (sym same)
          (refl, byte_here_is_erased s.bytes at (omega (arith, fits)) inner erased, next_byte_on_stays_erased s.bytes at inner erased)

      further : (mid : MediumState) → FirstSectorErased s at mid → AllWrites mid (sector_erases sector (at + 1) n) e
          → (at + 1 + n ≤ length mid.bytes → length mid.bytes % sector ≡ 0 → AllWrites mid (sector_erases sector (at + 1) n) e
          → IsErasedToSector sector mid.bytes (at + 1) (at + 1) → IsErasedToSector sector e.bytes (at + 1) (at + 1 + n))
          → IsErasedToSector sector e.bytes at (at + suc n)
      further mid first rest later p low high none =
          let keeps : ChangedWithin (at + 1) (length mid.bytes) mid.bytes e.bytes =
          writes_inside_keep_rest (at + 1) (length mid.bytes) (sector_erases sector (at + 1) n) mid e (omega arith)
          (sector_erases_lie_inside sector (at + 1) (length mid.bytes) (ap (λ (k : ℕ). k % sector) first.0 ∙ end) (at + 1) n (omega arith)
          (omega (arith, first.0, fits))) rest in
          let more = later (omega (arith, first.0, fits)) (ap (λ (k : ℕ). k % sector) first.0 ∙ end) rest first.2 in
          let to : at + suc n ≡ at + 1 + n = omega arith in
          ⊎_elim
          (λ behind. more p (omega (arith, behind)) high (subst (λ (k : ℕ). (q : ℕ) → k ≤ q → q ≤ p → q % sector ≢ 0) to none))
          (λ here.
          let e_at : p ≡ at = omega (arith, low, here) in
          ap (λ (k : ℕ). slice_index e.bytes k) e_at
          ∙ byte_kept_outside_write (at + 1) (length mid.bytes) mid.bytes e.bytes at keeps (inl (omega arith)) ∙ first.1)
          (cases_lt at p)

-- If writing may begin at `at`, erasing the sectors that begin in a range from `at` makes the range writable.
pub erases_make_range_writable : (m e : MediumState) (at n : ℕ) → IsSizedMedium m → 0 < m.grain.sector → at + n ≤ length m.bytes
    → AllWrites m (sector_erases m.grain.sector at n) e → IsWritableAhead m at → IsWritable e at n
erases_make_range_writable m e at n sized some fits all ahead other p low high =
    range_erased_by_erases m.grain.sector some at n m e fits (sized_medium_ends_at_edge m sized some) all (ahead some) p low
    (omega (arith, high, fits, (erases_keep_size m e at n sized some fits all).size))
    (λ q from to. absurd (omega (arith, from, to, high)))

-- If writing may begin at `at`, a write there, with its erases, leaves the bytes after it erased up to the next sector.
pub write_leaves_erased_ahead : (m now : MediumState) (at : ℕ) (bytes : List ℕ) → IsSizedMedium m → at + length bytes ≤ length m.bytes
    → AllWrites m (erasing_write m.grain.sector at bytes) now → IsWritableAhead m at → IsWritableAhead now (at + length bytes)
write_leaves_erased_ahead m now at bytes sized fits all ahead other p low high none =
    let grain : now.grain ≡ m.grain = writes_keep_grain (erasing_write m.grain.sector at bytes) m now all in
    let some : 0 < m.grain.sector = subst (λ (w : Grain). 0 < w.sector) grain other in
    let cut : AllWrites m (sector_erases m.grain.sector at (length bytes) ++ record { at = at; bytes = bytes } ∷ []) now =
    subst (λ (ws : List Write). AllWrites m ws now)
    (erasing_write_with_sectors m.grain.sector at bytes (λ e. omega (arith, some, e))) all in
    let parts = list_has_two_parts (sector_erases m.grain.sector at (length bytes)) (record { at = at; bytes = bytes } ∷ []) m now cut in
    let e = parts.0 in
    let size = (erases_keep_size m e at (length bytes) sized some fits parts.1.first).size in
    let is : now.bytes ≡ written e.bytes at bytes = ap (λ (s : MediumState). s.bytes) parts.1.second.2 ∙ parts.1.second.1.bytes in
    let torn = whole_write_is_torn e.bytes at bytes (omega (arith, fits, size)) in
    ap (λ (l : List ℕ). slice_index l p) is
    ∙ byte_kept_outside_write at (at + length bytes) e.bytes (written e.bytes at bytes) p torn (inr low)
    ∙ range_erased_by_erases m.grain.sector some at (length bytes) m e fits (sized_medium_ends_at_edge m sized some) parts.1.first (ahead
    some) p
    (omega (arith, low)) (omega (arith, high, ap length is, torn.size))
    (subst (λ (w : Grain). (q : ℕ) → at + length bytes ≤ q → q ≤ p → q % w.sector ≢ 0) grain none)

-- If writing may begin at `at`, a write there of any length, even 0, leaves the bytes after it erased up to the next sector.
pub some_bytes_leave_blank_ahead : (m now : MediumState) (at : ℕ) (bytes : List ℕ) → IsSizedMedium m → at + length bytes ≤ length m.bytes
    → AllWrites m (write_some m.grain.sector at bytes) now → IsWritableAhead m at → IsWritableAhead now (at + length bytes)
some_bytes_leave_blank_ahead m now at bytes sized fits all ahead =
    ⊎_elim
    (λ none.
    let zero_is : length bytes ≡ 0 = eqb-true _ _ none.0 in
    let e : at ≡ at + length bytes = omega (arith, zero_is) in
    subst (λ (s : MediumState). IsWritableAhead s (at + length bytes)) (sym none.1) (subst (λ (k : ℕ). IsWritableAhead m k) e ahead))
    (λ one. write_leaves_erased_ahead m now at bytes sized fits one.1 ahead)
    (untested_writes_all_worked m now (length bytes == 0) (erasing_write m.grain.sector at bytes) all)
