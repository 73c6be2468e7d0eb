-- Lemmas about sectors that are erased one after the other.
use Rattle.std.proofs.Common.{◌≡◌, ◌≢◌, inl, ⊎_elim, ◌==◌, ℕ, zero, suc, ◌+◌, ◌-◌, ◌%◌, ◌≤◌, ◌<◌, List, [], ◌∷◌, ◌++◌, length, replicate, refl, sym, ◌∙◌, ap, subst, arith}
use Rattle.std.proofs.lemmas.List.{append_assoc, append-nil, length-replicate}
use Rattle.std.proofs.lemmas.Bool.{cases_lt, cond-true, cond-false, ne_eqb, eq-eqb}
use Rattle.std.proofs.Math.Nat.{mod-lt, mod-add-mod, mod_self}
use Rattle.dfu_slots.specs.declared.fault.WriteFault.{WriteFault}
use Rattle.dfu_slots.specs.Medium.{MediumState, Write, WroteBytes, FailedWrite, AllWrites, BrokenWrites}
use Rattle.dfu_slots.specs.Units.{Grain}
use Rattle.dfu_slots.specs.Image.{IsSizedMedium}
use Rattle.dfu_slots.specs.Writes.{erase_write, sector_erases}
use Rattle.dfu_slots.proofs.Edges.{sized_medium_ends_at_edge}
use Rattle.dfu_slots.proofs.BytesOutsideWrite.{whole_write_is_torn}
use Rattle.dfu_slots.proofs.Series.{two_lists_work_as_one, second_part_may_break}
use Rattle.dfu_slots.proofs.Sectors.{remainder_of_next_byte, edge_sum_is_edge, sector_ends_before_edge}

-- If no sector begins at `at`, the erases of n + 1 bytes from `at` on equal those of n bytes from `at + 1` on.
no_erase_within_sector : (sector at n : ℕ) → 0 < at % sector → sector_erases sector at (suc n) ≡ sector_erases sector (at + 1) n
no_erase_within_sector sector at n inner = ap (λ (l : List Write). l ++ sector_erases sector (at + 1) n)
    (cond-false (at % sector == 0) (erase_write sector at ∷ []) [] (ne_eqb (at % sector) 0 (λ e. omega (arith, inner, e))))

-- If no sector begins at `at`, the erases from `at` on equal those from the end of the sector that contains `at`.
pub no_erase_to_sector_end : (sector d at n : ℕ) → 0 < sector → 0 < at % sector → at % sector + d ≡ sector
    → sector_erases sector at n ≡ sector_erases sector (at + d) (n - d)
no_erase_to_sector_end sector zero at n some inner is = absurd (omega (arith, mod-lt at some, is))
no_erase_to_sector_end sector (suc d) at zero some inner is =
    let e : 0 ≡ 0 - suc d = omega arith in ap (λ (k : ℕ). sector_erases sector (at + suc d) k) e
no_erase_to_sector_end sector (suc zero) at (suc n) some inner is =
    let e : n ≡ suc n - 1 = omega arith in no_erase_within_sector sector at n inner ∙ ap (λ (k : ℕ). sector_erases sector (at + 1) k) e
no_erase_to_sector_end sector (suc (suc d)) at (suc n) some inner is =
    let next : (at + 1) % sector ≡ at % sector + 1 = remainder_of_next_byte sector at (omega (arith, is)) in
    let e : at + 1 + suc d ≡ at + suc (suc d) = omega arith in
    let f : n - suc d ≡ suc n - suc (suc d) = omega arith in
    no_erase_within_sector sector at n inner ∙ no_erase_to_sector_end sector (suc d) (at + 1) n some (omega (arith, next)) (omega (
      arith,
      next,
      is,
    ))
    ∙ (λ i. sector_erases sector (e i) (f i))

-- If a sector begins at `at`, the first erase is that of this sector.
pub first_sector_is_erased_first : (sector at n : ℕ) → 1 < sector → at % sector ≡ 0 → 0 < n
    → sector_erases sector at n ≡ erase_write sector at ∷ sector_erases sector (at + sector) (n - sector)
first_sector_is_erased_first sector at zero some begins more = absurd (omega (arith, more))
first_sector_is_erased_first sector at (suc n) some begins more =
    let next : (at + 1) % sector ≡ 1 = remainder_of_next_byte sector at (omega (arith, begins, some)) ∙ ap (λ (k : ℕ). k + 1) begins in
    let e : at + 1 + (sector - 1) ≡ at + sector = omega (arith, some) in
    let f : n - (sector - 1) ≡ suc n - sector = omega (arith, some) in
    ap (λ (l : List Write). l ++ sector_erases sector (at + 1) n)
    (cond-true (at % sector == 0) (erase_write sector at ∷ []) [] (eq-eqb (at % sector) 0 begins))
    ∙ ap (λ (l : List Write). erase_write sector at ∷ l)
    (no_erase_to_sector_end sector (sector - 1) (at + 1) n (omega (arith, some)) (omega (arith, next)) (omega (arith, next, some))
    ∙ (λ i. sector_erases sector (e i) (f i)))

-- The sectors of the range that begin before `place` are erased, and a sector begins at `place`.
pub record ErasedTo (old mid : MediumState) (sector at n place : ℕ) : Type 0 where
  pub front : List Write
  pub all : AllWrites old front mid
  pub pieces : sector_erases sector at n ≡ front ++ sector_erases sector place (at + n - place)
  pub edge : place % sector ≡ 0
  pub within : place ≤ length mid.bytes
  pub grain : mid.grain ≡ old.grain
  pub size : length mid.bytes ≡ length old.bytes

module _ (s : MediumState) (at n : ℕ) (sized : IsSizedMedium s) (some : 0 < s.grain.sector) (fits : at + n ≤ length s.bytes) where
  abbrev sector : ℕ
  sector = s.grain.sector

  -- If a sector begins at `at`, the first sector to erase begins at `at`.
  pub erased_to_first_edge : at % sector ≡ 0 → ErasedTo s s sector at n at
  erased_to_first_edge begins =
      let all : n ≡ at + n - at = omega arith in
      record {
        front = [];
        all = refl;
        pieces = ap (λ (k : ℕ). sector_erases sector at k) all;
        edge = begins;
        within = omega (arith, fits);
        grain = refl;
        size = refl;
      }

  -- If no sector begins at `at`, the first sector to erase is the one after the sector that contains `at`.
  pub erased_to_next_edge : 0 < at % sector → ErasedTo s s sector at n (at + (sector - at % sector))
  erased_to_next_edge inner =
      let d = sector - at % sector in
      let less : at % sector < sector = mod-lt at some in
      let is : at % sector + d ≡ sector = omega (arith, less) in
      let edge : (at + d) % sector ≡ 0 =
      sym (mod-add-mod at sector d) ∙ ap (λ (k : ℕ). k % sector) is ∙ mod_self sector in
      let rest : n - d ≡ at + n - (at + d) = omega arith in
      record {
        front = [];
        all = refl;
        pieces = no_erase_to_sector_end sector d at n some inner is ∙ ap (λ (k : ℕ). sector_erases sector (at + d) k) rest;
        edge = edge;
        within = ⊎_elim
            (λ past.
            absurd (omega (
              arith,
              sector_ends_before_edge sector (length s.bytes) (at + d) (sized_medium_ends_at_edge s sized some) edge
                  past,
              is,
              inner,
              fits,
            )))
            (λ le. le) (cases_lt (length s.bytes) (at + d));
        grain = refl;
        size = refl;
      }

  -- The first sector to erase begins at `at`, or else directly after the sector that contains `at`.
  pub erased_up_to_first_sector : (size : ℕ) → size ≡ sector → (place : ℕ) → (at % size ≡ 0 → place ≡ at → ErasedTo s s sector at n place)
      × (at % size ≢ 0 → place ≡ at + (size - at % size) → ErasedTo s s sector at n place)
  erased_up_to_first_sector size is place = (
    λ begins here. subst (λ (p : ℕ). ErasedTo s s sector at n p) (sym here)
        (erased_to_first_edge (subst (λ (k : ℕ). at % k ≡ 0) is begins)),
    λ inner here.
        let rest : at % sector ≢ 0 = subst (λ (k : ℕ). at % k ≢ 0) is inner in
        subst (λ (p : ℕ). ErasedTo s s sector at n p) (sym (here ∙ ap (λ (k : ℕ). at + (k - at % k)) is))
        (erased_to_next_edge (omega (arith, rest))),
  )

module _ {old mid : MediumState} {at n place : ℕ} (to : ErasedTo old mid old.grain.sector at n place) (sized : IsSizedMedium old)
    (some : 0 < old.grain.sector) (more : place < at + n) (fits : at + n ≤ length old.bytes) where
  -- Size of a sector in bytes.
  abbrev span : ℕ
  span = old.grain.sector

  sector_above_one : 1 < span
  sector_above_one = omega (arith, some, sized.whole.pages)

  sector_size_kept : mid.grain.sector ≡ span
  sector_size_kept = ap (λ (w : Grain). w.sector) to.grain

  end_there : place + span ≤ length mid.bytes
  end_there =
      omega (
        arith,
        sector_ends_before_edge span place (length old.bytes) to.edge (sized_medium_ends_at_edge old sized some) (omega (
          arith,
          more,
          fits,
        )),
        to.size,
      )

  -- The next sector lies within the medium.
  pub next_sector_within_medium : place + mid.grain.sector ≤ length mid.bytes
  next_sector_within_medium = omega (arith, sector_size_kept, end_there)

  next_sector_erase_comes_first : sector_erases span place (at + n - place)
      ≡ erase_write span place ∷ sector_erases span (place + span) (at + n - place - span)
  next_sector_erase_comes_first = first_sector_is_erased_first span place (at + n - place) sector_above_one to.edge (omega (arith, more))

  -- After the next sector is erased, the sectors up to its end are erased.
  pub erased_to_next_sector : (now : MediumState) → WroteBytes mid place (replicate mid.grain.sector 255) now
      → ErasedTo old now span at n (place + span)
  erased_to_next_sector now answered =
      let wrote = subst (λ (k : ℕ). WroteBytes mid place (replicate k 255) now) sector_size_kept answered in
      let first : List Write = erase_write span place ∷ [] in
      let kept : length now.bytes ≡ length mid.bytes = ap length wrote.bytes
      ∙ (whole_write_is_torn mid.bytes place (replicate span 255) (omega (arith, end_there, length-replicate {A = ℕ} span 255))).size in
      let left : at + n - place - span ≡ at + n - (place + span) = omega arith in
      record {
        front = to.front ++ first;
        all = two_lists_work_as_one to.front first old mid now to.all (now, wrote, refl);
        pieces = to.pieces ∙ ap (λ (ws : List Write). to.front ++ ws) (next_sector_erase_comes_first
            ∙ ap (λ (k : ℕ). erase_write span place ∷ sector_erases span (place + span) k) left)
            ∙ sym (append_assoc to.front first (sector_erases span (place + span) (at + n - (place + span))));
        edge = edge_sum_is_edge span place span (λ s. to.edge) (λ s. mod_self span) (omega (arith, sector_above_one));
        within = omega (arith, kept, end_there);
        grain = wrote.grain ∙ to.grain;
        size = kept ∙ to.size;
      }

  -- If the next erase fails, its fault interrupts the erases.
  pub erases_broken_at_sector : (now : MediumState) (fault : WriteFault) → FailedWrite fault mid place (replicate mid.grain.sector 255) now
      → BrokenWrites fault old (sector_erases span at n) now
  erases_broken_at_sector now fault failed =
      subst (λ (ws : List Write). BrokenWrites fault old ws now) (sym (to.pieces ∙ ap (λ (ws : List Write). to.front
      ++ ws) next_sector_erase_comes_first))
      (second_part_may_break fault to.front (erase_write span place ∷ sector_erases span (place + span) (at + n - place - span)) old mid
      now to.all
      (inl (subst (λ (k : ℕ). FailedWrite fault mid place (replicate k 255) now) sector_size_kept failed)))

-- If no sector is left to erase, all sectors of the range are erased.
pub all_sectors_erased : {old mid : MediumState} {sector at n place : ℕ} → ErasedTo old mid sector at n place → at + n ≤ place
    → AllWrites old (sector_erases sector at n) mid
all_sectors_erased {old} {mid} {sector} {at} {n} {place} to done =
    let none : at + n - place ≡ 0 = omega (arith, done) in
    subst (λ (ws : List Write). AllWrites old ws mid)
    (sym (to.pieces ∙ ap (λ (k : ℕ). to.front ++ sector_erases sector place k) none ∙ append-nil to.front)) to.all
