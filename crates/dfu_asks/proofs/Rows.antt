-- The series of writes of a row has the same effect as the slot store calls of that row.
use Rattle.std.proofs.Common.{◌≡◌, ◌⊎◌, inl, inr, ⊎_elim, ◌==◌, Bool, true, false, if◌then◌else◌, ℕ, zero, suc, ◌+◌, ◌*◌, ◌≤◌, ◌<◌, List, [], ◌∷◌, ◌++◌, length, take, OnErr, refl, sym, ◌∙◌, ap, subst, arith}
use Rattle.std.proofs.lemmas.Bool.{cases_eq, ne_eqb, eqb-true, and_parts}
use Rattle.std.proofs.lemmas.List.{length-take-le}
use Rattle.dfu_slots.specs.declared.fault.WriteFault.{WriteFault}
use Rattle.dfu_slots.specs.declared.fault.WriteFault.TheVariants.{Failed, NotVerified}
use Rattle.dfu_slots.specs.Units.{gate_room}
use Rattle.dfu_slots.specs.Medium.{MediumState, Write, AllWrites, BrokenWrites}
use Rattle.dfu_slots.specs.Writes.{put_writes, put_rest}
use Rattle.dfu_slots.specs.StoreView.{SlotsState, store_of, store_on, data_place, image_of, spare_of, is_begun, room_of, is_shaped, Begin, Put, Commit, writes_of, AllWorked, BrokenBy, CallWorked, CallFailed, CallEnding, Ending, CallsEnd}
use Rattle.dfu_slots.specs.Store.{IsStore}
use Rattle.dfu_slots.proofs.Series.{list_has_two_parts, either_part_was_broken, writes_keep_grain}
use Rattle.dfu_slots.proofs.UnchangedSlots.{SamePlaces}
use Rattle.dfu_device.specs.Parts.{is_put}
use Rattle.dfu_device.proofs.Calls.{one_call_is_series, first_block_ends_as_put, failed_begin_ends_calls, later_block_ends_as_put, room_fits_spare_slot, put_bytes_count_as_put}
use Rattle.dfu_asks.specs.Series.{block_series, block_store, BlockWritten, BlockBroken, CommitCompleted, CommitBroken}
use Rattle.dfu_asks.proofs.StoreCallResults.{worked_call, broken_call, ending_of_broken_call, begun, begin_keeps_slot_places, broken_begin_keeps_places, broken_begin_result, worked_put_result, broken_put_result, worked_commit_result, broken_commit_result}

-- The slot store calls of the first block: `begin`, which closes the gate, and `put`.

module _ (s : SlotsState) (store : IsStore s) (block : List ℕ) (fits : length block ≤ room_of s) (m : MediumState) where
  abbrev first_block_writes : List Write
  first_block_writes = put_writes s.medium.grain (data_place s 0) [] block

  -- Facts that hold if all writes of `begin` succeeded.
  module _ (mid : MediumState) (first : AllWrites s.medium (writes_of s Begin) mid) where
    abbrev b : SlotsState
    b = store_on mid

    begin_worked_in_row : CallWorked s Begin b
    begin_worked_in_row = record { writes = first; held_is = refl; end_is = refl }

    grain : mid.grain ≡ s.medium.grain
    grain = writes_keep_grain (writes_of s Begin) s.medium mid first

    begin_keeps_row_places : SamePlaces s.medium mid
    begin_keeps_row_places = begin_keeps_slot_places s b store begin_worked_in_row

    first_block_series : ◌≡◌ {A = List Write} first_block_writes (writes_of b (Put 0 block))
    first_block_series = λ i. put_writes (sym grain i) (sym begin_keeps_row_places.spare i + 2 * gate_room (sym grain i) + 0) [] block

    room_after_row_begin : room_of b ≡ room_of s
    room_after_row_begin = (begun s b store begin_worked_in_row).common.room

    first_block_fits_room : 0 + length block ≤ room_of b
    first_block_fits_room = omega (arith, fits, room_after_row_begin)

    first_put_written : AllWrites mid first_block_writes m → BlockWritten s 0 block (store_of m (put_rest s.medium.grain.unit [] block) (0
        + length block))
    first_put_written second =
        let now = store_of m (put_rest s.medium.grain.unit [] block) (0 + length block) in
        let lb = begun s b store begin_worked_in_row in
        let w : CallWorked b (Put 0 block) now = record {
          writes = subst (λ (ws : List Write). AllWrites mid ws m) first_block_series second;
          held_is = λ i. put_rest (sym grain i).unit [] block;
          end_is = refl;
        } in
        let came = worked_put_result b now lb.common.store 0 block refl lb.shut first_block_fits_room w in
        let lp = came.1 in
        record {
          calls = first_block_ends_as_put s b now 0 block AllWorked refl (lb.common.call refl (omega arith)) (lp.common.call lb.shut
              first_block_fits_room);
          store = lp.common.store;
          image = lp.image ∙ lb.image;
          place = came.0.active ∙ begin_keeps_row_places.active;
          room = lp.common.room ∙ lb.common.room;
          put = put_bytes_count_as_put worked_call b now (0 + length block) lb.shut lp.shut lp.end;
          spare = lp.front;
        }

    first_put_broken : (fault : WriteFault) → BrokenWrites fault mid first_block_writes m → BlockBroken fault s 0 block (store_on m)
    first_put_broken fault second =
        let lb = begun s b store begin_worked_in_row in
        let w : CallFailed fault b (Put 0 block) (store_on m) = record {
          writes = subst (λ (ws : List Write). BrokenWrites fault mid ws m) first_block_series second;
          held_is = refl;
          end_is = refl;
        } in
        let came = broken_put_result b (store_on m) lb.common.store 0 block refl lb.shut first_block_fits_room fault w in
        let lp = came.1 in
        record {
          calls = first_block_ends_as_put s b (store_on m) 0 block (BrokenBy fault) refl (lb.common.call refl (omega arith))
              (subst (λ (e : Ending). CallEnding b (Put 0 block) e (store_on m)) (ending_of_broken_call fault) (lp.common.call lb.shut
              first_block_fits_room));
          store = lp.common.store;
          image = lp.image ∙ lb.image;
          place = came.0.active ∙ begin_keeps_row_places.active;
          room = lp.common.room ∙ lb.common.room;
        }

  first_block_written : AllWrites s.medium (writes_of s Begin ++ first_block_writes) m
      → BlockWritten s 0 block (store_of m (put_rest s.medium.grain.unit [] block) (0 + length block))
  first_block_written all =
      let parts = list_has_two_parts (writes_of s Begin) first_block_writes s.medium m all in
      first_put_written parts.0 parts.1.first parts.1.second

  first_begin_broken : (fault : WriteFault) → BrokenWrites fault s.medium (writes_of s Begin) m → BlockBroken fault s 0 block (store_on m)
  first_begin_broken fault early =
      let failed : CallFailed fault s Begin (store_on m) = record { writes = early; held_is = refl; end_is = refl } in
      let lb = broken_begin_result s (store_on m) store fault failed in
      record {
        calls = failed_begin_ends_calls fault s (store_on m) 0 block refl
            (subst (λ (e : Ending). CallEnding s Begin e (store_on m)) (ending_of_broken_call fault) (lb.common.call refl (omega arith)));
        store = lb.common.store;
        image = lb.image;
        place = (broken_begin_keeps_places s (store_on m) store fault failed).active;
        room = lb.common.room;
      }

  first_block_broken : (fault : WriteFault) → BrokenWrites fault s.medium (writes_of s Begin ++ first_block_writes) m
      → BlockBroken fault s 0 block (store_on m)
  first_block_broken fault all = elim (either_part_was_broken fault (writes_of s Begin) first_block_writes s.medium m all) [
    | inl early ↦ first_begin_broken fault early
    | inr late ↦ first_put_broken late.0 late.1.first fault late.1.second
  ]

-- The slot store call of a block after n bytes: `put`, because the store is begun already.

module _ (s : SlotsState) (store : IsStore s) (shape : is_shaped s ≡ true) (n : ℕ) (block : List ℕ) (some : 0 < n) (put : is_put n s ≡ true)
    (fits : n + length block ≤ room_of s) (m : MediumState) where
  row_is_begun : is_begun s ≡ true
  row_is_begun = (and_parts (is_begun s) (s.put_end == n) put).0

  block_at_put_end : n ≡ s.put_end
  block_at_put_end = sym (eqb-true _ _ (and_parts (is_begun s) (s.put_end == n) put).1)

  put_lies_within_spare : n ≤ length (spare_of s)
  put_lies_within_spare = room_fits_spare_slot s n shape (omega (arith, fits))

  further_block_written : AllWrites s.medium (writes_of s (Put n block)) m
      → BlockWritten s n block (store_of m (put_rest s.medium.grain.unit s.held block) (n + length block))
  further_block_written all =
      let now = store_of m (put_rest s.medium.grain.unit s.held block) (n + length block) in
      let came = worked_put_result s now store n block block_at_put_end row_is_begun fits (record {
        writes = all;
        held_is = refl;
        end_is =
            refl;
      }) in
      let lp = came.1 in
      record {
        calls = later_block_ends_as_put s now n block AllWorked some put_lies_within_spare (lp.common.call row_is_begun fits);
        store = lp.common.store;
        image = lp.image;
        place = came.0.active;
        room = lp.common.room;
        put = put_bytes_count_as_put worked_call s now (n + length block) row_is_begun lp.shut lp.end;
        spare = lp.front;
      }

  further_block_broken : (fault : WriteFault) → BrokenWrites fault s.medium (writes_of s (Put n block)) m
      → BlockBroken fault s n block (store_on m)
  further_block_broken fault all =
      let came = broken_put_result s (store_on m) store n block block_at_put_end row_is_begun fits fault (record {
        writes = all;
        held_is =
            refl;
        end_is = refl;
      }) in
      let lp = came.1 in
      record {
        calls = later_block_ends_as_put s (store_on m) n block (BrokenBy fault) some put_lies_within_spare
            (subst (λ (e : Ending). CallEnding s (Put n block) e (store_on m)) (ending_of_broken_call fault) (lp.common.call row_is_begun
            fits));
        store = lp.common.store;
        image = lp.image;
        place = came.0.active;
        room = lp.common.room;
      }

-- The slot store calls of a block, which is the first one if n is 0.

module _ (s : SlotsState) (store : IsStore s) (shape : is_shaped s ≡ true) (n : ℕ) (block : List ℕ)
    (before : (n ≡ 0) ⊎ (is_put n s ≡ true)) (fits : n + length block ≤ room_of s) (m : MediumState) where
  put_before_further_block : ¬ (n ≡ 0) → is_put n s ≡ true
  put_before_further_block some = ⊎_elim (λ none. absurd (some none)) (λ put. put) before

  nonzero_is_positive : ¬ (n ≡ 0) → 0 < n
  nonzero_is_positive some = ⊎_elim (λ p. p) (λ none. absurd (some none)) (some_or_none n)
    where
      some_or_none : (n : ℕ) → (0 < n) ⊎ (n ≡ 0)
      some_or_none zero = inr refl
      some_or_none (suc k) = inl (omega arith)

  -- If all writes of a block succeed, the spare slot contains the block, and the active image is unchanged.
  pub made_series_writes_block : AllWrites s.medium (block_series s n block) m → BlockWritten s n block (block_store s n block m)
  made_series_writes_block all = elim (cases_eq n 0) [
    | inl none ↦
        let e : (n == 0) ≡ true = ap (λ (k : ℕ). k == 0) none in
        subst (λ (k : Bool). BlockWritten s n block
        (store_of m (put_rest s.medium.grain.unit (if k then [] else s.held) block) (n + length block))) (sym e)
        (subst (λ (k : ℕ). BlockWritten s k block (store_of m (put_rest s.medium.grain.unit [] block) (k + length block))) (sym none)
        (first_block_written s store block (omega (arith, fits)) m
        (subst (λ (k : Bool). AllWrites s.medium (if k then writes_of s Begin ++ put_writes s.medium.grain (data_place s 0) [] block
        else writes_of s (Put n block)) m) e all)))
    | inr some ↦
        let e : (n == 0) ≡ false = ne_eqb n 0 some in
        subst (λ (k : Bool). BlockWritten s n block
        (store_of m (put_rest s.medium.grain.unit (if k then [] else s.held) block) (n + length block))) (sym e)
        (further_block_written s store shape n block (nonzero_is_positive some) (put_before_further_block some) fits m
        (subst (λ (k : Bool). AllWrites s.medium (if k then writes_of s Begin ++ put_writes s.medium.grain (data_place s 0) [] block
        else writes_of s (Put n block)) m) e all))
  ]

  -- If a write of a block has a fault, the fault breaks off the calls of the block, and the active image is unchanged.
  pub fault_breaks_off_block : (fault : WriteFault) → BrokenWrites fault s.medium (block_series s n block) m
      → BlockBroken fault s n block (store_on m)
  fault_breaks_off_block fault all = elim (cases_eq n 0) [
    | inl none ↦
        let e : (n == 0) ≡ true = ap (λ (k : ℕ). k == 0) none in
        subst (λ (k : ℕ). BlockBroken fault s k block (store_on m)) (sym none)
        (first_block_broken s store block (omega (arith, fits)) m fault
        (subst (λ (k : Bool). BrokenWrites fault s.medium
        (if k then writes_of s Begin ++ put_writes s.medium.grain (data_place s 0) [] block
        else writes_of s (Put n block)) m) e all))
    | inr some ↦
        let e : (n == 0) ≡ false = ne_eqb n 0 some in
        further_block_broken s store shape n block (nonzero_is_positive some) (put_before_further_block some) fits m fault
        (subst (λ (k : Bool). BrokenWrites fault s.medium
        (if k then writes_of s Begin ++ put_writes s.medium.grain (data_place s 0) [] block
        else writes_of s (Put n block)) m) e all)
  ]

-- The slot store call of a commit of all n bytes that were put into the slot.

module _ (s : SlotsState) (store : IsStore s) (shape : is_shaped s ≡ true) (n : ℕ) (put : is_put n s ≡ true) (fits : n ≤ room_of s)
    (m : MediumState) where
  commit_is_begun : is_begun s ≡ true
  commit_is_begun = (and_parts (is_begun s) (s.put_end == n) put).0

  commit_has_at_most_puts : n ≤ s.put_end
  commit_has_at_most_puts = omega (arith, eqb-true _ _ (and_parts (is_begun s) (s.put_end == n) put).1)

  committed_front_length : length (take n (spare_of s)) ≡ n
  committed_front_length = length-take-le n (spare_of s) (room_fits_spare_slot s n shape fits)

  commit_front_is_one_call : (now : SlotsState) (ending : Ending) → CallEnding s (Commit n) ending now
      → CallsEnd s (Commit (length (take n (spare_of s))) ∷ []) ending now
  commit_front_is_one_call now ending d =
      subst (λ (k : ℕ). CallsEnd s (Commit k ∷ []) ending now) (sym committed_front_length) (one_call_is_series s now (Commit n) ending d)

  -- If all writes of a commit succeed, the first n bytes of the spare slot become the active image.
  pub commit_series_completes : AllWrites s.medium (writes_of s (Commit n)) m → CommitCompleted s n (store_on m)
  commit_series_completes all =
      let l = worked_commit_result s (store_on m) store n commit_has_at_most_puts commit_is_begun (record {
        writes = all;
        held_is = refl;
        end_is
            = refl;
      }) in
      record {
        calls = commit_front_is_one_call (store_on m) AllWorked (l.common.call commit_is_begun fits);
        store = l.common.store;
        image = l.image;
        room = l.common.room;
      }

  -- If a write of a commit has a fault, the old image is still active, or the n bytes are the active image.
  pub fault_breaks_off_commit : (fault : WriteFault) → BrokenWrites fault s.medium (writes_of s (Commit n)) m →
      CommitBroken fault s n (store_on m)
  fault_breaks_off_commit fault all =
      let l = broken_commit_result s (store_on m) store n commit_has_at_most_puts commit_is_begun fault (record {
        writes = all;
        held_is = refl;
        end_is = refl;
      }) in
      record {
        calls = commit_front_is_one_call (store_on m) (BrokenBy fault)
            (subst (λ (e : Ending). CallEnding s (Commit n) e (store_on m)) (ending_of_broken_call fault) (l.common.call commit_is_begun
            fits));
        store = l.common.store;
        image = kept fault l.kept;
        room = l.common.room;
      }
    where
      kept : (fault : WriteFault)
          → OnErr (broken_call fault) ((image_of (store_on m) ≡ image_of s) ⊎ (image_of (store_on m) ≡ take n (spare_of s)))
          → (image_of (store_on m) ≡ image_of s) ⊎ (image_of (store_on m) ≡ take n (spare_of s))
      kept Failed k = k
      kept NotVerified k = k
