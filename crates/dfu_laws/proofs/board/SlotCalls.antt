-- Images in the slots of a medium after the pending row: each was in a slot before, or is active.
use Rattle.std.proofs.Common.{◌≡◌, ◌⊎◌, inl, inr, ◌==◌, Bool, true, false, IsTrue, if◌then◌else◌, ℕ, ◌+◌, ◌-◌, ◌*◌, ◌≤◌, ◌≢◌, List, [], ◌∷◌, ◌++◌, length, take, refl, sym, ◌∙◌, ap, subst, arith, length-append}
use Rattle.std.proofs.lemmas.Bool.{eqb-true, eqb-false, and_parts}
use Rattle.std.proofs.lemmas.List.{length-take}
use Rattle.dfu_slots.specs.declared.fault.WriteFault.{WriteFault}
use Rattle.dfu_slots.specs.Units.{Grain, gate_room, filled_units}
use Rattle.dfu_slots.specs.Medium.{MediumState}
use Rattle.dfu_slots.specs.Layout.{slot_size, slot, HasOpenGate}
use Rattle.dfu_slots.specs.Image.{gate_of, capacity_of, Active, HasImage, spare_at}
use Rattle.dfu_slots.specs.Writes.{held_writes}
use Rattle.dfu_slots.specs.StoreView.{SlotsState, held_data_place, data_place, spare_of, is_begun, StoreCall, Begin, Put, Commit, writes_of, Ending, AllWorked, BrokenBy, CallEnds, CallsEnd}
use Rattle.dfu_slots.specs.Store.{IsStore}
use Rattle.dfu_slots.proofs.Stands.{active_image_at_its_place}
use Rattle.dfu_slots.proofs.Newest.{test_finds_active_image}
use Rattle.dfu_slots.proofs.Edges.{slot_ends_at_edge}
use Rattle.dfu_slots.proofs.Series.{WritesEnded}
use Rattle.dfu_slots.proofs.Multiples.{held_bytes_end_at_put_end, filled_held_fits_capacity}
use Rattle.dfu_slots.proofs.WritesWithErases.{write_some_lies_inside}
use Rattle.dfu_slots.proofs.PutWrites.{put_writes_lie_inside}
use Rattle.dfu_slots.proofs.BeginMedium.{begin_keeps_size, begin_keeps_active_image, begin_closes_gate}
use Rattle.dfu_slots.proofs.VisibleStores.{room_is_capacity, begun_gate_is_closed, active_on_same_size}
use Rattle.dfu_device.specs.declared.answer.Answer.{Answer}
use Rattle.dfu_device.specs.declared.device_state.DeviceState.{DeviceState}
use Rattle.dfu_device.specs.declared.device_state.DeviceState.TheVariants as device_state
use Rattle.dfu_device.specs.Parts.{view_of_parts, are_device_parts}
use Rattle.dfu_device.specs.Rows.{block_calls}
use Rattle.dfu_device.specs.DeviceView.{DeviceView}
use Rattle.dfu_asks.specs.declared.pending_writes.PendingWrites.{PendingWrites}
use Rattle.dfu_asks.specs.Lent.{LentDevice}
use Rattle.dfu_asks.specs.Due.{DueRowWorks, DueRowFails}
use Rattle.dfu_asks.specs.Asks.{device_of, IsDueJobOfMode, IsWorkingForRow}
use Rattle.dfu_asks.proofs.Working.{NextBlockFits, unwritten_block_may_be_written, due_commit_commits_all_puts}
use Rattle.dfu_laws.specs.board.Slots.{IsInSlot}
use Rattle.dfu_laws.proofs.board.Slots.{begin_adds_no_image, data_writes_add_no_image}
use Rattle.dfu_laws.proofs.board.Opens.{commit_keeps_or_activates_image}

-- Each image in a slot was in a slot before, or is active.
abbrev pub SlotImagesKeptOrActive : MediumState → MediumState → Type 0
SlotImagesKeptOrActive m now = (i : List ℕ) → IsInSlot now i → IsInSlot m i ⊎ Active now i

-- The writes of a call were completed or broken off.
call_ends_its_writes : (s now : SlotsState) (call : StoreCall) (ending : Ending) → CallEnds s call ending now
    → WritesEnded s.medium (writes_of s call) now.medium
call_ends_its_writes s now call AllWorked c = inl c.writes
call_ends_its_writes s now call (BrokenBy fault) c = inr (fault, c.writes)

one_call_ends_its_writes : (s now : SlotsState) (call : StoreCall) (ending : Ending) → CallsEnd s (call ∷ []) ending now
    → WritesEnded s.medium (writes_of s call) now.medium
one_call_ends_its_writes s now call AllWorked (mid, came, same) =
    subst (λ (x : SlotsState). WritesEnded s.medium (writes_of s call) x.medium) (sym same) (call_ends_its_writes s mid call AllWorked came)
one_call_ends_its_writes s now call (BrokenBy fault) (inl broken) = call_ends_its_writes s now call (BrokenBy fault) broken
one_call_ends_its_writes s now call (BrokenBy fault) (inr (mid, came, none)) = absurd none

-- A `put` into a closed spare slot adds no image to the slots.
put_adds_no_image : (s now : SlotsState) (has : HasImage s.medium) → ¬ HasOpenGate (slot (gate_of s.medium) s.medium.bytes has.active.spare)
    → (at : ℕ) (new : List ℕ) → at - length s.held + length (s.held ++ new) ≤ capacity_of s.medium
    → WritesEnded s.medium (writes_of s (Put at new)) now.medium → (i : List ℕ) → IsInSlot now.medium i → IsInSlot s.medium i
put_adds_no_image s now has shut at new fits ends =
    let a = has.active in
    let g = gate_of s.medium in
    let place = (test_finds_active_image g s.medium.bytes a.at a.spare has.image (active_image_at_its_place a)).1 in
    data_writes_add_no_image s.medium now.medium has shut (writes_of s (Put at new))
    (put_writes_lie_inside s.medium.grain s.held new (a.spare + 2 * g) (a.spare + slot_size s.medium.bytes) (data_place s (at - length
    s.held))
    (slot_ends_at_edge s.medium.grain s.medium.bytes (active_image_at_its_place a).sized a.sized.whole a.at a.spare a.places) (omega
    (arith, place))
    (omega (arith, place, fits, a.sized.room))) ends

-- A `begin` and the first `put` after it add no image to the slots.
first_put_adds_no_image : (s now : SlotsState) (has : HasImage s.medium) (new : List ℕ) → length new ≤ capacity_of s.medium →
    (ending : Ending)
    → CallsEnd s (Begin ∷ Put 0 new ∷ []) ending now → (i : List ℕ) → IsInSlot now.medium i → IsInSlot s.medium i
first_put_adds_no_image s now has new fits ending called = by_ending_of_calls ending called
  where
    after : (mid : SlotsState) → CallEnds s Begin AllWorked mid → (e : Ending) → CallsEnd mid (Put 0 new ∷ []) e now → (i : List ℕ)
        → IsInSlot now.medium i → IsInSlot s.medium i
    after mid came e more i x =
        let a = has.active in
        let w = s.medium.grain in
        let st = active_image_at_its_place a in
        let same = begin_keeps_size w s.medium mid.medium a.at a.spare has.image st (inl came.writes) in
        let kept = begin_keeps_active_image w s.medium mid.medium a.at a.spare has.image st (inl came.writes) in
        let there : HasImage mid.medium = record {
          image = has.image;
          active = active_on_same_size a.at a.spare has.image same a.sized.whole kept;
        } in
        let closed = begin_closes_gate w s.medium mid.medium a.at a.spare has.image st came.writes in
        let b = there.active in
        let place : b.spare ≡ spare_at (gate_room w) mid.medium.bytes =
        (test_finds_active_image (gate_of mid.medium) mid.medium.bytes b.at b.spare there.image (active_image_at_its_place b)).1
        ∙ ap (λ (x : Grain). spare_at (gate_room x) mid.medium.bytes) same.grain in
        let shut : ¬ HasOpenGate (slot (gate_of mid.medium) mid.medium.bytes b.spare) = λ is_open. closed
        (subst (λ (q : ℕ). HasOpenGate (slot (gate_room w) mid.medium.bytes q)) place is_open) in
        let none : mid.held ≡ [] = came.held_is in
        let room : 0 - length mid.held + length (mid.held ++ new) ≤ capacity_of mid.medium = omega
        (arith, ap length none, length-append mid.held new, fits, ap gate_room same.grain, same.size) in
        begin_adds_no_image s.medium mid.medium has (inl came.writes) i
        (put_adds_no_image mid now there shut 0 new room (one_call_ends_its_writes mid now (Put 0 new) e more) i x)

    by_ending_of_calls : (e : Ending) → CallsEnd s (Begin ∷ Put 0 new ∷ []) e now → (i : List ℕ) → IsInSlot now.medium i →
        IsInSlot s.medium i
    by_ending_of_calls AllWorked (mid, came, more) = after mid came AllWorked more
    by_ending_of_calls (BrokenBy fault) (inl broken) = begin_adds_no_image s.medium now.medium has (call_ends_its_writes s now Begin
        (BrokenBy fault) broken)
    by_ending_of_calls (BrokenBy fault) (inr (mid, came, more)) = after mid came (BrokenBy fault) more

module _ (s now : SlotsState) (store : IsStore s) where
  has : HasImage s.medium
  has = store.has_image

  -- The spare slot is closed after a successful `begin`.
  begun_spare_is_closed : is_begun s ≡ true → ¬ HasOpenGate (slot (gate_of s.medium) s.medium.bytes has.active.spare)
  begun_spare_is_closed begun =
      let place = (test_finds_active_image (gate_of s.medium) s.medium.bytes has.active.at has.active.spare has.image
      (active_image_at_its_place has.active)).1 in
      subst (λ (q : ℕ). ¬ HasOpenGate (slot (gate_of s.medium) s.medium.bytes q)) (sym place) (begun_gate_is_closed s begun)

  -- The calls that write a block add no image to the slots.
  block_calls_add_no_image : (n : ℕ) (block : List ℕ) → NextBlockFits s n (length block) → (ending : Ending)
      → CallsEnd s (block_calls (take n (spare_of s)) block) ending now → (i : List ℕ) → IsInSlot now.medium i → IsInSlot s.medium i
  block_calls_add_no_image n block next ending = by_test (length (take n (spare_of s)) == 0) refl
    where
      further : length (take n (spare_of s)) ≢ 0 → CallsEnd s (Put (length (take n (spare_of s))) block ∷ []) ending now → (i : List ℕ)
          → IsInSlot now.medium i → IsInSlot s.medium i
      further some called = elim (next.before) [
        | inl none ↦ absurd (some (ap (λ (k : ℕ). length (take k (spare_of s))) none))
        | inr put ↦
            let both = and_parts (is_begun s) (s.put_end == n) put in
            put_adds_no_image s now has (begun_spare_is_closed both.0) (length (take n (spare_of s))) block
            (omega (
              arith,
              length-append s.held block,
              eqb-true _ _ both.1,
              held_bytes_end_at_put_end s store.puts,
              next.room,
              room_is_capacity s,
              length-take n (spare_of s),
            ))
            (one_call_ends_its_writes s now (Put (length (take n (spare_of s))) block) ending called)
      ]

      by_test : (t : Bool) → (length (take n (spare_of s)) == 0) ≡ t
          → CallsEnd s (if t then Begin ∷ Put 0 block ∷ [] else Put (length (take n (spare_of s))) block ∷ []) ending now → (i : List ℕ)
          → IsInSlot now.medium i → IsInSlot s.medium i
      by_test true e called = first_put_adds_no_image s now has block (omega (arith, next.room, room_is_capacity s)) ending called
      by_test false e called = further (eqb-false _ _ e) called

  -- The calls of a commit add no image to the slots, except the one that becomes active.
  commit_keeps_slot_images : HasImage now.medium → (len : ℕ) → is_begun s ≡ true → (ending : Ending) →
      CallsEnd s (Commit len ∷ []) ending now
      → SlotImagesKeptOrActive s.medium now.medium
  commit_keeps_slot_images after len begun ending called =
      let a = has.active in
      let g = gate_of s.medium in
      let place = (test_finds_active_image g s.medium.bytes a.at a.spare has.image (active_image_at_its_place a)).1 in
      commit_keeps_or_activates_image s.medium now.medium has after (begun_spare_is_closed begun) (held_writes s.medium.grain (data_place s
      (held_data_place s)) s.held) len
      _
      (write_some_lies_inside s.medium.grain.sector (a.spare + 2 * g) (a.spare + slot_size s.medium.bytes) (data_place s (held_data_place
      s))
      (filled_units s.medium.grain.unit s.held)
      (slot_ends_at_edge s.medium.grain s.medium.bytes (active_image_at_its_place a).sized a.sized.whole a.at a.spare a.places) (omega
      (arith, place))
      (omega (arith, place, filled_held_fits_capacity s store.puts a.sized.whole.units, a.sized.room)))
      (one_call_ends_its_writes s now (Commit len) ending called)

-- After the pending row, completed or broken off, each image in a slot was in a slot before, or is active.
module _ (a : LentDevice) (w : PendingWrites) (len : ℕ) (s : SlotsState) (was : List ℕ) (on : IsWorkingForRow a w len s was) (x : Answer)
    (out : List ℕ) (w' : DeviceView) (after : HasImage w'.slots.medium) where
  pub working_row_keeps_slot_images : DueRowWorks len (device_of a s) x out w' → SlotImagesKeptOrActive s.medium w'.slots.medium
  working_row_keeps_slot_images = by_mode a.mode on.sound on.due
    where
      by_mode : (m : DeviceState) → IsTrue (are_device_parts m (length a.block) s) → IsDueJobOfMode m w.asked len s w.job a.put_end a.held
          → DueRowWorks len (view_of_parts a.config s m a.block) x out w' → SlotImagesKeptOrActive s.medium w'.slots.medium
      by_mode (device_state.DownloadSync n number) sound due (says, h) =
          λ i y. inl (block_calls_add_no_image s w'.slots on.store n a.block
          (unwritten_block_may_be_written n (length a.block) s sound) AllWorked h.calls
          i y)
      by_mode (device_state.DownloadBusy n number passed) sound due (says, h) =
          λ i y. inl (block_calls_add_no_image s w'.slots on.store n a.block
          (unwritten_block_may_be_written n (length a.block) s sound) AllWorked h.calls
          i y)
      by_mode (device_state.ManifestSync n) sound due (says, h) =
          commit_keeps_slot_images s w'.slots on.store after (length (take n (spare_of s)))
          (and_parts _ _ (due_commit_commits_all_puts n s sound).put).0 AllWorked h.calls
      by_mode (device_state.Manifest n passed) sound due (says, h) =
          commit_keeps_slot_images s w'.slots on.store after (length (take n (spare_of s)))
          (and_parts _ _ (due_commit_commits_all_puts n s sound).put).0 AllWorked h.calls
      by_mode m sound due row = absurd due

  pub failing_row_keeps_slot_images : (fault : WriteFault) → DueRowFails fault len (device_of a s) x out w' →
      SlotImagesKeptOrActive s.medium w'.slots.medium
  failing_row_keeps_slot_images fault = by_mode a.mode on.sound on.due
    where
      by_mode : (m : DeviceState) → IsTrue (are_device_parts m (length a.block) s) → IsDueJobOfMode m w.asked len s w.job a.put_end a.held
          → DueRowFails fault len (view_of_parts a.config s m a.block) x out w' → SlotImagesKeptOrActive s.medium w'.slots.medium
      by_mode (device_state.DownloadSync n number) sound due (says, h) =
          λ i y. inl (block_calls_add_no_image s w'.slots on.store n a.block (unwritten_block_may_be_written n (length a.block) s sound)
          (BrokenBy fault)
          h.calls i y)
      by_mode (device_state.DownloadBusy n number passed) sound due (says, h) =
          λ i y. inl (block_calls_add_no_image s w'.slots on.store n a.block (unwritten_block_may_be_written n (length a.block) s sound)
          (BrokenBy fault)
          h.calls i y)
      by_mode (device_state.ManifestSync n) sound due (says, h) =
          commit_keeps_slot_images s w'.slots on.store after (length (take n (spare_of s))) (and_parts _ _ (due_commit_commits_all_puts n s
          sound).put).0
          (BrokenBy fault)
          h.calls
      by_mode (device_state.Manifest n passed) sound due (says, h) =
          commit_keeps_slot_images s w'.slots on.store after (length (take n (spare_of s))) (and_parts _ _ (due_commit_commits_all_puts n s
          sound).put).0
          (BrokenBy fault)
          h.calls
      by_mode m sound due row = absurd due
