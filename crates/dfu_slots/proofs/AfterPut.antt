-- Facts about the store that `put` leaves.
use Rattle.std.proofs.Common.{◌≡◌, ℕ, ◌+◌, ◌-◌, ◌*◌, ◌/◌, ◌%◌, ◌≤◌, ◌<◌, List, ◌++◌, length, take, Result, IsErrOf, ◌↔◌, sym, ◌∙◌, ap, subst, arith, length-append, take-append-drop}
use Rattle.std.proofs.lemmas.List.{length-take-le, append_assoc}
use Rattle.dfu_slots.specs.declared.fault.PutFault.{PutFault}
use Rattle.dfu_slots.specs.declared.fault.PutFault.TheVariants.{TooLarge, NotBegun}
use Rattle.dfu_slots.specs.Units.{unit_size, whole_part, gate_room, Grain}
use Rattle.dfu_slots.specs.Medium.{AllWrites, IsWritableAhead, written}
use Rattle.dfu_slots.specs.Writes.{put_writes, put_rest}
use Rattle.dfu_slots.specs.Layout.{slot_size, Slot, slot, HasOpenGate}
use Rattle.dfu_slots.specs.Image.{gate_of, capacity_of, spare_at, spare}
use Rattle.dfu_slots.specs.StoreView.{SlotsState, spare_slot, held_data_place, data_place, spare_of, Put, writes_of, CallWorked}
use Rattle.dfu_slots.specs.Store.{HasPutBytes, IsStore}
use Rattle.dfu_slots.specs.Changes.{CallChanges}
use Rattle.dfu_slots.specs.CallResults.{CallIsRefused, StorePutResult}
use Rattle.dfu_slots.specs.inside.PlaceMemory.{RemembersPlaces}
use Rattle.dfu_slots.proofs.Stands.{active_image_at_its_place}
use Rattle.dfu_slots.proofs.Newest.{test_finds_active_image, slot_place_ends_within, spare_data_has_capacity}
use Rattle.dfu_slots.proofs.Sectors.{IsSectorEdge, gate_room_at_least_16}
use Rattle.dfu_slots.proofs.Multiples.{rest_at_most_length, rest_of_sum_by_rests, held_bytes_end_at_put_end}
use Rattle.dfu_slots.proofs.Series.{AllWritesInside}
use Rattle.dfu_slots.proofs.SpareData.{SpareDataResult, closed_spare_data_result, write_is_in_spare_data, write_extends_spare_front}
use Rattle.dfu_slots.proofs.WritesWithErases.{LeavesBytesAt}
use Rattle.dfu_slots.proofs.WritesWithinRanges.{written_bytes_after_front}
use Rattle.dfu_slots.proofs.Edges.{slot_ends_at_edge}
use Rattle.dfu_slots.proofs.PutBytes.{erased_ahead_of_put}
use Rattle.dfu_slots.proofs.PutWrites.{whole_units_at_most_length, put_rest_is_all_but_units, put_writes_lie_inside, put_leaves_whole_units, put_is_one_write_in_place, put_with_rest_is_all_bytes, put_follows_held_bytes}
use Rattle.dfu_slots.proofs.VisibleStores.{room_is_capacity, begun_gate_is_closed, spare_is_data_with_held, same_gate_same_begun}
use Rattle.dfu_slots.proofs.UnchangedSlots.{ActiveImageStays, places_kept_by_store, staying_image_keeps_places, staying_image_exists, active_slot_stays, staying_image_is_seen, staying_room_is_kept, spare_same_by_grain}
use Rattle.dfu_slots.proofs.AfterCall.{put_is_refused_by_cause, CallWasNotRefused, holds_after_any_result, holds_after_ok_call, fact_holds_after_ok, call_leaves_a_store, calls_share_one_result}

module _ (s now : SlotsState) (store : IsStore s) (at : ℕ) (new : List ℕ) (here : at ≡ s.put_end) where
  abbrev g : ℕ
  g = gate_of s.medium

  abbrev all : List ℕ
  all = s.held ++ new

  abbrev whole : ℕ
  whole = whole_part s.medium.grain.unit (length all)

  place : store.has_image.active.spare ≡ spare_at g s.medium.bytes
  place = (test_finds_active_image g s.medium.bytes store.has_image.active.at store.has_image.active.spare store.has_image.image
      (active_image_at_its_place store.has_image.active)).1

  all_length_is_sum : length all ≡ length s.held + length new
  all_length_is_sum = length-append s.held new

  spare_end_is_sector_edge : IsSectorEdge s.medium.grain.sector (store.has_image.active.spare + slot_size s.medium.bytes)
  spare_end_is_sector_edge =
      let a = store.has_image.active in
      slot_ends_at_edge s.medium.grain s.medium.bytes (active_image_at_its_place a).sized a.sized.whole a.at a.spare a.places

  -- All writes of a `put` lie in the spare's data.
  put_writes_inside_spare : at + length new ≤ capacity_of s.medium
      → AllWritesInside (store.has_image.active.spare + 2 * g) (store.has_image.active.spare + slot_size s.medium.bytes)
      (writes_of s (Put at new))
  put_writes_inside_spare fits =
      put_writes_lie_inside s.medium.grain s.held new (store.has_image.active.spare + 2 * g) (store.has_image.active.spare + slot_size
      s.medium.bytes)
      (data_place s (at - length s.held)) spare_end_is_sector_edge (omega (arith, place))
      (omega (arith, place, fits, here, all_length_is_sum, held_bytes_end_at_put_end s store.puts, store.has_image.active.sized.room))

  -- Facts after a `put` that worked or that a fault interrupted.
  module _ (came : CallWasNotRefused s now (Put at new)) where
    fits : at + length new ≤ capacity_of s.medium
    fits = omega (arith, came.fits, room_is_capacity s)

    spare_is_closed_before_put : ¬ HasOpenGate (slot g s.medium.bytes store.has_image.active.spare)
    spare_is_closed_before_put = subst (λ (q : ℕ). ¬ HasOpenGate (slot g s.medium.bytes q)) (sym place) (begun_gate_is_closed s came.ready)

    put_has_spare_data_result : SpareDataResult g s.medium now.medium store.has_image.active.at store.has_image.active.spare
        store.has_image.image
    put_has_spare_data_result =
        let a = store.has_image.active in
        closed_spare_data_result g (gate_room_at_least_16 s.medium.grain) s.medium now.medium a.at a.spare store.has_image.image
        (active_image_at_its_place a) spare_is_closed_before_put
        (writes_of s (Put at new)) (put_writes_inside_spare fits) came.ends

    active_stays_after_put : ActiveImageStays s now store.has_image
    active_stays_after_put = record { stands = put_has_spare_data_result.stands; same = put_has_spare_data_result.same }

    put_keeps_spare_gate : (spare_slot now).gate ≡ (spare_slot s).gate
    put_keeps_spare_gate = ap (λ (p : Slot). p.gate) (spare_same_by_grain s.medium now.medium put_has_spare_data_result.same.grain)
        ∙ put_has_spare_data_result.gate

  -- Facts after a `put` that returned Ok.
  module _ (came : CallWasNotRefused s now (Put at new)) (worked : CallWorked s (Put at new) now) where
    held_length_is_rest_of_all : length now.held ≡ length all % unit_size s.medium.grain.unit
    held_length_is_rest_of_all = ap length worked.held_is ∙ put_rest_is_all_but_units s.medium.grain s.held new
        ∙ omega (arith, rest_at_most_length s.medium.grain.unit (length all))

    held_length_is_rest_of_put_end : length now.held ≡ now.put_end % unit_size s.medium.grain.unit
    held_length_is_rest_of_put_end =
        held_length_is_rest_of_all
        ∙ ap (λ (n : ℕ). n % unit_size s.medium.grain.unit) (all_length_is_sum ∙ ap (λ (n : ℕ). n + length new) store.puts.part)
        ∙ rest_of_sum_by_rests s.medium.grain.unit s.put_end (length new)
        ∙ ap (λ (n : ℕ). n % unit_size s.medium.grain.unit) (ap (λ (n : ℕ). n + length new) (sym here) ∙ sym worked.end_is)

    -- A `put` moves the offset of the held bytes forward by the length of the whole units that it wrote.
    held_place_advances_by_units : held_data_place now ≡ held_data_place s + whole
    held_place_advances_by_units = omega (
      arith,
      here,
      worked.end_is,
      ap length worked.held_is,
      put_rest_is_all_but_units s.medium.grain s.held new,
      all_length_is_sum,
      whole_units_at_most_length s.medium.grain s.held new,
      held_bytes_end_at_put_end s store.puts,
    )

    spare_data_fills_capacity : length (spare_slot s).data_bytes ≡ capacity_of s.medium
    spare_data_fills_capacity = spare_data_has_capacity g s.medium.bytes (active_image_at_its_place store.has_image.active).sized

    put_bytes_fit_spare_data : held_data_place s + length all ≤ length (spare_slot s).data_bytes
    put_bytes_fit_spare_data = omega (
      arith,
      spare_data_fills_capacity,
      fits came,
      here,
      all_length_is_sum,
      held_bytes_end_at_put_end s
          store.puts,
    )

    grain_stays_after_put : now.medium.grain ≡ s.medium.grain
    grain_stays_after_put = (put_has_spare_data_result came).same.grain

    kept : spare_at g now.medium.bytes ≡ spare_at g s.medium.bytes
    kept = (put_has_spare_data_result came).spare_place_stays

    spare_ends_within_medium : store.has_image.active.spare + slot_size s.medium.bytes ≤ length s.medium.bytes
    spare_ends_within_medium =
        let a = store.has_image.active in
        (slot_place_ends_within g s.medium.bytes a.at a.spare (active_image_at_its_place a).sized (active_image_at_its_place a).places).1

    whole_units_length : length (take whole all) ≡ whole
    whole_units_length = length-take-le whole all (whole_units_at_most_length s.medium.grain s.held new)

    put_leaves_writable_ahead : IsWritableAhead now.medium (data_place now (held_data_place now))
    put_leaves_writable_ahead =
        let a = store.has_image.active in
        let p = data_place s (held_data_place s) in
        let same : data_place s (at - length s.held) ≡ p = ap (λ (n : ℕ). data_place s (n - length s.held)) here in
        let gate : gate_of now.medium ≡ g = ap gate_room grain_stays_after_put in
        let spare_is_there : spare_at (gate_of now.medium) now.medium.bytes ≡ spare_at g s.medium.bytes =
        ap (λ (w : Grain). spare_at (gate_room w) now.medium.bytes) grain_stays_after_put ∙ kept in
        let there : p + whole ≡ data_place now (held_data_place now) = omega (arith, gate, spare_is_there, held_place_advances_by_units) in
        let high : p + length all ≤ length s.medium.bytes = omega (
          arith,
          place,
          spare_ends_within_medium,
          put_bytes_fit_spare_data,
          spare_data_fills_capacity,
          a.sized.room,
        ) in
        subst (λ (q : ℕ). IsWritableAhead now.medium q) there
        (erased_ahead_of_put s.medium now.medium p s.held new a.sized high
        (subst (λ (q : ℕ). AllWrites s.medium (put_writes s.medium.grain q s.held new) now.medium) same worked.writes) store.puts.ahead)

    put_leaves_consistent_puts : HasPutBytes now
    put_leaves_consistent_puts = record {
      fits = omega (arith, fits came, here, worked.end_is, ap gate_room grain_stays_after_put, (put_has_spare_data_result came).same.size);
      ahead = put_leaves_writable_ahead;
      part = held_length_is_rest_of_put_end ∙ ap (λ (w : Grain). now.put_end % unit_size w.unit) (sym grain_stays_after_put);
    }

    -- After a `put` the spare's data begins with the bytes written before, directly followed by the new whole units.
    spare_data_begins_after_put : take (held_data_place s + whole) (spare_slot now).data_bytes
        ≡ take (held_data_place s) (spare_slot s).data_bytes ++ take whole all
    spare_data_begins_after_put =
        let a = store.has_image.active in
        let p = data_place s (at - length s.held) in
        let to = a.spare + slot_size s.medium.bytes in
        let same : p ≡ data_place s (held_data_place s) = ap (λ (n : ℕ). data_place s (n - length s.held)) here in
        let high : p + length all ≤ to = omega (arith, place, here, put_bytes_fit_spare_data, spare_data_fills_capacity, a.sized.room) in
        ap (λ (q : Slot). take (held_data_place s + whole) q.data_bytes) (spare_same_by_grain s.medium now.medium grain_stays_after_put)
        ∙ ap (λ (n : ℕ). take (held_data_place s + n) (spare g now.medium.bytes).data_bytes) (sym whole_units_length)
        ∙ write_extends_spare_front g s.medium.bytes now.medium.bytes (active_image_at_its_place a).sized kept (held_data_place s) (take
        whole all) to
        (omega (
          arith,
          put_bytes_fit_spare_data,
          spare_data_fills_capacity,
          whole_units_length,
          whole_units_at_most_length s.medium.grain
              s.held new,
        ))
        (subst (λ (q : ℕ). LeavesBytesAt q to (take whole all) s.medium.bytes now.medium.bytes) same
        (put_leaves_whole_units s.medium.grain s.held new s.medium now.medium to p spare_end_is_sector_edge high spare_ends_within_medium
        worked.writes))

    put_keeps_spare_data_length : length (spare_slot now).data_bytes ≡ capacity_of s.medium
    put_keeps_spare_data_length =
        ap (λ (q : Slot). length q.data_bytes) (spare_same_by_grain s.medium now.medium grain_stays_after_put)
        ∙ spare_data_has_capacity g now.medium.bytes (put_has_spare_data_result came).stands.sized
        ∙ ap (λ (n : ℕ). n / 2 - 2 * g) (put_has_spare_data_result came).same.size

    put_appends_to_spare_front : take (at + length new) (spare_of now) ≡ take at (spare_of s) ++ new
    put_appends_to_spare_front =
        let d = (spare_slot s).data_bytes in
        let k = held_data_place s in
        let rest = put_rest s.medium.grain.unit s.held new in
        let long = put_rest_is_all_but_units s.medium.grain s.held new in
        let some = whole_units_at_most_length s.medium.grain s.held new in
        let e : k + length s.held ≡ at = held_bytes_end_at_put_end s store.puts ∙ sym here in
        let f : at + length new ≡ k + whole + length rest = omega (arith, e, long, some, all_length_is_sum) in
        ap (λ (l : List ℕ). take (at + length new) l)
        (spare_is_data_with_held now ∙ (λ i. written (spare_slot now).data_bytes (held_place_advances_by_units i) (worked.held_is i)))
        ∙ ap (λ (n : ℕ). take n (written (spare_slot now).data_bytes (k + whole) rest)) f
        ∙ written_bytes_after_front (spare_slot now).data_bytes (k + whole) rest (omega (
          arith,
          put_keeps_spare_data_length,
          spare_data_fills_capacity,
          put_bytes_fit_spare_data,
          some,
        ))
        ∙ ap (λ (l : List ℕ). l ++ rest) spare_data_begins_after_put
        ∙ append_assoc (take k d) (take whole all) rest
        ∙ ap (λ (l : List ℕ). take k d ++ l) (take-append-drop whole all)
        ∙ sym (append_assoc (take k d) s.held new)
        ∙ ap (λ (l : List ℕ). l ++ new) (sym (written_bytes_after_front d k s.held (omega (
          arith,
          put_bytes_fit_spare_data,
          all_length_is_sum,
        )))
        ∙ (λ i. take (e i) (sym (spare_is_data_with_held s) i)))

    data_is_written_in_place : s.medium.grain.sector ≡ 0 → (spare_slot now).data_bytes
        ≡ written (spare_slot s).data_bytes (held_data_place s) (take whole all)
    data_is_written_in_place none =
        let a = store.has_image.active in
        ap (λ (p : Slot). p.data_bytes) (spare_same_by_grain s.medium now.medium grain_stays_after_put)
        ∙ write_is_in_spare_data g s.medium.bytes now.medium.bytes (active_image_at_its_place a).sized kept (held_data_place s) (take whole
        all)
        (omega (
          arith,
          put_bytes_fit_spare_data,
          spare_data_fills_capacity,
          whole_units_length,
          whole_units_at_most_length s.medium.grain
              s.held new,
        ))
        (put_is_one_write_in_place s.medium.grain s.held new s.medium now.medium (data_place s (at - length s.held)) none
        (omega (arith, place, here, spare_ends_within_medium, put_bytes_fit_spare_data, spare_data_fills_capacity, a.sized.room))
        worked.writes
        ∙ ap (λ (n : ℕ). written s.medium.bytes (data_place s (n - length s.held)) (take whole all)) here)

    spare_is_written_in_place : s.medium.grain.sector ≡ 0 → spare_of now ≡ written (spare_of s) at new
    spare_is_written_in_place none =
        let d = (spare_slot s).data_bytes in
        let k = held_data_place s in
        let e : k + length s.held ≡ at = held_bytes_end_at_put_end s store.puts ∙ sym here in
        spare_is_data_with_held now
        ∙ (λ i. written (data_is_written_in_place none i) (held_place_advances_by_units i) (worked.held_is i))
        ∙ put_with_rest_is_all_bytes s.medium.grain s.held new d k put_bytes_fit_spare_data
        ∙ put_follows_held_bytes s.medium.grain s.held new d k put_bytes_fit_spare_data
        ∙ (λ i. written (sym (spare_is_data_with_held s) i) (e i) new)

module _ {T : Type 0} (s now : SlotsState) (store : IsStore s) (at : ℕ) (new : List ℕ) (here : at ≡ s.put_end) (result : Result T PutFault)
    (refuses : CallIsRefused s (Put at new) result) (changes : CallChanges s (Put at new) result now) where
  image_stays_at_put : ActiveImageStays s now store.has_image
  image_stays_at_put = holds_after_any_result s now (Put at new) result refuses changes (active_stays_after_put s now store at new here)
      (active_slot_stays s now store.has_image)

  gate_stays_at_put : (spare_slot now).gate ≡ (spare_slot s).gate
  gate_stays_at_put = holds_after_any_result s now (Put at new) result refuses changes (put_keeps_spare_gate s now store at new here)
      (ap (λ (x : SlotsState). (spare_slot x).gate))

  put_leaves_a_store : IsStore now
  put_leaves_a_store =
      let has = staying_image_exists s now store.has_image image_stays_at_put in
      call_leaves_a_store s now (Put at new) result changes store has (holds_after_ok_call s now (Put at new) result refuses changes
      (λ came worked. record { has_image = has; puts = put_leaves_consistent_puts s now store at new here came worked }))

  put_result_holds : StorePutResult s at new result now
  put_result_holds = record {
    common = calls_share_one_result s now (Put at new) result refuses changes put_leaves_a_store (staying_room_is_kept s now store.has_image
        image_stays_at_put);
    image = staying_image_is_seen s now store.has_image image_stays_at_put;
    front = holds_after_ok_call s now (Put at new) result refuses changes (put_appends_to_spare_front s now store at new here);
    spare = holds_after_ok_call s now (Put at new) result refuses changes (spare_is_written_in_place s now store at new here);
    end = holds_after_ok_call s now (Put at new) result refuses changes (λ came worked. worked.end_is);
    gate = fact_holds_after_ok result gate_stays_at_put;
    shut = fact_holds_after_ok result (same_gate_same_begun s now gate_stays_at_put);
  }

-- The contract of `put` holds for the result of `steps::put`, and the offsets that the store caches stay valid.
pub put_keeps_places : {T : Type 0} {s v : SlotsState} {active spare : ℕ} → s ≡ v → RemembersPlaces s active spare
    → (now : SlotsState) (at : ℕ)
    (new : List ℕ) → at ≡ v.put_end → (result : Result T PutFault) → (IsErrOf result NotBegun ↔ HasOpenGate (spare_slot s))
    → (IsErrOf result TooLarge ↔ ((¬ HasOpenGate (spare_slot s)) × (capacity_of s.medium < at + length new)))
    → CallChanges s (Put at new) result now → RemembersPlaces now active spare × StorePutResult v at new result now
put_keeps_places {T} {s} {v} view kept now at new place result not_begun too_large changes =
    let store = kept.store in
    let here : at ≡ s.put_end = place ∙ sym (ap (λ (x : SlotsState). x.put_end) view) in
    let refuses = put_is_refused_by_cause s result not_begun at new too_large in
    let leaves = put_result_holds s now store at new here result refuses changes in (
      places_kept_by_store kept leaves.common.store (staying_image_keeps_places s now store.has_image (image_stays_at_put s now store at
          new here result refuses changes)),
      subst (λ (x : SlotsState). StorePutResult x at new result now) view leaves,
    )
