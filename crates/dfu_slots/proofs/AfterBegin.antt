-- Facts about the store that `begin` leaves.
use Rattle.std.proofs.Common.{◌≡◌, ℕ, true, Result, Ok, Err, OnErr, sym, ◌∙◌, ap, subst}
use Rattle.dfu_slots.specs.declared.fault.PutFault.{PutFault}
use Rattle.dfu_slots.specs.Layout.{Slot, HasOpenGate}
use Rattle.dfu_slots.specs.Image.{HasImage}
use Rattle.dfu_slots.specs.StoreView.{SlotsState, store_on, spare_slot, spare_of, is_begun, Begin, CallWorked}
use Rattle.dfu_slots.specs.Store.{IsStore}
use Rattle.dfu_slots.specs.Changes.{CallIsBroken, CallChanges}
use Rattle.dfu_slots.specs.CallResults.{StoreBeginResult}
use Rattle.dfu_slots.specs.inside.PlaceMemory.{RemembersPlaces}
use Rattle.dfu_slots.proofs.Stands.{active_image_at_its_place}
use Rattle.dfu_slots.proofs.BeginMedium.{begin_keeps_size, begin_keeps_active_image, begin_keeps_spare_data, begin_closes_gate}
use Rattle.dfu_slots.proofs.VisibleStores.{closed_gate_is_begun, fresh_spare_is_medium_data, medium_makes_store, store_is_fresh}
use Rattle.dfu_slots.proofs.UnchangedSlots.{ActiveImageStays, places_kept_by_store, staying_image_keeps_places, staying_image_exists, active_slot_stays, staying_image_is_seen, staying_room_is_kept, spare_same_by_grain}
use Rattle.dfu_slots.proofs.AfterCall.{begin_is_never_refused, CallWasNotRefused, holds_after_any_result, holds_after_ok_call, store_is_fresh_after_fault, calls_share_one_result}

-- Facts after a `begin` that worked or that a fault interrupted.
module _ (s now : SlotsState) (has : HasImage s.medium) (came : CallWasNotRefused s now Begin) where
  image_stays_after_begin : ActiveImageStays s now has
  image_stays_after_begin =
      let a = has.active in
      record {
        stands = begin_keeps_active_image s.medium.grain s.medium now.medium a.at a.spare has.image (active_image_at_its_place a) came.ends;
        same = begin_keeps_size s.medium.grain s.medium now.medium a.at a.spare has.image (active_image_at_its_place a) came.ends;
      }

  spare_data_kept_after_begin : (spare_slot now).data_bytes ≡ (spare_slot s).data_bytes
  spare_data_kept_after_begin =
      let a = has.active in
      ap (λ (p : Slot). p.data_bytes) (spare_same_by_grain s.medium now.medium image_stays_after_begin.same.grain)
      ∙ begin_keeps_spare_data s.medium.grain s.medium now.medium a.at a.spare has.image (active_image_at_its_place a) came.ends

  gate_is_closed_after_begin : CallWorked s Begin now → is_begun now ≡ true
  gate_is_closed_after_begin worked =
      let a = has.active in
      let shut = begin_closes_gate s.medium.grain s.medium now.medium a.at a.spare has.image
      (active_image_at_its_place a) worked.writes in
      closed_gate_is_begun now (subst (λ (p : Slot). ¬ HasOpenGate p) (sym (spare_same_by_grain s.medium now.medium
      image_stays_after_begin.same.grain)) shut)

image_stays_at_begin : {T : Type 0} (s now : SlotsState) (has : HasImage s.medium) (result : Result T PutFault)
    → OnErr result (CallIsBroken result) → CallChanges s Begin result now → ActiveImageStays s now has
image_stays_at_begin s now has result fault changes =
    holds_after_any_result s now Begin result (begin_is_never_refused s result fault) changes (image_stays_after_begin s now has)
    (active_slot_stays s now has)

-- After any result of `begin` no bytes are held back, and put_end is 0.
store_is_fresh_after_begin : {T : Type 0} (s now : SlotsState) (result : Result T PutFault) → OnErr result (CallIsBroken result)
    → CallChanges s Begin result now → now ≡ store_on now.medium
store_is_fresh_after_begin s now (Ok x) fault worked = store_is_fresh now.medium now.held now.put_end worked.held_is worked.end_is
store_is_fresh_after_begin {T} s now (Err e) fault changes = store_is_fresh_after_fault {T = T} s now Begin (Err e) changes fault

-- The contract of `begin` holds for the result of `steps::begin`, and the offsets that the store caches stay valid.
pub begin_keeps_places : {T : Type 0} {s v : SlotsState} {active spare : ℕ} → s ≡ v → RemembersPlaces s active spare → (now : SlotsState)
    (result : Result T PutFault) → OnErr result (CallIsBroken result) → CallChanges s Begin result now
    → RemembersPlaces now active spare × StoreBeginResult v result now
begin_keeps_places {T} {s} {v} view kept now result fault changes =
    let has = kept.store.has_image in
    let refuses = begin_is_never_refused s result fault in
    let stays : ActiveImageStays s now has = image_stays_at_begin s now has result fault changes in
    let fresh : now ≡ store_on now.medium = store_is_fresh_after_begin s now result fault changes in
    let store : IsStore now = subst IsStore (sym fresh) (medium_makes_store now.medium (staying_image_exists s now has stays)) in (
      places_kept_by_store kept store (staying_image_keeps_places s now has stays),
      subst (λ (x : SlotsState). StoreBeginResult x result now) view
          (record {
            common = calls_share_one_result s now Begin result refuses changes store (staying_room_is_kept s now has stays);
            fault = fault;
            image = staying_image_is_seen s now has stays;
            fresh = fresh;
            end = ap (λ (x : SlotsState). x.put_end) fresh;
            shut = holds_after_ok_call s now Begin result refuses changes (gate_is_closed_after_begin s now has);
            spare = holds_after_ok_call s now Begin result refuses changes
                (λ came worked. ap spare_of fresh ∙ fresh_spare_is_medium_data now.medium ∙ spare_data_kept_after_begin s now has came);
          }),
    )
