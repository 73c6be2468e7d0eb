-- Facts about the store that hold after `begin`, `put` and `commit` alike.
use Rattle.std.proofs.Common.{◌≡◌, ◌⊎◌, inl, inr, ⊎_elim, true, false, ℕ, ◌+◌, ◌≤◌, ◌<◌, List, length, Result, Ok, Err, OnOk, OnErr, IsErrOf, ◌↔◌, refl, sym, ◌∙◌, subst, arith}
use Rattle.std.proofs.lemmas.Bool.{cases_lt, true_from_ne_false, true≢false}
use Rattle.dfu_slots.specs.declared.fault.PutFault.{PutFault}
use Rattle.dfu_slots.specs.declared.fault.PutFault.TheVariants.{TooLarge, Failed, NotVerified, NotBegun}
use Rattle.dfu_slots.specs.declared.fault.WriteFault.{WriteFault}
use Rattle.dfu_slots.specs.declared.fault.WriteFault.TheVariants.{Failed as WriteFailed, NotVerified as WriteNotVerified}
use Rattle.dfu_slots.specs.Medium.{CountRose}
use Rattle.dfu_slots.specs.Layout.{HasOpenGate}
use Rattle.dfu_slots.specs.Image.{capacity_of, HasImage}
use Rattle.dfu_slots.specs.StoreView.{SlotsState, store_on, spare_slot, is_begun, room_of, writes_of, CallWorked, CallFailed, CallEnding}
use Rattle.dfu_slots.specs.StoreView.{StoreCall, Begin, Put, Commit, AllWorked, BrokenBy}
use Rattle.dfu_slots.specs.Store.{IsStore}
use Rattle.dfu_slots.specs.Changes.{CallIsBroken, ending_of, CallChanges}
use Rattle.dfu_slots.specs.CallResults.{is_gate_ready, reached_end, CallIsRefused, StoreCallResult}
use Rattle.dfu_slots.proofs.Series.{WritesEnded, writes_lower_no_count, broken_writes_lower_no_count, broken_writes_raise_count}
use Rattle.dfu_slots.proofs.VisibleStores.{seen_image_is_active, store_has_shape, room_is_capacity, put_end_within_room, store_is_fresh, medium_makes_fresh_store}
use Rattle.dfu_slots.proofs.VisibleStores.{begun_gate_is_closed, closed_gate_is_begun, open_gate_not_begun, not_begun_gate_is_open}

-- Lemmas about refused calls.

begin_refusal_without_fault : {T : Type 0} (s : SlotsState) (result : Result T PutFault) → ¬ IsErrOf result NotBegun →
    ¬ IsErrOf result TooLarge
    → CallIsRefused s Begin result
begin_refusal_without_fault s result begun small = record {
  not_begun = (λ e. absurd (begun e), λ off. absurd (true≢false off));
  too_large = (λ e. absurd (small e), λ large. absurd (omega (arith, large.1)));
}

-- A `begin` is never refused.
pub begin_is_never_refused : {T : Type 0} (s : SlotsState) (result : Result T PutFault) → OnErr result (CallIsBroken result)
    → CallIsRefused s Begin result
begin_is_never_refused {T} s (Ok x) broken = begin_refusal_without_fault {T = T} s (Ok x) (λ e. cc) (λ e. cc)
begin_is_never_refused {T} s (Err Failed) broken = begin_refusal_without_fault {T = T} s (Err Failed) (λ e. cc) (λ e. cc)
begin_is_never_refused {T} s (Err NotVerified) broken = begin_refusal_without_fault {T = T} s (Err NotVerified) (λ e. cc) (λ e. cc)
begin_is_never_refused s (Err _) broken = absurd broken

module _ {T : Type 0} (s : SlotsState) (result : Result T PutFault) (not_begun : IsErrOf result NotBegun ↔ HasOpenGate (spare_slot s)) where
  not_begun_iff_gate_open : IsErrOf result NotBegun ↔ (is_begun s ≡ false)
  not_begun_iff_gate_open = (λ e. open_gate_not_begun s (not_begun.0 e), λ off. not_begun.1 (not_begun_gate_is_open s off))

  -- A `put` is refused with NotBegun if the spare's gate is open, otherwise with TooLarge if its bytes end beyond the capacity.
  pub put_is_refused_by_cause : (at : ℕ) (new : List ℕ)
      → (IsErrOf result TooLarge ↔ ((¬ HasOpenGate (spare_slot s)) × (capacity_of s.medium < at + length new)))
      → CallIsRefused s (Put at new) result
  put_is_refused_by_cause at new too_large = record {
    not_begun = not_begun_iff_gate_open;
    too_large = (
      λ e. let large = too_large.0 e in (closed_gate_is_begun s large.0, omega (arith, large.1, room_is_capacity s)),
      λ large. too_large.1 (begun_gate_is_closed s large.0, omega (arith, large.1, room_is_capacity s)),
    );
  }

  -- A `commit` is refused if the spare's gate is open, and never for its length, because the bytes put lie within the capacity.
  pub commit_is_refused_by_cause : IsStore s → (len : ℕ) → len ≤ s.put_end → ¬ IsErrOf result TooLarge → CallIsRefused s (Commit len) result
  commit_is_refused_by_cause store len le never = record {
    not_begun = not_begun_iff_gate_open;
    too_large = (λ e. absurd (never e), λ large. absurd (omega (arith, le, put_end_within_room store, large.1)));
  }

-- A call was not refused: the gate was as the call requires, the bytes end within the capacity, and the writes all worked or one of them
-- failed.
pub record CallWasNotRefused (s now : SlotsState) (kind : StoreCall) : Type 0 where
  pub ready : is_gate_ready s kind ≡ true
  pub fits : reached_end kind ≤ room_of s
  pub ends : WritesEnded s.medium (writes_of s kind) now.medium

module _ {T : Type 0} (s now : SlotsState) (kind : StoreCall) (result : Result T PutFault) (refuses : CallIsRefused s kind result) where
  gate_ready_unless_refused : ¬ IsErrOf result NotBegun → is_gate_ready s kind ≡ true
  gate_ready_unless_refused begun = true_from_ne_false _ (λ off. begun (refuses.not_begun.1 off))

  came : ¬ IsErrOf result NotBegun → ¬ IsErrOf result TooLarge → WritesEnded s.medium (writes_of s kind) now.medium
      → CallWasNotRefused s now kind
  came begun small ends = record {
    ready = gate_ready_unless_refused begun;
    fits =
        ⊎_elim (λ large. absurd (small (refuses.too_large.1 (gate_ready_unless_refused begun, large)))) (λ le. le)
        (cases_lt (room_of s) (reached_end kind));
    ends = ends;
  }

-- Either a call was not refused, or it changed nothing.
pub call_made_or_refused : {T : Type 0} (s now : SlotsState) (kind : StoreCall) (result : Result T PutFault) → CallIsRefused s kind result
    → CallChanges s kind result now → CallWasNotRefused s now kind ⊎ (now ≡ s)
call_made_or_refused {T} s now kind (Ok x) refuses worked =
    inl (came {T = T} s now kind (Ok x) refuses (λ e. cc) (λ e. cc) (inl worked.writes))
call_made_or_refused {T} s now kind (Err Failed) refuses failed =
    inl (came {T = T} s now kind (Err Failed) refuses (λ e. cc) (λ e. cc) (inr (WriteFailed, failed.writes)))
call_made_or_refused {T} s now kind (Err NotVerified) refuses failed =
    inl (came {T = T} s now kind (Err NotVerified) refuses (λ e. cc) (λ e. cc) (inr (WriteNotVerified, failed.writes)))
call_made_or_refused s now kind (Err _) refuses same = inr same

-- A fact that holds after each call that was not refused, and also if nothing changed, holds after every call.
pub holds_after_any_result : {T P : Type 0} (s now : SlotsState) (kind : StoreCall) (result : Result T PutFault) →
    CallIsRefused s kind result
    → CallChanges s kind result now → (CallWasNotRefused s now kind → P) → (now ≡ s → P) → P
holds_after_any_result s now kind result refuses changes coming refused = ⊎_elim coming refused (call_made_or_refused s now kind result
    refuses changes)

-- If a fact holds after each call whose writes all worked, it holds after Ok.
pub holds_after_ok_call : {T P : Type 0} (s now : SlotsState) (kind : StoreCall) (result : Result T PutFault) → CallIsRefused s kind result
    → CallChanges s kind result now → (CallWasNotRefused s now kind → CallWorked s kind now → P) → OnOk result P
holds_after_ok_call {T} s now kind (Ok x) refuses worked leaves =
    leaves (came {T = T} s now kind (Ok x) refuses (λ e. cc) (λ e. cc) (inl worked.writes)) worked
holds_after_ok_call s now kind (Err e) refuses changes leaves = tt

-- A fact that holds for any result holds after Ok.
pub fact_holds_after_ok : {T E P : Type 0} (result : Result T E) → P → OnOk result P
fact_holds_after_ok (Ok x) p = p
fact_holds_after_ok (Err e) p = tt

-- A fact that holds for any result holds after an error.
pub fact_holds_after_err : {T E P : Type 0} (result : Result T E) → P → OnErr result P
fact_holds_after_err (Ok x) p = tt
fact_holds_after_err (Err e) p = p

-- Lemmas about the ending of a call, which its result determines.

worked_call_has_its_ending : (s now : SlotsState) (kind : StoreCall) → CallWorked s kind now → CallEnding s kind AllWorked now
worked_call_has_its_ending s now kind worked = record {
  calls = worked;
  count = writes_lower_no_count (writes_of s kind) s.medium now.medium worked.writes;
  rose = λ fault e. cc;
}

failed_call_has_its_ending : (fault : WriteFault) (s now : SlotsState) (kind : StoreCall) → CallFailed fault s kind now
    → CallEnding s kind (BrokenBy fault) now
failed_call_has_its_ending fault s now kind failed = record {
  calls = failed;
  count = broken_writes_lower_no_count fault (writes_of s kind) s.medium now.medium failed.writes;
  rose = λ f e. broken_writes_raise_count fault (writes_of s kind) s.medium now.medium failed.writes;
}

call_has_its_ending : {T : Type 0} (s now : SlotsState) (kind : StoreCall) (result : Result T PutFault) → ¬ IsErrOf result NotBegun
    → ¬ IsErrOf result TooLarge
    → CallChanges s kind result now → CallEnding s kind (ending_of result) now
call_has_its_ending s now kind (Ok x) begun small worked = worked_call_has_its_ending s now kind worked
call_has_its_ending s now kind (Err Failed) begun small failed = failed_call_has_its_ending WriteFailed s now kind failed
call_has_its_ending s now kind (Err NotVerified) begun small failed = failed_call_has_its_ending WriteNotVerified s now kind failed
call_has_its_ending s now kind (Err TooLarge) begun small same = absurd (small refl)
call_has_its_ending s now kind (Err NotBegun) begun small same = absurd (begun refl)

-- If a fault interrupted a call, one of the call's writes had that fault.
broken_call_has_a_fault : {T : Type 0} (s now : SlotsState) (kind : StoreCall) (result : Result T PutFault) → CallChanges s kind result now
    → CallIsBroken result
    → (fault : WriteFault) × CallFailed fault s kind now
broken_call_has_a_fault s now kind (Err Failed) failed broken = (WriteFailed, failed)
broken_call_has_a_fault s now kind (Err NotVerified) failed broken = (WriteNotVerified, failed)
broken_call_has_a_fault s now kind _ changes broken = absurd broken

count_rose_at_broken_call : {T : Type 0} (s now : SlotsState) (kind : StoreCall) (result : Result T PutFault) →
    CallChanges s kind result now
    → CallIsBroken result → CountRose s.medium.failures now.medium.failures
count_rose_at_broken_call s now kind result changes broken =
    let f = broken_call_has_a_fault s now kind result changes broken in
    broken_writes_raise_count f.0 (writes_of s kind) s.medium now.medium f.1.writes

-- After a fault interrupted a call, no bytes are held back, and put_end is 0.
pub store_is_fresh_after_fault : {T : Type 0} (s now : SlotsState) (kind : StoreCall) (result : Result T PutFault) →
    CallChanges s kind result now
    → CallIsBroken result → now ≡ store_on now.medium
store_is_fresh_after_fault s now kind result changes broken =
    let f = broken_call_has_a_fault s now kind result changes broken in
    store_is_fresh now.medium now.held now.put_end f.1.held_is f.1.end_is

-- If a call leaves a consistent store after Ok, and the medium still has an image, the call leaves a consistent store after any result.
pub call_leaves_a_store : {T : Type 0} (s now : SlotsState) (kind : StoreCall) (result : Result T PutFault) → CallChanges s kind result now
    → IsStore s
    → HasImage now.medium → OnOk result (IsStore now) → IsStore now
call_leaves_a_store s now kind (Ok x) worked store has after = after
call_leaves_a_store s now kind (Err Failed) failed store has after =
    (medium_makes_fresh_store has failed.held_is failed.end_is).store
call_leaves_a_store s now kind (Err NotVerified) failed store has after =
    (medium_makes_fresh_store has failed.held_is failed.end_is).store
call_leaves_a_store s now kind (Err _) same store has after = subst IsStore (sym same) store

-- If a call leaves a store with the same capacity, the result of the call satisfies StoreCallResult.
pub calls_share_one_result : {T : Type 0} (s now : SlotsState) (kind : StoreCall) (result : Result T PutFault) → CallIsRefused s kind result
    → CallChanges s kind result now → IsStore now → room_of now ≡ room_of s → StoreCallResult s kind result now
calls_share_one_result s now kind result refuses changes store room = record {
  refuses = refuses;
  call = λ ready fits. call_has_its_ending s now kind result (λ e. true≢false (sym ready ∙ refuses.not_begun.0 e))
      (λ e. omega (arith, fits, (refuses.too_large.0 e).1)) changes;
  writes = changes;
  rose = count_rose_at_broken_call s now kind result changes;
  failed = store_is_fresh_after_fault s now kind result changes;
  store = store;
  active = seen_image_is_active now store.has_image;
  shape = store_has_shape store;
  room = room;
}
