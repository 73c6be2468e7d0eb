-- The writes of a slot store's call determine the result of the call.
use Rattle.std.proofs.Common.{◌≡◌, ℕ, ◌+◌, ◌≤◌, ◌<◌, List, length, true, Result, Ok, Err, IsErrOf, refl, sym, arith}
use Rattle.dfu_slots.specs.declared.fault.PutFault.{PutFault}
use Rattle.dfu_slots.specs.declared.fault.PutFault.TheVariants.{Failed as PutFailed, NotVerified as PutNotVerified, NotBegun, TooLarge}
use Rattle.dfu_slots.specs.declared.fault.WriteFault.{WriteFault}
use Rattle.dfu_slots.specs.declared.fault.WriteFault.TheVariants.{Failed, NotVerified}
use Rattle.dfu_slots.specs.Image.{capacity_of}
use Rattle.dfu_slots.specs.StoreView.{SlotsState, is_begun, room_of, StoreCall, Begin, Put, Commit, BrokenBy, CallWorked, CallFailed}
use Rattle.dfu_slots.specs.Store.{IsStore}
use Rattle.dfu_slots.specs.Changes.{ending_of, CallChanges}
use Rattle.dfu_slots.specs.CallResults.{StoreBeginResult, StorePutResult, StoreCommitResult}
use Rattle.dfu_slots.proofs.VisibleStores.{begun_gate_is_closed, room_is_capacity}
use Rattle.dfu_slots.proofs.UnchangedSlots.{SamePlaces}
use Rattle.dfu_slots.proofs.AfterBegin.{begin_keeps_places}
use Rattle.dfu_slots.proofs.AfterPut.{put_keeps_places}
use Rattle.dfu_slots.proofs.AfterCommit.{commit_result_holds}

-- Result of a call whose writes all succeeded.
abbrev pub worked_call : Result (Unit {0}) PutFault
worked_call = Ok tt

-- Result of a call in which a write had this fault.
abbrev pub broken_call : WriteFault → Result (Unit {0}) PutFault
broken_call Failed = Err PutFailed
broken_call NotVerified = Err PutNotVerified

-- A broken call ends with the fault of its write.
pub ending_of_broken_call : (fault : WriteFault) → ending_of (broken_call fault) ≡ BrokenBy fault
ending_of_broken_call Failed = refl
ending_of_broken_call NotVerified = refl

-- A call that a fault broke off changes the store only as the result of the call allows.
broken_call_changes : (fault : WriteFault) (s now : SlotsState) (call : StoreCall) → CallFailed fault s call now
    → CallChanges s call (broken_call fault) now
broken_call_changes Failed s now call failed = failed
broken_call_changes NotVerified s now call failed = failed

-- A broken call doesn't return `NotBegun`.
broken_call_is_begun : (fault : WriteFault) → ¬ IsErrOf (broken_call fault) NotBegun
broken_call_is_begun Failed e = cc
broken_call_is_begun NotVerified e = cc

-- A broken call doesn't return `TooLarge`.
broken_call_not_too_large : (fault : WriteFault) → ¬ IsErrOf (broken_call fault) TooLarge
broken_call_not_too_large Failed e = cc
broken_call_not_too_large NotVerified e = cc

-- If n bytes fit in the room of a store, they don't exceed the capacity of the store's medium.
room_covers_fitting_put : (s : SlotsState) (n : ℕ) → n ≤ room_of s → capacity_of s.medium < n → ⊥
room_covers_fitting_put s n fits over = omega (arith, fits, over, room_is_capacity s)

module _ (s now : SlotsState) (store : IsStore s) where
  -- A `begin` whose writes all succeeded returns success.
  pub begun : CallWorked s Begin now → StoreBeginResult s worked_call now
  begun worked =
      (begin_keeps_places {T = Unit {0}} {s = s} {v = s} refl
      (record { store = store; active_there = refl; spare_there = refl }) now worked_call tt worked).1

  -- A `begin` whose writes all succeeded doesn't change which slot is active.
  pub begin_keeps_slot_places : CallWorked s Begin now → SamePlaces s.medium now.medium
  begin_keeps_slot_places worked =
      let kept =
      (begin_keeps_places {T = Unit {0}} {s = s} {v = s} refl
      (record { store = store; active_there = refl; spare_there = refl }) now worked_call tt worked).0 in
      record { active = sym kept.active_there; spare = sym kept.spare_there }

  -- A `begin` that a fault broke off doesn't change which slot is active.
  pub broken_begin_keeps_places : (fault : WriteFault) → CallFailed fault s Begin now → SamePlaces s.medium now.medium
  broken_begin_keeps_places Failed failed =
      let kept = (begin_keeps_places {T = Unit {0}} {s = s} {v = s} refl (record {
        store = store;
        active_there = refl;
        spare_there = refl;
      }) now
      (broken_call Failed) tt failed).0 in
      record { active = sym kept.active_there; spare = sym kept.spare_there }
  broken_begin_keeps_places NotVerified failed =
      let kept = (begin_keeps_places {T = Unit {0}} {s = s} {v = s} refl (record {
        store = store;
        active_there = refl;
        spare_there = refl;
      }) now
      (broken_call NotVerified) tt failed).0 in
      record { active = sym kept.active_there; spare = sym kept.spare_there }

  -- A `begin` that a fault broke off returns that fault.
  pub broken_begin_result : (fault : WriteFault) → CallFailed fault s Begin now → StoreBeginResult s (broken_call fault) now
  broken_begin_result Failed failed =
      (begin_keeps_places {T = Unit {0}} {s = s} {v = s} refl (record { store = store; active_there = refl; spare_there = refl }) now
      (broken_call Failed) tt
      failed).1
  broken_begin_result NotVerified failed =
      (begin_keeps_places {T = Unit {0}} {s = s} {v = s} refl (record { store = store; active_there = refl; spare_there = refl }) now
      (broken_call NotVerified) tt failed).1

  module _ (at : ℕ) (bytes : List ℕ) (here : at ≡ s.put_end) (ready : is_begun s ≡ true) (fits : at + length bytes ≤ room_of s) where
    put_places_and_result : (result : Result (Unit {0}) PutFault) → ¬ IsErrOf result NotBegun → ¬ IsErrOf result TooLarge
        → CallChanges s (Put at bytes) result now → SamePlaces s.medium now.medium × StorePutResult s at bytes result now
    put_places_and_result result begun small changes =
        let both = put_keeps_places {T = Unit {0}} {s = s} {v = s} refl
        (record { store = store; active_there = refl; spare_there = refl }) now at bytes
        here result (λ e. absurd (begun e), λ o. absurd (begun_gate_is_closed s ready o))
        (λ e. absurd (small e), λ over. absurd (room_covers_fitting_put s (at + length bytes) fits over.1)) changes in
        (record { active = sym both.0.active_there; spare = sym both.0.spare_there }, both.1)

    -- A `put` whose writes all succeeded returns success and doesn't change which slot is active.
    pub worked_put_result : CallWorked s (Put at bytes) now → SamePlaces s.medium now.medium × StorePutResult s at bytes worked_call now
    worked_put_result worked = put_places_and_result worked_call (λ e. cc) (λ e. cc) worked

    -- A `put` that a fault broke off returns that fault and doesn't change which slot is active.
    pub broken_put_result : (fault : WriteFault) → CallFailed fault s (Put at bytes) now
        → SamePlaces s.medium now.medium × StorePutResult s at bytes (broken_call fault) now
    broken_put_result fault failed = put_places_and_result (broken_call fault) (broken_call_is_begun fault) (broken_call_not_too_large
        fault)
        (broken_call_changes fault s now (Put at bytes) failed)

  module _ (len : ℕ) (within : len ≤ s.put_end) (ready : is_begun s ≡ true) where
    -- A `commit` whose writes all succeeded returns success.
    pub worked_commit_result : CallWorked s (Commit len) now → StoreCommitResult s len worked_call now
    worked_commit_result worked = commit_result_holds {T = Unit {0}} {s = s} {v = s} (λ i. s) store now len within worked_call
        (λ e. cc, λ o. absurd (begun_gate_is_closed s ready o)) (λ e. cc) worked

    -- A `commit` that a fault broke off returns that fault.
    pub broken_commit_result : (fault : WriteFault) → CallFailed fault s (Commit len) now → StoreCommitResult s len (broken_call fault) now
    broken_commit_result fault failed = commit_result_holds {T = Unit {0}} {s = s} {v = s} (λ i. s) store now len within (broken_call fault)
        (λ e. absurd (broken_call_is_begun fault e), λ o. absurd (begun_gate_is_closed s ready o)) (broken_call_not_too_large fault)
        (broken_call_changes fault s now (Commit len) failed)
