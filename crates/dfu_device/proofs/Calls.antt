-- Lemmas about the calls of the slot store that write a block.
use Rattle.std.proofs.Common.{◌≡◌, ◌⊎◌, inl, inr, ◌==◌, Bool, true, false, if◌then◌else◌, ℕ, ◌≤◌, ◌<◌, List, [], ◌∷◌, length, take, refl, sym, subst, arith, Result, Ok, Err, OnOk, OnErr}
use Rattle.std.proofs.lemmas.Grind.{common_steps}
use Rattle.std.proofs.lemmas.List.{length-take-le}
use Rattle.std.proofs.lemmas.Bool.{ne_eqb, and_parts}
use Rattle.dfu_slots.specs.declared.fault.WriteFault.{WriteFault}
use Rattle.dfu_slots.specs.declared.fault.PutFault.{PutFault}
use Rattle.dfu_slots.specs.Medium.{CountRose}
use Rattle.dfu_slots.specs.StoreView.{SlotsState, spare_of, is_begun, room_of, is_shaped, StoreCall, Begin, Put, Ending, AllWorked, BrokenBy, CallEnding, CallsEnd}
use Rattle.dfu_slots.specs.Changes.{fault_of, ending_of}
use Rattle.dfu_device.specs.Parts.{is_put}
use Rattle.dfu_device.specs.Rows.{block_calls}

-- A call of the store and the list of this one call have the same ending.
pub one_call_is_series : (s now : SlotsState) (call : StoreCall) (ending : Ending) → CallEnding s call ending now
    → CallsEnd s (call ∷ []) ending now
one_call_is_series s now call AllWorked d = (now, d.calls, refl)
one_call_is_series s now call (BrokenBy fault) d = inl d.calls

-- If the first of two calls of the store worked, the two calls have the ending of the second.
two_calls_are_series : (s mid now : SlotsState) (first second : StoreCall) (ending : Ending) → CallEnding s first AllWorked mid
    → CallEnding mid second ending now → CallsEnd s (first ∷ second ∷ []) ending now
two_calls_are_series s mid now first second AllWorked d e = (mid, d.calls, (now, e.calls, refl))
two_calls_are_series s mid now first second (BrokenBy fault) d e = inr (mid, d.calls, inl e.calls)

-- If `begin` worked before the first block, the calls of the block have the ending of its `put`.
pub first_block_ends_as_put : (s mid now : SlotsState) (n : ℕ) (block : List ℕ) (ending : Ending) → n ≡ 0 → CallEnding s Begin AllWorked mid
    → CallEnding mid (Put 0 block) ending now → CallsEnd s (block_calls (take n (spare_of s)) block) ending now
first_block_ends_as_put s mid now n block ending none d e =
    subst (λ (k : ℕ). CallsEnd s (block_calls (take k (spare_of s)) block) ending now) (sym none)
    (two_calls_are_series s mid now Begin (Put 0 block) ending d e)

-- If the `begin` before the first block fails, no other call follows.
pub failed_begin_ends_calls : (fault : WriteFault) (s now : SlotsState) (n : ℕ) (block : List ℕ) → n ≡ 0 →
    CallEnding s Begin (BrokenBy fault) now
    → CallsEnd s (block_calls (take n (spare_of s)) block) (BrokenBy fault) now
failed_begin_ends_calls fault s now n block none d =
    subst (λ (k : ℕ). CallsEnd s (block_calls (take k (spare_of s)) block) (BrokenBy fault) now) (sym none)
    (inl d.calls)

-- The calls of every later block have the ending of its only `put`.
pub later_block_ends_as_put : (s now : SlotsState) (n : ℕ) (block : List ℕ) (ending : Ending) → 0 < n → n ≤ length (spare_of s)
    → CallEnding s (Put n block) ending now → CallsEnd s (block_calls (take n (spare_of s)) block) ending now
later_block_ends_as_put s now n block ending some fits d =
    let front : length (take n (spare_of s)) ≡ n = length-take-le n (spare_of s) fits in
    let behind : (n == 0) ≡ false = ne_eqb n 0 (λ e. omega (arith, some, e)) in
    subst (λ (k : ℕ). CallsEnd s (if k == 0 then Begin ∷ Put 0 block ∷ [] else Put k block ∷ []) ending now) (sym front)
    (subst (λ (b : Bool). CallsEnd s (if b then Begin ∷ Put 0 block ∷ [] else Put n block ∷ []) ending now) (sym behind)
    (one_call_is_series s now (Put n block) ending d))

-- If n bytes were put and n is not 0, the spare slot is closed.
pub put_bytes_need_begun_store : (n : ℕ) (s : SlotsState) → 0 < n → (n ≡ 0) ⊎ (is_put n s ≡ true) → is_begun s ≡ true
put_bytes_need_begun_store n s some (inl none) = absurd (omega (arith, some, none))
put_bytes_need_begun_store n s some (inr put) = (and_parts (is_begun s) (s.put_end == n) put).0

-- Any number of bytes up to the capacity of a store fits into the data of its spare slot.
pub room_fits_spare_slot : (s : SlotsState) (n : ℕ) → is_shaped s ≡ true → n ≤ room_of s → n ≤ length (spare_of s)
room_fits_spare_slot s n shape fits = grind (arith, common_steps)

-- If a successful `put` keeps a closed spare slot closed and ends at n, is_put n holds afterwards.
pub put_bytes_count_as_put : {T E : Type 0} (result : Result T E) (here now : SlotsState) (n : ℕ) → is_begun here ≡ true
    → OnOk result (is_begun now ≡ is_begun here) → OnOk result (now.put_end ≡ n) → OnOk result (is_put n now ≡ true)
put_bytes_count_as_put (Ok x) here now n begun shut end = grind (arith, common_steps)
put_bytes_count_as_put (Err e) here now n begun shut end = tt

-- If the count of failures rose from `mid` to `now`, it also rose from any count `before` that is at most `mid`.
pub failure_count_rose_since : {T : Type 0} (result : Result T PutFault) (before mid now : ℕ) → before ≤ mid
    → ((fault : WriteFault) → ending_of result ≡ BrokenBy fault → CountRose mid now) → OnErr result (CountRose before now)
failure_count_rose_since (Ok x) before mid now le rose = tt
failure_count_rose_since (Err e) before mid now le rose = omega (arith, le, rose (fault_of e) refl)
