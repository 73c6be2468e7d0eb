-- Calls that return the number of the first fault.
use Rattle.std.proofs.Common.{◌≡◌, ◌↔◌, ℤ, Result, Err}
use Rattle.dfu_host_c.specs.Refusals.{IsRefusedFor, refused_number}
use Rattle.dfu_host_c.specs.declared.refusals.HostRefusal.{HostRefusal}

-- A call that returns the number of its fault is refused for the first fault, because its fault is always the first one.
pub call_is_refused_by_first_fault : {T F : Type 0} {why : F → HostRefusal} {first : F → Type 0} {number : ℤ} (made : Result T F) (fault : F)
    → made ≡ Err fault
    → ((fault : F) → (made ≡ Err fault) ↔ first fault) → number ≡ refused_number (why fault) → IsRefusedFor why first number
call_is_refused_by_first_fault made fault is faults same = record { fault = fault; is_first = (faults fault).0 is; number_is = same }
