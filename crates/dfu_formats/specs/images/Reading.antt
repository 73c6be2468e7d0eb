-- Steps of reading in sequence, and the results of calls that read.
use Rattle.std.specs.Prelude.{◌≡◌, ℕ, zero, suc, ◌+◌, List, take, drop, Option, Some, None, Result, Ok, Err}
use Rattle.dfu_formats.specs.declared.images.fault.ImageFault.{ImageFault}
use Rattle.dfu_formats.specs.declared.images.fault.ImageFault.TheVariants.{NoMemory}

-- Continues with the value of a step, or returns the fault of the step.
infixl 10 ◌>>=◌
abbrev pub ◌>>=◌ : {A B : Type 0} → Result A ImageFault → (A → Result B ImageFault) → Result B ImageFault
(Err fault) >>= f = Err fault
(Ok x) >>= f = f x

-- The value if there is one, or else `fault`.
abbrev pub value_or_image_fault : {A : Type 0} → ImageFault → Option A → Result A ImageFault
value_or_image_fault fault None = Err fault
value_or_image_fault fault (Some x) = Ok x

-- Reads `left` parts of `size` bytes one after the other, beginning with part number `index`.
unfoldable pub parts_read : {S : Type 0} → (size : ℕ) → (read : ℕ → S → List ℕ → Result S ImageFault) → (left index : ℕ) → S → List ℕ →
    Result S ImageFault
parts_read size read zero index s bytes = Ok s
parts_read size read (suc n) index s bytes = read index s (take size bytes) >>= λ t. parts_read size read n (index + 1) t (drop size bytes)

-- The call failed with the same fault as `read`, or with NoMemory.
abbrev pub IsReadFault : {A : Type 0} → ImageFault → Result A ImageFault → Type 0
IsReadFault NoMemory read = Unit {0}
IsReadFault fault read = read ≡ Err fault

-- The call returned the same value or fault as `read`, or NoMemory.
abbrev pub IsReadResult : {A : Type 0} → Result A ImageFault → Result A ImageFault → Type 0
IsReadResult (Ok x) read = read ≡ Ok x
IsReadResult (Err fault) read = IsReadFault fault read
