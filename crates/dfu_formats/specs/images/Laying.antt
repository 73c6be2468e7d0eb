-- Joins the elements of an image into one piece, which begins at their lowest address.
use Rattle.std.specs.Prelude.{ℕ, ◌+◌, ◌-◌, ◌&&◌, not, nat_lt, if◌then◌else◌, List, [], ◌∷◌, ◌++◌, length, replicate, Option, is_some, Result, Ok, Err, Vec}
use Rattle.std.specs.Option.{unwrap_or}
use Rattle.std.specs.declared.alloc.Global.{Global}
use Rattle.dfu_formats.specs.declared.images.laying.LayFault.{LayFault}
use Rattle.dfu_formats.specs.declared.images.laying.LayFault.TheVariants.{NoMemory, Gap, TooLarge}
use Rattle.std.specs.Prelude.{◌≡◌}
use Rattle.dfu_formats.specs.images.Elements.{Piece, end_of_piece}

-- The fill bytes from `end` to the address of an element, and the bytes of the element. It is a fault if fill bytes are needed but `fill`
-- is None, or if there are over 16,777,216 bytes in all.
unfoldable pub filled_part : (fill : Option ℕ) → (count end : ℕ) → Piece → Result (List ℕ) LayFault
filled_part fill count end p =
    if not (is_some fill) && nat_lt end p.address then Err (Gap end p.address)
    else if nat_lt 16777216 (count + (p.address - end) + length p.bytes) then Err TooLarge
    else Ok (replicate (p.address - end) (unwrap_or fill 0) ++ p.bytes)

-- Puts bytes in front of the bytes of a result, or returns the fault of the result.
abbrev pub bytes_in_front : List ℕ → Result (List ℕ) LayFault → Result (List ℕ) LayFault
bytes_in_front front (Err fault) = Err fault
bytes_in_front front (Ok bytes) = Ok (front ++ bytes)

-- Puts the bytes of an element in front of the bytes after them, or returns the first fault.
abbrev pub part_before_others : Result (List ℕ) LayFault → (List ℕ → Result (List ℕ) LayFault) → Result (List ℕ) LayFault
part_before_others (Err fault) more = Err fault
part_before_others (Ok front) more = bytes_in_front front (more front)

-- The bytes of elements, laid out from address `end` on with fill bytes between them, or the first fault. There are `count` bytes before
-- them.
unfoldable pub laid_bytes : (fill : Option ℕ) → (count end : ℕ) → List Piece → Result (List ℕ) LayFault
laid_bytes fill count end [] = Ok []
laid_bytes fill count end (p ∷ ps) =
    part_before_others (filled_part fill count end p) (λ front. laid_bytes fill (count + length front) (end_of_piece p) ps)

-- The lowest address of elements that are sorted by address, or 0 if there are none.
abbrev pub lowest_address : List Piece → ℕ
lowest_address [] = 0
lowest_address (p ∷ ps) = p.address

-- The call failed with the same fault as `read`, or with NoMemory.
abbrev pub IsLayFault : LayFault → Result (List ℕ) LayFault → Type 0
IsLayFault NoMemory read = Unit {0}
IsLayFault fault read = read ≡ Err fault

-- The call returned the same bytes or fault as `read`, or NoMemory.
abbrev pub IsLaidResult : Result (Vec ℕ Global) LayFault → Result (List ℕ) LayFault → Type 0
IsLaidResult (Ok bytes) read = read ≡ Ok bytes.items
IsLaidResult (Err fault) read = IsLayFault fault read
