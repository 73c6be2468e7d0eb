-- The elements of an image, gathered from the records of a file.
use Rattle.std.specs.Prelude.{◌≡◌, ℕ, suc, Option, Some, None, Vec, ◌+◌, ◌≤◌, ◌==◌, nat_lt, nat_le, if◌then◌else◌, List, [], ◌∷◌, ◌++◌, length, Result, Ok, Err}
use Rattle.dfu_formats.specs.declared.images.fault.ImageFault.{ImageFault}
use Rattle.dfu_formats.specs.declared.images.fault.ImageFault.TheVariants.{TooLarge, TooManyElements, Overlaps}
use Rattle.std.specs.List.{insert}
use Rattle.std.specs.declared.alloc.Global.{Global}
use Rattle.dfu_formats.specs.images.Reading.{◌>>=◌, parts_read, IsReadFault}

-- An element: its bytes, and the address of the first one.
pub record Piece : Type 0 where
  pub address : ℕ
  pub bytes : List ℕ

-- The address after the last byte of an element.
abbrev pub end_of_piece : Piece → ℕ
end_of_piece p = p.address + length p.bytes

-- Complete elements, sorted by address; the element to which records still append, which has no bytes at first; and the total number of
-- bytes.
pub record Gathering : Type 0 where
  pub complete : List Piece
  pub growing : Piece
  pub total : ℕ

-- The gathering before the first record, which has no elements and no bytes.
abbrev pub empty_gathering : Gathering
empty_gathering = record { complete = []; growing = record { address = 0; bytes = [] }; total = 0 }

-- Number of leading elements of the list that begin at or before the address.
unfoldable pub element_place : (address : ℕ) → List Piece → ℕ
element_place address [] = 0
element_place address (q ∷ qs) = if nat_lt address q.address then 0 else suc (element_place address qs)

-- Inserts an element into a list that is sorted by address, after those with the same or a lower address.
abbrev pub elements_with_inserted : Piece → List Piece → List Piece
elements_with_inserted p qs = insert qs (element_place p.address qs) p

-- The complete elements with the growing one inserted, unless it has no bytes.
unfoldable pub completed_elements : List Piece → (growing : Piece) → List Piece
completed_elements complete p = if length p.bytes == 0 then complete else elements_with_inserted p complete

-- Begins a new element, unless 1,024 or more elements are complete.
unfoldable pub element_begun : (at total : ℕ) → (complete : List Piece) → Piece → Result Gathering ImageFault
element_begun at total complete p =
    if nat_le 1024 (length complete) then Err (TooManyElements at)
    else Ok (record { complete = complete; growing = p; total = total })

-- Appends bytes to the growing element if they begin at its end. Otherwise completes it and begins another.
unfoldable pub element_grown : (at : ℕ) → Gathering → Piece → Result Gathering ImageFault
element_grown at g p =
    if end_of_piece g.growing == p.address then Ok (record {
      complete = g.complete;
      growing = record { address = g.growing.address; bytes = g.growing.bytes ++ p.bytes };
      total = g.total + length p.bytes;
    })
    else element_begun at (g.total + length p.bytes) (completed_elements g.complete g.growing) p

-- Adds bytes, if there are any, at an address. All elements together may have at most 16,777,216 bytes.
unfoldable pub bytes_added : (at : ℕ) → Gathering → Piece → Result Gathering ImageFault
bytes_added at g p =
    if length p.bytes == 0 then Ok g
    else if nat_lt 16777216 (g.total + length p.bytes) then Err (TooLarge at)
    else element_grown at g p

-- Address of the first element that begins before the end of its predecessor, or None if there is none.
unfoldable pub shared_address : (end : ℕ) → List Piece → Option ℕ
shared_address end [] = None
shared_address end (p ∷ ps) = if nat_lt p.address end then Some p.address else shared_address (end_of_piece p) ps

-- The elements, or Overlaps if two of them share an address.
abbrev pub elements_unless_shared : List Piece → Option ℕ → Result (List Piece) ImageFault
elements_unless_shared all None = Ok all
elements_unless_shared all (Some address) = Err (Overlaps address)

-- Elements of a gathering, or Overlaps if two of them share an address.
unfoldable pub gathered_elements : Gathering → Result (List Piece) ImageFault
gathered_elements g = let all = completed_elements g.complete g.growing in elements_unless_shared all (shared_address 0 all)

-- The elements of a file that has `total` parts of `size` bytes, or its first fault.
abbrev pub elements_by_part : (size : ℕ) → (read : ℕ → Gathering → List ℕ → Result Gathering ImageFault) → (total : ℕ) → List ℕ →
    Result (List Piece) ImageFault
elements_by_part size read total bytes = parts_read size read total 0 empty_gathering bytes >>= gathered_elements

-- Each element begins at or after `from`, and at or after the end of the element before it.
unfoldable pub AreApart : (from : ℕ) → List Piece → Type 0
AreApart from [] = Unit {0}
AreApart from (p ∷ ps) = (from ≤ p.address) × AreApart (end_of_piece p) ps

-- The call returned the same elements or fault as `read`, or NoMemory.
abbrev pub IsElementResult : Result (Vec Piece Global) ImageFault → Result (List Piece) ImageFault → Type 0
IsElementResult (Ok elements) read = read ≡ Ok elements.items
IsElementResult (Err fault) read = IsReadFault fault read
