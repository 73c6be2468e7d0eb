-- Bytes of an image, by their addresses.
use Rattle.std.specs.Prelude.{ℕ, ◌+◌, ◌&&◌, nat_lt, nat_le, max, Bool, List, [], ◌∷◌, length, Option, Some, None, if◌then◌else◌}
use Rattle.dfu_formats.specs.declared.dfuse.element.Element.{Element}

-- Address after the last byte of an element.
abbrev pub end_of : Element → ℕ
end_of e = e.address + length e.bytes.now

-- True if the element has a byte at the address.
abbrev pub element_holds : ℕ → Element → Bool
element_holds at e = nat_le e.address at && nat_lt at (end_of e)

-- The first element that has a byte at the address, or None if there is none.
unfoldable pub element_at : ℕ → List Element → Option Element
element_at at [] = None
element_at at (e ∷ es) = if element_holds at e then Some e else element_at at es

-- The first address from `at` on at which the image has a byte, or None if there is none. The elements must ascend, and none may be empty.
unfoldable pub next_byte : ℕ → List Element → Option ℕ
next_byte at [] = None
next_byte at (e ∷ es) = if nat_lt at (end_of e) then Some (max at e.address) else next_byte at es

-- Address at which the first element of an image begins; 0 if there is no element.
unfoldable pub image_start : List Element → ℕ
image_start [] = 0
image_start (e ∷ es) = e.address

-- Highest address at which an element of an image ends; 0 if there is no element.
unfoldable pub image_end : List Element → ℕ
image_end [] = 0
image_end (e ∷ es) = max (end_of e) (image_end es)
