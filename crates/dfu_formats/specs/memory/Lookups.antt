-- Lookups of an address in a map: its range, its page, and its access.
use Rattle.std.specs.Prelude.{◌≡◌, ℕ, ◌+◌, ◌-◌, ◌*◌, ◌/◌, ◌<◌, ◌≤◌, ◌&&◌, ◌||◌, not, nat_lt, nat_le, Bool, true, List, [], ◌∷◌, Option, Some, None, if◌then◌else◌}
use Rattle.std.specs.Option.{option_map}
use Rattle.dfu_formats.specs.declared.memory.pages.Access.{Access}
use Rattle.dfu_formats.specs.declared.memory.pages.Pages.{Pages}
use Rattle.dfu_formats.specs.declared.memory.pages.Page.{Page}
use Rattle.std.specs.List.{All}
use Rattle.dfu_formats.specs.memory.Ranges.{IsRange, end_of_range, are_apart}

-- The range contains the address.
abbrev pub range_has : ℕ → Pages → Bool
range_has address p = nat_le p.start address && nat_lt address (end_of_range p)

-- The first range that contains the address, or None. In a map it is the only one.
unfoldable pub range_at : ℕ → List Pages → Option Pages
range_at address [] = None
range_at address (p ∷ ps) = if range_has address p then Some p else range_at address ps

-- The page of a range that contains the address.
abbrev pub page_in : ℕ → Pages → Page
page_in address p = record {
  start = p.start + (address - p.start) / p.size * p.size;
  size = p.size;
  access = p.access;
}

-- The page of these ranges that contains the address, or None if no range contains it.
abbrev pub page_at : ℕ → List Pages → Option Page
page_at address ranges = option_map (page_in address) (range_at address ranges)

-- The address after the last byte of a page.
abbrev pub end_of_page : Page → ℕ
end_of_page p = p.start + p.size

-- The granted access includes the wanted access.
abbrev pub access_grants : (granted wanted : Access) → Bool
access_grants granted wanted =
    (granted.is_readable || not wanted.is_readable)
    && ((granted.is_erasable || not wanted.is_erasable) && (granted.is_writable || not wanted.is_writable))

-- There is a range, and it grants the wanted access.
abbrev pub IsGranted : Access → Option Pages → Type 0
IsGranted wanted None = ⊥
IsGranted wanted (Some p) = access_grants p.access wanted ≡ true

-- Each address from `start` to before `end` is in a range that grants the wanted access.
abbrev pub AllGranted : Access → (start end : ℕ) → List Pages → Type 0
AllGranted wanted start end ranges = (a : ℕ) → start ≤ a → a < end → IsGranted wanted (range_at a ranges)

-- If sound ranges share no address and `page_at` returns a page, it returns the same page for each address of this page.
abbrev pub AddressOnOnePage : Type 0
AddressOnOnePage =
    (ranges : List Pages) (a b : ℕ) (page : Page) → All IsRange ranges → are_apart ranges ≡ true → page_at a ranges ≡ Some page →
    page.start ≤ b → b < end_of_page page → page_at b ranges ≡ Some page
