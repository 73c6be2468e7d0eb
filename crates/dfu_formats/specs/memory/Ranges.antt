-- Ranges of pages, and the addresses that they contain.
use Rattle.std.specs.Prelude.{ℕ, ◌+◌, ◌*◌, ◌^◌, ◌≤◌, ◌&&◌, ◌||◌, nat_le, Bool, true, List, [], ◌∷◌}
use Rattle.dfu_formats.specs.declared.memory.pages.Pages.{Pages}

-- The address after the last byte of a range.
abbrev pub end_of_range : Pages → ℕ
end_of_range p = p.start + p.count * p.size

-- The range has at least one page, each page has at least one byte, and the last byte has a 32-bit address.
pub record IsRange (p : Pages) : Type 0 where
  pub some_pages : 1 ≤ p.count
  pub some_bytes : 1 ≤ p.size
  pub ends : end_of_range p ≤ 2 ^ 32

-- Two ranges share no address: one ends before the other begins.
abbrev pub ranges_are_apart : Pages → Pages → Bool
ranges_are_apart p q = nat_le (end_of_range p) q.start || nat_le (end_of_range q) p.start

-- The range shares no address with any range of the list.
abbrev pub is_apart_from : Pages → List Pages → Bool
is_apart_from p [] = true
is_apart_from p (q ∷ qs) = ranges_are_apart p q && is_apart_from p qs

-- No two ranges of the list share an address.
abbrev pub are_apart : List Pages → Bool
are_apart [] = true
are_apart (p ∷ ps) = is_apart_from p ps && are_apart ps
