-- Reads a map from the front of a string, part by part, up to the first fault.
use Rattle.std.specs.Prelude.{ℕ, zero, suc, ◌+◌, ◌-◌, ◌*◌, ◌/◌, ◌%◌, ◌^◌, ◌==◌, ◌&&◌, ◌||◌, nat_lt, nat_le, Bool, if◌then◌else◌, List, [], ◌∷◌, length, take, drop, Option, Some, None, Result, Ok, Err}
use Rattle.std.specs.List.{position}
use Rattle.dfu_formats.specs.memory.Ranges.{end_of_range, are_apart}
use Rattle.dfu_formats.specs.declared.memory.pages.Access.{Access}
use Rattle.dfu_formats.specs.declared.memory.pages.Pages.{Pages}
use Rattle.dfu_formats.specs.declared.memory.fault.MapFault.{MapFault}
use Rattle.dfu_formats.specs.declared.memory.fault.MapFault.TheVariants.{NoMap, BadAddress, BadCount, BadSize, BadType, PastTheEnd, TooManyRanges, Trailing, Overlaps}

-- Continues with the value of a step, or returns the fault of the step.
infixl 10 ◌>>=◌
abbrev pub ◌>>=◌ : {A B : Type 0} → Result A MapFault → (A → Result B MapFault) → Result B MapFault
(Err fault) >>= f = Err fault
(Ok x) >>= f = f x

-- The value if there is one, or else `fault`.
abbrev pub value_or_map_fault : {A : Type 0} → MapFault → Option A → Result A MapFault
value_or_map_fault fault None = Err fault
value_or_map_fault fault (Some x) = Ok x

-- A number and the text after it.
pub record NumberRead : Type 0 where
  pub value : ℕ
  pub rest : List ℕ

-- Value of a hexadecimal digit of either case, or 16 for any other byte.
abbrev pub digit_value : ℕ → ℕ
digit_value b =
    if nat_le 48 b && nat_le b 57 then b - 48
    else if nat_le 97 b && nat_le b 102 then b - 87
    else if nat_le 65 b && nat_le b 70 then b - 55
    else 16

-- Number of leading digits of base `base` in a text.
unfoldable pub digits_in : (base : ℕ) → List ℕ → ℕ
digits_in base [] = 0
digits_in base (b ∷ bs) = if nat_lt (digit_value b) base then suc (digits_in base bs) else 0

-- The number `n` with digits of base `base` appended.
unfoldable pub digits_number : (base n : ℕ) → List ℕ → ℕ
digits_number base n [] = n
digits_number base n (b ∷ bs) = digits_number base (base * n + digit_value b) bs

-- Reads the number at the front of a text from all leading digits. There must be one to `most` digits.
unfoldable pub map_number_at : (base most : ℕ) → List ℕ → Option NumberRead
map_number_at base most text =
    if digits_in base text == 0 || nat_lt most (digits_in base text) then None
    else Some (record { value = digits_number base 0 (take (digits_in base text) text); rest = drop (digits_in base text) text })

-- The text after its first byte, or None if this byte isn't `byte`.
unfoldable pub text_after_byte : ℕ → List ℕ → Option (List ℕ)
text_after_byte byte [] = None
text_after_byte byte (b ∷ bs) = if b == byte then Some bs else None

-- The number itself, or `fault` if it is 0.
abbrev pub nonzero_count : MapFault → NumberRead → Result NumberRead MapFault
nonzero_count fault n = if n.value == 0 then Err fault else Ok n

-- Reads a count of pages, which isn't 0, and the `*` after it.
unfoldable pub count_at : List ℕ → Result NumberRead MapFault
count_at text =
    value_or_map_fault BadCount (map_number_at 10 5 text) >>= nonzero_count BadCount
    >>= λ n. value_or_map_fault BadCount (text_after_byte 42 n.rest) >>= λ rest. Ok (record { value = n.value; rest = rest })

-- Number of bytes of the unit K, M, B or space, or 0 for any other byte.
abbrev pub unit_bytes : ℕ → ℕ
unit_bytes b = if b == 75 then 1024 else if b == 77 then 1048576 else if b == 66 || b == 32 then 1 else 0

-- Multiplies a size by the unit at the front of a text. A size without a unit is in bytes.
unfoldable pub unit_at : ℕ → List ℕ → NumberRead
unit_at value [] = record { value = value; rest = [] }
unit_at value (b ∷ bs) = if unit_bytes b == 0 then record { value = value; rest = b ∷ bs } else record
    { value = unit_bytes b * value; rest = bs }

-- Reads the size of a page, which isn't 0, with its unit.
unfoldable pub size_at : List ℕ → Result NumberRead MapFault
size_at text = value_or_map_fault BadSize (map_number_at 10 5 text) >>= nonzero_count BadSize >>= λ n. Ok (unit_at n.value n.rest)

-- Access to pages, and the text after its letter.
pub record LetterRead : Type 0 where
  pub access : Access
  pub rest : List ℕ

-- Access for a letter. The letters a to g are the numbers 1 to 7, in which bit 0 means readable, bit 1 erasable, and bit 2 writable.
abbrev pub access_of : ℕ → Access
access_of letter = record {
  is_readable = (letter - 96) % 2 == 1;
  is_erasable = (letter - 96) / 2 % 2 == 1;
  is_writable = (letter - 96) / 4 == 1;
}

-- Reads the letter for the access to pages.
unfoldable pub access_at : List ℕ → Result LetterRead MapFault
access_at [] = Err BadType
access_at (b ∷ bs) = if nat_le 97 b && nat_le b 103 then Ok (record { access = access_of b; rest = bs }) else Err BadType

-- A range and the text after it.
pub record RangeRead : Type 0 where
  pub pages : Pages
  pub rest : List ℕ

-- The range of `count` pages of `size` bytes, or PastTheEnd if it ends beyond address FFFFFFFFh.
abbrev pub range_of_pages : (start count size : ℕ) → LetterRead → Result RangeRead MapFault
range_of_pages start count size a =
    if nat_lt (2 ^ 32) (start + count * size) then Err PastTheEnd
    else Ok (record { pages = record { start = start; size = size; count = count; access = a.access }; rest = a.rest })

-- Reads a group of pages that begins at `start`.
unfoldable pub group_at : (start : ℕ) → List ℕ → Result RangeRead MapFault
group_at start text = count_at text >>= λ c. size_at c.rest >>= λ s. access_at s.rest >>= range_of_pages start c.value s.value

-- The text after `0x` or `0X`, or the text itself if it begins with neither.
unfoldable pub text_after_prefix : List ℕ → List ℕ
text_after_prefix [] = []
text_after_prefix (a ∷ []) = a ∷ []
text_after_prefix (a ∷ b ∷ bs) = if (a == 48) && ((b == 120) || (b == 88)) then bs else a ∷ b ∷ bs

-- Reads the address at which the ranges begin, and the `/` after it.
unfoldable pub address_at : List ℕ → Result NumberRead MapFault
address_at text =
    value_or_map_fault BadAddress (map_number_at 16 8 (text_after_prefix text))
    >>= λ n. value_or_map_fault BadAddress (text_after_byte 47 n.rest) >>= λ rest. Ok (record { value = n.value; rest = rest })

-- Wraps the start of a range in `Some`.
abbrev pub place_as_option : Result NumberRead MapFault → Result (Option NumberRead) MapFault
place_as_option place = place >>= λ p. Ok (Some p)

-- Start of the next range after a range that ends at `end`: `end` after `,`, the address in the text after `/`, and None at the end of the
-- text.
unfoldable pub next_range_place : (end : ℕ) → List ℕ → Result (Option NumberRead) MapFault
next_range_place end [] = Ok None
next_range_place end (b ∷ bs) =
    if b == 44 then Ok (Some (record { value = end; rest = bs }))
    else if b == 47 then place_as_option (address_at bs)
    else Err Trailing

-- Puts a range in front of the ranges that are read from the next start on, or returns it alone if there is no next start.
abbrev pub ranges_continued : Pages → Option NumberRead → (NumberRead → Result (List Pages) MapFault) → Result (List Pages) MapFault
ranges_continued pages None more = Ok (pages ∷ [])
ranges_continued pages (Some place) more = more place >>= λ ranges. Ok (pages ∷ ranges)

-- Reads at most `most` ranges, up to the end of a text. The first begins at `start`.
unfoldable pub ranges_at : (most start : ℕ) → List ℕ → Result (List Pages) MapFault
ranges_at zero start text = group_at start text >>= λ g. Err TooManyRanges
ranges_at (suc n) start text =
    group_at start text
    >>= λ g. next_range_place (end_of_range g.pages) g.rest
    >>= λ next. ranges_continued g.pages next (λ place. ranges_at n place.value place.rest)

-- A name and the text after it.
pub record Named : Type 0 where
  pub name : List ℕ
  pub rest : List ℕ

-- The bytes without the spaces at their end.
unfoldable pub trimmed_name : List ℕ → List ℕ
trimmed_name [] = []
trimmed_name (b ∷ bs) = if (b == 32) && (length (trimmed_name bs) == 0) then [] else b ∷ trimmed_name bs

-- The byte is `/`.
abbrev pub is_slash : ℕ → Bool
is_slash b = b == 47

-- The name before the `/` at this index, without spaces at its end, and the text after the `/`. None if there is no `/`.
abbrev pub name_up_to_slash : List ℕ → Option ℕ → Option Named
name_up_to_slash text None = None
name_up_to_slash text (Some n) = Some (record { name = trimmed_name (take n text); rest = drop (n + 1) text })

-- Reads the name between `@` and the first `/`.
unfoldable pub map_name_at : List ℕ → Result Named MapFault
map_name_at text =
    value_or_map_fault NoMap (text_after_byte 64 text) >>= λ text_after_byte. value_or_map_fault NoMap
    (name_up_to_slash text_after_byte (position is_slash text_after_byte))

-- Content of a map: its name and its ranges.
pub record MapContent : Type 0 where
  pub name : List ℕ
  pub ranges : List Pages

-- The map with these ranges, or Overlaps if two of them share an address.
abbrev pub map_if_apart : (name : List ℕ) → List Pages → Result MapContent MapFault
map_if_apart name ranges = if are_apart ranges then Ok (record { name = name; ranges = ranges }) else Err Overlaps

-- The content of a map, or the first fault of its string.
unfoldable pub map_at : List ℕ → Result MapContent MapFault
map_at text = map_name_at text >>= λ n. address_at n.rest >>= λ a. ranges_at 32 a.value a.rest >>= map_if_apart n.name
