-- The grammar of a memory map: `@NAME/ADDRESS/COUNT*SIZE LETTER`. More ranges follow after `,` or after `/ADDRESS/`.
use Rattle.std.specs.Prelude.{◌≡◌, ◌≢◌, ℕ, ◌*◌, ◌<◌, ◌≤◌, true, ◌⊎◌, List, [], ◌∷◌, ◌++◌, length, replicate}
use Rattle.dfu_formats.specs.declared.memory.pages.Pages.{Pages}
use Rattle.dfu_formats.specs.declared.memory.fault.MapFault.{MapFault}
use Rattle.dfu_formats.specs.memory.Ranges.{IsRange, end_of_range, are_apart}
use Rattle.dfu_formats.specs.memory.Reading.{MapContent, digit_value, digits_number, unit_bytes, access_of, map_at}
use Rattle.std.specs.Prelude.{Err}

-- Each byte is a digit of the base.
unfoldable pub AreDigits : (base : ℕ) → List ℕ → Type 0
AreDigits base [] = Unit {0}
AreDigits base (b ∷ bs) = (digit_value b < base) × AreDigits base bs

-- `digits` is the number `n` in base `base`, with one to `most` digits.
pub record IsNumber (base most n : ℕ) (digits : List ℕ) : Type 0 where
  pub are_digits : AreDigits base digits
  pub some : 1 ≤ length digits
  pub few : length digits ≤ most
  pub digits_make_number : n ≡ digits_number base 0 digits

-- `times` is the number of bytes of the unit: 1,024 for K, 1,048,576 for M, and 1 for B, for a space or for no unit.
abbrev pub IsUnit : (times : ℕ) → List ℕ → Type 0
IsUnit times [] = times ≡ 1
IsUnit times (b ∷ []) = (times ≡ unit_bytes b) × (unit_bytes b ≢ 0)
IsUnit times (a ∷ b ∷ bs) = ⊥

-- A group of pages that begins at `start` and has only 32-bit addresses. Its text is a count, `*`, a page size with its unit, and the
-- letter for the access. Neither count nor size is 0.
pub record IsGroup (start : ℕ) (p : Pages) (text : List ℕ) : Type 0 where
  pub count_digits : List ℕ
  pub size_digits : List ℕ
  pub unit : List ℕ
  pub number : ℕ
  pub times : ℕ
  pub letter : ℕ
  pub spelled : text ≡ count_digits ++ 42 ∷ (size_digits ++ (unit ++ letter ∷ []))
  pub count_is : IsNumber 10 5 p.count count_digits
  pub number_is : IsNumber 10 5 number size_digits
  pub unit_is : IsUnit times unit
  pub size_is : p.size ≡ times * number
  pub from_a : 97 ≤ letter
  pub to_g : letter ≤ 103
  pub access_is : p.access ≡ access_of letter
  pub starts : p.start ≡ start
  pub sound : IsRange p

-- The text is a prefix that may precede an address: `0x`, `0X` or nothing.
abbrev pub IsPrefix : List ℕ → Type 0
IsPrefix [] = Unit {0}
IsPrefix (a ∷ []) = ⊥
IsPrefix (a ∷ b ∷ []) = (a ≡ 48) × ((b ≡ 120) ⊎ (b ≡ 88))
IsPrefix (a ∷ b ∷ c ∷ cs) = ⊥

-- The text is an address in one to eight hexadecimal digits, with or without a prefix.
pub record IsAddress (address : ℕ) (text : List ℕ) : Type 0 where
  pub prefix : List ℕ
  pub digits : List ℕ
  pub spelled : text ≡ prefix ++ digits
  pub prefix_is : IsPrefix prefix
  pub number_is : IsNumber 16 8 address digits

-- The text encodes ranges, the first of which begins at `start`. A range after `,` begins at the end of the range before it. A range after
-- `/ADDRESS/` begins at this address.
pub data AreRanges : (start : ℕ) → List Pages → List ℕ → Type 0 where
  last : {start : ℕ} {p : Pages} {text : List ℕ} → IsGroup start p text → AreRanges start (p ∷ []) text
  following : {start : ℕ} {p : Pages} {ps : List Pages} {group more : List ℕ} →
      IsGroup start p group → AreRanges (end_of_range p) ps more → AreRanges start (p ∷ ps) (group ++ 44 ∷ more)
  elsewhere : {start place : ℕ} {p : Pages} {ps : List Pages} {group address more : List ℕ} →
      IsGroup start p group → IsAddress place address → AreRanges place ps more →
      AreRanges start (p ∷ ps) (group ++ 47 ∷ (address ++ 47 ∷ more))

-- The text has no `/`.
unfoldable pub HasNoSlash : List ℕ → Type 0
HasNoSlash [] = Unit {0}
HasNoSlash (b ∷ bs) = (b ≢ 47) × HasNoSlash bs

-- The bytes are empty, or don't end in a space.
unfoldable pub HasNoTrailingSpace : List ℕ → Type 0
HasNoTrailingSpace [] = Unit {0}
HasNoTrailingSpace (b ∷ []) = b ≢ 32
HasNoTrailingSpace (a ∷ b ∷ bs) = HasNoTrailingSpace (b ∷ bs)

-- `text` is a map: `@`, a name without `/` and without spaces at its end, spaces, an address between two `/`, and up to 32 ranges that
-- share no address. The first range begins at the address.
pub record IsMap (m : MapContent) (text : List ℕ) : Type 0 where
  pub spaces : ℕ
  pub place : ℕ
  pub address : List ℕ
  pub list : List ℕ
  pub spelled : text ≡ 64 ∷ (m.name ++ (replicate spaces 32 ++ 47 ∷ (address ++ 47 ∷ list)))
  pub no_slash : HasNoSlash m.name
  pub no_space : HasNoTrailingSpace m.name
  pub address_is : IsAddress place address
  pub list_is : AreRanges place m.ranges list
  pub few : length m.ranges ≤ 32
  pub apart : are_apart m.ranges ≡ true

-- `fault` is the first fault found when the string is read as a map.
abbrev pub FirstMapFault : MapFault → List ℕ → Type 0
FirstMapFault fault text = map_at text ≡ Err fault
