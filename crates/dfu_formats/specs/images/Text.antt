-- The byte order mark and the blanks of a text, and the test that a file is text.
use Rattle.std.specs.Prelude.{ℕ, ◌-◌, ◌==◌, ◌&&◌, ◌||◌, not, nat_le, nat_lt, Bool, false, if◌then◌else◌, List, [], ◌∷◌, length, Option, Some, None}
use Rattle.std.specs.Str.Lossy.{second_byte_min, second_byte_max}
use Rattle.dfu_formats.specs.declared.images.text.Awaited.{Awaited}

-- The text without its UTF-8 byte order mark, if it begins with one.
abbrev pub without_order_mark : List ℕ → List ℕ
without_order_mark (a ∷ b ∷ c ∷ text) = if (a == 0xEF) && ((b == 0xBB) && (c == 0xBF)) then text else a ∷ b ∷ c ∷ text
without_order_mark text = text

-- A blank is a space, a tab or a carriage return.
abbrev pub is_blank_byte : ℕ → Bool
is_blank_byte b = (b == 32) || ((b == 9) || (b == 13))

-- The text without the blanks and line feeds at its front.
unfoldable pub without_leading_blanks : List ℕ → List ℕ
without_leading_blanks [] = []
without_leading_blanks (b ∷ bs) = if is_blank_byte b || (b == 10) then without_leading_blanks bs else b ∷ bs

-- The byte is tab, line feed, form feed, carriage return, or not an ASCII control character.
abbrev pub is_text_byte : ℕ → Bool
is_text_byte b = (nat_le 32 b && not (b == 127)) || ((b == 9) || ((b == 10) || ((b == 12) || (b == 13))))

-- State between two characters, where no continuation byte is pending.
abbrev pub nothing_awaited : Awaited
nothing_awaited = record { left = 0; low = 0x80; high = 0xBF }

-- Number of continuation bytes after the first byte of a UTF-8 character that isn't ASCII.
abbrev pub continuation_byte_count : ℕ → ℕ
continuation_byte_count b = if nat_lt b 0xE0 then 1 else if nat_lt b 0xF0 then 2 else 3

-- Continuation bytes that are pending after the first byte of a character: none after ASCII text, one to three after C2h to F4h. Any other
-- byte is refused. The first byte decides the bounds of the second.
abbrev pub awaited_after_first_byte : ℕ → Option Awaited
awaited_after_first_byte b =
    if nat_lt b 128 then (if is_text_byte b then Some nothing_awaited else None)
    else if nat_le 0xC2 b && nat_le b 0xF4 then Some (record {
      left = continuation_byte_count b;
      low = second_byte_min b;
      high =
          second_byte_max b;
    })
    else None

-- Continuation bytes that are pending after a byte, or None if the byte is not allowed here. Each byte after the second of a character is
-- 80h to BFh.
abbrev pub awaited_after_byte : Awaited → ℕ → Option Awaited
awaited_after_byte a b =
    if a.left == 0 then awaited_after_first_byte b
    else if nat_le a.low b && nat_le b a.high then Some (record { left = a.left - 1; low = 0x80; high = 0xBF })
    else None

-- False if the byte was not allowed, and otherwise the result of the test for the bytes after it.
abbrev pub text_continues_after : Option Awaited → (more : Awaited → Bool) → Bool
text_continues_after None more = false
text_continues_after (Some a) more = more a

-- The bytes are UTF-8 text (Unicode, table 3-7). They begin with the pending continuation bytes, and don't end within a character.
unfoldable pub is_text_from : Awaited → List ℕ → Bool
is_text_from a [] = a.left == 0
is_text_from a (b ∷ bs) = text_continues_after (awaited_after_byte a b) (λ next. is_text_from next bs)

-- The whole file is text: it isn't empty, it is UTF-8, and it has no ASCII control characters other than tab, line feed, form feed and
-- carriage return. A byte order mark is allowed.
abbrev pub is_text : List ℕ → Bool
is_text file = not (length file == 0) && is_text_from nothing_awaited file
