-- The content of a line of a log: SETUP BODY ANSWER, `reset`, `power`, a comment, or nothing.
use Rattle.std.specs.Prelude.{◌≡◌, ℕ, ◌+◌, ◌*◌, ◌/◌, ◌%◌, ◌-◌, ◌==◌, ◌&&◌, nat_le, nat_lt, Bool, true, List, [], ◌∷◌, length, take, drop, slice_index, codes, Option, Some, None, MatchBool, is_none, if◌then◌else◌}
use Rattle.std.specs.List.{list_all, position_or_len}
use Rattle.std.specs.Str.{bytes_eq}
use Rattle.dfu_wire.specs.declared.setups.Setup.{Setup}
use Rattle.dfu_wire.specs.declared.requests.Request.{Request}
use Rattle.dfu_wire.specs.declared.requests.Request.TheVariants as request
use Rattle.dfu_wire.specs.Request.{SetupAsksFor}
use Rattle.dfu_conformance.specs.declared.event.Response.{Response}
use Rattle.dfu_conformance.specs.declared.event.Response.TheVariants as answer
use Rattle.dfu_conformance.specs.declared.log.Line.{Line}
use Rattle.dfu_conformance.specs.declared.log.Line.TheVariants.{Blank, Elsewhere, Came}
use Rattle.dfu_conformance.specs.declared.log.LineFault.{LineFault}
use Rattle.dfu_conformance.specs.declared.log.LineFault.TheVariants as fault
use Rattle.dfu_conformance.specs.Setups.{event_of, reset_event, power_event}

-- The byte is a space, 20h, the separator of fields.
abbrev pub is_space : ℕ → Bool
is_space byte = byte == 32

-- First field of a line: the bytes before its first space, or all bytes if there is none.
abbrev pub field_of : List ℕ → List ℕ
field_of line = take (position_or_len is_space line) line

-- The bytes of a line after its first space, or no bytes if there is none.
abbrev pub rest_of : List ℕ → List ℕ
rest_of line = drop (position_or_len is_space line + 1) line

-- Value of a hexadecimal digit of either case, or 16 for any other byte.
abbrev pub digit_value : ℕ → ℕ
digit_value byte =
    if nat_le 48 byte && nat_le byte 57 then byte - 48
    else if nat_le 97 byte && nat_le byte 102 then byte - 87
    else if nat_le 65 byte && nat_le byte 70 then byte - 55
    else 16

-- The byte is a hexadecimal digit of either case.
abbrev pub is_digit : ℕ → Bool
is_digit byte = nat_lt (digit_value byte) 16

-- The text consists of at most 65,535 pairs of hexadecimal digits.
unfoldable pub is_hex : List ℕ → Bool
is_hex text = nat_le (length text) 131070 && (length text % 2 == 0) && list_all is_digit text

-- Byte that pair n of hexadecimal digits encodes, or 0 if the text ends before this pair does.
abbrev pub byte_of_digit_pair : List ℕ → ℕ → ℕ
byte_of_digit_pair text n =
    if nat_lt (2 * n + 1) (length text)
    then (16 * digit_value (slice_index text (2 * n)) + digit_value (slice_index text (2 * n + 1))) % 256
    else 0

-- Setup that sixteen hexadecimal digits encode, or None for any other text.
unfoldable pub setup_in : List ℕ → Option Setup
setup_in text =
    if is_hex text && (length text == 16) then Some (record {
      kind = byte_of_digit_pair text 0;
      request = byte_of_digit_pair text 1;
      value = byte_of_digit_pair text 2 + 256 * byte_of_digit_pair text 3;
      index = byte_of_digit_pair text 4 + 256 * byte_of_digit_pair text 5;
      length = byte_of_digit_pair text 6 + 256 * byte_of_digit_pair text 7;
    }) else None

-- Number of bytes of a body: half the number of its hexadecimal digits, or 0 for `-`. None for any other text.
unfoldable pub body_in : List ℕ → Option ℕ
body_in text =
    if bytes_eq text (codes "-") then Some 0
    else if is_hex text && nat_lt 0 (length text) then Some (length text / 2)
    else None

-- Answer that a text describes: `ack`, `stall`, `nothing`, or the bytes that the device sent, in hexadecimal digits. None for any other
-- text.
unfoldable pub answer_in : List ℕ → Option Response
answer_in text =
    if bytes_eq text (codes "ack") then Some (answer.Bytes 0 0 0)
    else if bytes_eq text (codes "stall") then Some answer.Stall
    else if bytes_eq text (codes "nothing") then Some answer.Nothing
    else if is_hex text && nat_lt 0 (length text) then Some (answer.Bytes (length text / 2) (byte_of_digit_pair text 0) (byte_of_digit_pair
    text 4))
    else None

-- The line is empty, or begins with '#', which makes it a comment.
abbrev pub is_blank : List ℕ → Bool
is_blank [] = true
is_blank (byte ∷ bytes) = byte == 35

-- First wrong field of a line that isn't valid.
abbrev pub why_unread : List ℕ → LineFault
why_unread text =
    if is_none (setup_in (field_of text)) then fault.Setup
    else if is_none (body_in (field_of (rest_of text))) then fault.Body
    else fault.Answer

-- `read` is the content of a request's line: its event, or `Elsewhere` if it isn't a class request to interface 0.
abbrev pub IsRequestLine : Request → Setup → (body : ℕ) → Response → Option Line → Type 0
IsRequestLine request.NotDfu s body a read = read ≡ Some Elsewhere
IsRequestLine q s body a read = read ≡ Some (Came (event_of s q body a))

-- `read` is the content of a line with these three fields. It is None if a field is None, and `Elsewhere` if wIndex isn't the interface.
abbrev pub LineOfFields : (interface : ℕ) → Option Setup → Option ℕ → Option Response → Option Line → Type 0
LineOfFields interface (Some s) (Some body) (Some a) read =
    MatchBool (s.index == interface)
    ((q : Request) → SetupAsksFor (record s { index = 0 }) q → IsRequestLine q (record s { index = 0 }) body a read)
    (read ≡ Some Elsewhere)
LineOfFields interface s body a read = read ≡ None

-- `read` is the content of a line of a log, for this interface: `Blank`, the event of a reset, of power or of a request, or `Elsewhere`. It
-- is None if the line isn't valid.
abbrev pub LineMeaning : (interface : ℕ) → List ℕ → Option Line → Type 0
LineMeaning interface text read =
    MatchBool (is_blank text) (read ≡ Some Blank)
    (MatchBool (bytes_eq text (codes "reset")) (read ≡ Some (Came reset_event))
    (MatchBool (bytes_eq text (codes "power")) (read ≡ Some (Came power_event))
    (LineOfFields interface (setup_in (field_of text)) (body_in (field_of (rest_of text))) (answer_in (rest_of (rest_of text))) read)))
