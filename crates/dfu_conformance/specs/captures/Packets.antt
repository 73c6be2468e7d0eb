-- Content of a packet of usbmon (Linux, Documentation/usb/usbmon.rst, "Raw binary format and API").
use Rattle.std.specs.Prelude.{ℕ, ◌+◌, ◌*◌, ◌%◌, ◌==◌, ◌&&◌, ◌||◌, nat_le, Bool, true, List, [], ◌∷◌, length, drop, slice_index_or, Option, Some, None, if◌then◌else◌}
use Rattle.dfu_conformance.specs.declared.captures.event.PacketKind.{PacketKind}
use Rattle.dfu_conformance.specs.declared.captures.event.PacketKind.TheVariants.{Submits, Completes, Other}
use Rattle.dfu_conformance.specs.declared.captures.event.Ending.{Ending}
use Rattle.dfu_conformance.specs.declared.captures.event.Ending.TheVariants.{Done, Stalled, Failed}

-- Byte at an index, or 0 beyond the end of the bytes.
abbrev pub byte_or_zero : List ℕ → ℕ → ℕ
byte_or_zero bytes at = slice_index_or bytes at 0

-- Number in the first two bytes, the high byte first if `big` is true, and the low byte first otherwise.
abbrev pub two_byte_number : (is_big : Bool) → List ℕ → ℕ
two_byte_number big bytes =
    if big then 256 * byte_or_zero bytes 0 + byte_or_zero bytes 1 else byte_or_zero bytes 0 + 256 * byte_or_zero bytes 1

-- Number in the first four bytes, the high byte first if `big` is true, and the low byte first otherwise.
abbrev pub four_byte_number : (is_big : Bool) → List ℕ → ℕ
four_byte_number big bytes =
    if big then 16777216 * byte_or_zero bytes 0 + 65536 * byte_or_zero bytes 1 + 256 * byte_or_zero bytes 2 + byte_or_zero bytes 3
    else byte_or_zero bytes 0 + 256 * byte_or_zero bytes 1 + 65536 * byte_or_zero bytes 2 + 16777216 * byte_or_zero bytes 3

-- First eight bytes, with 0 for each byte beyond the end.
abbrev pub first_eight_bytes : List ℕ → List ℕ
first_eight_bytes bytes =
    byte_or_zero bytes 0 ∷ byte_or_zero bytes 1 ∷ byte_or_zero bytes 2 ∷ byte_or_zero bytes 3 ∷ byte_or_zero bytes 4 ∷ byte_or_zero bytes 5
    ∷ byte_or_zero bytes 6 ∷ byte_or_zero bytes 7 ∷ []

-- Number of bytes before the data, for a link type of usbmon (189 or 220), or None for any other link type.
abbrev pub header_length_of : (link : ℕ) → Option ℕ
header_length_of link = if link == 189 then Some 48 else if link == 220 then Some 64 else None

-- The packet belongs to a control transfer (byte 9 is 2) to endpoint 0 (byte 10, without its bit 7), and its header is complete.
abbrev pub is_control : (head : ℕ) → List ℕ → Bool
is_control head bytes = nat_le head (length bytes) && ((byte_or_zero bytes 9 == 2) && (byte_or_zero bytes 10 % 128 == 0))

-- Kind of a packet, from byte 8: 'S' submits a transfer, and 'C' completes it. A packet with any other byte has no role in a transfer.
abbrev pub packet_kind_of : List ℕ → PacketKind
packet_kind_of bytes = if byte_or_zero bytes 8 == 83 then Submits else if byte_or_zero bytes 8 == 67 then Completes else Other

-- Setup of a packet, which is bytes 40 to 47 if byte 14 is 0, or None.
abbrev pub setup_in_packet : List ℕ → Option (List ℕ)
setup_in_packet bytes = if byte_or_zero bytes 14 == 0 then Some (first_eight_bytes (drop 40 bytes)) else None

-- Result of a transfer, from the status in bytes 28 to 31: 0 for success, -32 for a stall, and any other number for another failure.
abbrev pub transfer_ending_of : (is_big : Bool) → List ℕ → Ending
transfer_ending_of big bytes =
    let status = four_byte_number big (drop 28 bytes) in
    if status == 0 then Done else if status == 0xffffffe0 then Stalled else Failed

-- The bytes begin like a capture: pcap with microseconds or nanoseconds, in either byte order, or pcapng.
abbrev pub is_capture_front : List ℕ → Bool
is_capture_front bytes =
    let n = four_byte_number true bytes in
    n == 0xd4c3b2a1 || (n == 0x4d3cb2a1 || (n == 0xa1b2c3d4 || (n == 0xa1b23c4d || n == 0x0a0d0d0a)))

-- Number of bytes of the packet in a record of pcap, from bytes 8 to 11 of the record.
abbrev pub captured_byte_count : (is_big : Bool) → List ℕ → ℕ
captured_byte_count big bytes = four_byte_number big (drop 8 bytes)
