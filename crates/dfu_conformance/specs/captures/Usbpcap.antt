-- Content of a packet of USBPcap (USBPcap, "Capture format": USBPCAP_BUFFER_PACKET_HEADER and USBPCAP_BUFFER_CONTROL_HEADER).
use Rattle.std.specs.Prelude.{ℕ, ◌+◌, ◌-◌, ◌%◌, ◌==◌, ◌&&◌, nat_le, Bool, false, List, length, drop, Option, Some, None, if◌then◌else◌}
use Rattle.dfu_conformance.specs.captures.Packets.{byte_or_zero, two_byte_number, four_byte_number, first_eight_bytes}
use Rattle.dfu_conformance.specs.declared.captures.event.PacketKind.{PacketKind}
use Rattle.dfu_conformance.specs.declared.captures.event.PacketKind.TheVariants.{Submits, Carries, Completes, Ends, Other}
use Rattle.dfu_conformance.specs.declared.captures.event.Ending.{Ending}
use Rattle.dfu_conformance.specs.declared.captures.event.Ending.TheVariants.{Done, Stalled, Failed}

-- The packet belongs to a control transfer (byte 22 is 2) to endpoint 0 (byte 21, without its bit 7) of a device with a number below 256.
-- Its header has 28 bytes or more, and is complete.
abbrev pub is_recorded_control : List ℕ → Bool
is_recorded_control bytes =
    let head = two_byte_number false bytes in
    nat_le 28 head && (nat_le head (length bytes) &&
    ((byte_or_zero bytes 22 == 2) && ((byte_or_zero bytes 21 % 128 == 0) && (byte_or_zero bytes 20 == 0))))

-- The device sent the packet to the host: bit 0 of byte 16 is 1.
abbrev pub goes_from_device : List ℕ → Bool
goes_from_device bytes = byte_or_zero bytes 16 % 2 == 1

-- Kind of a packet, from its stage in byte 27. Stage 0, the setup, submits a transfer. Stage 1, the data, completes it if the device sent
-- the packet, and otherwise contains the host's bytes. Stage 2, the status, ends it if the device sent the packet. Stage 3 completes it.
-- Any other packet has no role in a transfer.
abbrev pub recorded_packet_kind : List ℕ → PacketKind
recorded_packet_kind bytes =
    let stage = byte_or_zero bytes 27 in
    if stage == 0 then Submits
    else if stage == 1 then (if goes_from_device bytes then Completes else Carries)
    else if stage == 2 then (if goes_from_device bytes then Ends else Other)
    else if stage == 3 then Completes
    else Other

-- Setup of a submission, which is the eight bytes after the header, or None for any other packet.
abbrev pub recorded_setup : (head : ℕ) → List ℕ → Option (List ℕ)
recorded_setup head bytes = if byte_or_zero bytes 27 == 0 then Some (first_eight_bytes (drop head bytes)) else None

-- Result of a transfer, from the status in bytes 10 to 13: 0 for success, C0000004h for a stall, and any other number for another failure.
abbrev pub recorded_ending : List ℕ → Ending
recorded_ending bytes =
    let status = four_byte_number false (drop 10 bytes) in
    if status == 0 then Done else if status == 0xc0000004 then Stalled else Failed

-- Number of setup bytes after the header: 8 in a submission, and 0 in any other packet.
abbrev pub recorded_setup_length : List ℕ → ℕ
recorded_setup_length bytes = if byte_or_zero bytes 27 == 0 then 8 else 0

-- Number of data bytes after the header and the setup.
abbrev pub recorded_data_length : List ℕ → ℕ
recorded_data_length bytes = four_byte_number false (drop 23 bytes) - recorded_setup_length bytes

-- Index of the first data byte in the packet.
abbrev pub recorded_data_index : List ℕ → ℕ
recorded_data_index bytes = two_byte_number false bytes + recorded_setup_length bytes
