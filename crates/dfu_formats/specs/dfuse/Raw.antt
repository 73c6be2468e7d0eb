-- Converts a file without addresses to one element.
use Rattle.std.specs.Prelude.{ℕ, ◌+◌, ◌-◌, ◌^◌, ◌==◌, ◌&&◌, nat_lt, nat_le, Bool, if◌then◌else◌, List, length, take, slice_index, find, Option, Some, None, Result, Ok, Err}
use Rattle.dfu_formats.specs.images.Elements.{Piece}
use Rattle.dfu_suffix.specs.Grammar.{tail_of, has_fault, fault_order}
use Rattle.dfu_suffix.specs.declared.fault.SuffixFault.{SuffixFault}
use Rattle.dfu_suffix.specs.declared.fault.SuffixFault.TheVariants as suffix
use Rattle.dfu_formats.specs.declared.dfuse.raw.RawFault.{RawFault}
use Rattle.dfu_formats.specs.declared.dfuse.raw.RawFault.TheVariants.{TooLarge, BadLength, BadCrc, HasAddresses, Empty, AddressPastTheEnd}
use Rattle.dfu_formats.specs.dfuse.Reading.{begins_with_dfuse}

-- Refusal of a raw file in which dfu_suffix finds this fault, or None if the fault causes no refusal.
abbrev pub raw_refusal : SuffixFault → Option RawFault
raw_refusal suffix.TooLarge = Some TooLarge
raw_refusal suffix.BadLength = Some BadLength
raw_refusal suffix.BadCrc = Some BadCrc
raw_refusal suffix.DfuSe = Some HasAddresses
raw_refusal other = None

-- The whole file, or the refusal if there is one.
abbrev pub whole_file_or : List ℕ → Option RawFault → Result (List ℕ) RawFault
whole_file_or bytes None = Ok bytes
whole_file_or bytes (Some fault) = Err fault

-- The payload of a raw file, which depends on the first fault that dfu_suffix finds. Without a fault, it is the bytes before the suffix. A
-- file that has no suffix, because it is too short for one or has no signature, is its own payload. A file with any other fault is refused.
unfoldable pub payload_by_fault : Option SuffixFault → List ℕ → Result (List ℕ) RawFault
payload_by_fault None bytes = Ok (take (length bytes - slice_index (tail_of bytes) 11) bytes)
payload_by_fault (Some fault) bytes = whole_file_or bytes (raw_refusal fault)

-- There are at least five bytes, and they begin with the letters DfuSe.
abbrev pub has_prefix : List ℕ → Bool
has_prefix bytes = nat_le 5 (length bytes) && begins_with_dfuse bytes

-- The bytes as an element at an address, or the first fault: the bytes begin with DfuSe, there are no bytes, or the bytes end beyond
-- address FFFFFFFFh.
unfoldable pub placed_at : (address : ℕ) → List ℕ → Result Piece RawFault
placed_at address bytes =
    if has_prefix bytes then Err HasAddresses
    else if length bytes == 0 then Err Empty
    else if nat_lt (2 ^ 32) (address + length bytes) then Err AddressPastTheEnd
    else Ok (record { address = address; bytes = bytes })

-- The payload as an element at an address, or the fault of the payload.
abbrev pub raw_element_of_payload : (address : ℕ) → Result (List ℕ) RawFault → Result Piece RawFault
raw_element_of_payload address (Err fault) = Err fault
raw_element_of_payload address (Ok bytes) = placed_at address bytes

-- A raw file as an element at an address, or its first fault.
abbrev pub raw_element_at : (address : ℕ) → List ℕ → Result Piece RawFault
raw_element_at address bytes = raw_element_of_payload address (payload_by_fault (find (has_fault bytes) fault_order) bytes)
