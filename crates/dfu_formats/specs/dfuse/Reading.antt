-- Reads a DfuSe file (UM0391) from the front, part by part, up to the first fault.
use Rattle.std.specs.Prelude.{ℕ, zero, suc, ◌+◌, ◌-◌, ◌^◌, ◌==◌, ◌&&◌, ◌||◌, not, nat_lt, Bool, true, false, if◌then◌else◌, List, [], ◌∷◌, length, take, drop, slice_index, find, Option, Some, None, Result, Ok, Err}
use Rattle.std.specs.Int.{w32, from_le_bytes}
use Rattle.byteorder.specs.Endian.{little_number}
use Rattle.dfu_wire.specs.declared.ids.Ids.{Ids}
use Rattle.dfu_formats.specs.images.Elements.{Piece}
use Rattle.dfu_suffix.specs.Grammar.{tail_of, has_fault, fault_order}
use Rattle.dfu_suffix.specs.declared.fault.SuffixFault.{SuffixFault}
use Rattle.dfu_suffix.specs.declared.fault.SuffixFault.TheVariants as suffix
use Rattle.dfu_formats.specs.declared.dfuse.fault.FileFault.{FileFault}
use Rattle.dfu_formats.specs.declared.dfuse.fault.FileFault.TheVariants.{TooLarge, TooShort, NoSignature, BadLength, NotDfuSe, BadCrc, NoPrefix, BadVersion, BadImageSize, NoTargets, NoTarget, BadTargetSize, ElementPastTheTarget, EmptyElement, AddressPastTheEnd, Trailing}

-- Continues with the value of a step, or returns the fault of the step.
infixl 10 ◌>>=◌
abbrev pub ◌>>=◌ : {A B : Type 0} → Result A FileFault → (A → Result B FileFault) → Result B FileFault
(Err fault) >>= f = Err fault
(Ok x) >>= f = f x

-- The 32-bit number whose bytes begin at index `place`, the low byte first.
abbrev pub number_at : (place : ℕ) → List ℕ → ℕ
number_at place bytes = from_le_bytes w32 (take 4 (drop place bytes))

-- ---- an element

-- An element and the bytes after it.
pub record SplitElement : Type 0 where
  pub element : Piece
  pub rest : List ℕ

-- Splits an element off the front of bytes: its address, its size, and as many bytes as its size. There must be at least one byte, and
-- every byte must have a 32-bit address.
unfoldable pub front_element : List ℕ → Result SplitElement FileFault
front_element bytes =
    if nat_lt (length bytes) 8 then Err ElementPastTheTarget
    else if nat_lt (length (drop 8 bytes)) (number_at 4 bytes) then Err ElementPastTheTarget
    else if number_at 4 bytes == 0 then Err EmptyElement
    else if nat_lt (2 ^ 32) (number_at 0 bytes + number_at 4 bytes) then Err AddressPastTheEnd
    else Ok (record {
      element = record { address = number_at 0 bytes; bytes = take (number_at 4 bytes) (drop 8 bytes) };
      rest = drop (number_at 4 bytes) (drop 8 bytes);
    })

-- Puts an element in front of the elements of a result, or returns the fault of the result.
abbrev pub element_before_others : Piece → Result (List Piece) FileFault → Result (List Piece) FileFault
element_before_others element more = more >>= λ elements. Ok (element ∷ elements)

-- Reads `count` elements, or returns the first fault. Bytes after the last element are a fault too.
unfoldable pub elements_at : (count : ℕ) → List ℕ → Result (List Piece) FileFault
elements_at zero [] = Ok []
elements_at zero (b ∷ bytes) = Err BadTargetSize
elements_at (suc n) bytes = front_element bytes >>= λ s. element_before_others s.element (elements_at n s.rest)

-- ---- a target

-- A target: its alternate setting, a field that is 0 if it has no name, the 255 bytes of the name, and its elements.
pub record Target : Type 0 where
  pub setting : ℕ
  pub named : ℕ
  pub name : List ℕ
  pub elements : List Piece

-- The bytes begin with the letters Target.
abbrev pub is_target : List ℕ → Bool
is_target b = (slice_index b 0 == 84) && ((slice_index b 1 == 97) && ((slice_index b 2 == 114) && ((slice_index b 3 == 103)
    && ((slice_index b 4 == 101) && (slice_index b 5 == 116)))))

-- Fields of a target before its elements, the encoded elements, and the bytes after the target.
pub record Heading : Type 0 where
  pub setting : ℕ
  pub named : ℕ
  pub name : List ℕ
  pub count : ℕ
  pub content : List ℕ
  pub rest : List ℕ

-- Splits a target off the front of bytes. It begins with 274 bytes: the letters Target, the setting, the fields `named` and `name`, the
-- size of its elements, and their number.
unfoldable pub heading_at : List ℕ → Result Heading FileFault
heading_at bytes =
    if nat_lt (length bytes) 274 then Err NoTarget
    else if not (is_target bytes) then Err NoTarget
    else if nat_lt (length (drop 274 bytes)) (number_at 266 bytes) then Err BadTargetSize
    else Ok (record {
      setting = slice_index bytes 6;
      named = number_at 7 bytes;
      name = take 255 (drop 11 bytes);
      count = number_at 270 bytes;
      content = take (number_at 266 bytes) (drop 274 bytes);
      rest = drop (number_at 266 bytes) (drop 274 bytes);
    })

-- The target with the fields of a heading and with these elements.
abbrev pub target_with_elements : Heading → List Piece → Target
target_with_elements h elements = record { setting = h.setting; named = h.named; name = h.name; elements = elements }

-- Puts a target in front of the targets of a result, or returns the fault of the result.
abbrev pub target_before_others : Target → Result (List Target) FileFault → Result (List Target) FileFault
target_before_others target more = more >>= λ targets. Ok (target ∷ targets)

-- Reads `count` targets, each with its elements, or returns the first fault. Bytes after the last target are a fault too.
unfoldable pub targets_at : (count : ℕ) → List ℕ → Result (List Target) FileFault
targets_at zero [] = Ok []
targets_at zero (b ∷ bytes) = Err Trailing
targets_at (suc n) bytes =
    heading_at bytes
    >>= λ h. elements_at h.count h.content
    >>= λ elements. target_before_others (target_with_elements h elements) (targets_at n h.rest)

-- ---- the prefix

-- The bytes begin with the letters DfuSe.
abbrev pub begins_with_dfuse : List ℕ → Bool
begins_with_dfuse b = (slice_index b 0 == 68) && ((slice_index b 1 == 102) && ((slice_index b 2 == 117) && ((slice_index b 3 == 83)
    && (slice_index b 4 == 101))))

-- Reads the bytes before the suffix: the letters DfuSe, the version, the size, the number of targets, and the targets. The size may include
-- the suffix, as dfu-util's tools write it, or not, as ST's tools do.
unfoldable pub body_at : (whole : ℕ) → List ℕ → Result (List Target) FileFault
body_at whole bytes =
    if nat_lt (length bytes) 11 then Err NoPrefix
    else if not (begins_with_dfuse bytes) then Err NoPrefix
    else if not (slice_index bytes 5 == 1) then Err BadVersion
    else if not ((number_at 6 bytes == length bytes) || (number_at 6 bytes == whole)) then Err BadImageSize
    else if slice_index bytes 10 == 0 then Err NoTargets
    else targets_at (slice_index bytes 10) (drop 11 bytes)

-- ---- the suffix

-- The bytes before the suffix and the identifiers in the suffix.
pub record PayloadAndIds : Type 0 where
  pub payload : List ℕ
  pub ids : Ids

-- Payload and identifiers of a file, taken from its last 16 bytes.
abbrev pub payload_and_ids_of : List ℕ → PayloadAndIds
payload_and_ids_of bytes = record {
  payload = take (length bytes - slice_index (tail_of bytes) 11) bytes;
  ids = record {
    device = little_number 2 (drop 0 (tail_of bytes));
    product = little_number 2 (drop 2 (tail_of bytes));
    vendor = little_number 2 (drop 4 (tail_of bytes));
  };
}

-- The fault is `DfuSe`, which dfu_suffix reports for every DfuSe file.
abbrev pub is_dfuse : SuffixFault → Bool
is_dfuse suffix.DfuSe = true
is_dfuse other = false

-- Refusal of a file with a fault other than `DfuSe`. If dfu_suffix finds a wrong CRC first, bcdDFU isn't 011Ah, so the refusal is NotDfuSe.
abbrev pub suffix_refusal : SuffixFault → FileFault
suffix_refusal suffix.TooLarge = TooLarge
suffix_refusal suffix.TooShort = TooShort
suffix_refusal suffix.NoSignature = NoSignature
suffix_refusal suffix.BadLength = BadLength
suffix_refusal other = NotDfuSe

-- Payload and identifiers of a file with bcdDFU 011Ah, or BadCrc if its CRC is wrong.
abbrev pub suffix_with_checked_crc : List ℕ → Result PayloadAndIds FileFault
suffix_with_checked_crc bytes = if has_fault bytes suffix.BadCrc then Err BadCrc else Ok (payload_and_ids_of bytes)

-- Reads the suffix if the first fault that dfu_suffix finds is `DfuSe`, as in every DfuSe file. Otherwise returns the refusal of the file.
unfoldable pub suffix_by_fault : Option SuffixFault → List ℕ → Result PayloadAndIds FileFault
suffix_by_fault None bytes = Err NotDfuSe
suffix_by_fault (Some fault) bytes = if is_dfuse fault then suffix_with_checked_crc bytes else Err (suffix_refusal fault)

-- Payload and identifiers of a DfuSe file, or the first fault of its suffix.
abbrev pub suffix_at : List ℕ → Result PayloadAndIds FileFault
suffix_at bytes = suffix_by_fault (find (has_fault bytes) fault_order) bytes

-- ---- the file

-- Content of a DfuSe file: the identifiers of its device, and its targets.
pub record DfuseContent : Type 0 where
  pub ids : Ids
  pub targets : List Target

-- The content with these identifiers and targets, or the fault of the targets.
abbrev pub file_of_targets : Ids → Result (List Target) FileFault → Result DfuseContent FileFault
file_of_targets ids targets = targets >>= λ ts. Ok (record { ids = ids; targets = ts })

-- The content of a DfuSe file, or its first fault.
unfoldable pub file_at : List ℕ → Result DfuseContent FileFault
file_at bytes = suffix_at bytes >>= λ s. file_of_targets s.ids (body_at (length bytes) s.payload)
