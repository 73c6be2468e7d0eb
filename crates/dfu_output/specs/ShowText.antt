-- Text that `dfu show` writes.
use Rattle.std.specs.Prelude.{◌≡◌, ◌≢◌, ◌⊎◌, ◌<◌, ◌%◌, ℕ, List, [], ◌∷◌, length, slice_index, Option, Result, Ok, Err, IsOk, codes}
use Rattle.hex.specs.Hex.{decode_of}
use Rattle.hex.specs.declared.error.FromHexError.{FromHexError}
use Rattle.dfu_wire.specs.Functional.{IsFunctional, FirstFunctionalFault}
use Rattle.dfu_wire.specs.Request.{SetupAsksFor}
use Rattle.dfu_wire.specs.Setup.{IsSetup}
use Rattle.dfu_wire.specs.State.{state_byte}
use Rattle.dfu_wire.specs.Status.{StatusFields, IsStatus, FirstStatusFault}
use Rattle.dfu_wire.specs.declared.states.State.{State}
use Rattle.dfu_wire.specs.declared.functionals.Functional.{Functional}
use Rattle.dfu_wire.specs.declared.fault.WireFault.{WireFault}
use Rattle.dfu_wire.specs.declared.fault.WireFault.TheVariants as wire_fault
use Rattle.dfu_output.specs.declared.showing.RequestedSetup.{RequestedSetup}
use Rattle.dfu_output.specs.declared.exit.Exit.{Exit}
use Rattle.dfu_output.specs.declared.exit.Exit.TheVariants.{Done, Refused}
use Rattle.dfu_suffix.specs.declared.fault.SuffixFault.TheVariants.{NoMemory}
use Rattle.dfu_output.specs.AnswerLines.{fault_line}
use Rattle.dfu_output.specs.Output.{TextIsOut}
use Rattle.dfu_output.specs.Configuration.{ConfigurationText}
use Rattle.dfu_output.specs.ShowLines.{functional_line, no_hex_line, setup_line, state_line, status_line, wire_line}

-- The bytes are those of the functional descriptor `f`, or `e` is their first fault.
abbrev pub DecodesFunctionalBytes : List ℕ → Result Functional WireFault → Type 0
DecodesFunctionalBytes bytes (Ok f) = IsFunctional f bytes
DecodesFunctionalBytes bytes (Err e) = FirstFunctionalFault e bytes

-- The bytes are those of the status `s`, or `e` is their first fault.
abbrev pub DecodesStatusBytes : List ℕ → Result StatusFields WireFault → Type 0
DecodesStatusBytes bytes (Ok s) = IsStatus s bytes
DecodesStatusBytes bytes (Err e) = FirstStatusFault e bytes

-- The answer to GETSTATE is the number of the state `s` in one byte (USB DFU 1.1, section 6.1.5). Its first fault is that it has no bytes,
-- more than one byte, or a number over 10.
abbrev pub DecodesStateBytes : List ℕ → Result State WireFault → Type 0
DecodesStateBytes bytes (Ok s) = bytes ≡ state_byte s ∷ []
DecodesStateBytes bytes (Err wire_fault.Short) = bytes ≡ []
DecodesStateBytes bytes (Err wire_fault.Long) = 1 < length bytes
DecodesStateBytes bytes (Err wire_fault.UnknownState) = (length bytes ≡ 1) × (10 < slice_index bytes 0)
DecodesStateBytes bytes (Err e) = ⊥

-- The eight bytes are a setup that requests `asked` at interface 0 if its index is set to 0. The first fault is that there are fewer or
-- more than eight bytes.
abbrev pub DecodesSetupBytes : List ℕ → Result RequestedSetup WireFault → Type 0
DecodesSetupBytes bytes (Ok s) = (length bytes ≡ 8) × IsSetup s.setup bytes × SetupAsksFor (record s.setup { index = 0 }) s.asked
DecodesSetupBytes bytes (Err wire_fault.Short) = length bytes < 8
DecodesSetupBytes bytes (Err wire_fault.Long) = 8 < length bytes
DecodesSetupBytes bytes (Err e) = ⊥

-- Line for a functional descriptor, or for the fault of its bytes.
abbrev pub functional_answer : Result Functional WireFault → List ℕ
functional_answer (Ok f) = functional_line f
functional_answer (Err e) = wire_line e

-- Line for a status and its sixth byte `string`, or for the fault of its bytes.
abbrev pub status_answer : Result StatusFields WireFault → ℕ → List ℕ
status_answer (Ok s) string = status_line s string
status_answer (Err e) string = wire_line e

-- Line for a state, or for the fault of its bytes.
abbrev pub state_answer : Result State WireFault → List ℕ
state_answer (Ok s) = state_line s
state_answer (Err e) = wire_line e

-- Line for a setup, or for the fault of its bytes.
abbrev pub setup_answer : Result RequestedSetup WireFault → List ℕ
setup_answer (Ok s) = setup_line s.setup s.asked
setup_answer (Err e) = wire_line e

-- Exit of `dfu show`: Done if the bytes can be decoded, and Refused otherwise.
abbrev pub exit_of_decoding : {T : Type 0} → Result T WireFault → Exit
exit_of_decoding (Ok x) = Done
exit_of_decoding (Err e) = Refused

-- The command decodes the bytes, and writes the line for the value or for the fault. If there is no memory for the line of a value, it
-- writes `refused NoMemory` instead.
abbrev pub WritesDecoded : {T : Type 0}
    → (PartsAreRead : List ℕ → Result T WireFault → Type 0) (line : List ℕ → Result T WireFault → List ℕ)
    (bytes : List ℕ) (old new : Option (List ℕ)) → Exit → Type 0
WritesDecoded {T} PartsAreRead line bytes old new result =
    (answer : Result T WireFault) × PartsAreRead bytes answer
    × (TextIsOut old new (line bytes answer) (exit_of_decoding answer) result
    ⊎ (IsOk answer × TextIsOut old new (fault_line NoMemory) Refused result))

-- The command decodes the bytes as a functional descriptor, and writes the line for it, for the fault, or for a lack of memory.
abbrev pub WritesFunctionalLine : (bytes : List ℕ) (old new : Option (List ℕ)) → Exit → Type 0
WritesFunctionalLine = WritesDecoded DecodesFunctionalBytes (λ bytes. functional_answer)

-- The command decodes the bytes as a status, and writes the line for it, for the fault, or for a lack of memory.
abbrev pub WritesStatusLine : (bytes : List ℕ) (old new : Option (List ℕ)) → Exit → Type 0
WritesStatusLine = WritesDecoded DecodesStatusBytes (λ bytes answer. status_answer answer (slice_index bytes 5))

-- The command decodes the bytes as a state, and writes the line for it, for the fault, or for a lack of memory.
abbrev pub WritesStateLine : (bytes : List ℕ) (old new : Option (List ℕ)) → Exit → Type 0
WritesStateLine = WritesDecoded DecodesStateBytes (λ bytes. state_answer)

-- The command decodes the bytes as a setup, and writes the line for it, for the fault, or for a lack of memory.
abbrev pub WritesSetupLine : (bytes : List ℕ) (old new : Option (List ℕ)) → Exit → Type 0
WritesSetupLine = WritesDecoded DecodesSetupBytes (λ bytes. setup_answer)

-- Text of a configuration, or the line for the fault of its bytes.
abbrev pub configuration_answer : Result (List ℕ) WireFault → List ℕ
configuration_answer (Ok text) = text
configuration_answer (Err e) = wire_line e

-- The command decodes the bytes as a configuration, and writes their text or the line for the fault. If there is no memory for the text, it
-- writes `refused NoMemory` instead.
abbrev pub WritesConfigurationText : (bytes : List ℕ) (old new : Option (List ℕ)) → Exit → Type 0
WritesConfigurationText bytes old new result =
    ((answer : Result (List ℕ) WireFault) × ConfigurationText bytes answer
    × TextIsOut old new (configuration_answer answer) (exit_of_decoding answer) result)
    ⊎ TextIsOut old new (fault_line NoMemory) Refused result

-- The text is hexadecimal and `Writes` holds for its bytes, or it isn't hexadecimal and the command writes `refused BadHex`. If there is no
-- memory for the bytes of a text of even length, the command writes `refused NoMemory`.
abbrev pub WritesAboutHexText : ((bytes : List ℕ) (old new : Option (List ℕ)) → Exit → Type 0) →
    (text : List ℕ) (old new : Option (List ℕ)) → Exit → Type 0
WritesAboutHexText Writes text old new result =
    ((bytes : List ℕ) × (decode_of text ≡ Ok bytes) × Writes bytes old new result)
    ⊎ (((e : FromHexError) × (decode_of text ≡ Err e) × TextIsOut old new no_hex_line Refused result)
    ⊎ ((length text % 2 ≡ 0) × TextIsOut old new (fault_line NoMemory) Refused result))

-- The kind is none of the five that `dfu show` decodes.
abbrev pub IsUnknownKind : List ℕ → Type 0
IsUnknownKind kind = (kind ≢ codes "functional") × (kind ≢ codes "status") × (kind ≢ codes "state") × (kind ≢ codes "setup")
    × (kind ≢ codes "configuration")
