-- The lines of `dfu show`. Each line ends with 0Ah.
use Rattle.std.specs.Prelude.{ℕ, Bool, true, false, List, [], ◌∷◌, ◌++◌, codes}
use Rattle.std.specs.Fmt.{decimal}
use Rattle.hex.specs.declared.error.FromHexError.{FromHexError}
use Rattle.hex.specs.declared.error.FromHexError.TheVariants as hex_error
use Rattle.dfu_wire.specs.Code.{code_name}
use Rattle.dfu_wire.specs.Request.{request_name}
use Rattle.dfu_wire.specs.State.{state_name}
use Rattle.dfu_wire.specs.Status.{StatusFields}
use Rattle.dfu_wire.specs.declared.functionals.Functional.{Functional}
use Rattle.dfu_wire.specs.declared.requests.Request.{Request}
use Rattle.dfu_wire.specs.declared.setups.Setup.{Setup}
use Rattle.dfu_wire.specs.declared.states.State.{State}
use Rattle.dfu_wire.specs.declared.fault.WireFault.{WireFault}
use Rattle.dfu_wire.specs.FaultName.{wire_fault_name}
use Rattle.dfu_suffix.specs.declared.fault.SuffixFault.TheVariants.{NoMemory}
use Rattle.dfu_output.specs.AnswerLines.{fault_line, hex_padded}

-- Word for a flag: `yes` if it is true, and `no` otherwise.
abbrev pub flag_word : Bool → List ℕ
flag_word true = codes "yes"
flag_word false = codes "no"

-- Line for a functional descriptor: `functional download Y upload Y tolerant Y will-detach Y detach N transfer N version HHHH`.
unfoldable pub functional_line : Functional → List ℕ
functional_line f =
    codes "functional" ++ (codes " download " ++ flag_word f.can_download) ++ (codes " upload " ++ flag_word f.can_upload)
    ++ (codes " tolerant " ++ flag_word f.tolerant) ++ (codes " will-detach " ++ flag_word f.will_detach)
    ++ (codes " detach " ++ decimal f.detach_ms) ++ (codes " transfer " ++ decimal f.transfer)
    ++ (codes " version " ++ hex_padded 4 f.version) ++ 10 ∷ []

-- Line for a status and its iString, the sixth byte: `status CODE poll N state STATE string N`.
unfoldable pub status_line : StatusFields → ℕ → List ℕ
status_line s string =
    codes "status" ++ (codes " " ++ code_name s.code) ++ (codes " poll " ++ decimal s.poll_ms) ++ (codes " state " ++ state_name s.state)
    ++ (codes " string " ++ decimal string) ++ 10 ∷ []

-- Line for a state: `state STATE`.
unfoldable pub state_line : State → List ℕ
state_line s = codes "state " ++ state_name s ++ 10 ∷ []

-- Line for a setup and its request: `setup REQUEST kind HH number HH value N index N length N`.
unfoldable pub setup_line : Setup → Request → List ℕ
setup_line s asked =
    codes "setup" ++ (codes " " ++ request_name asked) ++ (codes " kind " ++ hex_padded 2 s.kind) ++ (codes " number " ++ hex_padded 2 s.request)
    ++ (codes " value " ++ decimal s.value) ++ (codes " index " ++ decimal s.index) ++ (codes " length " ++ decimal s.length) ++ 10 ∷ []

-- Line for bytes that can't be decoded: `refused NAME`, where NAME is the fault.
unfoldable pub wire_line : WireFault → List ℕ
wire_line f = codes "refused " ++ wire_fault_name f ++ 10 ∷ []

-- Line for a text that isn't hexadecimal: `refused BadHex`.
abbrev pub no_hex_line : List ℕ
no_hex_line = codes "refused BadHex" ++ 10 ∷ []

-- Line for a text that can't be decoded: `refused NoMemory` if memory ran out, and `refused BadHex` if the text isn't hexadecimal.
abbrev pub bad_hex_line : FromHexError → List ℕ
bad_hex_line hex_error.OutOfMemory = fault_line NoMemory
bad_hex_line e = no_hex_line
