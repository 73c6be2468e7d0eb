-- Lines and exits for the answers of dfu_suffix, and the line for an invalid command line. Each line ends with 0Ah.
use Rattle.std.specs.Prelude.{◌≡◌, ◌⊎◌, ℕ, ◌-◌, ◌^◌, false, List, [], ◌∷◌, ◌++◌, Option, Some, None, Result, Ok, Err, codes}
use Rattle.std.specs.Fmt.{decimal, digits, padded_integral, format_spec}
use Rattle.dfu_suffix.specs.declared.summary.Summary.{Summary}
use Rattle.dfu_suffix.specs.declared.fault.SuffixFault.{SuffixFault}
use Rattle.dfu_suffix.specs.declared.fault.SuffixFault.TheVariants.{NoMemory, Read, Write}
use Rattle.dfu_suffix.specs.FaultName.{suffix_fault_name}
use Rattle.dfu_output.specs.declared.exit.Exit.{Exit}
use Rattle.dfu_output.specs.declared.exit.Exit.TheVariants.{Done, Refused, Fault}

-- Lower-case hexadecimal digits of a number, padded with zeros to the width.
abbrev pub hex_padded : ℕ → ℕ → List ℕ
hex_padded width n = padded_integral (format_spec 32 0 4 width (2 ^ 64 - 1)) false [] (digits 16 false n)

-- Line for a valid file: `ok payload P suffix S device DDDD product PPPP vendor VVVV dfu BBBB crc CCCCCCCC`.
unfoldable pub ok_line : Summary → List ℕ
ok_line s =
    codes "ok" ++ (codes " payload " ++ decimal s.payload) ++ (codes " suffix " ++ decimal s.suffix)
    ++ (codes " device " ++ hex_padded 4 s.ids.device) ++ (codes " product " ++ hex_padded 4 s.ids.product) ++ (codes " vendor " ++ hex_padded 4 s.ids.vendor)
    ++ (codes " dfu " ++ hex_padded 4 s.dfu) ++ (codes " crc " ++ hex_padded 8 s.crc) ++ 10 ∷ []

-- Line for a fault: `fault NAME` if a stream failed, and `refused NAME` otherwise.
unfoldable pub fault_line : SuffixFault → List ℕ
fault_line Read = codes "fault Read" ++ 10 ∷ []
fault_line Write = codes "fault Write" ++ 10 ∷ []
fault_line f = codes "refused " ++ suffix_fault_name f ++ 10 ∷ []

-- Exit for a fault: Fault if a stream failed, and Refused otherwise.
abbrev pub fault_exit : SuffixFault → Exit
fault_exit Read = Fault
fault_exit Write = Fault
fault_exit f = Refused

-- Line for an answer: `line` of the value, or the line for the fault.
abbrev pub line_of_answer : {T : Type 0} → (line : T → List ℕ) → Result T SuffixFault → List ℕ
line_of_answer line (Ok x) = line x
line_of_answer line (Err f) = fault_line f

-- Exit for an answer: Done for a value, and the exit for the fault otherwise.
abbrev pub exit_of_answer : {T : Type 0} → Result T SuffixFault → Exit
exit_of_answer (Ok x) = Done
exit_of_answer (Err f) = fault_exit f

-- Line for an invalid command line: `bad words`.
abbrev pub bad_words_line : List ℕ
bad_words_line = codes "bad words" ++ 10 ∷ []

-- `fault` is the fault of the answer. If the answer has none, it is None, or NoMemory if there was no memory for the line.
abbrev pub IsFaultOf : {T : Type 0} → Result T SuffixFault → Option SuffixFault → Type 0
IsFaultOf (Ok x) fault = (fault ≡ None) ⊎ (fault ≡ Some NoMemory)
IsFaultOf (Err f) fault = fault ≡ Some f
