-- The fault that dfu_suffix finds decides the payload of a raw file.
use Rattle.std.proofs.Common.{◌≡◌, ◌-◌, ℕ, List, length, take, get_or, Option, Some, None, Ok, ap, ◌∙◌}
use Rattle.dfu_suffix.specs.Grammar.{tail_of}
use Rattle.dfu_suffix.specs.declared.fault.SuffixFault.{SuffixFault}
use Rattle.dfu_formats.specs.declared.dfuse.raw.RawFault.{RawFault}
use Rattle.dfu_formats.specs.dfuse.Raw.{raw_refusal, whole_file_or, payload_by_fault}

-- If dfu_suffix finds a fault, the result is the refusal for that fault. Without a refusal, the result is the whole file.
pub fault_decides_payload : (o : Option SuffixFault) (f : SuffixFault) (r : Option RawFault) (b : List ℕ) → o ≡ Some f → raw_refusal f ≡ r →
    payload_by_fault o b ≡ whole_file_or b r
unfolding payload_by_fault
fault_decides_payload o f r b e h = ap (λ (p : Option SuffixFault). payload_by_fault p b) e ∙ ap (whole_file_or b) h

-- If dfu_suffix finds no fault, the payload is the file without its suffix.
pub faultless_has_payload : (o : Option SuffixFault) (b payload : List ℕ) → o ≡ None → take (length b - get_or (tail_of b) 11 0) b ≡ payload
    → payload_by_fault o b ≡ Ok payload
unfolding payload_by_fault
faultless_has_payload o b payload e h = ap (λ (p : Option SuffixFault). payload_by_fault p b) e ∙ ap Ok h
