-- Names of the faults of a file.
use Rattle.std.specs.Prelude.{ℕ, List, codes}
use Rattle.dfu_suffix.specs.declared.fault.SuffixFault.{SuffixFault}
use Rattle.dfu_suffix.specs.declared.fault.SuffixFault.TheVariants as fault

-- Name of a fault, which is the name of its variant.
abbrev pub suffix_fault_name : SuffixFault → List ℕ
suffix_fault_name fault.TooShort = codes "TooShort"
suffix_fault_name fault.NoSignature = codes "NoSignature"
suffix_fault_name fault.BadLength = codes "BadLength"
suffix_fault_name fault.DfuSe = codes "DfuSe"
suffix_fault_name fault.BadCrc = codes "BadCrc"
suffix_fault_name fault.AlreadySuffixed = codes "AlreadySuffixed"
suffix_fault_name fault.TooLarge = codes "TooLarge"
suffix_fault_name fault.NoMemory = codes "NoMemory"
suffix_fault_name fault.Read = codes "Read"
suffix_fault_name fault.Write = codes "Write"
