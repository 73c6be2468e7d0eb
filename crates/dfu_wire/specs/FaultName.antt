-- Names of the faults of the wire formats.
use Rattle.std.specs.Prelude.{ℕ, List, codes}
use Rattle.dfu_wire.specs.declared.fault.WireFault.{WireFault}
use Rattle.dfu_wire.specs.declared.fault.WireFault.TheVariants as fault

-- Name of a fault, which is the name of its variant.
abbrev pub wire_fault_name : WireFault → List ℕ
wire_fault_name fault.Short = codes "Short"
wire_fault_name fault.Long = codes "Long"
wire_fault_name fault.WrongLength = codes "WrongLength"
wire_fault_name fault.WrongType = codes "WrongType"
wire_fault_name fault.UnknownState = codes "UnknownState"
wire_fault_name fault.UnknownCode = codes "UnknownCode"
wire_fault_name fault.PollTooLong = codes "PollTooLong"
