-- The names of the faults of sessions.
use Rattle.std.specs.Prelude.{ℕ, List, codes}
use Rattle.dfu_host.specs.declared.fault.HostFault.{HostFault}
use Rattle.dfu_host.specs.declared.fault.HostFault.TheVariants as fault

-- Name of a fault of a session, which is the name of its variant.
abbrev pub host_fault_name : HostFault → List ℕ
host_fault_name fault.EmptyPayload = codes "EmptyPayload"
host_fault_name fault.WrongTarget = codes "WrongTarget"
host_fault_name fault.CannotDownload = codes "CannotDownload"
host_fault_name fault.CannotUpload = codes "CannotUpload"
host_fault_name fault.BadDescriptor = codes "BadDescriptor"
