-- Numbers that refused calls return to C.
use Rattle.std.specs.Prelude.{◌≡◌, ℤ, negsuc}
use Rattle.dfu_wire.specs.declared.fault.WireFault.TheVariants as wire
use Rattle.dfu_suffix.specs.declared.fault.SuffixFault.TheVariants as suffix
use Rattle.dfu_host.specs.declared.fault.HostFault.TheVariants as host
use Rattle.dfu_formats.specs.declared.memory.fault.MapFault.TheVariants as map
use Rattle.dfuse_host.specs.declared.fault.PlanFault.TheVariants as plan
use Rattle.dfu_formats.specs.declared.dfuse.fault.FileFault.TheVariants as dfuse
use Rattle.dfu_formats.specs.declared.dfuse.image.ImageFault.TheVariants as image
use Rattle.dfu_host_c.specs.declared.refusals.HostRefusal.{HostRefusal}
use Rattle.dfu_host_c.specs.declared.refusals.HostRefusal.TheVariants as refusal

-- Number of each refusal; no two are equal. A file has -1 to -10, the host -21 to -25, a descriptor -31 to -37, a map -51 to -59, a plan
-- -61 to -68, a DfuSe file -71 to -86, and its image -87 and -88.
abbrev pub refused_number : HostRefusal → ℤ
refused_number (refusal.File suffix.TooShort) = negsuc 0
refused_number (refusal.File suffix.NoSignature) = negsuc 1
refused_number (refusal.File suffix.BadLength) = negsuc 2
refused_number (refusal.File suffix.DfuSe) = negsuc 3
refused_number (refusal.File suffix.BadCrc) = negsuc 4
refused_number (refusal.File suffix.AlreadySuffixed) = negsuc 5
refused_number (refusal.File suffix.TooLarge) = negsuc 6
refused_number (refusal.File suffix.NoMemory) = negsuc 7
refused_number (refusal.File suffix.Read) = negsuc 8
refused_number (refusal.File suffix.Write) = negsuc 9
refused_number (refusal.Host host.EmptyPayload) = negsuc 20
refused_number (refusal.Host host.WrongTarget) = negsuc 21
refused_number (refusal.Host host.CannotDownload) = negsuc 22
refused_number (refusal.Host host.CannotUpload) = negsuc 23
refused_number (refusal.Host host.BadDescriptor) = negsuc 24
refused_number (refusal.Wire wire.Short) = negsuc 30
refused_number (refusal.Wire wire.Long) = negsuc 31
refused_number (refusal.Wire wire.WrongLength) = negsuc 32
refused_number (refusal.Wire wire.WrongType) = negsuc 33
refused_number (refusal.Wire wire.UnknownState) = negsuc 34
refused_number (refusal.Wire wire.UnknownCode) = negsuc 35
refused_number (refusal.Wire wire.PollTooLong) = negsuc 36
refused_number (refusal.Map map.NoMap) = negsuc 50
refused_number (refusal.Map map.BadAddress) = negsuc 51
refused_number (refusal.Map map.BadCount) = negsuc 52
refused_number (refusal.Map map.BadSize) = negsuc 53
refused_number (refusal.Map map.BadType) = negsuc 54
refused_number (refusal.Map map.PastTheEnd) = negsuc 55
refused_number (refusal.Map map.TooManyRanges) = negsuc 56
refused_number (refusal.Map map.Trailing) = negsuc 57
refused_number (refusal.Map map.Overlaps) = negsuc 58
refused_number (refusal.Plan plan.NoTransferSize) = negsuc 60
refused_number (refusal.Plan plan.EmptyImage) = negsuc 61
refused_number (refusal.Plan plan.NotInOrder) = negsuc 62
refused_number (refusal.Plan plan.Overlapping) = negsuc 63
refused_number (refusal.Plan plan.OutsideTheMap) = negsuc 64
refused_number (refusal.Plan plan.NotWritable) = negsuc 65
refused_number (refusal.Plan plan.NotErasable) = negsuc 66
refused_number (refusal.Plan plan.NotReadable) = negsuc 67
refused_number (refusal.DfuseFile dfuse.TooLarge) = negsuc 70
refused_number (refusal.DfuseFile dfuse.TooShort) = negsuc 71
refused_number (refusal.DfuseFile dfuse.NoSignature) = negsuc 72
refused_number (refusal.DfuseFile dfuse.BadLength) = negsuc 73
refused_number (refusal.DfuseFile dfuse.NotDfuSe) = negsuc 74
refused_number (refusal.DfuseFile dfuse.BadCrc) = negsuc 75
refused_number (refusal.DfuseFile dfuse.NoPrefix) = negsuc 76
refused_number (refusal.DfuseFile dfuse.BadVersion) = negsuc 77
refused_number (refusal.DfuseFile dfuse.BadImageSize) = negsuc 78
refused_number (refusal.DfuseFile dfuse.NoTargets) = negsuc 79
refused_number (refusal.DfuseFile dfuse.NoTarget) = negsuc 80
refused_number (refusal.DfuseFile dfuse.BadTargetSize) = negsuc 81
refused_number (refusal.DfuseFile dfuse.ElementPastTheTarget) = negsuc 82
refused_number (refusal.DfuseFile dfuse.EmptyElement) = negsuc 83
refused_number (refusal.DfuseFile dfuse.AddressPastTheEnd) = negsuc 84
refused_number (refusal.DfuseFile dfuse.Trailing) = negsuc 85
refused_number (refusal.Image image.NoSuchSetting) = negsuc 86
refused_number (refusal.Image image.TooManyElements) = negsuc 87

-- Number of the refusal if the buffer is too short for the body of the next request.
abbrev pub no_room : ℤ
no_room = negsuc 42

-- Number of the refusal if the map has no range with this number.
abbrev pub no_range : ℤ
no_range = negsuc 43

-- The call returns the number of its first fault.
pub record IsRefusedFor {F : Type 0} (why : F → HostRefusal) (first : F → Type 0) (result : ℤ) : Type 0 where
  pub fault : F
  pub is_first : first fault
  pub number_is : result ≡ refused_number (why fault)
