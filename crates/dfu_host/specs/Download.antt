-- Refusals of a download, with or without comparison.
use Rattle.std.specs.Prelude.{ℕ, ◌==◌, ◌&&◌, ◌||◌, not, Bool, true, false, List, [], ◌∷◌, ◌++◌, length, find, Option}
use Rattle.dfu_wire.specs.declared.functionals.Functional.{Functional}
use Rattle.dfu_wire.specs.declared.ids.Ids.{Ids}
use Rattle.dfu_suffix.specs.Grammar.{Content}
use Rattle.dfu_host.specs.declared.fault.HostFault.{HostFault}
use Rattle.dfu_host.specs.declared.fault.HostFault.TheVariants as fault
use Rattle.dfu_host.specs.Phases.{Goal, LoadGoal, VerifyGoal}

-- True if an identifier in a file is the device's identifier, or FFFFh, which stands for every device.
abbrev pub id_fits_device : (file device : ℕ) → Bool
id_fits_device file device = (file == 0xFFFF) || (file == device)

-- True if a file is for a device: the file's vendor is the device's or FFFFh, and so is its product.
abbrev pub file_is_for : (file device : Ids) → Bool
file_is_for file device = id_fits_device file.vendor device.vendor && id_fits_device file.product device.product

-- True if this fault holds for the file and the device. A session is refused only for the faults in its list: `download_faults`, or
-- `verify_faults` if it verifies.
abbrev pub refuses_download : Content → Functional → Ids → HostFault → Bool
refuses_download file functional device fault.EmptyPayload = length file.payload == 0
refuses_download file functional device fault.WrongTarget = not (file_is_for file.ids device)
refuses_download file functional device fault.CannotDownload = not functional.can_download
refuses_download file functional device fault.CannotUpload = not functional.can_upload
refuses_download file functional device fault.BadDescriptor = functional.transfer == 0

-- Faults of the payload, of its target and of the device, which are checked first, in this order.
abbrev pub payload_faults : List HostFault
payload_faults = fault.EmptyPayload ∷ fault.WrongTarget ∷ fault.CannotDownload ∷ []

-- Faults for which a download is refused, in the order in which they are checked.
abbrev pub download_faults : List HostFault
download_faults = payload_faults ++ fault.BadDescriptor ∷ []

-- The first fault for which a download is refused; None if there is none.
abbrev pub first_download_fault : Content → Functional → Ids → Option HostFault
first_download_fault file functional device = find (refuses_download file functional device) download_faults

-- Faults for which a verified download is refused, in the order in which they are checked. The device must support uploads too.
abbrev pub verify_faults : List HostFault
verify_faults = payload_faults ++ fault.CannotUpload ∷ fault.BadDescriptor ∷ []

-- The first fault for which a verified download is refused; None if there is none.
abbrev pub first_verify_fault : Content → Functional → Ids → Option HostFault
first_verify_fault file functional device = find (refuses_download file functional device) verify_faults

-- The first fault for which a session that installs a file is refused; None if there is none. The session verifies the install if
-- `compares` is true.
abbrev pub first_install_fault : (compares : Bool) → Content → Functional → Ids → Option HostFault
first_install_fault false = first_download_fault
first_install_fault true = first_verify_fault

-- Goal of a session that installs a payload, and verifies it if `compares` is true.
abbrev pub goal_of_install : (compares : Bool) → (payload : List ℕ) → Goal
goal_of_install false = LoadGoal
goal_of_install true = VerifyGoal
