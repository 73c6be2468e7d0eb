-- Lines that a script prints.
use Rattle.std.specs.Prelude.{ℕ, List, [], ◌∷◌, ◌++◌, Option, Some, None, unwrap_or, Result, Ok, Err, codes}
use Rattle.hex.specs.Hex.{encode_lower}
use Rattle.dfu_wire.specs.State.{state_name}
use Rattle.dfu_wire.specs.Code.{code_name}
use Rattle.dfu_suffix.specs.FaultName.{suffix_fault_name}
use Rattle.dfu_host.specs.FaultName.{host_fault_name}
use Rattle.dfu_host.specs.ReportName.{report_name}
use Rattle.dfu_host.specs.declared.report.Report.{Report}
use Rattle.dfu_host.specs.declared.report.Report.TheVariants as report
use Rattle.dfu_slots.specs.StoreView.{image_of}
use Rattle.dfu_device.specs.Stage.{state_of, code_of}
use Rattle.dfu_device.specs.DeviceView.{DeviceView}
use Rattle.dfu_sim.specs.Play.{Answered}
use Rattle.dfu_sim.specs.EventResults.{report_of_result, upload_of_result}
use Rattle.dfu_sim.specs.declared.fault.OfferFault.{OfferFault}
use Rattle.dfu_sim.specs.declared.fault.OfferFault.TheVariants as offer
use Rattle.dfu_sim.specs.declared.fault.LinkFault.{LinkFault}
use Rattle.dfu_sim.specs.declared.fault.LinkFault.TheVariants as link

-- Printed form of bytes: two hexadecimal digits each in lower case, or `-` for no bytes.
abbrev pub hex_text : List ℕ → List ℕ
hex_text [] = codes "-"
hex_text (byte ∷ bytes) = encode_lower (byte ∷ bytes)

-- Name of a fault of an offer.
abbrev pub offer_fault_name : OfferFault → List ℕ
offer_fault_name (offer.Suffix fault) = suffix_fault_name fault
offer_fault_name (offer.Host fault) = host_fault_name fault

-- Line that a script prints for uploaded bytes.
abbrev pub uploaded_line : List ℕ → List ℕ
uploaded_line bytes = codes "report uploaded " ++ (hex_text bytes ++ 10 ∷ [])

-- Line of a report that has only a name.
abbrev pub report_name_line : Report → List ℕ
report_name_line r = codes "report " ++ report_name r ++ 10 ∷ []

-- Line of a report, with the uploaded bytes if the report is Uploaded.
abbrev pub report_line : Report → (uploaded : List ℕ) → List ℕ
report_line report.Installed uploaded = report_name_line report.Installed
report_line report.Unconfirmed uploaded = report_name_line report.Unconfirmed
report_line report.Aborted uploaded = report_name_line report.Aborted
report_line report.GaveUp uploaded = report_name_line report.GaveUp
report_line (report.Refused code) uploaded = codes "report refused " ++ code_name code ++ 10 ∷ []
report_line report.RestartsSpent uploaded = report_name_line report.RestartsSpent
report_line report.Uploaded uploaded = uploaded_line uploaded
report_line report.TooManyBlocks uploaded = report_name_line report.TooManyBlocks
report_line report.NoMemory uploaded = report_name_line report.NoMemory
report_line report.Verified uploaded = report_name_line report.Verified
report_line report.Different uploaded = report_name_line report.Different

-- Line that a script prints for a refused event.
abbrev pub refusal_line : LinkFault → List ℕ
refusal_line link.HostBusy = codes "refused HostBusy\n"
refusal_line link.NoHost = codes "refused NoHost\n"
refusal_line (link.BadOffer fault) = codes "refused BadOffer " ++ offer_fault_name fault ++ 10 ∷ []
refusal_line link.NoMemory = codes "refused NoMemory\n"

-- Text of an event's answer to its caller: the line of its refusal or of its report, or no text.
abbrev pub outcome_line : Result (Option Report) LinkFault → (uploaded : List ℕ) → List ℕ
outcome_line (Ok None) uploaded = []
outcome_line (Ok (Some r)) uploaded = report_line r uploaded
outcome_line (Err fault) uploaded = refusal_line fault

-- Text that a script prints for an event's result.
abbrev pub answer_line : Result Answered LinkFault → List ℕ
answer_line answer = outcome_line (report_of_result answer) (unwrap_or (upload_of_result answer) [])

-- Line that a script prints for an image.
abbrev pub line_of_image : List ℕ → List ℕ
line_of_image image = codes "image " ++ (hex_text image ++ 10 ∷ [])

-- Line that a script prints for the device's image.
abbrev pub image_line : DeviceView → List ℕ
image_line device = line_of_image (image_of device.slots)

-- Text that `show` prints before the image: the device's state and its status code.
abbrev pub state_text : DeviceView → List ℕ
state_text device = (codes "state " ++ state_name (state_of device.stage) ++ codes " status ")
    ++ (code_name (code_of device.stage) ++ codes " ")

-- Line that `show` prints: the device's state, its status code and its image.
abbrev pub show_line : DeviceView → List ℕ
show_line device = state_text device ++ image_line device
