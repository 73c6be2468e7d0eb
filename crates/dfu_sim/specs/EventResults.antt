-- Result of an event: a refusal, which changes nothing, or a play in bytes; and the report that the caller gets.
use Rattle.std.specs.Prelude.{◌≡◌, ℕ, List, Option, Some, None, Result, Ok, Err}
use Rattle.dfu_host.specs.declared.report.Report.{Report}
use Rattle.dfu_host.specs.declared.report.Report.TheVariants.{Uploaded}
use Rattle.dfu_host.specs.Counting.{ReportsNoBytes}
use Rattle.dfu_device.specs.Setting.{Setting}
use Rattle.dfu_sim.specs.declared.fault.LinkFault.{LinkFault}
use Rattle.dfu_sim.specs.Play.{Answered, uploaded_after}
use Rattle.dfu_sim.specs.Happening.{Happening, Offers, Uploads, Aborts, Goes, Passes, Resets, Cuts, Refuses}
use Rattle.dfu_sim.specs.LinkView.{LinkView, WorldView, world_of_bench}
use Rattle.dfu_sim.specs.Bytes.{BytePlay}
use Rattle.dfu_sim.specs.Refusing.{IsOffered, ServesUpload, IsRefused}

-- Event of the play for a caller's event, by the device's setting: the offer of a file that the device accepts is the offer of its payload,
-- an upload is allowed if the device serves uploads, and any other event is unchanged.
abbrev pub EventMeaning : Setting → Happening → Happening → Type 0
EventMeaning s (Offers purpose file limits) e = (payload : List ℕ) × IsOffered s purpose file payload × (e ≡ Offers purpose payload limits)
EventMeaning s (Uploads limits) e = ServesUpload s × (e ≡ Uploads limits)
EventMeaning s Aborts e = e ≡ Aborts
EventMeaning s (Goes fate harm) e = e ≡ Goes fate harm
EventMeaning s (Passes ms) e = e ≡ Passes ms
EventMeaning s Resets e = e ≡ Resets
EventMeaning s Cuts e = e ≡ Cuts
EventMeaning s (Refuses why) e = e ≡ Refuses why

-- Result of an event: a refusal, which changes nothing, or a play in bytes.
pub data EventResult (b : LinkView) (h : Happening) : LinkView → Result Answered LinkFault → Type 0 where
  refuses : {fault : LinkFault} → IsRefused b h fault → EventResult b h b (Err fault)
  happens : {event : Happening} {b' : LinkView} {answer : Answered} → EventMeaning b.device.config h event → BytePlay b event b' answer
      → EventResult b h b' (Ok answer)

-- Report that the caller of an event gets, or the fault.
abbrev pub report_of_result : Result Answered LinkFault → Result (Option Report) LinkFault
report_of_result (Ok answer) = Ok answer.report
report_of_result (Err fault) = Err fault

-- Bytes that an event uploaded; None for a refused event.
abbrev pub upload_of_result : Result Answered LinkFault → Option (List ℕ)
upload_of_result (Ok answer) = answer.gave
upload_of_result (Err fault) = None

-- An answer has uploaded bytes exactly if its report is Uploaded.
abbrev pub BytesMatchReport : Option Report → Option (List ℕ) → Type 0
BytesMatchReport None None = Unit {0}
BytesMatchReport (Some report) None = ReportsNoBytes report
BytesMatchReport (Some Uploaded) (Some bytes) = Unit {0}
BytesMatchReport report (Some bytes) = ⊥

-- If an event is not refused, its answer has uploaded bytes exactly if its report is Uploaded.
abbrev pub BytesOnlyWithUploaded : Result Answered LinkFault → Type 0
BytesOnlyWithUploaded (Ok answer) = BytesMatchReport answer.report answer.gave
BytesOnlyWithUploaded (Err fault) = Unit {0}

-- Result of a caller's event: a refusal or a play. With Uploaded the new bytes replace those of the last upload; otherwise those remain.
-- The caller gets the report, or the fault.
pub record WorldEventResult (w : WorldView) (h : Happening) (w' : WorldView) (result : Result (Option Report) LinkFault) : Type 0 where
  pub answer : Result Answered LinkFault
  pub comes : EventResult w.bench h w'.bench answer
  pub whole : BytesOnlyWithUploaded answer
  pub up_is : w'.up ≡ uploaded_after (upload_of_result answer) w.up
  pub told : result ≡ report_of_result answer

-- Result of an event that uploads nothing, for any bytes of the last upload.
abbrev pub WorldEventAlone : LinkView → Happening → LinkView → Result (Option Report) LinkFault → Type 0
WorldEventAlone b h b' result = (up : List ℕ) → WorldEventResult (world_of_bench b up) h (world_of_bench b' up) result
