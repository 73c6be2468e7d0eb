-- Contents of an action's record.
use Rattle.std.specs.Prelude.{◌≡◌, ◌+◌, ◌≤◌, ℕ, List, Some, length, replicate, take, drop}
use Rattle.dfu_wire.specs.declared.requests.Request.{Request}
use Rattle.dfu_host.specs.declared.report.Report.{Report}
use Rattle.dfu_host.specs.Phases.{Deed, Send, Wait, Reset, Done}
use Rattle.dfu_host.specs.Wire.{IsSetupOf}
use Rattle.dfu_host_core.specs.ReportNumbers.{report_at, report_numbers}
use Rattle.dfu_host_core.specs.declared.action.DfuAction.{DfuAction}

-- The record is a request to send: its setup packet encodes the request q, and its body is a slice of the payload that begins at `from`,
-- within the payload.
pub record SendActionRecord (payload : List ℕ) (from : ℕ) (q : Request) (body : List ℕ) (r : DfuAction) : Type 0 where
  pub what : r.what ≡ 0
  pub value : r.value ≡ 0
  pub asked : IsSetupOf q r.setup
  pub place : r.from ≡ from
  pub size : r.length ≡ length body
  pub cut : body ≡ take (length body) (drop from payload)
  pub ends : from + length body ≤ length payload
  pub code : r.code ≡ 0

-- The record is an action without a request: it contains the given numbers, and zeros for the setup packet, the offset and the length.
pub record IsNoRequestRecord (what value code : ℕ) (r : DfuAction) : Type 0 where
  pub action_number_matches : r.what ≡ what
  pub value_is : r.value ≡ value
  pub code_is : r.code ≡ code
  pub from : r.from ≡ 0
  pub size : r.length ≡ 0
  pub setup : r.setup ≡ replicate 8 0

-- The record is the end of a session with `report`: it contains zeros for the setup packet, the offset and the length.
pub record FinalActionRecord (report : Report) (r : DfuAction) : Type 0 where
  pub other : IsNoRequestRecord 3 r.value (report_numbers report).1 r
  pub final_report_matches : report_at r.value r.code ≡ Some report

-- The record holds a host's deed: 0 to send a request, 1 to wait for some milliseconds, 2 to reset the bus, and 3 if the host is done. A
-- body begins at `from` in the payload. Numbers that the deed doesn't use are 0.
abbrev pub ActionRecord : (payload : List ℕ) → (from : ℕ) → Deed → DfuAction → Type 0
ActionRecord payload from (Send q body) r = SendActionRecord payload from q body r
ActionRecord payload from (Wait ms) r = IsNoRequestRecord 1 ms 0 r
ActionRecord payload from Reset r = IsNoRequestRecord 2 0 0 r
ActionRecord payload from (Done report) r = FinalActionRecord report r
