-- Deed of a session at each step: a request, a wait or the end.
use Rattle.std.specs.Prelude.{ℕ, ◌+◌, ◌-◌, ◌/◌, ◌%◌, ◌^◌, List, [], ◌∷◌, length}
use Rattle.std.specs.Int.{w32, to_le_bytes}
use Rattle.dfu_wire.specs.declared.requests.Request.{Request}
use Rattle.dfu_wire.specs.declared.requests.Request.TheVariants as request
use Rattle.dfuse_host.specs.declared.plan.Plan.{Plan}
use Rattle.dfuse_host.specs.declared.phase.Phase.{Phase}
use Rattle.dfuse_host.specs.declared.phase.Phase.TheVariants.{On, Over}
use Rattle.dfuse_host.specs.declared.work.Work.{Work}
use Rattle.dfuse_host.specs.declared.work.Work.TheVariants as work
use Rattle.dfuse_host.specs.declared.place.Place.{Place}
use Rattle.dfuse_host.specs.declared.place.Place.TheVariants as place
use Rattle.dfuse_host.specs.declared.step.Step.{Step}
use Rattle.dfuse_host.specs.declared.step.Step.TheVariants as step
use Rattle.dfuse_host.specs.declared.command.Command.{Command}
use Rattle.dfuse_host.specs.declared.command.Command.TheVariants as command
use Rattle.dfuse_host.specs.declared.report.Report.{Report}
use Rattle.dfuse_host.specs.Plans.{block_size, write_end, read_end}
use Rattle.dfuse_host.specs.Commands.{command_of, end_of_work, bytes_in}

-- Deed of a session: it sends a request with its body, waits, or ends with a report.
pub data DfuseDeed : Type 0 where
  -- Sends the request with its body.
  Send : (request : Request) (body : List ℕ) → DfuseDeed
  -- Waits for this number of milliseconds.
  Wait : (ms : ℕ) → DfuseDeed
  -- Ends with this report.
  Done : Report → DfuseDeed

-- Deed that sends a DfuSe command: a DNLOAD of block 0 with the command's number and an address of four bytes, low byte first.
abbrev pub address_command : (number at : ℕ) → DfuseDeed
address_command number at = Send (request.Dnload 0 5) (number ∷ to_le_bytes w32 (at % 2 ^ 32))

-- Deed that sends bytes to the address in the pointer: a DNLOAD of block 2.
abbrev pub dfuse_download : List ℕ → DfuseDeed
dfuse_download body = Send (request.Dnload 2 (length body)) body

-- Deed that sends a command: a DNLOAD of block 0 with the command, or of block 2 with bytes to write.
abbrev pub command_deed : Plan → Work → Command → DfuseDeed
command_deed plan w (command.SetAddress at) = address_command 0x21 at
command_deed plan w (command.ErasePage at) = address_command 0x41 at
command_deed plan w (command.Write at) = dfuse_download (bytes_in plan at (write_end plan at (end_of_work plan w)))

-- Address that a work has reached. It is the page's address for EraseAgain, and 0 for Leave.
abbrev pub stands_at : Work → ℕ
stands_at (work.Erase at) = at
stands_at (work.EraseAgain page end) = page
stands_at (work.Write at end) = at
stands_at (work.Compare at) = at
stands_at (work.WriteFront at) = at
stands_at (work.CompareFront at) = at
stands_at work.Leave = 0

-- Bytes of the image that one UPLOAD of a work reads, beginning at the address that the work has reached.
unfoldable pub read_bytes : Plan → Work → List ℕ
read_bytes plan w = bytes_in plan (stands_at w) (read_end plan (stands_at w) (end_of_work plan w))

-- Address to which the pointer was set for reading, or `at` if the session isn't reading.
abbrev pub reading_base_of : Place → (at : ℕ) → ℕ
reading_base_of place.Lost at = at
reading_base_of (place.At p) at = at
reading_base_of (place.Reading p) at = p

-- Number of the UPLOAD block that begins at an address. Block 2 begins at the address in the pointer, and the largest number is 65,535.
unfoldable pub upload_block : Plan → Place → (at : ℕ) → ℕ
upload_block plan p at = (at - reading_base_of p at) / block_size plan % 65534 + 2

-- Deed that requests the bytes that a work reads back next, with UPLOAD.
abbrev pub upload_deed : Plan → Work → Place → DfuseDeed
upload_deed plan w p = Send (request.Upload (upload_block plan p (stands_at w)) (length (read_bytes plan w))) []

-- Deed that requests the state with GETSTATE.
abbrev pub get_state : DfuseDeed
get_state = Send (request.GetState 1) []

-- Deed that requests the status with GETSTATUS; a status has six bytes.
abbrev pub get_status : DfuseDeed
get_status = Send (request.GetStatus 6) []

-- Deed of a work at a step.
abbrev pub deed_of_step : Plan → Work → Place → Step → DfuseDeed
deed_of_step plan w p step.Abort = Send request.Abort []
deed_of_step plan w p step.AskState = get_state
deed_of_step plan w p step.AskStatus = get_status
deed_of_step plan w p (step.ClearWait ms) = Wait ms
deed_of_step plan w p step.ClearStatus = Send request.ClrStatus []
deed_of_step plan w p step.Send = command_deed plan w (command_of plan w p)
deed_of_step plan w p step.Probe = get_state
deed_of_step plan w p (step.Poll last) = get_status
deed_of_step plan w p (step.PollWait ms) = Wait ms
deed_of_step plan w p step.BeginReading = Send request.Abort []
deed_of_step plan w p step.EndReading = Send request.Abort []
deed_of_step plan w p step.Read = upload_deed plan w p
deed_of_step plan w p step.Close = dfuse_download []
deed_of_step plan w p step.CloseProbe = get_state
deed_of_step plan w p step.ClosePoll = get_status

-- Deed of a phase: the deed of its step, or Done with the report of a session that is over.
abbrev pub dfuse_deed : Plan → Phase → DfuseDeed
dfuse_deed plan (On s) = deed_of_step plan s.work s.place s.step
dfuse_deed plan (Over report) = Done report
