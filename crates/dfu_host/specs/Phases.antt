-- Goals, phases and deeds of sessions, and meanings of their results.
use Rattle.std.specs.Prelude.{ℕ, Bool, List}
use Rattle.dfu_wire.specs.declared.codes.Code.{Code}
use Rattle.dfu_wire.specs.declared.states.State.{State}
use Rattle.dfu_wire.specs.declared.requests.Request.{Request}
use Rattle.dfu_host.specs.declared.report.Report.{Report}

-- Goal of a session: to install a payload; to fetch the active image; to install a payload and then compare it; or to compare the payload
-- with the active image, after it was installed and the device was reset.
pub data Goal : Type 0 where
  LoadGoal : (payload : List ℕ) → Goal
  FetchGoal : Goal
  VerifyGoal : (payload : List ℕ) → Goal
  CompareGoal : (payload : List ℕ) → Goal

-- Task of a session: its goal, and fields of its device's descriptor.
pub record Task : Type 0 where
  pub goal : Goal
  pub transfer : ℕ
  pub tolerant : Bool
  pub will_detach : Bool
  pub detach_ms : ℕ

-- The phases of a session. Block, Ask, Poll and Compare contain a block number, counted from 0; Fetch contains the number of the part and
-- the bytes kept so far.
pub data Phase : Type 0 where
  Find : Phase
  FindAgain : Phase
  Detach : Phase
  Enter : Phase
  Clear : Phase
  Quit : Phase
  WaitFind : (poll : ℕ) → Phase
  ResetFind : Phase
  Block : (n : ℕ) → Phase
  Ask : (n : ℕ) → Phase
  Poll : (n : ℕ) → Phase
  WaitPoll : (n poll : ℕ) → Phase
  Close : Phase
  AskLast : Phase
  Manifest : Phase
  WaitManifest : (poll : ℕ) → Phase
  WaitLast : (poll : ℕ) → Phase
  Trouble : Phase
  Fetch : (k : ℕ) (kept : List ℕ) → Phase
  LastUploaded : (kept : List ℕ) → Phase
  Compare : (k : ℕ) → Phase
  Last : Report → Phase
  GiveUp : Phase
  Over : Report → Phase
  OverUploaded : (kept : List ℕ) → Phase

-- Deed of a host: it sends a request with its body, waits, resets the bus, or is done. `Action` is the form of a deed in the code, with the
-- bytes of the setup packet.
pub data Deed : Type 0 where
  Send : (request : Request) (body : List ℕ) → Deed
  Wait : (ms : ℕ) → Deed
  Reset : Deed
  Done : Report → Deed

-- Meaning of a result for a host. NoRoom: no memory for a part of an upload. Left: the device left the bus or returned reset by itself.
pub data Heard : Type 0 where
  Acked : Heard
  Status : Code → (poll : ℕ) → State → Heard
  StateIs : State → Heard
  Part : (bytes : List ℕ) → Heard
  NoRoom : Heard
  Stalled : Heard
  Nothing : Heard
  Waited : Heard
  WasReset : Heard
  Restarted : Heard
  Left : Heard
