-- The class of each phase, for definitions that treat many phases alike.
use Rattle.std.specs.Prelude.{ℕ, List}
use Rattle.dfu_host.specs.declared.report.Report.{Report}
use Rattle.dfu_host.specs.Phases.{Phase, Find, FindAgain, Detach, Enter, Clear, Quit, WaitFind, ResetFind, Block, Ask, Poll, WaitPoll, Close, AskLast, Manifest, WaitManifest, WaitLast, Trouble, Fetch, LastUploaded, Compare, Last, GiveUp, Over, OverUploaded}

-- Class of a phase: the part of a session to which it belongs, with the phase's bytes or numbers. The class Common belongs to every
-- session.
pub data PhaseClass : Type 0 where
  Common : PhaseClass
  Sending : (n : ℕ) → PhaseClass
  Closing : PhaseClass
  Manifesting : PhaseClass
  Fetching : (k : ℕ) (kept : List ℕ) → PhaseClass
  Comparing : (k : ℕ) → PhaseClass
  Ending : Report → PhaseClass
  EndingUpload : (kept : List ℕ) → PhaseClass
  Ended : Report → PhaseClass
  EndedUpload : (kept : List ℕ) → PhaseClass

abbrev pub class_of : Phase → PhaseClass
class_of Find = Common
class_of FindAgain = Common
class_of Detach = Common
class_of Enter = Common
class_of Clear = Common
class_of Quit = Common
class_of (WaitFind poll) = Common
class_of ResetFind = Common
class_of (Block n) = Sending n
class_of (Ask n) = Sending n
class_of (Poll n) = Sending n
class_of (WaitPoll n poll) = Sending n
class_of Close = Closing
class_of AskLast = Closing
class_of Manifest = Manifesting
class_of (WaitManifest poll) = Manifesting
class_of (WaitLast poll) = Manifesting
class_of Trouble = Common
class_of (Fetch k kept) = Fetching k kept
class_of (LastUploaded kept) = EndingUpload kept
class_of (Compare k) = Comparing k
class_of (Last report) = Ending report
class_of GiveUp = Common
class_of (Over report) = Ended report
class_of (OverUploaded kept) = EndedUpload kept
