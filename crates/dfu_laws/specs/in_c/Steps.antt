-- Steps of a board in C, and the step of a board that corresponds to each.
use Rattle.std.specs.Prelude.{◌≡◌, ◌⊎◌, ◌==◌, not, ℕ, ℤ, pos, List, [], ◌∷◌, take}
use Rattle.dfu_asks.specs.declared.asking.Asking.{Asking}
use Rattle.dfu_laws.specs.board.Board.{Board, Event, Handle, Elapse, UsbReset, RefuseClose, Refuse, Write, Took, Restart, BoardReply, Nothing, WritesDue, Answers, BoardStep}
use Rattle.dfu_core.specs.declared.config.DfuConfig.{DfuConfig}
use Rattle.dfu_core.specs.declared.numbers.CoreRefusal.{CoreRefusal}
use Rattle.dfu_asks.specs.Addressed.{addressed_setup}
use Rattle.dfu_core.specs.RecordMeaning.{IsRecordOf, block_in_memory, held_memory}
use Rattle.dfu_core.specs.Numbers.{WRITE_PENDING_NUMBER, refusal_number, answer_number, NO_ROOM_NUMBER, NOT_LONG_NUMBER, NO_CLOSE_NUMBER, NO_STATUS_NUMBER}
use Rattle.dfu_core.specs.Refuse.{objection_of_status}
use Rattle.dfu_core.specs.Happens.{CoreEventOutcome}
use Rattle.dfu_core.specs.Board.{CoreBoard, CoreEvent, CoreHandle, CoreElapse, CoreReset, CoreTooLong, CoreRefuseClose, CoreRefuse, CoreWrite, CoreTook, CoreRestart}

-- A step of a board in C: the boards before and after, the event, the number that the call returns, and the bytes of its buffer after it.
pub record CoreStep : Type 0 where
  pub before : CoreBoard
  pub event : CoreEvent
  pub number : ℤ
  pub out : List ℕ
  pub after : CoreBoard

-- The steps lead from the first board in C to the last, and each begins where the previous one ended.
abbrev pub IsCoreRun : CoreBoard → List CoreStep → CoreBoard → Type 0
IsCoreRun b [] b' = b' ≡ b
IsCoreRun b (s ∷ rest) b' = (s.before ≡ b) × CoreEventOutcome b s.event s.number s.out s.after × IsCoreRun s.after rest b'

-- Board that a board in C represents, if `a` is the device of its record.
abbrev pub board_of_core : CoreBoard → Asking → Board
board_of_core b a = record { asking = a; block = block_in_memory a b.block; held = held_memory a b.block; flash = b.flash }

-- The board b in C represents the board x.
pub record IsBoardOfCore (b : CoreBoard) (x : Board) : Type 0 where
  pub kept : IsRecordOf b.config b.kept x.asking
  pub is : x ≡ board_of_core b x.asking

-- Event of a board that corresponds to an event in C. The setup is addressed to the interface of the configuration. A number other than 0
-- in the report of a write means that the write failed.
abbrev pub event_of_core : DfuConfig → CoreEvent → Event
event_of_core c (CoreHandle setup body out) = Handle (addressed_setup c.interface setup) body
event_of_core c (CoreElapse ms) = Elapse ms
event_of_core c CoreReset = UsbReset
event_of_core c (CoreTooLong setup body) = Handle (addressed_setup c.interface setup) body
event_of_core c (CoreRefuseClose setup status) = RefuseClose (addressed_setup c.interface setup) (objection_of_status status)
event_of_core c (CoreRefuse status) = Refuse (objection_of_status status)
event_of_core c CoreWrite = Write
event_of_core c (CoreTook failed out) = Took (not (failed == 0))
event_of_core c (CoreRestart begins) = Restart begins

-- The number is that of a refused call.
abbrev pub IsRefusalNumber : ℤ → Type 0
IsRefusalNumber n = (n ≡ NO_ROOM_NUMBER) ⊎ (n ≡ NOT_LONG_NUMBER) ⊎ ((e : CoreRefusal) × (n ≡ refusal_number e))

-- The number that a call returns, and the bytes in its buffer, encode the reply: `Nothing` for a refusal, `WritesDue` for
-- DFU_WRITE_PENDING, else the answer of that number with the first bytes of the buffer.
abbrev pub NumberTellsReply : ℤ → List ℕ → BoardReply → Type 0
NumberTellsReply n out Nothing = IsRefusalNumber n
NumberTellsReply n out WritesDue = n ≡ WRITE_PENDING_NUMBER
NumberTellsReply n out (Answers a bytes) = (count : ℕ) × (n ≡ answer_number a count) × (bytes ≡ take count out)

-- The number that dfu_core_elapse or dfu_core_usb_reset returns encodes the reply. The number 0 encodes any answer.
abbrev pub TimeNumberTellsReply : ℤ → BoardReply → Type 0
TimeNumberTellsReply n Nothing = IsRefusalNumber n
TimeNumberTellsReply n WritesDue = n ≡ WRITE_PENDING_NUMBER
TimeNumberTellsReply n (Answers a bytes) = n ≡ pos 0

-- The number that dfu_core_refuse or dfu_core_refuse_close returns encodes the reply.
abbrev pub ObjectionNumberTellsReply : ℤ → BoardReply → Type 0
ObjectionNumberTellsReply n Nothing = IsRefusalNumber n ⊎ (n ≡ NO_CLOSE_NUMBER) ⊎ (n ≡ NO_STATUS_NUMBER)
ObjectionNumberTellsReply n WritesDue = ⊥
ObjectionNumberTellsReply n (Answers a bytes) = (n ≡ answer_number a 0) × (bytes ≡ [])

-- The number that the call of an event returns, and the bytes in its buffer, encode the reply. A write or a restart has the number 0 and no
-- reply.
abbrev pub EventNumberTellsReply : CoreEvent → ℤ → List ℕ → BoardReply → Type 0
EventNumberTellsReply (CoreHandle setup body out) n out' says = NumberTellsReply n out' says
EventNumberTellsReply (CoreElapse ms) n out' says = TimeNumberTellsReply n says
EventNumberTellsReply CoreReset n out' says = TimeNumberTellsReply n says
EventNumberTellsReply (CoreTooLong setup body) n out' says = NumberTellsReply n [] says
EventNumberTellsReply (CoreRefuseClose setup status) n out' says = ObjectionNumberTellsReply n says
EventNumberTellsReply (CoreRefuse status) n out' says = ObjectionNumberTellsReply n says
EventNumberTellsReply (CoreTook failed out) n out' says = NumberTellsReply n out' says
EventNumberTellsReply e n out' says = (n ≡ pos 0) × (says ≡ Nothing)

-- The step s in C corresponds to the step t of a board.
pub record IsBoardStepOf (s : CoreStep) (t : BoardStep) : Type 0 where
  pub before : IsBoardOfCore s.before t.before
  pub event : t.event ≡ event_of_core s.before.config s.event
  pub says : EventNumberTellsReply s.event s.number s.out t.says
  pub after : IsBoardOfCore s.after t.after

-- Each step in C corresponds to the board's step at the same index.
abbrev pub AreBoardStepsOf : List CoreStep → List BoardStep → Type 0
AreBoardStepsOf [] [] = Unit {0}
AreBoardStepsOf (s ∷ ss) (t ∷ ts) = IsBoardStepOf s t × AreBoardStepsOf ss ts
AreBoardStepsOf ss ts = ⊥
