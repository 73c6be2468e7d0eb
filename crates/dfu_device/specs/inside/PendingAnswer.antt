-- Answers whose bytes are not in a buffer yet.
use Rattle.std.specs.Prelude.{ℕ, List, take, drop}
use Rattle.dfu_slots.specs.StoreView.{image_of}
use Rattle.dfu_device.specs.declared.answer.Answer.{Answer}
use Rattle.dfu_device.specs.declared.answer.PendingAnswer.{PendingAnswer}
use Rattle.dfu_device.specs.declared.answer.PendingAnswer.TheVariants as pending_answer
use Rattle.dfu_device.specs.declared.decision.Reply.{Reply as ReplyRead}
use Rattle.dfu_device.specs.declared.decision.Reply.TheVariants as reply
use Rattle.dfu_device.specs.Stage.{Reply, Ack, Data, StateOf, Stall, state_of, status_of}
use Rattle.dfu_device.specs.Table.{Plan}
use Rattle.dfu_device.specs.DeviceView.{DeviceView, profile}
use Rattle.dfu_device.specs.Rows.{ReplyAnswer, Done, Handles}

-- Pending answer for a reply to a request with wLength `asked`.
abbrev pub pending_answer_of : (asked : ℕ) → ReplyRead → PendingAnswer
pending_answer_of asked reply.Ack = pending_answer.Ack
pending_answer_of asked reply.Status = pending_answer.Status asked
pending_answer_of asked reply.State = pending_answer.State asked
pending_answer_of asked reply.Stall = pending_answer.Stall

-- Reply that corresponds to a pending answer, with the status, the state or the bytes of the device after the row.
abbrev pub reply_of_pending : PendingAnswer → DeviceView → Reply
reply_of_pending pending_answer.Ack w = Ack
reply_of_pending (pending_answer.Status asked) w = status_of (profile w) w.stage
reply_of_pending (pending_answer.State asked) w = StateOf (state_of w.stage)
reply_of_pending (pending_answer.Piece place asked) w = Data (take asked (drop place (image_of w.slots)))
reply_of_pending pending_answer.Stall w = Stall

-- wLength of a pending status or state; 0 for any other pending answer.
abbrev pub asked_of : PendingAnswer → ℕ
asked_of (pending_answer.Status asked) = asked
asked_of (pending_answer.State asked) = asked
asked_of d = 0

-- The answer and its bytes are those of the pending answer.
abbrev pub AnswersPending : PendingAnswer → DeviceView → Answer → List ℕ → Type 0
AnswersPending d w a out = ReplyAnswer (asked_of d) (reply_of_pending d w) a out

-- A plan was performed, and its reply is still pending.
abbrev pub CarriedOutPending : Plan → ℕ → DeviceView → PendingAnswer → DeviceView → Type 0
CarriedOutPending p len w d w' = (a : Answer) (out : List ℕ) → AnswersPending d w' a out → Done p len w a out w'

-- The row of a setup packet with its body was performed, and its answer is still pending.
abbrev pub HandledPending : List ℕ → List ℕ → DeviceView → PendingAnswer → DeviceView → Type 0
HandledPending setup body w d w' = (a : Answer) (out : List ℕ) → AnswersPending d w' a out → Handles setup body w a out w'
