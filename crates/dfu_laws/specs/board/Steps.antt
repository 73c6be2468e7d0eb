-- Calls of the device as steps of a board.
use Rattle.std.specs.Prelude.{ℕ, Bool, true, List, [], Result, Ok, Err}
use Rattle.dfu_device.specs.declared.answer.Answer.TheVariants as answer
use Rattle.dfu_asks.specs.declared.asking.Asking.{Asking}
use Rattle.dfu_asks.specs.declared.reply.Refusal.{Refusal}
use Rattle.dfu_asks.specs.declared.reply.Reply.{Reply}
use Rattle.dfu_laws.specs.board.Board.{Board, BoardReply, Nothing, Answers}
use Rattle.dfu_laws.specs.board.Happens.{reply_of_call}

-- The board with this record, these bytes in its memories, and this flash.
abbrev pub board_of_parts : Asking → (block held flash : List ℕ) → Board
board_of_parts a block held flash = record { asking = a; block = block; held = held; flash = flash }

-- Reply of a board for the result of a call, with the bytes in the call's buffer; `Nothing` for a refusal.
abbrev pub reply_of_result : Result Reply Refusal → List ℕ → BoardReply
reply_of_result (Ok r) out = reply_of_call r out
reply_of_result (Err e) out = Nothing

-- Reply of a board for the result of `usb_reset` or `refuse`: an acknowledgement, or `Nothing` for a refusal.
abbrev pub reply_of_reset : Result (Unit {0}) Refusal → BoardReply
reply_of_reset (Ok x) = Answers answer.Ack []
reply_of_reset (Err e) = Nothing

-- Reply of a board for the result of `refuse_close`: a stall if the setup closes a download, else `Nothing`.
abbrev pub reply_of_close : Result Bool Refusal → BoardReply
reply_of_close (Ok true) = Answers answer.Stall []
reply_of_close r = Nothing
