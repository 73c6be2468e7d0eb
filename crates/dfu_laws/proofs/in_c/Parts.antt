-- Replies of a board for the numbers that calls in C return.
use Rattle.std.specs.Prelude.{◌≡◌, ℕ, ℤ, List, []}
use Rattle.std.proofs.Common.{refl}
use Rattle.dfu_asks.specs.declared.reply.Reply.{Reply}
use Rattle.dfu_asks.specs.declared.reply.Reply.TheVariants as reply
use Rattle.dfu_laws.specs.board.Happens.{reply_of_call}
use Rattle.dfu_core.specs.Numbers.{reply_number, time_reply_number}
use Rattle.dfu_laws.specs.in_c.Steps.{NumberTellsReply, TimeNumberTellsReply}

-- The number of a reply encodes that reply.
pub reply_number_tells_reply : (n : ℤ) (out : List ℕ) (r : Reply) → n ≡ reply_number r → NumberTellsReply n out (reply_of_call r out)
reply_number_tells_reply n out reply.Asks is = is
reply_number_tells_reply n out (reply.Answered x count) is = (count, is, refl)

pub time_reply_number_tells_reply : (n : ℤ) (r : Reply) → n ≡ time_reply_number r → TimeNumberTellsReply n (reply_of_call r [])
time_reply_number_tells_reply n reply.Asks is = is
time_reply_number_tells_reply n (reply.Answered x count) is = is
