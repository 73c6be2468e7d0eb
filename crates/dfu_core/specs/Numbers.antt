-- Numbers that calls return to a program in C.
use Rattle.std.specs.Prelude.{ℕ, ℤ, pos, negsuc, Bool, true, false}
use Rattle.dfu_slots.specs.declared.fault.FormatFault.{FormatFault}
use Rattle.dfu_slots.specs.declared.fault.FormatFault.TheVariants as fault
use Rattle.dfu_device.specs.declared.answer.Answer.{Answer}
use Rattle.dfu_device.specs.declared.answer.Answer.TheVariants as answer
use Rattle.dfu_asks.specs.declared.reply.Reply.{Reply}
use Rattle.dfu_asks.specs.declared.reply.Reply.TheVariants as reply
use Rattle.dfu_asks.specs.declared.reply.Refusal.{Refusal as Why}
use Rattle.dfu_asks.specs.declared.reply.Refusal.TheVariants as why
use Rattle.dfu_core.specs.declared.numbers.CoreRefusal.{CoreRefusal}
use Rattle.dfu_core.specs.declared.numbers.CoreRefusal.TheVariants as refusal

-- DFU_STALL: the request is stalled.
abbrev pub STALL_NUMBER : ℤ
STALL_NUMBER = negsuc 0

-- DFU_NO_CONFIG: the configuration is not allowed.
abbrev pub NO_CONFIG_NUMBER : ℤ
NO_CONFIG_NUMBER = negsuc 1

-- DFU_NO_MEDIUM: the flash has no active image, or it has 2^32 bytes or more; for a device, no open slot of the flash has the noted header.
abbrev pub NO_MEDIUM_NUMBER : ℤ
NO_MEDIUM_NUMBER = negsuc 2

-- DFU_NO_DEVICE: the record represents no device, or none that agrees with the flash and the block; for a piece, no write is pending.
abbrev pub NO_DEVICE_NUMBER : ℤ
NO_DEVICE_NUMBER = negsuc 3

-- DFU_NO_ROOM: the buffer is too small for an answer.
abbrev pub NO_ROOM_NUMBER : ℤ
NO_ROOM_NUMBER = negsuc 4

-- DFU_WRONG_SIZE: the size of the flash doesn't allow two slots.
abbrev pub WRONG_SIZE_NUMBER : ℤ
WRONG_SIZE_NUMBER = negsuc 5

-- DFU_NOT_LONG: the body of the setup packet is not longer than the transfer size.
abbrev pub NOT_LONG_NUMBER : ℤ
NOT_LONG_NUMBER = negsuc 8

-- DFU_NO_BLOCK: the block memory is too small.
abbrev pub NO_BLOCK_NUMBER : ℤ
NO_BLOCK_NUMBER = negsuc 9

-- DFU_WRITE_PENDING: a flash operation is pending.
abbrev pub WRITE_PENDING_NUMBER : ℤ
WRITE_PENDING_NUMBER = negsuc 10

-- DFU_BUSY: flash operations are pending and must be performed first.
abbrev pub BUSY_NUMBER : ℤ
BUSY_NUMBER = negsuc 11

-- DFU_NO_CLOSE: the setup packet closes no download.
abbrev pub NO_CLOSE_NUMBER : ℤ
NO_CLOSE_NUMBER = negsuc 12

-- DFU_NO_STATUS: the status is neither errTARGET nor errFILE.
abbrev pub NO_STATUS_NUMBER : ℤ
NO_STATUS_NUMBER = negsuc 13

-- DFU_NO_CANDIDATE: there is no received image that may be refused.
abbrev pub NO_CANDIDATE_NUMBER : ℤ
NO_CANDIDATE_NUMBER = negsuc 19

-- Number that a call in C returns for a refusal.
abbrev pub refusal_number : CoreRefusal → ℤ
refusal_number refusal.NoConfig = NO_CONFIG_NUMBER
refusal_number refusal.NoBlock = NO_BLOCK_NUMBER
refusal_number refusal.Asked = BUSY_NUMBER
refusal_number refusal.NoMedium = NO_MEDIUM_NUMBER
refusal_number refusal.NoDevice = NO_DEVICE_NUMBER

-- Refusal in C that reports a refusal of dfu_asks.
abbrev pub core_refusal_of : Why → CoreRefusal
core_refusal_of why.Asked = refusal.Asked
core_refusal_of why.NoMedium = refusal.NoMedium
core_refusal_of e = refusal.NoDevice

-- Number of an answer: 0 for an acknowledgement, DFU_STALL for a stall, otherwise the number of its bytes.
abbrev pub answer_number : Answer → ℕ → ℤ
answer_number answer.Ack count = pos 0
answer_number answer.Bytes count = pos count
answer_number answer.Stall count = STALL_NUMBER

-- Number of a reply: that of its answer, or DFU_WRITE_PENDING.
abbrev pub reply_number : Reply → ℤ
reply_number reply.Asks = WRITE_PENDING_NUMBER
reply_number (reply.Answered x count) = answer_number x count

-- Number of a reply to elapsed time: 0, or DFU_WRITE_PENDING.
abbrev pub time_reply_number : Reply → ℤ
time_reply_number reply.Asks = WRITE_PENDING_NUMBER
time_reply_number (reply.Answered x count) = pos 0

-- 1 for true, 0 for false.
abbrev pub yes_no_number : Bool → ℤ
yes_no_number true = pos 1
yes_no_number false = pos 0

-- Number of a format's fault: DFU_WRONG_SIZE, DFU_TOO_LARGE or DFU_NOT_WRITTEN.
abbrev pub format_number : FormatFault → ℤ
format_number fault.WrongSize = WRONG_SIZE_NUMBER
format_number fault.TooLarge = negsuc 6
format_number fault.Failed = negsuc 7
