-- A board: a device that requests its writes from the board's program, the memory that the program lends to the device, and the flash.
use Rattle.std.specs.Prelude.{ℕ, Bool, List, []}
use Rattle.dfu_wire.specs.declared.states.State.{State}
use Rattle.dfu_slots.specs.Medium.{MediumState}
use Rattle.dfu_device.specs.declared.answer.Answer.{Answer}
use Rattle.dfu_device.specs.declared.objection.Objection.{Objection}
use Rattle.dfu_device.specs.DeviceView.{DeviceView}
use Rattle.dfu_device.specs.Stage.{state_of}
use Rattle.dfu_device.specs.Parts.{stage_of}
use Rattle.dfu_asks.specs.declared.asking.Asking.{Asking}
use Rattle.dfu_asks.specs.Lent.{LentDevice, lent}
use Rattle.dfu_asks.specs.Mapped.{mapped_medium}
use Rattle.dfu_asks.specs.Asks.{grain_in, device_in}

-- A board: the record of its device, the bytes in the device's two memories, and those of its flash.
pub record Board : Type 0 where
  pub asking : Asking
  pub block : List ℕ
  pub held : List ℕ
  pub flash : List ℕ

-- The device with the bytes of its two memories.
abbrev pub lent_on : Board → LentDevice
lent_on b = lent b.asking b.block b.held

-- The flash of a board as a medium, on which any write may fail.
abbrev pub medium_on : Board → MediumState
medium_on b = mapped_medium (grain_in (lent_on b)) b.flash

-- Device of the device table that the board represents while no writes are pending.
abbrev pub device_on : Board → DeviceView
device_on b = device_in (lent_on b) b.flash

-- DFU state of the board, as `Asking::state` returns it.
abbrev pub state_on : Board → State
state_on b = state_of (stage_of b.asking.mode [] [])

-- Events that may happen to a board.
pub data Event : Type 0 where
  -- Calls `handle`, `elapse` and `usb_reset`.
  Handle : (setup body : List ℕ) → Event
  Elapse : (ms : ℕ) → Event
  UsbReset : Event
  -- Calls `refuse_close` and `refuse`, by which the board's program refuses an image.
  RefuseClose : (setup : List ℕ) (why : Objection) → Event
  Refuse : (why : Objection) → Event
  -- The flash changes in the range of the piece that `next` returns.
  Write : Event
  -- Call `took`, in which the program reports a piece of a write.
  Took : (failed : Bool) → Event
  -- The power fails and returns, and the program calls `power_on`. If `begins` is true, the board starts in dfuIDLE for a host.
  Restart : (begins : Bool) → Event

-- Reply of a board to an event: `Nothing` if no call was served, `WritesDue` if writes are pending, or an answer with its bytes.
pub data BoardReply : Type 0 where
  Nothing : BoardReply
  WritesDue : BoardReply
  Answers : (a : Answer) (out : List ℕ) → BoardReply

-- A step of a board: the boards before and after it, the event, and the reply.
pub record BoardStep : Type 0 where
  pub before : Board
  pub event : Event
  pub says : BoardReply
  pub after : Board
