-- The bytes of a status (USB DFU 1.1, section 6.1.2).
use Rattle.std.specs.Prelude.{◌≡◌, ℕ, ◌+◌, ◌*◌, ◌<◌, ◌≤◌, List, length, slice_index}
use Rattle.dfu_wire.specs.declared.states.State.{State}
use Rattle.dfu_wire.specs.declared.codes.Code.{Code}
use Rattle.dfu_wire.specs.declared.fault.WireFault.{WireFault}
use Rattle.dfu_wire.specs.declared.fault.WireFault.TheVariants as fault
use Rattle.dfu_wire.specs.State.{state_byte}
use Rattle.dfu_wire.specs.Code.{code_byte}

-- Fields of a status: a code, a poll timeout in milliseconds, and the state that the device enters after this answer.
pub record StatusFields : Type 0 where
  -- Status code, bStatus.
  pub code : Code
  -- Poll timeout in milliseconds, bwPollTimeout.
  pub poll_ms : ℕ
  -- State that the device enters after the answer, bState.
  pub state : State

-- The six bytes `b` encode the status `s`. The poll timeout has its low byte first. The sixth byte, the index of a string, is ignored.
pub record IsStatus (s : StatusFields) (b : List ℕ) : Type 0 where
  -- There are six bytes.
  pub length : length b ≡ 6
  -- bStatus, byte 0, is the number of the code.
  pub code : slice_index b 0 ≡ code_byte s.code
  -- bwPollTimeout is in bytes 1 to 3.
  pub poll : s.poll_ms ≡ slice_index b 1 + 256 * slice_index b 2 + 65536 * slice_index b 3
  -- bState, byte 4, is the number of the state.
  pub state : slice_index b 4 ≡ state_byte s.state

-- First fault of bytes that aren't a status, in this order: there are fewer than six bytes; there are more; the code is over 15; the state
-- is over 10.
abbrev pub FirstStatusFault : WireFault → List ℕ → Type 0
FirstStatusFault fault.Short b = length b < 6
FirstStatusFault fault.Long b = 6 < length b
FirstStatusFault fault.UnknownCode b = (length b ≡ 6) × (16 ≤ slice_index b 0)
FirstStatusFault fault.UnknownState b =
    (length b ≡ 6) × (slice_index b 0 < 16) × (11 ≤ slice_index b 4)
FirstStatusFault fault.WrongLength b = ⊥
FirstStatusFault fault.WrongType b = ⊥
FirstStatusFault fault.PollTooLong b = ⊥
