-- Board of a program in C, which consists of bytes and numbers, and the events that may happen to it.
use Rattle.std.specs.Prelude.{◌≡◌, ℕ, Bool, List, []}
use Rattle.dfu_wire.specs.declared.states.State.{State}
use Rattle.dfu_slots.specs.Medium.{MediumState}
use Rattle.dfu_device.specs.declared.device_state.DeviceState.{DeviceState}
use Rattle.dfu_device.specs.Stage.{state_of}
use Rattle.dfu_device.specs.Parts.{stage_of}
use Rattle.dfu_asks.specs.Mapped.{mapped_medium}
use Rattle.dfu_core.specs.declared.config.DfuConfig.{DfuConfig}
use Rattle.dfu_core.specs.declared.record.DfuRecord.{DfuRecord}
use Rattle.dfu_core.specs.Config.{config_grain}
use Rattle.dfu_core.specs.Mode.{HasMode}

-- Board in C: its configuration, its device record, the bytes of the block memory and the bytes of the flash.
pub record CoreBoard : Type 0 where
  pub config : DfuConfig
  pub kept : DfuRecord
  pub block : List ℕ
  pub flash : List ℕ

-- The flash of a board in C as a medium, on which any write may fail.
abbrev pub medium_of_core : CoreBoard → MediumState
medium_of_core b = mapped_medium (config_grain b.config) b.flash

-- The board is in the DFU state `state`, which dfu_core_state returns.
pub record HasBoardState (b : CoreBoard) (state : State) : Type 0 where
  pub mode : DeviceState
  pub has_mode : HasMode b.kept mode
  pub state_is : state_of (stage_of mode [] []) ≡ state

-- Events that may happen to a board in C. `out` is the content of the call's buffer before the call.
pub data CoreEvent : Type 0 where
  -- The calls dfu_core_handle, dfu_core_elapse and dfu_core_usb_reset.
  CoreHandle : (setup body out : List ℕ) → CoreEvent
  CoreElapse : (ms : ℕ) → CoreEvent
  CoreReset : CoreEvent
  -- The call dfu_core_too_long, for a setup packet whose body is longer than a block. The board doesn't store the body.
  CoreTooLong : (setup body : List ℕ) → CoreEvent
  -- The calls dfu_core_refuse_close and dfu_core_refuse, with a status.
  CoreRefuseClose : (setup : List ℕ) (status : ℕ) → CoreEvent
  CoreRefuse : (status : ℕ) → CoreEvent
  -- The flash changes in the range of the write that dfu_core_next stores in `ask`.
  CoreWrite : CoreEvent
  -- The call dfu_core_took, which reports the outcome of a write.
  CoreTook : (failed : ℕ) (out : List ℕ) → CoreEvent
  -- A power cycle, after which the program calls dfu_core_power_on, or dfu_core_begin if the device starts in dfuIDLE. The call returns 0.
  CoreRestart : (begins : Bool) → CoreEvent

-- Board in C with this configuration, this record, this block memory and this flash.
abbrev pub core_board : DfuConfig → DfuRecord → (block flash : List ℕ) → CoreBoard
core_board c r block flash = record { config = c; kept = r; block = block; flash = flash }
