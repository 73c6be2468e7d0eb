-- Decision on a setup packet with its body: that of the packet's row in the table, or a stall if there is no row.
use Rattle.std.specs.Prelude.{◌≡◌, ℕ, List, if◌then◌else◌}
use Rattle.dfu_wire.specs.declared.setups.Setup.{Setup}
use Rattle.dfu_wire.specs.declared.requests.Request.{Request as Asked}
use Rattle.dfu_wire.specs.Setup.{IsSetup}
use Rattle.dfu_wire.specs.Request.{SetupAsksFor}
use Rattle.dfu_device.specs.declared.config.Profile.{Profile as ProfileRead}
use Rattle.dfu_device.specs.declared.decision.Decision.{Decision}
use Rattle.dfu_device.specs.declared.device_state.DeviceState.{DeviceState}
use Rattle.dfu_device.specs.Stage.{Stall}
use Rattle.dfu_device.specs.Table.{Sure, plan}
use Rattle.dfu_device.specs.Parts.{stage_of}
use Rattle.dfu_device.specs.Rows.{request_for_table, asked_length, is_served}
use Rattle.dfu_device.specs.Decision.{table_profile_of, plan_of, HasWrittenBytes}

-- The decision on a setup packet with its body corresponds to the plan of the request that the eight bytes encode, if the request has a row
-- in the table, otherwise to a stall that changes nothing. `asked` is wLength if the request is GETSTATUS or GETSTATE.
pub record DecidesSetup (p : ProfileRead) (m : DeviceState) (setup body : List ℕ) (d : Decision) (asked : ℕ) : Type 0 where
  pub read : Setup
  pub request : Asked
  pub fields : IsSetup read setup
  pub asks : SetupAsksFor read request
  pub asked_is_request_length : asked ≡ asked_length request
  pub row : (image spare block : List ℕ) → HasWrittenBytes m spare → plan_of (table_profile_of p) image spare block body d
      ≡ (if is_served read request body then plan (table_profile_of p) image (stage_of m spare block) (request_for_table request body)
      else Sure Stall (stage_of m spare block))
