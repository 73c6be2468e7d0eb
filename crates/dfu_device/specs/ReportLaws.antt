-- Laws of the status and the state that a row reports to the host.
use Rattle.std.specs.Prelude.{◌≡◌, ℕ, true, List}
use Rattle.dfu_wire.specs.declared.setups.Setup.{Setup}
use Rattle.dfu_wire.specs.declared.requests.Request.TheVariants as asked
use Rattle.dfu_wire.specs.Setup.{IsSetup}
use Rattle.dfu_wire.specs.Request.{SetupAsksFor}
use Rattle.dfu_device.specs.declared.answer.Answer.TheVariants as answer
use Rattle.dfu_device.specs.Stage.{StateOf, state_of, status_of}
use Rattle.dfu_device.specs.DeviceView.{DeviceView, profile}
use Rattle.dfu_device.specs.Rows.{ReplyAnswer, is_served, Handles}

-- An answer to GETSTATUS contains the status of the device after the row.
abbrev pub StatusReportMatches : Type 0
StatusReportMatches = (p : Setup) (len : ℕ) (setup body : List ℕ) (w : DeviceView) (out : List ℕ) (w' : DeviceView) → IsSetup p setup
    → SetupAsksFor p (asked.GetStatus len) → is_served p (asked.GetStatus len) body ≡ true
    → Handles setup body w answer.Bytes out w' → ReplyAnswer len (status_of (profile w') w'.stage) answer.Bytes out

-- An answer to GETSTATE contains the state of the device after the row, and the row doesn't change the stage.
abbrev pub StateReportMatches : Type 0
StateReportMatches = (p : Setup) (len : ℕ) (setup body : List ℕ) (w : DeviceView) (out : List ℕ) (w' : DeviceView) → IsSetup p setup
    → SetupAsksFor p (asked.GetState len) → is_served p (asked.GetState len) body ≡ true
    → Handles setup body w answer.Bytes out w' → ReplyAnswer len (StateOf (state_of w'.stage)) answer.Bytes out × (w'.stage ≡ w.stage)
