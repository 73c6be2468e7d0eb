-- Laws of the accepted bytes: a device has accepted exactly the blocks that it acknowledged.
use Rattle.std.specs.Prelude.{◌≡◌, ℕ, true, List, [], ◌∷◌, ◌++◌}
use Rattle.dfu_wire.specs.declared.setups.Setup.{Setup}
use Rattle.dfu_wire.specs.declared.requests.Request.{Request as Asked}
use Rattle.dfu_wire.specs.Setup.{IsSetup}
use Rattle.dfu_wire.specs.Request.{SetupAsksFor}
use Rattle.dfu_device.specs.declared.answer.Answer.{Answer}
use Rattle.dfu_device.specs.declared.answer.Answer.TheVariants as answer
use Rattle.dfu_device.specs.Stage.{Request, OtherRequest, Reply, state_of}
use Rattle.dfu_device.specs.DeviceView.{DeviceView, situation}
use Rattle.dfu_device.specs.Rows.{request_for_table, asked_length, ReplyAnswer, Elapses, is_served, Handles, Cause, Row}
use Rattle.dfu_device.specs.History.{HistoryStep, IsTableRow, IsHistory}
use Rattle.dfu_device.specs.AcceptedBytes.{accepted_of, accepted_in_state, accepted_after, acknowledged_bytes, AcceptedBytes}

-- In a row the device accepted the body that it acknowledged. Afterwards the accepted bytes are those before the row followed by the body,
-- or none if the row ends outside a download.
pub record RowAcceptedBody (r : Request) (len : ℕ) (w : DeviceView) (a : Answer) (out : List ℕ) (w' : DeviceView) : Type 0 where
  pub reply : Reply
  pub answers : ReplyAnswer len reply a out
  pub taken : accepted_of (situation w') ≡ accepted_after (accepted_of (situation w)) r (record { reply = reply; after = situation w' })

-- If a setup packet has a row in the table, the device accepts the body that it acknowledges.
abbrev pub SetupAcceptsBody : Type 0
SetupAcceptsBody = (p : Setup) (q : Asked) (setup body : List ℕ) (w : DeviceView) (a : Answer) (out : List ℕ) (w' : DeviceView)
    → IsSetup p setup
    → SetupAsksFor p q
    → is_served p q body ≡ true
    → Handles setup body w a out w' → RowAcceptedBody (request_for_table q body) (asked_length q) w a out w'

-- No bytes are accepted when time passes.
abbrev pub TimeAcceptsNothing : Type 0
TimeAcceptsNothing = (ms : ℕ) (w w' : DeviceView) → Elapses ms w w' → RowAcceptedBody OtherRequest 0 w answer.Ack [] w'

-- After a row of any cause the accepted bytes are those before it followed by the acknowledged body, or none if the row ends outside a
-- download.
abbrev pub RowAcceptsBody : Type 0
RowAcceptsBody = (w : DeviceView) (cause : Cause) (a : Answer) (out : List ℕ) (w' : DeviceView) → Row w cause a out w'
    → accepted_of (situation w') ≡ accepted_in_state (state_of w'.stage) (accepted_of (situation w) ++ acknowledged_bytes cause a)

-- If AcceptedBytes holds for a device and its history, it also holds after one more step.
abbrev pub StepAcceptsBody : Type 0
StepAcceptsBody = (h : List HistoryStep) (s : HistoryStep) → AcceptedBytes h (accepted_of (situation s.before)) → IsTableRow s
    → AcceptedBytes (h ++ s ∷ []) (accepted_of (situation s.after))

-- If AcceptedBytes holds for a device and its history, it also holds after any number of additional steps.
abbrev pub HistoryAcceptsBodies : Type 0
HistoryAcceptsBodies = (g h : List HistoryStep) (w w' : DeviceView) → AcceptedBytes g (accepted_of (situation w)) → IsHistory w h w'
    → AcceptedBytes (g ++ h) (accepted_of (situation w'))

-- If a device had accepted nothing at the beginning of a history, AcceptedBytes holds for the device and this history at the end.
abbrev pub StartAcceptsBodies : Type 0
StartAcceptsBodies = (h : List HistoryStep) (w w' : DeviceView) → accepted_of (situation w) ≡ [] → IsHistory w h w'
    → AcceptedBytes h (accepted_of (situation w'))

-- A history determines the accepted bytes.
abbrev pub AcceptedBytesUnique : Type 0
AcceptedBytesUnique = (h : List HistoryStep) (a b : List ℕ) → AcceptedBytes h a → AcceptedBytes h b → a ≡ b
