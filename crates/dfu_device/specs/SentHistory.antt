-- Laws of the sent bytes: a device has sent exactly the pieces of its history.
use Rattle.std.specs.Prelude.{◌≡◌, ℕ, List, [], ◌∷◌, ◌++◌}
use Rattle.dfu_device.specs.declared.answer.Answer.{Answer}
use Rattle.dfu_device.specs.Stage.{state_of}
use Rattle.dfu_device.specs.DeviceView.{DeviceView, situation}
use Rattle.dfu_device.specs.Rows.{Cause, Row}
use Rattle.dfu_device.specs.History.{HistoryStep, IsTableRow, IsHistory}
use Rattle.dfu_device.specs.Sent.{sent_of, sent_in_state, sent_piece, SentBytes}

-- After a row of any cause the sent bytes are those before it followed by the row's piece, or none if the row ends outside an upload.
abbrev pub RowSendsPiece : Type 0
RowSendsPiece = (w : DeviceView) (cause : Cause) (a : Answer) (out : List ℕ) (w' : DeviceView) → Row w cause a out w'
    → sent_of (situation w') ≡ sent_in_state (state_of w'.stage) (sent_of (situation w) ++ sent_piece cause a out)

-- If SentBytes holds for a device and its history, it also holds after one more step.
abbrev pub StepSendsPiece : Type 0
StepSendsPiece = (h : List HistoryStep) (s : HistoryStep) → SentBytes h (sent_of (situation s.before)) → IsTableRow s →
    SentBytes (h ++ s ∷ []) (sent_of (situation s.after))

-- If a device had sent nothing at the beginning of a history, SentBytes holds for the device and this history at the end.
abbrev pub HistorySendsPieces : Type 0
HistorySendsPieces =
    (h : List HistoryStep) (w w' : DeviceView) → sent_of (situation w) ≡ [] → IsHistory w h w' → SentBytes h (sent_of (situation w'))

-- A history determines the sent bytes.
abbrev pub SentBytesUnique : Type 0
SentBytesUnique = (h : List HistoryStep) (a b : List ℕ) → SentBytes h a → SentBytes h b → a ≡ b
