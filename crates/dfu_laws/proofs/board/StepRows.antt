-- Rows of the device table to which a step of a board corresponds.
use Rattle.std.specs.Prelude.{◌≡◌, ◌≢◌, ◌⊎◌, ℕ, true, List, [], ◌∷◌, ◌++◌, length, take, drop, Option, Some, None}
use Rattle.std.proofs.Common.{inl, refl, sym, ap, ◌∙◌, subst}
use Rattle.std.proofs.lemmas.List.{append-nil, take_at}
use Rattle.dfu_slots.specs.StoreView.{image_of}
use Rattle.dfu_device.specs.declared.answer.Answer.{Answer}
use Rattle.dfu_device.specs.declared.answer.Answer.TheVariants as answer
use Rattle.dfu_device.specs.Stage.{Stage, InDownloadSync, InDownloadSyncWritten, InDownloadBusy, InDownloadIdle, InManifestSync, InManifestSyncComplete, InManifest, state_of}
use Rattle.dfu_device.specs.DeviceView.{DeviceView, situation}
use Rattle.dfu_device.specs.Rows.{Cause}
use Rattle.dfu_device.specs.History.{IsHistory, HistoryStep as TableRow}
use Rattle.dfu_device.specs.AcceptedBytes.{accepted_in, accepted_of, accepted_in_state, is_dnload}
use Rattle.dfu_asks.specs.declared.pending_writes.PendingWrites.{PendingWrites}
use Rattle.dfu_asks.specs.Lent.{LentDevice}
use Rattle.dfu_asks.specs.Asks.{IsDevice}
use Rattle.dfu_asks.specs.Calls.{CallCompleted}
use Rattle.dfu_laws.specs.board.Board.{Board, lent_on, device_on, Event, Handle, Restart, BoardReply, Answers}
use Rattle.dfu_laws.specs.board.ImageSurvival.{acknowledged_body}
use Rattle.dfu_laws.specs.board.Refines.{CallRows, EventRows, IsIdleBoard, RepresentsDevice}
use Rattle.dfu_laws.specs.board.Accepts.{IsPending}
use Rattle.dfu_laws.proofs.board.Installs.{IsManifestingStage, IsManifestationOver, manifesting_stage_is_not_over}
use Rattle.dfu_laws.proofs.board.SlotCalls.{SlotImagesKeptOrActive}

-- The bytes of an answer are the first bytes of the buffer.
pub answer_at_front_of_buffer : (sent out out' : List ℕ) (count : ℕ) → count ≡ length sent → out' ≡ sent ++ drop count out →
    take count out' ≡ sent
answer_at_front_of_buffer sent out out' count count_is out_is =
    ap (λ (l : List ℕ). take count l) out_is ∙ take_at sent (drop count out) count (sym count_is)

-- The pending writes of a board can't be None and present at once.
pub kept_work_is_not_none : (w : PendingWrites) (x : Option PendingWrites) → x ≡ None → x ≡ Some w → ⊥
kept_work_is_not_none w x none some = absurd (cc)

-- If the pending writes of a board are x and also y, then x and y are equal.
pub kept_work_is_one : (x y : PendingWrites) (z : Option PendingWrites) → z ≡ Some x → z ≡ Some y → x ≡ y
kept_work_is_one x y z a b = cc

-- The bytes of a download are kept in each stage of the download, and there are none in any other stage.
pub accepted_bytes_stay_in_stage : (image : List ℕ) (st : Stage) → accepted_in_state (state_of st) (accepted_in image st)
    ≡ accepted_in image st
accepted_bytes_stay_in_stage image (InDownloadSync before block number) = refl
accepted_bytes_stay_in_stage image (InDownloadSyncWritten taken number) = refl
accepted_bytes_stay_in_stage image (InDownloadBusy before block number passed) = refl
accepted_bytes_stay_in_stage image (InDownloadIdle taken number) = refl
accepted_bytes_stay_in_stage image (InManifestSync taken) = refl
accepted_bytes_stay_in_stage image InManifestSyncComplete = refl
accepted_bytes_stay_in_stage image (InManifest taken passed) = refl
accepted_bytes_stay_in_stage image st = refl

-- The event is a DNLOAD of no bytes that was acknowledged.
abbrev pub IsClosingCall : Event → BoardReply → Type 0
IsClosingCall e says =
    (setup : List ℕ) × (e ≡ Handle setup []) × (is_dnload setup ≡ true) × (says ≡ Answers answer.Ack [])

-- A step of a board corresponds to these rows of the device table. `Tells` states what must hold for the rows, and `body` holds the bytes
-- that the step adds to the download. An image becomes pending only if `Closes` holds. `Puts` is the condition of the field `puts`.
pub record MakesRowsOfDevice (b' : Board) (d : DeviceView) (Tells : List TableRow → Option Cause →
    Type 0) (body : List ℕ) (Closes Puts : Type 0)
    : Type 0 where
  pub rows : List TableRow
  -- Cause of the row that is pending after these rows, or None.
  pub due' : Option Cause
  pub device : DeviceView
  pub history : IsHistory d rows device
  pub tells : Tells rows due'
  pub stands : RepresentsDevice b' due' device
  -- The body is added to the bytes of the download.
  pub taken : accepted_of (situation device) ≡ accepted_in_state (state_of device.stage) (accepted_of (situation d) ++ body)
  -- A pending image was pending before, or the step closed the download of this image.
  pub waits : (t : List ℕ) → IsPending device.stage t → IsPending d.stage t ⊎ (Closes × (t ≡ accepted_of (situation d)))
  -- The image is unchanged, or is the image that was pending.
  pub image : (image_of device.slots ≡ image_of d.slots) ⊎ IsPending d.stage (image_of device.slots)
  -- If `Puts` holds, the image is the bytes of the download at the end of manifestation.
  pub puts : Puts → IsManifestingStage d.stage → IsManifestationOver device.stage → image_of device.slots ≡ accepted_of (situation d)
  -- The medium is unchanged, or no row is pending afterwards and each image in a slot was in a slot before or is active.
  pub slots : (device.slots.medium ≡ d.slots.medium) ⊎ ((due' ≡ None) × SlotImagesKeptOrActive d.slots.medium device.slots.medium)

-- A step of a board corresponds to the rows of its event (`MakesRowsOfDevice`).
abbrev pub StepMakesRows : Board → Option Cause → DeviceView → Event → BoardReply → Type 0
StepMakesRows b' due d e says =
    MakesRowsOfDevice b' d (λ rows due'. EventRows due e says rows due') (acknowledged_body e says) (IsClosingCall e says) (e ≢ Restart
    true)

-- If an event has no row and adds no bytes, and the board still represents the same device, the step of the event has no row.
pub rowless_event_makes_no_row : (b' : Board) (due due' : Option Cause) (d : DeviceView) (e : Event) (says : BoardReply)
    → EventRows due e says [] due' →
    RepresentsDevice b' due' d
    → acknowledged_body e says ≡ [] → StepMakesRows b' due d e says
rowless_event_makes_no_row b' due due' d e says tells stands none = record {
  rows = [];
  due' = due';
  device = d;
  history = refl;
  tells = tells;
  stands = stands;
  taken = sym (ap (λ (l : List ℕ). accepted_in_state (state_of d.stage) l)
      (ap (λ (l : List ℕ). accepted_of (situation d) ++ l) none ∙ append-nil (accepted_of (situation d)))
      ∙ accepted_bytes_stay_in_stage (image_of d.slots) d.stage);
  waits = λ t m. inl m;
  image = inl refl;
  puts = λ other on over. absurd (manifesting_stage_is_not_over d.stage on over);
  slots = inl refl;
}

-- After a completed row, the board represents a device, without pending writes.
pub board_is_idle_after_row : (b' : Board) (flash : List ℕ) (x : Answer) (count : ℕ) (out out' : List ℕ) (R : Answer → List ℕ → Type 0)
    → b'.flash ≡ flash → CallCompleted flash x count out out' (lent_on b') R → IsIdleBoard b' (device_on b')
board_is_idle_after_row b' flash x count out out' R same e = record {
  work = e.work;
  is = subst (λ (f : List ℕ). IsDevice (lent_on b') f) (sym same) e.is;
  device = refl;
}

-- The board answers with the bytes of the row.
pub answered_bytes_of_row : (says : BoardReply) (flash : List ℕ) (x : Answer) (count : ℕ) (out out' : List ℕ) (now : LentDevice)
    (R : Answer → List ℕ → Type 0) (e : CallCompleted flash x count out out' now R) → says ≡ Answers x (take count out')
    → says ≡ Answers x e.gave.sent
answered_bytes_of_row says flash x count out out' now R e is =
    is ∙ ap (λ (l : List ℕ). Answers x l) (answer_at_front_of_buffer e.gave.sent out out' count e.gave.count_is e.gave.out_is)

-- List with the one row of an answer.
abbrev pub row_of_answer : DeviceView → Cause → Answer → List ℕ → DeviceView → List TableRow
row_of_answer d cause x sent d' = record { before = d; cause = cause; answer = x; out = sent; after = d' } ∷ []

-- An answered call has one row, with its answer.
pub answer_tells_one_row : (due : Option Cause) (d : DeviceView) (cause : Cause) (x : Answer) (sent : List ℕ) (d' : DeviceView) (says :
    BoardReply)
    → says ≡ Answers x sent → CallRows cause due says (row_of_answer d cause x sent d') None
answer_tells_one_row due d cause x sent d' says is = subst (λ (y : BoardReply). CallRows cause due y (row_of_answer d cause x sent d')
    None) (sym is) (
      record {
        row = record { before = d; cause = cause; answer = x; out = sent; after = d' };
        rows_are = refl;
        cause_is = refl;
        answer_is = refl;
        out_is = refl;
      },
      refl,
    )
