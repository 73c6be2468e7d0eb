-- Rows to which a whole run of a board corresponds, and facts that each step preserves.
use Rattle.std.specs.Prelude.{◌≡◌, ◌⊎◌, ℕ, List, [], ◌∷◌, ◌++◌, Option, Some, None}
use Rattle.std.proofs.Common.{inl, inr, refl, sym, ap, ◌∙◌, subst}
use Rattle.std.proofs.lemmas.List.{append_assoc, append-nil}
use Rattle.dfu_slots.specs.StoreView.{image_of}
use Rattle.dfu_device.specs.Stage.{state_of}
use Rattle.dfu_device.specs.DeviceView.{DeviceView, situation}
use Rattle.dfu_device.specs.Parts.{stage_of}
use Rattle.dfu_device.specs.declared.device_state.DeviceState.{DeviceState}
use Rattle.dfu_device.specs.declared.device_state.DeviceState.TheVariants as device_state
use Rattle.dfu_device.specs.Rows.{Cause}
use Rattle.dfu_device.specs.History.{IsHistory, HistoryStep as TableRow}
use Rattle.dfu_device.specs.AcceptedBytes.{accepted_of, accepted_in_state}
use Rattle.dfu_device.specs.AcceptedHistory.{RowAcceptsBody}
use Rattle.dfu_laws.specs.board.Board.{Board, state_on, BoardStep}
use Rattle.dfu_laws.specs.board.Happens.{IsRun}
use Rattle.dfu_laws.specs.board.ImageSurvival.{acknowledged_body, accepted_bytes_of, DownloadOfImageClosed}
use Rattle.dfu_laws.specs.board.Refines.{StepRows, RepresentsDevice}
use Rattle.dfu_laws.proofs.board.Cut.{WriteLaws}
use Rattle.dfu_laws.specs.board.Accepts.{IsPending}
use Rattle.dfu_laws.proofs.board.StepRows.{StepMakesRows}
use Rattle.dfu_laws.proofs.board.EachStepRows.{board_step_makes_rows}

state_of_mode_alone : (m : DeviceState) (xs ys xs' ys' : List ℕ) → state_of (stage_of m xs ys) ≡ state_of (stage_of m xs' ys')
state_of_mode_alone m xs ys xs' ys' = by_mode m
  where
    by_mode : (m : DeviceState) → state_of (stage_of m xs ys) ≡ state_of (stage_of m xs' ys')
    by_mode device_state.AppIdle = refl
    by_mode m = refl

-- A board is in the state of the device that it represents.
pub board_state_is_device_state : (b : Board) (due : Option Cause) (d : DeviceView) → RepresentsDevice b due d → state_on b
    ≡ state_of d.stage
board_state_is_device_state b None d k = state_of_mode_alone b.asking.mode [] [] _ _ ∙ ap (λ (x : DeviceView). state_of x.stage) k.device
board_state_is_device_state b (Some cause) d k = state_of_mode_alone b.asking.mode [] [] _ _
    ∙ ap (λ (x : DeviceView). state_of x.stage) k.device

-- The bytes of the download and the images of a device result from the old steps and these steps.
pub record DeviceBytesFromSteps (image : List ℕ) (old steps : List BoardStep) (d : DeviceView) : Type 0 where
  -- The bytes of the download are those that the steps acknowledged.
  pub taken : accepted_bytes_of [] (old ++ steps) ≡ accepted_of (situation d)
  -- A pending image is that of a download that one of the steps closed.
  pub waits : (t : List ℕ) → IsPending d.stage t → DownloadOfImageClosed old steps t
  -- The active image is the given one, or that of a download that one of the steps closed.
  pub whence : (image_of d.slots ≡ image) ⊎ DownloadOfImageClosed old steps (image_of d.slots)

accepted_bytes_append : (t : List ℕ) (xs ys : List BoardStep) → accepted_bytes_of t (xs ++ ys)
    ≡ accepted_bytes_of (accepted_bytes_of t xs) ys
accepted_bytes_append t [] ys = refl
accepted_bytes_append t (x ∷ xs) ys = accepted_bytes_append (accepted_in_state (state_on x.after) (t
    ++ acknowledged_body x.event x.says)) xs ys

closed_download_stays_closed : (old steps : List BoardStep) (s : BoardStep) (t : List ℕ) → DownloadOfImageClosed old steps t
    → DownloadOfImageClosed old (steps ++ s ∷ []) t
closed_download_stays_closed old steps s t c = record {
  first = c.first;
  close = c.close;
  rest = c.rest ++ s ∷ [];
  steps_are = ap (λ (l : List BoardStep). l ++ s ∷ []) c.steps_are ∙ append_assoc c.first (c.close ∷ c.rest) (s ∷ []);
  is = c.is;
  image_is = c.image_is;
}

-- Each step preserves `DeviceBytesFromSteps`.
pub step_keeps_device_bytes : (image : List ℕ) (old steps : List BoardStep) (s : BoardStep) (due : Option Cause) (d : DeviceView)
    → DeviceBytesFromSteps image old steps d
    → (x : StepMakesRows s.after due d s.event s.says) → DeviceBytesFromSteps image old (steps ++ s ∷ []) x.device
step_keeps_device_bytes image old steps s due d k x =
    record {
      taken = ap (λ (l : List BoardStep). accepted_bytes_of [] l) (sym (append_assoc old steps (s ∷ [])))
          ∙ accepted_bytes_append [] (old ++ steps) (s ∷ [])
          ∙ (λ i. accepted_in_state (board_state_is_device_state s.after x.due' x.device x.stands i) (k.taken i
          ++ acknowledged_body s.event s.says))
          ∙ sym x.taken;
      waits = λ t m. elim (x.waits t m) [
        | inl before ↦ closed_download_stays_closed old steps s t (k.waits t before)
        | inr closed ↦
            let c = closed.0 in
            record {
              first = steps;
              close = s;
              rest = [];
              steps_are = refl;
              is = record { setup = c.0; event = c.1; dnload = c.2; says = c.3 };
              image_is = closed.1 ∙ sym k.taken;
            }
      ];
      whence = elim (x.image) [
        | inl same ↦ elim (k.whence) [
          | inl here ↦ inl (same ∙ here)
          | inr closed ↦ inr (subst (λ (t : List ℕ). DownloadOfImageClosed old (steps ++ s ∷ []) t) (sym same)
              (closed_download_stays_closed old steps s (image_of d.slots) closed))
        ]
        | inr waited ↦ inr (closed_download_stays_closed old steps s (image_of x.device.slots) (k.waits (image_of x.device.slots) waited))
      ];
    }

history_append : (w mid w' : DeviceView) (xs ys : List TableRow) → IsHistory w xs mid → IsHistory mid ys w' → IsHistory w (xs ++ ys) w'
history_append w mid w' [] ys h more = subst (λ (x : DeviceView). IsHistory x ys w') h more
history_append w mid w' (x ∷ xs) ys h more = (h.0, h.1, history_append x.after mid w' xs ys h.2 more)

-- Outcome of the remaining steps of a run. `Kept` is a fact about all steps and the device, and each step preserves it.
pub record RunOutcome (Kept : List BoardStep → DeviceView → Type 0) (steps rest : List BoardStep) (b' : Board) (due : Option Cause)
    (d : DeviceView)
    : Type 0 where
  pub rows : List TableRow
  -- Cause of the row that is pending at the end, or None.
  pub due' : Option Cause
  pub device : DeviceView
  pub history : IsHistory d rows device
  -- The rows are those of the remaining steps.
  pub tells : StepRows due rest rows due'
  pub stands : RepresentsDevice b' due' device
  -- The fact `Kept` holds for all steps and the device.
  pub kept : Kept (steps ++ rest) device

-- Each step preserves the fact `Kept`.
abbrev pub EachStepKeeps : (List BoardStep → DeviceView → Type 0) → Type 0
EachStepKeeps Kept = (steps : List BoardStep) (s : BoardStep) (due : Option Cause) (d : DeviceView) → Kept steps d
    → (x : StepMakesRows s.after due d s.event s.says) → Kept (steps ++ s ∷ []) x.device

module _ (laws : WriteLaws) (takes : RowAcceptsBody) (Kept : List BoardStep → DeviceView → Type 0) (keeps : EachStepKeeps Kept) where
  -- A run corresponds to rows of the device that the board represents, and preserves each fact that each step preserves.
  pub run_keeps_and_makes_rows : (steps rest : List BoardStep) (b b' : Board) (due : Option Cause) (d : DeviceView) →
      RepresentsDevice b due d
      → Kept steps d → IsRun b rest b' → RunOutcome Kept steps rest b' due d
  run_keeps_and_makes_rows steps [] b b' due d k kept run = record {
    rows = [];
    due' = due;
    device = d;
    history = refl;
    tells = (refl, refl);
    stands = subst (λ (x : Board). RepresentsDevice x due d) (sym run) k;
    kept = subst (λ (l : List BoardStep). Kept l d) (sym (append-nil steps)) kept;
  }
  run_keeps_and_makes_rows steps (s ∷ rest) b b' due d k kept run =
      let x = board_step_makes_rows laws takes b s.after due d s.event s.says k run.1 run.2 in
      let y = run_keeps_and_makes_rows (steps ++ s ∷ []) rest s.after b' x.due' x.device x.stands (keeps steps s due d kept x) run.3 in
      record {
        rows = x.rows ++ y.rows;
        due' = y.due';
        device = y.device;
        history = history_append d x.device y.device x.rows y.rows x.history y.history;
        tells = (x.rows, y.rows, x.due', refl, x.tells, y.tells);
        stands = y.stands;
        kept = subst (λ (l : List BoardStep). Kept l y.device) (append_assoc steps (s ∷ []) rest) y.kept;
      }
