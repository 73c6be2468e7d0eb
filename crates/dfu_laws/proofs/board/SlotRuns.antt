-- Images in the slots of a board's flash during whole runs.
use Rattle.std.specs.Prelude.{◌≡◌, ◌⊎◌, ℕ, List, [], ◌∷◌, Option, Some, None}
use Rattle.std.proofs.Common.{inl, inr, refl, sym, ap, subst}
use Rattle.dfu_slots.specs.Medium.{MediumState}
use Rattle.dfu_slots.specs.Image.{Active}
use Rattle.dfu_device.specs.DeviceView.{DeviceView}
use Rattle.dfu_device.specs.Rows.{Cause}
use Rattle.dfu_device.specs.AcceptedHistory.{RowAcceptsBody}
use Rattle.dfu_laws.specs.board.Board.{Board, medium_on, BoardStep}
use Rattle.dfu_laws.specs.board.Happens.{IsRun}
use Rattle.dfu_laws.specs.board.Refines.{IsIdleBoard, RepresentsDevice}
use Rattle.dfu_laws.specs.board.Slots.{IsInSlot, WasActiveMeanwhile, IdleRunsKeepSlots}
use Rattle.dfu_laws.proofs.board.Cut.{WriteLaws}
use Rattle.dfu_laws.proofs.board.StepRows.{kept_work_is_not_none, StepMakesRows}
use Rattle.dfu_laws.proofs.board.EachStepRows.{board_step_makes_rows}

-- P holds for each image that is active after some of the steps.
abbrev AllActiveAlong : (P : List ℕ → Type 0) → Board → List BoardStep → Type 0
AllActiveAlong P b steps = (image : List ℕ) → WasActiveMeanwhile b steps image → P image

-- P holds for each image in a slot.
abbrev AllInSlots : (P : List ℕ → Type 0) → MediumState → Type 0
AllInSlots P m = (image : List ℕ) → IsInSlot m image → P image

-- A board without pending writes has the medium of its device.
idle_board_medium : (b : Board) (due : Option Cause) (d : DeviceView) → RepresentsDevice b due d → due ≡ None → medium_on b ≡ d.slots.medium
idle_board_medium b due d k none =
    let idle : IsIdleBoard b d = subst (λ (x : Option Cause). RepresentsDevice b x d) none k in ap
    (λ (x : DeviceView). x.slots.medium) idle.device

no_work_no_row_due : (b : Board) (due : Option Cause) (d : DeviceView) → RepresentsDevice b due d → b.asking.work ≡ None → due ≡ None
no_work_no_row_due b None d k none = refl
no_work_no_row_due b (Some cause) d k none = absurd (kept_work_is_not_none k.asks.work b.asking.work none k.asks.work_is)

module _ (laws : WriteLaws) (takes : RowAcceptsBody) (P : List ℕ → Type 0) where
  step_keeps_slot_images : (b b' : Board) (due : Option Cause) (d : DeviceView) (s : BoardStep) (x : StepMakesRows b' due d s.event s.says)
      → AllInSlots P d.slots.medium → ((image : List ℕ) → Active (medium_on b') image → P image) → AllInSlots P x.device.slots.medium
  step_keeps_slot_images b b' due d s x known active = elim (x.slots) [
    | inl same ↦ subst (λ (m : MediumState). AllInSlots P m) (sym same) known
    | inr over ↦ λ image there. elim (over.1 image there) [
      | inl before ↦ known image before
      | inr now ↦ active image (subst (λ (m : MediumState). Active m image)
          (sym (idle_board_medium b' x.due' x.device x.stands over.0)) now)
    ]
  ]

  run_keeps_slot_images : (b b' : Board) (due : Option Cause) (d : DeviceView) (steps : List BoardStep) → RepresentsDevice b due d
      → AllInSlots P d.slots.medium → AllActiveAlong P b steps → IsRun b steps b' → b'.asking.work ≡ None → AllInSlots P (medium_on b')
  run_keeps_slot_images b b' due d [] k known along run none =
      let stands = subst (λ (x : Board). RepresentsDevice x due d) (sym run) k in
      subst (λ (m : MediumState). AllInSlots P m) (sym (idle_board_medium b' due d stands (no_work_no_row_due b' due d stands none))) known
  run_keeps_slot_images b b' due d (s ∷ rest) k known along run none =
      let x = board_step_makes_rows laws takes b s.after due d s.event s.says k run.1 run.2 in
      run_keeps_slot_images s.after b' x.due' x.device rest x.stands
      (step_keeps_slot_images b s.after due d s x known
      (λ image active. along image (record {
        front = s ∷ [];
        rest = rest;
        mid = s.after;
        steps_are = refl;
        run = (run.0, run.1, run.2, refl);
        active = active;
      })))
      (λ image was. along image (record {
        front = s ∷ was.front;
        rest = was.rest;
        mid = was.mid;
        steps_are = ap (λ (l : List BoardStep). s ∷ l) was.steps_are;
        run = (run.0, run.1, run.2, was.run);
        active = was.active;
      }))
      run.3 none

pub idle_runs_keep_slots : WriteLaws → RowAcceptsBody → IdleRunsKeepSlots
idle_runs_keep_slots laws takes b b' d steps image k run none there =
    run_keeps_slot_images laws takes (λ i. IsInSlot (medium_on b) i ⊎ WasActiveMeanwhile b steps i) b b' None d steps k
    (λ i x. inl (subst (λ (m : MediumState). IsInSlot m i) (ap (λ (z : DeviceView). z.slots.medium) (sym k.device)) x))
    (λ i was. inr was) run none image there
