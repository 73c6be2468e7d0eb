-- If a program checks each image, the active image of its board, or of the board's device, is the first one, or one that passes the check.
use Rattle.std.specs.Prelude.{◌≡◌, ◌⊎◌, ℕ, Bool, true, List, [], ◌∷◌}
use Rattle.std.proofs.Common.{inl, inr, ap, ◌∙◌}
use Rattle.dfu_laws.specs.board.Board.{BoardStep}
use Rattle.dfu_laws.specs.board.ImageSurvival.{DownloadOfImageClosed, RunsKeepImage}
use Rattle.dfu_slots.specs.StoreView.{image_of}
use Rattle.dfu_device.specs.DeviceView.{DeviceView}
use Rattle.dfu_device.specs.History.{IsTableRow, HistoryStep as TableRow}
use Rattle.dfu_laws.specs.board.Accepts.{ClosesPassCheck, RunKeepsAcceptedImage, RowPassesCheck, HistoryKeepsAcceptedImage}
use Rattle.dfu_laws.proofs.board.Closing.{row_has_image_outcome}

-- The image of a closed download passes the check.
closed_image_passes_check : (check : List ℕ → Bool) (old steps : List BoardStep) (image : List ℕ) → ClosesPassCheck check old steps
    → DownloadOfImageClosed old steps image
    → check image ≡ true
closed_image_passes_check check old steps image heeds c = ap check c.image_is ∙ heeds c.first c.close c.rest c.steps_are c.is

-- If each download that a run closes passes the check, the active image after the run is the first one, or one that passes the check.
pub run_image_passes_check : RunsKeepImage → RunKeepsAcceptedImage
run_image_passes_check keeps check b b' steps image on active run heeds =
    let kept = keeps b b' steps image on active run in
    record {
      now = kept.now;
      active = kept.active;
      whence = elim (kept.whence) [
        | inl same ↦ inl same
        | inr closed ↦ inr (closed, closed_image_passes_check check [] steps kept.now heeds closed)
      ];
    }

-- If a row passes the check, the image after the row is unchanged, or passes the check.
row_image_passes_check : (check : List ℕ → Bool) (s : TableRow) → IsTableRow s → RowPassesCheck check s
    → (image_of s.after.slots ≡ image_of s.before.slots) ⊎ (check (image_of s.after.slots) ≡ true)
row_image_passes_check check s row heeds =
    let leads = row_has_image_outcome s.before s.cause s.answer s.out s.after row in
    elim leads.image [
      | inl same ↦ inl same
      | inr waits ↦ elim (heeds (image_of s.after.slots) waits) [
        | inl accepted ↦ inr accepted
        | inr other ↦ elim leads.placed [
          | inl same ↦ inl same
          | inr placed ↦ elim other [
            | inl on ↦ absurd (placed.0 (image_of s.after.slots) on)
            | inr given ↦ absurd (placed.1 given)
          ]
        ]
      ]
    ]

-- If each row of a history passes the check, the image at the end of the history is the first one, or one that passes the check.
pub history_image_passes_check : HistoryKeepsAcceptedImage
history_image_passes_check check [] w w' same heeds = inl (ap (λ (x : DeviceView). image_of x.slots) same)
history_image_passes_check check (s ∷ rest) w w' (begins, row, more) heeds = elim (history_image_passes_check check rest s.after w' more
    heeds.1) [
      | inr accepted ↦ inr accepted
      | inl same ↦ elim (row_image_passes_check check s row heeds.0) [
        | inl before ↦ inl (same ∙ before ∙ ap (λ (x : DeviceView). image_of x.slots) begins)
        | inr accepted ↦ inr (ap check same ∙ accepted)
      ]
    ]
