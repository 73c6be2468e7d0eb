-- Laws of sessions with a board in C.
use Rattle.std.specs.Prelude.{◌≡◌, ◌⊎◌, ◌<◌, ℕ, List, [], ◌∷◌, ◌++◌, Option, pos}
use Rattle.std.proofs.Common.{refl, sym, ap, ◌∙◌, subst, arith}
use Rattle.dfu_slots.specs.Medium.{MediumState}
use Rattle.dfu_slots.specs.Image.{Active}
use Rattle.dfu_device.specs.Setting.{Setting}
use Rattle.dfu_asks.specs.declared.asking.Asking.{Asking}
use Rattle.dfu_sim.specs.Play.{Answered}
use Rattle.dfu_sim.specs.Session.{IsOneOf}
use Rattle.dfu_laws.specs.board.Board.{Board, BoardStep, medium_on}
use Rattle.dfu_laws.specs.board.Happens.{IsPoweredOn, IsRun}
use Rattle.dfu_laws.specs.link.LinkSteps.{BoardLink, BoardLinkStep}
use Rattle.dfu_laws.specs.link.Plays.{ReportMeansPayloadInPlace, UploadIsActiveImage, ActiveImageIsKnown, ActiveImageIsKnownWithin}
use Rattle.dfu_laws.proofs.link.LastingFacts.{WasThereAtFirst}
use Rattle.dfu_laws.proofs.link.TrialRuns.{link_step_is_run_or_mark, first_steps_are_run}
use Rattle.dfu_core.specs.Board.{CoreBoard, medium_of_core}
use Rattle.dfu_laws.specs.in_c.Steps.{CoreStep, IsCoreRun, board_of_core, IsBoardOfCore, AreBoardStepsOf}
use Rattle.dfu_core.specs.Happens.{IsCorePoweredOn}
use Rattle.dfu_laws.specs.in_c.Plays.{CoreLink, IsLinkOf, CorePlays, CoreLinkStep, CoreReportMeansInPlace, CoreUploadIsActiveImage, CoreActiveImageIsKnown, CoreActiveImageKnownWithin}
use Rattle.dfu_laws.proofs.in_c.RecordDevices.{record_is_one_device}
use Rattle.dfu_laws.proofs.in_c.StepsInC.{power_outcome_starts_board}
use Rattle.dfu_laws.proofs.in_c.Runs.{core_flash_is_board_flash}

-- A board in C represents at most one board.
pub core_board_is_one_board : (b : CoreBoard) (x y : Board) → IsBoardOfCore b x → IsBoardOfCore b y → x ≡ y
core_board_is_one_board b x y h k =
    h.is ∙ ap (λ (a : Asking). board_of_core b a) (record_is_one_device b.config b.kept x.asking y.asking h.kept k.kept) ∙ sym k.is

-- A link to a board in C represents at most one link.
core_link_is_one_link : (l : CoreLink) (x y : BoardLink) → IsLinkOf l x → IsLinkOf l y → x ≡ y
core_link_is_one_link l x y h k = λ i. record {
  board = core_board_is_one_board l.board x.board y.board h.board k.board i;
  session = (h.session ∙ sym k.session) i;
}

-- The board was just powered on, and its transfer size is at least 1.
record IsOnWithTransferSize (x : Board) : Type 0 where
  on : IsPoweredOn x
  sized : 0 < x.asking.config.functional.transfer

core_on_is_board_on : (b : CoreBoard) (x : Board) → IsCorePoweredOn b → IsBoardOfCore b x → IsOnWithTransferSize x
core_on_is_board_on b x on is =
    let start = power_outcome_starts_board b (pos 0) on.begins on.powers in
    let same : board_of_core b on.powers.after
    ≡ x = core_board_is_one_board b (board_of_core b on.powers.after) x (record { kept = start.0.kept; is = refl }) is in
    let config = ap (λ (s : Setting). s.functional.transfer) is.kept.set_up.config_is in
    record { on = subst IsPoweredOn same start.1.0; sized = omega (arith, config, on.powers.config.allowed.transfer.some) }

-- If an image is active on the board, it is active on the flash in C.
pub board_image_active_in_core : (b : CoreBoard) (x : Board) (image : List ℕ) → IsBoardOfCore b x → Active (medium_on x) image →
    Active (medium_of_core b) image
board_image_active_in_core b x image is active = subst (λ (m : MediumState). Active m image) (core_flash_is_board_flash b x is) active

-- If an image was on the board's flash at first, or was offered, the same holds for the flash in C.
board_image_known_in_core : (b : CoreBoard) (x : Board) (image : List ℕ) (past back : List (List ℕ)) (now : List ℕ) → IsBoardOfCore b x
    → WasThereAtFirst (medium_on x) image back now ⊎ IsOneOf now past
    → WasThereAtFirst (medium_of_core b) image back now ⊎ IsOneOf now past
board_image_known_in_core b x image past back now is known =
    subst (λ (m : MediumState). WasThereAtFirst m image back now ⊎ IsOneOf now past) (core_flash_is_board_flash b x is) known

-- The next event in C is an event of the board that the board in C represents.
pub event_comes_to_board : (b : CoreBoard) (steps more : List CoreStep) (past back : List (List ℕ)) (last : Option (List ℕ))
    (l l' : CoreLink)
    (answer : Answered) → (p : CorePlays b steps past back last l) → (c : CoreLinkStep l more answer l')
    → BoardLinkStep p.link c.calls answer c.after
event_comes_to_board b steps more past back last l l' answer p c =
    subst (λ (x : BoardLink). BoardLinkStep x c.calls answer c.after) (core_link_is_one_link l c.before p.link c.is_before p.is_link)
    c.comes

-- If the host reports Installed or Verified, the payload of the last session is the active image, and the board in C is in appIDLE.
pub core_report_means_in_place : ReportMeansPayloadInPlace → CoreReportMeansInPlace
core_report_means_in_place installs b steps more past back last l l' answer on p c says =
    let start = core_on_is_board_on b p.first on p.is_first in
    let x = installs p.first p.calls c.calls past back last p.link c.after answer start.on start.sized p.plays
    (event_comes_to_board b steps more past back last l l' answer p c) says in
    let is = c.is_after.board in
    record {
      payload = x.payload;
      offered = x.offered;
      active = board_image_active_in_core l'.board c.after.board x.payload is x.active;
      state = record { mode = c.after.board.asking.mode; has_mode = is.kept.mode; state_is = x.state };
    }

-- The bytes of the report Uploaded are the active image.
pub core_upload_is_active_image : UploadIsActiveImage → CoreUploadIsActiveImage
core_upload_is_active_image gives b steps more past back last l l' answer bytes on p c e =
    let start = core_on_is_board_on b p.first on p.is_first in
    board_image_active_in_core l'.board c.after.board bytes c.is_after.board
    (gives p.first p.calls c.calls past back last p.link c.after answer bytes start.on start.sized p.plays
    (event_comes_to_board b steps more past back last l l' answer p c) e)

-- The active image is the first one, was offered, or was in a slot at first and active after the end of a trial.
pub core_active_image_is_known : ActiveImageIsKnown → CoreActiveImageIsKnown
core_active_image_is_known knows b steps past back last l image on active p =
    let start = core_on_is_board_on b p.first on p.is_first in
    let first = subst (λ (m : MediumState). Active m image) (sym (core_flash_is_board_flash b p.first p.is_first)) active in
    let x = knows p.first p.calls past back last p.link image start.on start.sized first p.plays in
    record {
      now = x.now;
      active = board_image_active_in_core l.board p.link.board x.now p.is_link.board x.active;
      known = board_image_known_in_core b p.first image past back x.now p.is_first x.known;
    }

-- The first steps in C correspond to the first steps of the board.
record FirstStepsOf (front : List CoreStep) (ts : List BoardStep) : Type 0 where
  first : List BoardStep
  later : List BoardStep
  are : ts ≡ first ++ later
  steps : AreBoardStepsOf front first

first_c_steps_are_board_steps : (front rest : List CoreStep) (ts : List BoardStep) → AreBoardStepsOf (front ++ rest) ts
    → FirstStepsOf front ts
first_c_steps_are_board_steps [] rest ts are = record { first = []; later = ts; are = refl; steps = tt }
first_c_steps_are_board_steps (s ∷ front) rest (t ∷ ts) are =
    let more = first_c_steps_are_board_steps front rest ts are.1 in
    record {
      first = t ∷ more.first;
      later = more.later;
      are = ap (λ (l : List BoardStep). t ∷ l) more.are;
      steps = (are.0, more.steps);
    }
first_c_steps_are_board_steps (s ∷ front) rest [] are = absurd are

-- If a board in C represents a board, the board in C after some steps represents the board after the same steps.
core_steps_lead_to_board : (steps : List CoreStep) (ts : List BoardStep) (b mid : CoreBoard) (x y : Board) → IsBoardOfCore b x →
    AreBoardStepsOf steps ts
    → IsCoreRun b steps mid → IsRun x ts y → IsBoardOfCore mid y
core_steps_lead_to_board [] [] b mid x y is are run same = subst (λ (z : Board). IsBoardOfCore mid z) (sym same) (subst (λ (z : CoreBoard).
    IsBoardOfCore z x) (sym run) is)
core_steps_lead_to_board (s ∷ steps) (t ∷ ts) b mid x y is are run same = core_steps_lead_to_board steps ts s.after mid t.after y
    are.0.after are.1 run.2 same.3
core_steps_lead_to_board [] (t ∷ ts) b mid x y is are run same = absurd are
core_steps_lead_to_board (s ∷ steps) [] b mid x y is are run same = absurd are

-- After each step of the next event, the active image is one that `HasKnownCoreImage` allows.
pub core_active_image_known_within : ActiveImageIsKnownWithin → CoreActiveImageKnownWithin
core_active_image_known_within knows b mid steps front rest past back last l l' answer image on active p c run =
    let start = core_on_is_board_on b p.first on p.is_first in
    let first = subst (λ (m : MediumState). Active m image) (sym (core_flash_is_board_flash b p.first p.is_first)) active in
    let f = first_c_steps_are_board_steps front rest c.calls c.are in
    let comes = subst (λ (ts : List BoardStep). BoardLinkStep p.link ts answer c.after) f.are
    (event_comes_to_board b steps (front ++ rest) past back last l l' answer p c) in
    let part = first_steps_are_run p.link.board c.after.board f.first f.later
    (link_step_is_run_or_mark p.link c.after (f.first ++ f.later) answer comes) in
    let x = knows p.first part.mid p.calls f.first f.later past back last p.link c.after answer image start.on start.sized first p.plays
    comes
    part.run in
    let at = core_steps_lead_to_board front f.first l.board mid p.link.board part.mid p.is_link.board f.steps run part.run in
    record {
      now = x.now;
      active = board_image_active_in_core mid part.mid x.now at x.active;
      known = board_image_known_in_core b p.first image past back x.now p.is_first x.known;
    }
