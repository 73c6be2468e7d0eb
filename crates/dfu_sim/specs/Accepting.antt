-- Images of a link whose device has a program that checks each of them.
use Rattle.std.specs.Prelude.{◌≡◌, ◌⊎◌, ℕ, Bool, true, List, [], ◌∷◌, Option, Result}
use Rattle.dfu_slots.specs.Image.{Active}
use Rattle.dfu_slots.specs.StoreView.{image_of}
use Rattle.dfu_host.specs.declared.report.Report.{Report}
use Rattle.dfu_sim.specs.declared.fault.LinkFault.{LinkFault}
use Rattle.dfu_sim.specs.Happening.{Happening, Goes, Passes}
use Rattle.dfu_sim.specs.LinkView.{WorldView}
use Rattle.dfu_sim.specs.EventResults.{WorldEventResult}
use Rattle.dfu_sim.specs.Headline.{SessionBeginning, WasOffered, IsWaiting, HeadlineStatement}

-- The event may put a waiting image in place, because it is an action of the host or time that passes.
abbrev pub MayPlaceImage : Happening → Type 0
MayPlaceImage (Goes fate harm) = Unit {0}
MayPlaceImage (Passes ms) = Unit {0}
MayPlaceImage h = ⊥

-- Step of a link: an event, the result that its caller got, and the link after it.
pub record LinkStep : Type 0 where
  pub happening : Happening
  pub told : Result (Option Report) LinkFault
  pub after : WorldView

-- Each step is the result of its event on the link that the previous step left.
abbrev pub LinkStepsPlayed : WorldView → List LinkStep → WorldView → Type 0
LinkStepsPlayed w [] w' = w' ≡ w
LinkStepsPlayed w (s ∷ rest) w' = WorldEventResult w s.happening s.after s.told × LinkStepsPlayed s.after rest w'

-- The program enforces the check at a step: if the step may put a waiting image in place, the check accepts that image, or the image still
-- waits after the step.
abbrev pub HeedsCheckAtStep : (check : List ℕ → Bool) → WorldView → LinkStep → Type 0
HeedsCheckAtStep check w s = MayPlaceImage s.happening → (t : List ℕ) → IsWaiting w.bench.device.stage t
    → (check t ≡ true) ⊎ IsWaiting s.after.bench.device.stage t

-- The program enforces the check at each step. It may refuse an image that fails the check either in the request that closes the download
-- or later, but before an action of the host or passing time could put the image in place.
abbrev pub HeedsCheckAtSteps : (check : List ℕ → Bool) → WorldView → List LinkStep → Type 0
HeedsCheckAtSteps check w [] = Unit {0}
HeedsCheckAtSteps check w (s ∷ rest) = HeedsCheckAtStep check w s × HeedsCheckAtSteps check s.after rest

-- Image that the device of a link shows.
abbrev pub image_of_world : WorldView → List ℕ
image_of_world w = image_of w.bench.device.slots

-- For any check that the program enforces, the image after any steps is unchanged, or the check accepts it.
abbrev pub LinkImagesAccepted : Type 0
LinkImagesAccepted = (check : List ℕ → Bool) (w w' : WorldView) (steps : List LinkStep) → LinkStepsPlayed w steps w' → HeedsCheckAtSteps check w steps
    → (image_of_world w' ≡ image_of_world w) ⊎ (check (image_of_world w') ≡ true)

-- If the factory image is active before the steps, the program enforces the check at each, and the headline holds after them, then the
-- active image is the factory image, or the whole payload of an offer that the check accepts.
abbrev pub OfferedImagesAccepted : Type 0
OfferedImagesAccepted = (check : List ℕ → Bool) (w w' : WorldView) (steps : List LinkStep) (factory image : List ℕ) (past : List
    SessionBeginning)
    (report : Option Report) → Active w.bench.device.slots.medium factory → LinkStepsPlayed w steps w' → HeedsCheckAtSteps check w steps
    → HeadlineStatement factory past report w'.bench → Active w'.bench.device.slots.medium image
    → (image ≡ factory) ⊎ (WasOffered past image × (check image ≡ true))
