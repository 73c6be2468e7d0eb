-- Proof of `ReportedTrialStays`: if an image is on trial after Installed or Verified, this image is the payload, and each start runs the
-- payload or the confirmed image.
use Rattle.std.specs.Prelude.{ℕ, List}
use Rattle.dfu_slots.specs.Medium.{MediumState}
use Rattle.dfu_slots.specs.Image.{Active}
use Rattle.dfu_boot.specs.trial.Marks.{AreTries}
use Rattle.dfu_boot.specs.trial.Trial.{image_at}
use Rattle.dfu_boot.specs.trial.Calls.{IsStanding}
use Rattle.dfu_boot.specs.trial.Lists.{TrialStep, IsTrialTrace, TrustedImages, Tried, AreTrusted, AllTrusted}
use Rattle.dfu_boot.specs.declared.trial.standing.Trial.{Trial}
use Rattle.dfu_boot.specs.declared.trial.standing.Standing.TheVariants.{OnTrial}
use Rattle.dfu_laws.specs.board.Board.{medium_on}
use Rattle.dfu_laws.specs.link.Plays.{ReportMeansPayloadInPlace}
use Rattle.dfu_laws.specs.link.Stays.{ReportedTrialStays}

-- Clause `tried` of the law `what_was_confirmed_runs_or_the_newest_on_trial`: the two images of a trial are the trusted ones.
abbrev pub TrialIsTrusted : Type 0
TrialIsTrusted = (m : MediumState) (tries : ℕ) (t : Trial) (image : List ℕ) → IsStanding m tries (OnTrial t) → Active m image
    → AreTrusted m tries (Tried (image_at m t.base) image t.starts)

-- Clause `list` of the law `what_was_confirmed_runs_or_the_newest_on_trial`: the images stay trusted through any trial steps.
abbrev pub ListIsTrusted : Type 0
ListIsTrusted = (m : MediumState) (tries : ℕ) (trust : TrustedImages) (steps : List TrialStep) → AreTries m.grain tries
    → AreTrusted m tries trust → IsTrialTrace tries m steps → AllTrusted tries trust m steps

pub reported_trial_stays : TrialIsTrusted → ListIsTrusted → ReportMeansPayloadInPlace → ReportedTrialStays
reported_trial_stays tried list_is installs b steps more past back last l l' answer tries t list on sized plays comes says are stands came =
    let x = installs b steps more past back last l l' answer on sized plays comes says in
    let m = medium_on l'.board in
    record {
      payload = x.payload;
      offered = x.offered;
      runs = list_is m tries (Tried (image_at m t.base) x.payload t.starts) list are (tried m tries t x.payload stands x.active) came;
    }
