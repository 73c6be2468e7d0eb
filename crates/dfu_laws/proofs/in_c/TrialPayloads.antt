-- Proof of `CoreReportedTrialStays`: if an image is on trial after a session with a board in C, this image is the payload, and each start
-- runs the payload or the confirmed image.
use Rattle.dfu_boot.specs.trial.Trial.{image_at}
use Rattle.dfu_boot.specs.trial.Lists.{Tried}
use Rattle.dfu_core.specs.Board.{medium_of_core}
use Rattle.dfu_laws.specs.in_c.Plays.{CoreReportMeansInPlace}
use Rattle.dfu_laws.specs.in_c.Stays.{CoreReportedTrialStays}
use Rattle.dfu_laws.proofs.link.TrialPayloads.{TrialIsTrusted, ListIsTrusted}

pub core_reported_trial_stays : TrialIsTrusted → ListIsTrusted → CoreReportMeansInPlace → CoreReportedTrialStays
core_reported_trial_stays tried list_is installs b steps more past back last l l' answer tries t list on plays comes says are stands came =
    let x = installs b steps more past back last l l' answer on plays comes says in
    let m = medium_of_core l'.board in
    record {
      payload = x.payload;
      offered = x.offered;
      runs = list_is m tries (Tried (image_at m t.base) x.payload t.starts) list are (tried m tries t x.payload stands x.active) came;
    }
