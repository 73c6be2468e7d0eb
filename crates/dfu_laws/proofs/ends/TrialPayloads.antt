-- Proof of `EndsReportedTrialStays`: if an image is on trial after a session between both ends in C, this image is the payload, and each
-- start runs the payload or the confirmed image.
use Rattle.dfu_host_core.specs.Runs.{BegunSessionIsInitialHost, CoreSessionsRefineHosts, NextIsHostAction}
use Rattle.dfu_laws.specs.in_c.Stays.{CoreReportedTrialStays}
use Rattle.dfu_laws.specs.ends.Stays.{EndsReportedTrialStays}
use Rattle.dfu_laws.proofs.ends.Played.{next_event_has_host}

pub ends_reported_trial_stays : BegunSessionIsInitialHost → CoreSessionsRefineHosts → NextIsHostAction → CoreReportedTrialStays →
    EndsReportedTrialStays
ends_reported_trial_stays begin refine tells stays b steps more past back last l l' answer tries t list on p c says are stands came =
    let n = next_event_has_host begin refine tells b steps more past back last l l' answer p c in
    stays b steps more past back last (record { board = l.board; session = n.session })
    (record { board = l'.board; session = n.later }) answer
    tries t list on n.plays n.comes says are stands came
