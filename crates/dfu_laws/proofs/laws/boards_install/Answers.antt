use Rattle.dfu_laws.proofs.link.TrialRuns.{plays_are_runs}
use Rattle.dfu_laws.proofs.link.Premises.{link_laws}
use Rattle.dfu_laws.proofs.link.SessionLaws.{report_means_payload_in_place, upload_is_active_image, active_image_is_known, active_image_is_known_within}
use Rattle.dfu_laws.proofs.link.TrialPayloads.{reported_trial_stays}
use Rattle.dfu_laws.proofs.laws.boards_install.Goals as goal

pub returns : goal.returns
returns c =
    let laws = link_laws c.boards_are_devices.ensures.idle c.boards_are_devices.ensures.slots c.simulation.ensures c.only_offered.ensures
    c.active_image_is_one.ensures.shown c.active_image_is_one.ensures.only
    (record { stays = c.image_stays.ensures; writes = c.writes_the_first_slot.ensures; knows = c.first_slot_is_known.ensures }) in
    let trials = c.what_was_confirmed_runs_or_the_newest_on_trial.ensures in
    record {
      in_place = report_means_payload_in_place laws;
      stays = reported_trial_stays trials.tried trials.list (report_means_payload_in_place laws);
      known = active_image_is_known laws;
      known_within = active_image_is_known_within laws;
      gives = upload_is_active_image laws;
      run = plays_are_runs;
    }
