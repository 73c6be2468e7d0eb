use Rattle.dfu_laws.proofs.ends.Played.{sessions_of_ends_have_hosts, ends_report_means_in_place, ends_upload_is_active_image, ends_active_image_is_known, ends_active_image_known_within, ends_sessions_go_on}
use Rattle.dfu_laws.proofs.ends.TrialPayloads.{ends_reported_trial_stays}
use Rattle.dfu_laws.proofs.hosts.core_ends_install.Goals as goal

pub returns : goal.returns
returns c =
    let begin = c.core_hosts_are_hosts.ensures.begins in
    let refine = c.core_hosts_are_hosts.ensures.refines in
    let tells = c.core_hosts_are_hosts.ensures.tells in
    record {
      in_place = ends_report_means_in_place begin refine tells c.core_boards_install.ensures.in_place;
      stays = ends_reported_trial_stays begin refine tells c.core_boards_install.ensures.stays;
      known = ends_active_image_is_known begin refine tells c.core_boards_install.ensures.known;
      known_within = ends_active_image_known_within begin refine tells c.core_boards_install.ensures.known_within;
      gives = ends_upload_is_active_image begin refine tells c.core_boards_install.ensures.gives;
      are = sessions_of_ends_have_hosts begin refine tells;
      goes_on = ends_sessions_go_on;
    }
