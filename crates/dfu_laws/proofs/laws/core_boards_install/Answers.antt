use Rattle.dfu_laws.proofs.in_c.Played.{core_report_means_in_place, core_upload_is_active_image, core_active_image_is_known, core_active_image_known_within}
use Rattle.dfu_laws.proofs.in_c.TrialMarks.{core_joined_steps_are_run}
use Rattle.dfu_laws.proofs.in_c.TrialPayloads.{core_reported_trial_stays}
use Rattle.dfu_laws.proofs.in_c.ContinuedSessions.{core_plays_continue}
use Rattle.dfu_laws.proofs.laws.core_boards_install.Goals as goal

pub returns : goal.returns
returns c = record {
  in_place = core_report_means_in_place c.boards_install.ensures.in_place;
  stays = core_reported_trial_stays c.what_was_confirmed_runs_or_the_newest_on_trial.ensures.tried
      c.what_was_confirmed_runs_or_the_newest_on_trial.ensures.list (core_report_means_in_place c.boards_install.ensures.in_place);
  known = core_active_image_is_known c.boards_install.ensures.known;
  known_within = core_active_image_known_within c.boards_install.ensures.known_within;
  gives = core_upload_is_active_image c.boards_install.ensures.gives;
  run = λ b steps past back last l p. record { marked = p.run; joined = core_joined_steps_are_run b l.board steps p.run };
  goes_on = core_plays_continue;
}
