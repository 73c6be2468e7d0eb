use Rattle.dfu_laws.proofs.in_c.Runs.{core_runs_keep_image, core_image_stays_in_run, core_manifestation_installs, core_power_on_succeeds}
use Rattle.dfu_laws.proofs.laws.core_boards_keep_an_image.Goals as goal

pub returns : goal.returns
returns c = record {
  keeps = core_runs_keep_image c.boards_keep_an_image.ensures.keeps;
  stays = core_image_stays_in_run c.boards_keep_an_image.ensures.stays;
  installs = core_manifestation_installs c.boards_keep_an_image.ensures.installs;
  starts = core_power_on_succeeds (core_runs_keep_image c.boards_keep_an_image.ensures.keeps);
}
