use Rattle.std.proofs.Common.{◌∙◌}
use Rattle.dfu_host.proofs.Steps.{trouble_follows_device_state}
use Rattle.dfu_host.proofs.task.Task.troubled.Goals as goal

pub returns-in_default : goal.returns-in_default
returns-in_default c = record {
  next =
      λ memory. c.listed-in_default.ensures.next memory
      ∙ rw (← c.state.ensures) (trouble_follows_device_state _ _ _ c.state.result c.in_default.not-Error);
  within = c.listed-in_default.ensures.within;
}
