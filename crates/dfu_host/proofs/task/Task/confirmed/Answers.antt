use Rattle.std.proofs.Common.{◌∙◌}
use Rattle.dfu_host.proofs.Steps.{unconfirmed_status_is_trouble}
use Rattle.dfu_host.proofs.task.Task.confirmed.Goals as goal
use Rattle.dfu_host.proofs.task.Task.confirmed.Goals.{in_default-via-in-DfuIdle+in_default, in_default-via-in_default}

pub returns-in_default-clause-next : goal.returns-in_default-clause-next
returns-in_default-clause-next c =
    λ memory. c.troubled.ensures.next memory
    ∙ rw (← c.state.ensures, ← c.code.ensures) (elim c.in_default.branch [
      | in_default-via-in-DfuIdle+in_default w ↦
          unconfirmed_status_is_trouble _ _ _ _ (λ idle ok. w.in_default.not-Ok-1 ok) w.in_default.not-ManifestSync-0
          w.in_default.not-Manifest-0
      | in_default-via-in_default w ↦
          unconfirmed_status_is_trouble _ _ _ _ (λ idle ok. w.in_default.not-DfuIdle-0 idle) w.in_default.not-ManifestSync-0
          w.in_default.not-Manifest-0
    ])
