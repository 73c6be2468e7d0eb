use Rattle.std.proofs.Common.{rules, inl, inr, [], slice_index}
use Rattle.dfu_output.specs.ShowLines.{functional_line}
use Rattle.dfu_output.specs.Configuration.{dfu_interface, other_interface, short_interface, functional, bad_functional, other, interface_line}
use Rattle.dfu_output.proofs.configuration.add.Goals as goal
use Rattle.dfu_output.proofs.configuration.add.Goals.{then-descriptor-via-then-descriptor, then-descriptor-via-else-descriptor+then-descriptor-ne1, then-not-inside-via-then-not-inside, then-not-inside-via-else-not-inside+then-descriptor-ne-FUNCTIONAL}

pub returns-then-descriptor-lt9 : goal.returns-then-descriptor-lt9
returns-then-descriptor-lt9 c = short_interface (search rules) (search rules)

pub returns-then-descriptor : goal.returns-then-descriptor
returns-then-descriptor c = elim c.then-descriptor.branch [
  | then-descriptor-via-then-descriptor w ↦
      ([], other_interface (search rules) (search rules) (λ u. w.if-descriptor.true u.0), search rules)
  | then-descriptor-via-else-descriptor+then-descriptor-ne1 w ↦
      ([], other_interface (search rules) (search rules) (λ u. w.if-descriptor-ne1.true u.1), search rules)
]

pub returns-then-descriptor-eq-INTERFACE : goal.returns-then-descriptor-eq-INTERFACE
returns-then-descriptor-eq-INTERFACE c = (
  interface_line (slice_index c.args.descriptor.now 2) (slice_index c.args.descriptor.now 3)
      (slice_index c.args.descriptor.now 7) (slice_index c.args.descriptor.now 8),
  dfu_interface (search rules) (search rules) (search rules),
  search rules,
)

pub returns-then-not-inside : goal.returns-then-not-inside
returns-then-not-inside c = elim c.then-not-inside.branch [
  | then-not-inside-via-then-not-inside w ↦ ([], other (search rules) (inl (search rules)), search rules)
  | then-not-inside-via-else-not-inside+then-descriptor-ne-FUNCTIONAL w ↦ ([], other (search rules) (inr (search rules)), search rules)
]

pub returns-in_ok-push-in-Ok : goal.returns-in_ok-push-in-Ok
returns-in_ok-push-in-Ok c = (functional_line c.in-Ok.functional, functional (search rules) (search rules) (search rules), search rules)

pub returns-in-Err : goal.returns-in-Err
returns-in-Err c = bad_functional (search rules) (search rules) (search rules)
