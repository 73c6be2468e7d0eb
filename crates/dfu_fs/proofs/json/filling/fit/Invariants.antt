use Rattle.std.specs.Prelude.{◌≡◌, [], drop}
use Rattle.dfu_fs.specs.Objects.{members_by_form}
use Rattle.dfu_fs.proofs.json.filling.fit.Given as goal

abbrev pub invariant-loop-part : goal.invariant-loop-part
invariant-loop-part l = members_by_form (drop l.part-index l.form) l.out.items l.rest ≡ members_by_form l.form [] l.line
