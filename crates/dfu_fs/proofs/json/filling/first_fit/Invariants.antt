use Rattle.std.specs.Prelude.{◌≡◌, drop}
use Rattle.dfu_fs.specs.Objects.{members_of_first_form}
use Rattle.dfu_fs.proofs.json.filling.first_fit.Given as goal

abbrev pub invariant-loop-form : goal.invariant-loop-form
invariant-loop-form l = members_of_first_form (drop l.form-index l.forms) l.line ≡ members_of_first_form l.forms l.line
