use Rattle.std.proofs.Common.{arith, rules, ap, ◌∙◌, ◌++◌, ℕ}
use Rattle.dfu_fs.specs.Changing.{with_check_sum, suffix_fields}
use Rattle.dfu_fs.proofs.ChangeLaws.{rewritten_file_is_changed, fault_refuses_change}
use Rattle.dfu_fs.proofs.changing.with_ids.Goals as goal

pub returns-in-Err : goal.returns-in-Err
returns-in-Err c =
    fault_refuses_change c.args.change.now c.args.bytes.now c.in-Err.fault ((c.read.ensures.fault c.in-Err.fault).0 c.in-Err.is)

pub returns-in-Ok-rewritten_file : goal.returns-in-Ok-rewritten_file
returns-in-Ok-rewritten_file c =
    let found = c.in-Ok.ensures.found in
    rewritten_file_is_changed c.args.change.now c.in-Ok.file.payload found.0 c.args.bytes.now c.in-Ok-rewritten_file.text.items
    c.front_of.result.now c.in-Ok.file.ids c.new_ids-ids.result c.in-Ok.file.dfu c.in-Ok.file.suffix
    found.1 found.2 c.front_of.ensures (search rules) (omega arith) (omega arith) (omega arith)
    (c.in-Ok-rewritten_file.ensures
    ∙ (ap (λ (d : ℕ). with_check_sum (c.front_of.result.now ++ suffix_fields c.new_ids-ids.result d c.suffix.result)) c.dfu.ensures.value
    ∙ ap (λ (s : ℕ). with_check_sum (c.front_of.result.now ++ suffix_fields c.new_ids-ids.result c.in-Ok.file.dfu s))
    c.suffix.ensures.value))
