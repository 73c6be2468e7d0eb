use Rattle.std.proofs.Common.{sym, subst, refl}
use Rattle.std.proofs.lemmas.Result.{err_from_is_err_and}
use Rattle.dfu_suffix.proofs.ReadLaws.{each_value_gives_if_some}
use Rattle.dfu_link.specs.LineContent.{given_bytes}
use Rattle.dfu_link.specs.Falls.{ScriptFails, no_memory}
use Rattle.dfu_link.specs.declared.scripting.fault.ScriptFault.{ScriptFault}
use Rattle.dfu_link.proofs.WholeLaws.{configure_fault_fails_script, start_fault_fails_script, script_ends_after_start}
use Rattle.dfu_link.proofs.scripting.run_script.run_lines.Goals as goal

pub returns-in_err-source : goal.returns-in_err-source
returns-in_err-source g c =
    let failed = err_from_is_err_and c.from_residual.result c.from_residual.ensures.1 in
    let old = g.W.Write.contents c.args.writer.now in
    rw (failed.1, failed.2) (each_value_gives_if_some (g.R.Read.remaining c.args.reader)
    (λ text. ScriptFails (given_bytes c.args.given) text old old c.in_err-source.field-0.0)
    (λ text e. subst (λ (f : ScriptFault). ScriptFails (given_bytes c.args.given) text old old f)
    (sym c.in_err-source.ensures.fault) (no_memory refl)))

pub returns-in_err-more : goal.returns-in_err-more
returns-in_err-more g c =
    let failed = err_from_is_err_and c.from_residual-in_err-more.result c.from_residual-in_err-more.ensures.1 in
    rw (failed.1, failed.2) (configure_fault_fails_script (g.R.Read.remaining c.args.reader) (g.W.Write.contents c.args.writer.now)
    c.in_err-more.field-0.0 c.in_ok-source.source c.in_ok-source.ensures.ok c.beginning-setup.ensures c.in_err-more.ensures.fault)

pub returns-in_err-device : goal.returns-in_err-device
returns-in_err-device g c =
    let failed = err_from_is_err_and c.from_residual-in_err-device.result c.from_residual-in_err-device.ensures.1 in
    rw (failed.1, failed.2) (start_fault_fails_script (g.R.Read.remaining c.args.reader) (g.W.Write.contents c.args.writer.now)
    c.in_err-device.field-0.0 c.in_ok-source.ensures.ok c.beginning-setup.ensures c.in_ok-more.ensures.ok c.in_err-device.ensures.fault)

pub returns : goal.returns
returns g c = script_ends_after_start c.run_on.result (g.R.Read.remaining c.args.reader) (g.W.Write.contents c.args.writer.now)
    (g.W.Write.contents c.run_on.new.writer) c.in_ok-device.device c.in_ok-source.ensures.ok c.beginning-setup.ensures
    c.in_ok-more.ensures.ok c.in_ok-device.ensures.ok (rw c.check_in.ensures at c.run_on.ensures.ok)
    (rw c.check_in.ensures at c.run_on.ensures.fault)
