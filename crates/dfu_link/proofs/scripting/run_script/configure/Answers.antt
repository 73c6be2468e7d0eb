use Rattle.std.proofs.Common.{◌≡◌, ap, sym, refl, arith, true, Some}
use Rattle.dfu_link.specs.LineContent.{config_line_of, Blank, SetsConfig, SetsLimits}
use Rattle.dfu_link.specs.ScriptRun.{Settings}
use Rattle.dfu_link.specs.inside.SetupView.{settings_of}
use Rattle.dfu_link.proofs.MoveLaws.{no_lines_keep_settings, next_line_prepares}
use Rattle.dfu_link.proofs.scripting.run_script.configure.Goals as goal

pub settings-init : goal.settings-init
settings-init g c = no_lines_keep_settings (settings_of c.args.setup.now) c.args.source.now

pub settings-preserved-in-Some-Blank : goal.settings-preserved-in-Some-Blank
settings-preserved-in-Some-Blank g c =
    let goes_on : c.in_ok-next.field-0 ≡ true = grind (arith, c.if-not-branch.false) in
    next_line_prepares Blank c.settings.invariant (rw goes_on at c.in_ok-next.ensures.ok) c.line.ensures
    (rw c.in-Some-Blank.field-0-is at c.in-Some-Blank.ensures) refl

pub settings-preserved-in_ok-set-in-Some-Set : goal.settings-preserved-in_ok-set-in-Some-Set
settings-preserved-in_ok-set-in-Some-Set g c =
    let goes_on : c.in_ok-next.field-0 ≡ true = grind (arith, c.if-not-branch.false) in
    next_line_prepares (SetsConfig (config_line_of c.in-Some-Set.setting)) c.settings.invariant (rw goes_on at c.in_ok-next.ensures.ok)
    c.line.ensures (rw c.in-Some-Set.field-0-is at c.in-Some-Set.ensures)
    (ap (λ (t : Settings). Some t) (sym c.in_ok-set-in-Some-Set.ensures.ok))

pub settings-preserved : goal.settings-preserved
settings-preserved g c =
    let goes_on : c.in_ok-next.field-0 ≡ true = grind (arith, c.if-not-branch.false) in
    next_line_prepares (SetsLimits c.in-Some-Limits.actions c.in-Some-Limits.restarts) c.settings.invariant
    (rw goes_on at c.in_ok-next.ensures.ok) c.line.ensures
    (rw c.in-Some-Limits.field-0-is at c.in-Some-Limits.ensures)
    (ap (λ (t : Settings). Some t) (sym c.set_limits.ensures))
