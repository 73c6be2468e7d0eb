use Rattle.std.proofs.Common.{◌≡◌, ◌∙◌, sym, ap, arith, refl, Bool, true, false, Ok}
use Rattle.std.proofs.lemmas.Result.{err_from_is_err_and}
use Rattle.dfu_link.specs.LineContent.{given_bytes}
use Rattle.dfu_link.specs.Lines.{line_of}
use Rattle.dfu_link.specs.ScriptRun.{link_at_rest}
use Rattle.dfu_link.specs.inside.Expected.{point_of_context}
use Rattle.dfu_link.proofs.MoveLaws.{unarmed_world_is_at_rest}
use Rattle.dfu_link.proofs.RestLaws.{no_line_is_done_at_first, link_extends_done_lines, last_link_exhausts_source, failure_after_lines_fails, no_file_memory_fails_script}
use Rattle.dfu_link.proofs.scripting.run_events.run_links.Goals as goal

pub links-init : goal.links-init
links-init g c = record {
  unarmed = c.requires;
  moves = no_line_is_done_at_first c.args.source.now (point_of_context c.args.context.now (link_at_rest c.args.device)) (g.W.Write.contents
      c.args.writer.now);
}

pub returns-in_err-file-clause-fault : goal.returns-in_err-file-clause-fault
returns-in_err-file-clause-fault g c =
    let failed = err_from_is_err_and c.from_residual.result c.from_residual.ensures.1 in
    rw (failed.1, failed.2) (no_file_memory_fails_script c.links.invariant.moves c.line.ensures c.in_err-file.ensures.fault refl)

pub run_link-requires : goal.run_link-requires
run_link-requires g c = λ said is.
    c.bytes-bytes.ensures ∙ c.in_ok-file.ensures.ok said (ap (line_of (given_bytes c.links.context.given)) c.line.ensures ∙ is)

pub returns-in_err-left-clause-fault : goal.returns-in_err-left-clause-fault
returns-in_err-left-clause-fault g c =
    let failed = err_from_is_err_and c.from_residual-in_err-left.result c.from_residual-in_err-left.ensures.1 in
    let starts = unarmed_world_is_at_rest c.links.device c.new-world.ensures.link c.links.invariant.unarmed in
    rw (failed.1, failed.2) (failure_after_lines_fails c.links.invariant.moves (rw starts at c.in_err-left.ensures.fault))

pub returns-then-not-left-clause-ok : goal.returns-then-not-left-clause-ok
returns-then-not-left-clause-ok g c =
    let starts = unarmed_world_is_at_rest c.links.device c.new-world.ensures.link c.links.invariant.unarmed in
    let stops : c.in_ok-left.left ≡ false = grind (arith, c.if-not-left.true) in
    last_link_exhausts_source c.links.invariant.moves (rw (starts, stops) at c.in_ok-left.ensures.ok)

pub links-preserved-else-not-left : goal.links-preserved-else-not-left
links-preserved-else-not-left g c =
    let starts = unarmed_world_is_at_rest c.links.device c.new-world.ensures.link c.links.invariant.unarmed in
    let more : c.in_ok-left.left ≡ true = c.if-not-left.false in
    let none = c.in_ok-left.ensures.rest (ap (λ (left : Bool). Ok left) more) in
    let rests : c.run_link.new.world.bench ≡ link_at_rest c.release-device.result =
    λ i. record { device = sym c.release-device.ensures.device i; session = none i } in
    let on = link_extends_done_lines c.links.invariant.moves (rw (starts, more) at c.in_ok-left.ensures.ok) in
    record { unarmed = c.release-device.ensures.unarmed; moves = rw rests at on }

pub links-preserved : goal.links-preserved
links-preserved g c =
    let starts = unarmed_world_is_at_rest c.links.device c.new-world.ensures.link c.links.invariant.unarmed in
    let more : c.in_ok-left.left ≡ true = c.if-not-left.false in
    let none = c.in_ok-left.ensures.rest (ap (λ (left : Bool). Ok left) more) in
    let rests : c.run_link.new.world.bench ≡ link_at_rest c.release-device.result =
    λ i. record { device = sym c.release-device.ensures.device i; session = none i } in
    let on = link_extends_done_lines c.links.invariant.moves (rw (starts, more) at c.in_ok-left.ensures.ok) in
    record { unarmed = c.release-device.ensures.unarmed; moves = rw rests at on }
