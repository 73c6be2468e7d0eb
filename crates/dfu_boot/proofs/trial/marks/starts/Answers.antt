use Rattle.std.proofs.Common.{◌+◌, arith, sym, ◌∙◌}
use Rattle.dfu_boot.proofs.Places.{mark_ends_within_medium, set_mark_adds_a_start, unset_mark_ends_starts}
use Rattle.dfu_boot.proofs.trial.marks.starts.Goals as goal

pub is_set-requires : goal.is_set-requires
is_set-requires g c = mark_ends_within_medium (g.M.Medium.state c.args.medium.now) c.args.tries c.args.at (c.loop-done.done + 1)
    c.requires.sized
    c.requires.tries (omega (arith, c.loop-done-test.true)) c.requires.within

pub loop-done-preserved : goal.loop-done-preserved
loop-done-preserved g c = (
  omega (arith, c.loop-done-test.true),
  set_mark_adds_a_start (g.M.Medium.state c.args.medium.now) c.args.at c.loop-done.done c.args.tries c.loop-done-test.true
      (sym c.is_set.ensures ∙ c.if-not-is_set.false) c.loop-done.invariant.1,
)

pub returns-then-not-is_set-clause-value : goal.returns-then-not-is_set-clause-value
returns-then-not-is_set-clause-value g c =
    unset_mark_ends_starts (g.M.Medium.state c.args.medium.now) c.args.at c.loop-done.done c.args.tries c.loop-done-test.true
    (sym c.is_set.ensures ∙ c.if-not-is_set.true) c.loop-done.invariant.1
