use Rattle.std.proofs.Common.{ℕ, sym, ◌∙◌, subst, arith}
use Rattle.dfu_formats.specs.memory.Lookups.{AllGranted}
use Rattle.dfu_formats.proofs.OneRange.{grant_extends_to_range_end}
use Rattle.dfu_formats.proofs.memory.lookups.all_granted.Goals as goal

pub loop-at-preserved : goal.loop-at-preserved
loop-at-preserved c =
    let p = c.in-Some.pages in
    let s = c.in-Some.ensures.sound in
    let ranges = c.args.ranges.now in
    let end = c.end_of-at.ensures.value in record {
      ahead = omega (arith, c.loop-at.invariant.ahead, s.1, s.2, end);
      granted = subst (λ (n : ℕ). AllGranted c.args.wanted c.args.start n ranges) (sym end)
          (grant_extends_to_range_end c.args.wanted c.args.start c.loop-at.at p ranges c.requires.apart c.loop-at.invariant.granted
          (sym c.range_at.ensures.value ∙ c.in-Some.is) s.1 s.2 (sym c.grants.ensures ∙ c.if-grants.true));
    }
