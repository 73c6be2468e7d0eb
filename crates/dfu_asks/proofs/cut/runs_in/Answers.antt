use Rattle.std.proofs.Common.{◌≡◌, ◌-◌, ◌++◌, length, take, drop, replicate, ◌∙◌}
use Rattle.dfu_asks.proofs.Running.{range_is_three_runs}
use Rattle.dfu_asks.proofs.cut.runs_in.Goals as goal

pub returns-clause-bytes : goal.returns-clause-bytes
returns-clause-bytes c =
    let front = c.args.front.now in
    let back = c.args.back.now in
    let len = c.args.len in
    let skip = c.args.skip in
    let one : c.run-first.result.now ≡ take len (drop skip front) = c.run-first.ensures in
    let other : c.run-second.result.now ≡ take (len - length (take len (drop skip front))) (drop (skip - length front) back)
    = c.run-second.ensures
    ∙ (λ i. take (len - length (one i)) (drop (c.saturating_sub.ensures i) back)) in
    (λ i. (one i ++ other i) ++ replicate (len - length (one i) - length (other i)) 0) ∙ range_is_three_runs front back skip len c.requires
