use Rattle.std.proofs.Common.{◌≡◌, ◌↔◌, ◌≤◌, ℕ, IsTrue, ◌+◌, ◌-◌, List, length, take, drop, replicate, ap, ◌∙◌, subst, arith}
use Rattle.std.proofs.lemmas.List.{take_all, length-take, length-drop}
use Rattle.dfu_asks.proofs.Running.{bytes_are_three_runs}
use Rattle.dfu_asks.proofs.cut.Runs.are.Goals as goal

pub returns : goal.returns
returns c =
    let bytes = c.args.bytes.now in
    let front = c.args.self.front.now in
    let back = c.args.self.back.now in
    let end = length front + length back in
    let own : length back ≡ end - length front = omega arith in
    let n = end + c.args.self.rest - end in
    let most : length (drop end bytes) ≤ n = omega (arith, c.requires, length-drop end bytes) in
    let whole : take n (drop end bytes) ≡ drop end bytes = take_all n (drop end bytes) most in
    let size : length (take n (drop end bytes)) ≡ c.args.self.rest =
    omega (arith, c.requires, length-take n (drop end bytes), length-drop end bytes) in
    bytes_are_three_runs c.are_all.result bytes front back c.args.self.rest c.args.self.pad c.requires
    (c.are_same.ensures.0 c.if-not-are_same.false)
    (ap (λ (k : ℕ). take k (drop (length front) bytes)) own ∙ c.are_same-2.ensures.0 c.if-not-are_same-2.false)
    (subst (λ (l : List ℕ). IsTrue c.are_all.result ↔ (l ≡ replicate c.args.self.rest c.args.self.pad)) whole
    (subst (λ (k : ℕ). IsTrue c.are_all.result ↔ (take n (drop end bytes) ≡ replicate k c.args.self.pad)) size c.are_all.ensures))
