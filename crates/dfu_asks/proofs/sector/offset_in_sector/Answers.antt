use Rattle.std.proofs.Common.{◌≡◌, ◌+◌, ◌*◌, ◌/◌, ◌%◌, ℕ, sym, ◌∙◌, ap, arith}
use Rattle.std.proofs.Math.Nat.{mod-add-div', add-mul-mod_self_right}
use Rattle.dfu_asks.proofs.sector.offset_in_sector.Goals as goal

pub returns : goal.returns
returns c =
    let at = c.args.at in
    let s = c.args.sector in
    let q = at / 16384 in
    let whole : q % s * 16384 + at % 16384 + q / s * 16384 * s ≡ at = grind (arith, mod-add-div' q s, mod-add-div' at 16384) in
    sym (add-mul-mod_self_right (q % s * 16384 + at % 16384) (q / s * 16384) s) ∙ ap (λ (k : ℕ). k % s) whole
