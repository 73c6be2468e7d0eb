use Rattle.std.proofs.Common.{◌≡◌, ◌+◌, ◌-◌, ◌++◌, ◌≤◌, ℕ, List, length, take, replicate, ap, ◌∙◌, sym, arith}
use borrow.Rule.Slice.PartMut.{put_mid, post_of}
use Rattle.dfu_asks.specs.Cuts.{run_bytes}
use Rattle.dfu_asks.proofs.Cutting.{filled_buffer_is_step, found_cut_has_piece_bounds}
use Rattle.dfu_asks.proofs.Running.{runs_fill_buffer_front, rest_has_left_length}
use Rattle.dfu_asks.proofs.cut.fill.Goals as goal

pub returns-clause-step : goal.returns-clause-step
returns-clause-step c =
    let r = c.runs_of-runs.result in
    let out = c.args.out.now in
    let front = c.copy_from_slice.new.self in
    let back = c.copy_from_slice-2.new.self in
    let middle = length r.front.now in
    let end = middle + length r.back.now in
    let one : front ≡ r.front.now = c.copy_from_slice.ensures.after in
    let other : back ≡ r.back.now = c.copy_from_slice-2.ensures.after in
    let m : middle ≡ length front = ap length (sym one) in
    let e : end ≡ middle + length back = ap (λ (l : List ℕ). middle + length l) (sym other) in
    filled_buffer_is_step c.args.cut.now (put_mid end (c.min-len.result - end) (put_mid middle (end - middle) (front
    ++ post_of 0 middle out) back) c.fill.new.self)
    (run_bytes r) c.runs_of-runs.ensures.bytes
    (λ program.
    let len : c.min-len.result ≡ c.args.cut.now.piece.len = omega (arith, c.min-len.ensures, c.requires.1.programs program) in
    let rest = c.fill.ensures.after (λ y is. is) in
    let low : end ≤ c.min-len.result = omega (arith, len, c.runs_of-runs.ensures.size) in
    let size = rest_has_left_length out front back middle end c.min-len.result m e low (omega (arith, c.min-len.ensures, c.told-out)) in
    let behind : length c.fill.new.self ≡ c.min-len.result - end = c.fill.ensures.len ∙ size in
    let two = put_mid middle (end - middle) (front ++ post_of 0 middle out) back in
    ap (λ (n : ℕ). take n (put_mid end (c.min-len.result - end) two c.fill.new.self)) (sym len)
    ∙ runs_fill_buffer_front out front back c.fill.new.self middle end c.min-len.result m e (omega (arith, behind, low))
    ∙ (λ i. (one i ++ other i) ++ rest i)
    ∙ ap (λ (n : ℕ). (r.front.now ++ r.back.now) ++ replicate n r.pad) (size ∙ omega (arith, len, c.runs_of-runs.ensures.size)))

pub returns-clause-piece_bounds : goal.returns-clause-piece_bounds
returns-clause-piece_bounds c = λ sector is. found_cut_has_piece_bounds sector c.args.cut.now _ is (returns-clause-step c)
