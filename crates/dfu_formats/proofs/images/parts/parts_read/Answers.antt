use Rattle.std.proofs.Common.{◌≡◌, ◌-◌, ◌+◌, ◌*◌, ◌∙◌, ℕ, ap, suc, arith}
use Rattle.std.proofs.Math.Nat.{suc-mul}
use Rattle.dfu_formats.proofs.ReadLaws.{read_part_leaves_rest, part_fault_is_file_fault, last_state_is_result}
use Rattle.dfu_formats.proofs.images.parts.parts_read.Goals as goal

pub returns-in-Err : goal.returns-in-Err
returns-in-Err g c =
    let left : c.args.total - c.loop-index.index ≡ suc (c.args.total - (c.loop-index.index + 1)) = omega arith in
    part_fault_is_file_fault c.args.size (g.F.ByPart.part_read c.args.file.now) c.in-Err.fault _ _ _ _ _ _ _ left c.split_at.ensures.front
    c.in-Err.ensures c.loop-index.invariant.so_far

pub loop-index-preserved : goal.loop-index-preserved
loop-index-preserved g c =
    let left : c.args.total - c.loop-index.index ≡ suc (c.args.total - (c.loop-index.index + 1)) = omega arith in
    record {
      within = omega arith;
      left = omega (
        arith,
        c.split_at.ensures.back_len,
        c.loop-index.invariant.left,
        ap (λ (n : ℕ). n * c.args.size) left ∙ suc-mul (c.args.total - (c.loop-index.index + 1)) c.args.size,
      );
      so_far = read_part_leaves_rest c.args.size (g.F.ByPart.part_read c.args.file.now) _ _ _ _ _ _ _ _ _ left c.split_at.ensures.front
          c.split_at.ensures.back c.in-Ok.ensures c.loop-index.invariant.so_far;
    }

pub returns : goal.returns
returns g c =
    let left : c.args.total - c.loop-index.index ≡ 0 = omega arith in
    last_state_is_result c.args.size (g.F.ByPart.part_read c.args.file.now) _ _ _ _ _ left c.loop-index.invariant.so_far
