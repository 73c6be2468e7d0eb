use Rattle.std.proofs.Common.{◌+◌, ℕ, take, refl, ap, ◌∙◌, sym, arith}
use Rattle.dfu_formats.proofs.NameLaws.{trimmed_name_after_space, trimmed_name_after_byte, trimmed_name_of_no_bytes, trimmed_name_of_whole}
use Rattle.dfu_formats.proofs.memory.name.trimmed.Goals as goal
use Rattle.dfu_formats.proofs.memory.name.trimmed.Goals.{then-byte-ne32, else-byte-ne32}

pub loop-byte-init : goal.loop-byte-init
loop-byte-init c = record { counted = refl; within = omega arith; kept = trimmed_name_of_no_bytes c.args.bytes.now }

pub loop-byte-preserved : goal.loop-byte-preserved
loop-byte-preserved c =
    let i = c.loop-byte.byte-index in
    let xs = c.args.bytes.now in
    let at = c.loop-byte.invariant.counted in record {
      counted = omega (arith, at);
      within = elim c.if-byte-ne32.branch [
        | then-byte-ne32 w ↦ omega (arith, w.end-is, at)
        | else-byte-ne32 w ↦ omega (arith, w.end-is, c.loop-byte.invariant.within)
      ];
      kept = elim c.if-byte-ne32.branch [
        | then-byte-ne32 w ↦ trimmed_name_after_byte xs i (i + 1) (omega arith) c.loop-byte-test.true w.if-byte-ne32.true
            ∙ ap (λ (k : ℕ). take k xs) (omega (arith, w.end-is, at))
        | else-byte-ne32 w ↦ trimmed_name_after_space xs i (i + 1) c.loop-byte.end (omega arith) c.loop-byte-test.true w.if-byte-ne32.false
            c.loop-byte.invariant.kept ∙ ap (λ (k : ℕ). take k xs) (sym w.end-is)
      ];
    }

pub returns : goal.returns
returns c = c.split_at.ensures.front ∙ trimmed_name_of_whole c.args.bytes.now c.loop-byte.byte-index c.loop-byte.end
    (omega (arith, c.loop-byte-test.false)) c.loop-byte.invariant.kept
