use Rattle.std.proofs.Common.{arith}
use Rattle.dfu_fs.specs.Quoted.{array_word_byte}
use Rattle.dfu_fs.proofs.Texts.{next_element_extends_text}
use Rattle.dfu_fs.proofs.json.arrays.push_array_bytes.Goals as goal

pub loop-byte-preserved : goal.loop-byte-preserved
loop-byte-preserved c = next_element_extends_text array_word_byte c.args.words.now c.loop-byte.byte-index _ _ _ _
    (omega (arith, c.loop-byte-test.true)) c.loop-byte.invariant c.in_ok-push_array_byte.ensures
