use Rattle.std.specs.Prelude.{◌≡◌, take, fold}
use Rattle.dfu_cmd.specs.HexWords.{digits_after_byte}
use Rattle.dfu_cmd.proofs.hexing.with_word.Given as goal

abbrev pub invariant-loop-byte : goal.invariant-loop-byte
invariant-loop-byte l = l.digits.items ≡ fold digits_after_byte l.fn.digits.items (take l.byte-index l.word)
