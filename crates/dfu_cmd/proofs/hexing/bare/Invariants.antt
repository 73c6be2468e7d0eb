use Rattle.std.specs.Prelude.{◌≡◌, take, fold, map, []}
use Rattle.std.specs.String.{string_bytes}
use Rattle.dfu_cmd.specs.HexWords.{digits_after_word}
use Rattle.dfu_cmd.proofs.hexing.bare.Given as goal

abbrev pub invariant-loop-word : goal.invariant-loop-word
invariant-loop-word l = l.digits.items ≡ fold digits_after_word [] (take l.word-index (map string_bytes l.words))
