use Rattle.std.specs.Prelude.{◌≡◌, ◌++◌, take}
use Rattle.std.specs.List.{flat_map}
use Rattle.dfu_fs.specs.Quoted.{array_word_byte}
use Rattle.dfu_fs.proofs.json.arrays.push_array_bytes.Given as goal

abbrev pub invariant-loop-byte : goal.invariant-loop-byte
invariant-loop-byte l = l.out.items ≡ l.fn.out.items ++ flat_map array_word_byte (take l.byte-index l.words)
