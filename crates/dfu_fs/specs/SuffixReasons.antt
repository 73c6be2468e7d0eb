-- Reasons for refusing a suffix, as sentences.
use Rattle.std.specs.Prelude.{ℕ, List, ◌++◌, codes}
use Rattle.std.specs.Fmt.{decimal}
use Rattle.dfu_output.specs.AnswerLines.{hex_padded}

-- Reason for a wrong CRC: the CRC in the suffix and the one of the bytes before it, in eight hexadecimal digits each.
unfoldable pub sums_why : ℕ → ℕ → List ℕ
sums_why written found =
    codes "the check sum in the suffix is " ++ hex_padded 8 written ++ (codes ", and that of the bytes before it " ++ hex_padded 8 found)

-- Reason for a wrong length of a suffix: the length in the suffix and the number of bytes in the file.
unfoldable pub length_why : ℕ → ℕ → List ℕ
length_why said count =
    codes "the suffix says that it has " ++ decimal said ++ (codes " bytes, at least 16 are wanted, and the file has " ++ decimal count)
