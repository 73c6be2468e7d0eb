-- Contents of a writer after a text was written.
use Rattle.std.specs.Prelude.{◌≡◌, ℕ, ◌<◌, List, ◌++◌, length, Option, Result, Ok, Err}
use Rattle.std.specs.Io.KnownBytes.{Appends}

-- A prefix of the text is written, but not all of it.
pub record IsPartlyWritten (old new : Option (List ℕ)) (text : List ℕ) : Type 0 where
  pub front : List ℕ
  pub rest : List ℕ
  pub whole : text ≡ front ++ rest
  pub left : 0 < length rest
  pub told : Appends old new front

-- After `Ok`, the whole text is written. After a fault, a prefix of it is written, but not all.
abbrev pub WholeWriteResult : {T E : Type 0} → Option (List ℕ) → Option (List ℕ) → List ℕ → Result T E → Type 0
WholeWriteResult old new text (Ok done) = Appends old new text
WholeWriteResult old new text (Err fault) = IsPartlyWritten old new text
