-- Text that a command has written to its output.
use Rattle.std.specs.Prelude.{◌≡◌, ◌⊎◌, ℕ, List, Option}
use Rattle.std.specs.Io.KnownBytes.{Appends}
use Rattle.dfu_suffix.specs.Writing.{IsPartlyWritten}
use Rattle.dfu_output.specs.declared.exit.Exit.{Exit}
use Rattle.dfu_output.specs.declared.exit.Exit.TheVariants.{Fault}

-- The whole text is written and the result is `exit`. If the writer fails, only a proper prefix of the text is written and the result is
-- Fault.
abbrev pub TextIsOut : (old new : Option (List ℕ)) (text : List ℕ) (exit result : Exit) → Type 0
TextIsOut old new text exit result =
    (Appends old new text × (result ≡ exit)) ⊎ (IsPartlyWritten old new text × (result ≡ Fault))
