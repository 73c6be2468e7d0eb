-- The output of `dfu run`, which is buffered.
use Rattle.std.specs.Prelude.{◌≡◌, ◌⊎◌, ℕ, List, ◌++◌, Option, Some, IfSome}
use Rattle.std.specs.Io.KnownBytes.{Keeps}
use Rattle.dfu_output.specs.declared.exit.Exit.{Exit}
use Rattle.dfu_output.specs.declared.exit.Exit.TheVariants.{Fault}
use Rattle.dfu_cmd.specs.RunText.{IsRunText, HeadlineIsOut}

-- The writer has received a prefix of the bytes that were written into the buffer, or all of them.
pub record HasWrittenPrefix (written : List ℕ) (new : Option (List ℕ)) : Type 0 where
  pub front : List ℕ
  pub rest : List ℕ
  pub whole : written ≡ front ++ rest
  pub out : new ≡ Some front

-- The writer has received the whole text and the result is the exit of the run, or it has received a prefix and the result is Fault.
abbrev pub IsFlushResult : (written new : Option (List ℕ)) (end result : Exit) → Type 0
IsFlushResult written new end result =
    (Keeps written new × (result ≡ end)) ⊎ (IfSome written (λ w. HasWrittenPrefix w new) × (result ≡ Fault))

-- The script ran with the bytes `file` as FILE, and its output went into a buffer. Then the writer received the whole output, or only a
-- prefix of it, and in this case the result is Fault.
pub record IsBufferedRun (file given old new : Option (List ℕ)) (result : Exit) : Type 0 where
  pub written : Option (List ℕ)
  pub end : Exit
  pub run : IsRunText file given old written end
  pub printed : HeadlineIsOut file given old written end
  pub written_is_flushed : IsFlushResult written new end result
