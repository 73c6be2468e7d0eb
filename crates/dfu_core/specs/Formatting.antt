-- Records that represent a format.
use Rattle.std.specs.Prelude.{◌≡◌, ℕ}
use Rattle.dfu_asks.specs.declared.formatting.FormatStep.{FormatStep}
use Rattle.dfu_asks.specs.declared.formatting.FormatStep.TheVariants as format_step
use Rattle.dfu_asks.specs.declared.formatting.Formatting.{Formatting}
use Rattle.dfu_core.specs.declared.config.DfuConfig.{DfuConfig}
use Rattle.dfu_core.specs.Config.{unit_of}
use Rattle.dfu_core.specs.declared.record.DfuRecord.{DfuRecord}

-- Value of `work` in a record that represents a format.
abbrev pub FORMAT_WORK : ℕ
FORMAT_WORK = 3

-- The two numbers encode a step of a format: the number of the step and, if the step writes a piece of the image, the piece's offset in the
-- image.
abbrev pub HasFormatPhase : ℕ → ℕ → FormatStep → Type 0
HasFormatPhase n from format_step.CloseSecond = n ≡ 0
HasFormatPhase n from format_step.CloseFirst = n ≡ 1
HasFormatPhase n from (format_step.Image at) = (n ≡ 2) × (at ≡ from)
HasFormatPhase n from format_step.Header = n ≡ 3
HasFormatPhase n from format_step.Gate = n ≡ 4
HasFormatPhase n from format_step.Ended = n ≡ 5

-- The two records differ only in the fields that a format uses.
abbrev pub ChangesOnlyFormat : DfuRecord → DfuRecord → Type 0
ChangesOnlyFormat r r' = r' ≡ record r { work = r'.work; spare = r'.spare; sum = r'.sum; done = r'.done; generation = r'.generation }

-- The record represents the format f.
pub record IsFormatRecord (c : DfuConfig) (r : DfuRecord) (f : Formatting) : Type 0 where
  pub work : r.work ≡ FORMAT_WORK
  pub unit : f.unit ≡ unit_of c
  pub sector : f.sector.size ≡ c.sector
  pub sum : f.register ≡ r.sum
  pub phase : HasFormatPhase r.generation r.spare f.phase
  pub done : f.done ≡ r.done
