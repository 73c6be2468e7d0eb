use Rattle.std.proofs.Common.{◌≡◌, ◌≢◌, not, ◌==◌, ℤ, Some, refl, sym, ap, ◌∙◌, inl, inr, w32, arith}
use Rattle.std.proofs.lemmas.Int.{to_z-of_z}
use Rattle.std.proofs.lemmas.Option.{MatchOption-at_some}
use Rattle.dfu_asks.specs.declared.sector.Sector.{Sector}
use Rattle.dfu_asks.specs.declared.formatting.FormatProgress.{FormatProgress}
use Rattle.dfu_asks.specs.declared.formatting.FormatProgress.TheVariants as format_progress
use Rattle.dfu_core.specs.declared.record.DfuRecord.{DfuRecord}
use Rattle.dfu_core.specs.Formatting.{IsFormatRecord}
use Rattle.dfu_core.specs.Formats.{progress_number, FormatReportOutcome}
use Rattle.dfu_device_c.proofs.format.dfu_core_format_took.Goals.{After-took}
use Rattle.dfu_device_c.proofs.format.dfu_core_format_took.Goals as goal

pub returns-in_default-formatting_of : goal.returns-in_default-formatting_of
returns-in_default-formatting_of c = record {
  outcome = inr (
    inr (refl, c.in-Some.ensures.allowed, inl (λ f is. c.in_default-formatting_of.ensures.none c.args.config.now f is)),
    refl,
  );
}

-- The record represents the format whose write is reported.
record_has_format : (c : After-took) → IsFormatRecord c.args.config.now c.args.device.now c.in-Some-formatting_of.formatting
record_has_format c = c.in-Some-formatting_of.ensures.some c.args.config.now (record {
  config_is = c.in-Some.ensures.config;
  unit_is = c.in-Some.ensures.unit;
  sector_is = c.in-Some.ensures.sector;
})

-- After the report the record represents the format while a write is pending, and no work afterwards.
reported_format_is_kept : (c : After-took) (came : FormatProgress) (r' : DfuRecord) {n : ℤ} → c.took.result ≡ Some came → n
    ≡ progress_number came
    → (came ≡ format_progress.Asks → IsFormatRecord c.args.config.now r' c.took.new.self) → (came ≢ format_progress.Asks → r'.work ≡ 0)
    → r' ≡ record c.args.device.now { work = r'.work; spare = r'.spare; sum = r'.sum; done = r'.done; generation = r'.generation }
    → FormatReportOutcome c.args.config.now c.args.device.now c.args.flash.now c.args.image.now (not (c.args.failed == 0)) n r'
reported_format_is_kept c came r' is number_is on over rest = record {
  config = c.in-Some.ensures.allowed;
  before = c.in-Some-formatting_of.formatting;
  is = record_has_format c;
  after = c.took.new.self;
  came = came;
  number_is = number_is;
  on = on;
  over = over;
  rest = rest;
  took = λ was mid asks p piece torn. MatchOption-at_some _ _ _ is c.took.ensures.outcome was mid asks p piece torn;
  further = MatchOption-at_some _ _ _ is c.took.ensures.piece_advances;
}

pub returns-in-None : goal.returns-in-None
returns-in-None c =
    let is = record_has_format (goal.at.returns-in-None c).After-took in
    record {
      outcome = inr (inr (refl, c.in-Some.ensures.allowed, inr (c.in-Some-formatting_of.formatting, is, c.in-None.ensures.taken)), refl);
    }

pub returns-in-Some-Asks : goal.returns-in-Some-Asks
returns-in-Some-Asks c =
    let at = (goal.at.returns-in-Some-Asks c).After-took in
    let is = record_has_format at in
    let same = c.in-Some-Asks.ensures.same_format in
    let kept = c.keep_format.ensures in
    record {
      outcome = inl (reported_format_is_kept at format_progress.Asks _ (c.in-Some-Asks.is ∙ ap Some c.in-Some-Asks.field-0-is) refl
          (λ e. record {
            work = kept.work;
            unit = same.unit ∙ is.unit;
            sector = ap (λ (s : Sector). s.size) same.sector ∙ is.sector;
            sum = sym kept.sum;
            phase = kept.phase;
            done = sym kept.done;
          })
          (λ other. absurd (other refl)) kept.others);
    }

pub returns-in-Some-Formatted : goal.returns-in-Some-Formatted
returns-in-Some-Formatted c = record {
  outcome = inl (reported_format_is_kept (goal.at.returns-in-Some-Formatted c).After-took format_progress.Formatted _
      (c.in-Some-Formatted.is ∙ ap Some c.in-Some-Formatted.field-0-is) refl (λ e. cc) (λ other. refl) refl);
}

pub returns-in-Some-Broken : goal.returns-in-Some-Broken
returns-in-Some-Broken c = record {
  outcome = inl (reported_format_is_kept (goal.at.returns-in-Some-Broken c).After-took (format_progress.Broken c.in-Some-Broken.field-0-0) _
      (c.in-Some-Broken.is ∙ ap Some c.in-Some-Broken.field-0-is)
      (to_z-of_z w32 _ (omega (arith, c.format_number.type_inv)) ∙ c.format_number.ensures) (λ e. cc) (λ other. refl) refl);
}
