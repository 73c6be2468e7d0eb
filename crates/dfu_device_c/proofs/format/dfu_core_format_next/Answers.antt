use Rattle.std.proofs.Common.{ℕ, length, refl, sym, subst, inl, inr}
use Rattle.dfu_asks.specs.Steps.{Step}
use Rattle.dfu_asks.specs.Carried.{IsStepPiece, ErasesSectorOrPrograms}
use Rattle.dfu_asks.specs.Phases.{remaining_steps}
use Rattle.dfu_core.specs.Formatting.{IsFormatRecord}
use Rattle.dfu_device_c.proofs.HandedWrites.{kind_is_erase_or_program, program_kind_does_not_erase, step_by_kind, step_by_kind_is_by_flag}
use Rattle.dfu_device_c.proofs.format.dfu_core_format_next.Goals.{After-next}
use Rattle.dfu_device_c.proofs.format.dfu_core_format_next.Goals as goal

pub returns-in_default-formatting_of : goal.returns-in_default-formatting_of
returns-in_default-formatting_of c = record {
  outcome = inr (
    inr (refl, c.in-Some.ensures.allowed, inl (λ f is. c.in_default-formatting_of.ensures.none c.args.config.now f is)),
    refl,
  );
}

-- The record represents the format whose next write the call returns.
record_has_format : (c : After-next) → IsFormatRecord c.args.config.now c.args.device.now c.in-Some-formatting_of.formatting
record_has_format c = c.in-Some-formatting_of.ensures.some c.args.config.now (record {
  config_is = c.in-Some.ensures.config;
  unit_is = c.in-Some.ensures.unit;
  sector_is = c.in-Some.ensures.sector;
})

pub returns-in_default-next : goal.returns-in_default-next
returns-in_default-next c =
    let is = record_has_format (goal.at.returns-in_default-next c).After-next in
    record {
      outcome = inr (
        inr (refl, c.in-Some.ensures.allowed, inr (c.in-Some-formatting_of.formatting, is, λ was k. c.in_default-next.ensures.none_pending was k)),
        λ i. record c.args.ask.now { bytes = c.in_default-next.ensures.unchanged i },
      );
    }

pub returns : goal.returns
returns c =
    let f = c.in-Some-formatting_of.formatting in
    let is = record_has_format (goal.at.returns c).After-next in
    let says = c.in-Some-next.ensures in
    let p = c.in-Some-next.piece in
    let image = c.args.image.now in
    let flash = c.args.flash.now in
    let same = step_by_kind_is_by_flag p.erases c.kind_of-ask.result p.at p.len c.next.new.out c.kind_of-ask.ensures in
    record {
      outcome = inl (record {
        number_is = refl;
        config = c.in-Some.ensures.allowed;
        formatting = f;
        is = is;
        kind = kind_is_erase_or_program p.erases c.kind_of-ask.result c.kind_of-ask.ensures;
        piece = subst (λ (s : Step). IsStepPiece (remaining_steps f (length flash) image) f.done s) (sym same) says.piece;
        some = says.piece_bounds.some;
        most = λ two. says.piece_bounds.programs (program_kind_does_not_erase p.erases c.kind_of-ask.result c.kind_of-ask.ensures two);
        sector = subst (λ (n : ℕ). ErasesSectorOrPrograms n (step_by_kind c.kind_of-ask.result p.at p.len c.next.new.out)) is.sector
            (subst (λ (s : Step). ErasesSectorOrPrograms f.sector.size s) (sym same) says.sector);
        within = says.within.0;
      });
    }
