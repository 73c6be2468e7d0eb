use Rattle.std.proofs.Common.{refl, sym, ◌∙◌, ap, inl}
use Rattle.dfu_asks.specs.declared.sector.Sector.{Sector}
use Rattle.dfu_core.specs.declared.record.DfuRecord.{DfuRecord}
use Rattle.dfu_device_c.proofs.format.dfu_core_format_start.Goals as goal

pub returns-in-Ok : goal.returns-in-Ok
returns-in-Ok c =
    let set = c.in-Ok.ensures.set in
    let kept = c.keep_format.ensures in
    let to = c.keep_format.new.kept in
    record {
      outcome = inl (record {
        number_is = refl;
        config = c.in-Some.ensures.allowed;
        formatting = c.in-Ok.formatting;
        is = record {
          work = kept.work;
          unit = set.0 ∙ c.in-Some.ensures.unit;
          sector = ap (λ (s : Sector). s.size) set.1 ∙ c.in-Some.ensures.sector;
          sum = sym kept.sum;
          phase = kept.phase;
          done = sym kept.done;
        };
        asks = c.in-Ok.ensures.asks;
        rest = kept.others ∙ ap (λ (b : DfuRecord). record b {
          work = to.work;
          spare = to.spare;
          sum = to.sum;
          done = to.done;
          generation = to.generation;
        }) c.blank.ensures;
      });
    }
