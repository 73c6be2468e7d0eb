use Rattle.std.proofs.Common.{◌/◌, [], length, sym, arith}
use Rattle.dfu_asks.specs.declared.formatting.FormatStep.TheVariants.{CloseSecond}
use Rattle.dfu_asks.specs.Mapped.{grain_of, mapped_medium}
use Rattle.dfu_asks.specs.Steps.{step_writes}
use Rattle.dfu_asks.specs.Phases.{format_steps_from, format_steps}
use Rattle.dfu_asks.proofs.Pieces.{zero_bytes_end_at_piece}
use Rattle.dfu_asks.proofs.SeriesBytes.{no_bytes_carried}
use Rattle.dfu_asks.proofs.FormatGoing.{close_step_has_bytes}
use Rattle.dfu_asks.proofs.formatting.Formatting.start.Goals as goal

pub returns-clause-asks : goal.returns-clause-asks
returns-clause-asks c =
    let w = grain_of c.args.unit c.args.sector in
    let flash = c.args.flash.now in
    let image = c.args.image.now in
    record {
      way = record {
        can = record { sized = c.in_default.ensures.none.sized; fits = c.in_default.ensures.none.fits };
        sum = c.register_of.ensures;
        front = [];
        series = λ i. format_steps_from w (length flash / 2) image (sym c.register_of.ensures i) CloseSecond;
        reached = zero_bytes_end_at_piece (format_steps_from w (length flash / 2) image c.register_of.result CloseSecond);
        flash_is = sym (no_bytes_carried (step_writes (format_steps (mapped_medium w flash) image)) flash);
      };
      left = omega (arith, close_step_has_bytes w (length flash / 2));
    }
