use Rattle.std.proofs.Common.{◌/◌, length, refl, subst, arith}
use Rattle.dfu_asks.specs.declared.formatting.FormatStep.{FormatStep}
use Rattle.dfu_asks.specs.Phases.{format_grain, steps_of_part}
use Rattle.dfu_asks.proofs.FormatParts.{IsPartFollowedBy}
use Rattle.dfu_asks.proofs.FormatGoing.{next_part_under_way, format_ends_with_last_part}
use Rattle.dfu_asks.proofs.formatting.Formatting.go_on.Goals as goal

pub returns-in-Ended-clause-outcome : goal.returns-in-Ended-clause-outcome
returns-in-Ended-clause-outcome c = λ was flash way ended.
    let f = c.args.self.now in
    let image = c.args.image.now in
    format_ends_with_last_part f image was flash way ended
    (subst (λ (p : FormatStep). IsPartFollowedBy (format_grain f) (length was / 2) image f.register f.phase p) c.in-Ended.is
    (c.part_after-behind.ensures.parts (format_grain f) (length was / 2) f.register image refl refl))

pub returns-in_default-clause-outcome : goal.returns-in_default-clause-outcome
returns-in_default-clause-outcome c = λ was flash way ended.
    let f = c.args.self.now in
    let image = c.args.image.now in
    record {
      way = next_part_under_way f image was flash way ended c.part_after-behind.result
          (c.part_after-behind.ensures.parts (format_grain f) (length was / 2) f.register image refl refl);
      left = c.part_after-behind.ensures.some (format_grain f) (length was / 2) f.register image refl refl c.in_default.not-Ended;
    }

pub returns-in_default-clause-piece_follows : goal.returns-in_default-clause-piece_follows
returns-in_default-clause-piece_follows c = λ size asks ended.
    let f = c.args.self.now in
    let image = c.args.image.now in
    record {
      front = steps_of_part f size image;
      series = c.part_after-behind.ensures.parts (format_grain f) (size / 2) f.register image refl refl;
      place = omega (arith, ended);
    }
