use Rattle.std.proofs.Common.{refl}
use Rattle.dfu_core.proofs.mode.set_mode.Goals as goal

pub returns-clause-mode : goal.returns-clause-mode
returns-clause-mode c =
    let numbers = c.numbers_of-own.result in
    record {
      version_is = refl;
      numbers = c.numbers_of-own.ensures (record c.args.kept.now {
        version = 300;
        mode = numbers.0;
        first = numbers.1;
        second = numbers.2;
        number = numbers.3;
      }) refl refl refl refl;
    }
