use Rattle.std.proofs.Common.{refl, inl, arith}
use Rattle.dfu_home.proofs.Asked.{image_not_first_is_second}
use Rattle.dfu_home.proofs.deciding.opened.Goals as goal

pub returns-else-progress-most_operations-clause-does : goal.returns-else-progress-most_operations-clause-does
returns-else-progress-most_operations-clause-does g c =
    let found = c.in-Some-false in
    let away = image_not_first_is_second (g.M.Medium.state c.args.medium.now) found.field-0 found.field-0-test found.ensures.away in (
      record { looked = λ _. away.has; left = omega (arith, c.most_operations.ensures, c.if-progress-most_operations.false) },
      inl (away, c.requires.open, c.requires.sectors, refl),
    )
