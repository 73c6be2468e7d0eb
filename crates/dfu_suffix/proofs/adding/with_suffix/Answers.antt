use Rattle.std.proofs.Common.{List, ℕ, arith, ap, length, subst, sym}
use Rattle.dfu_suffix.specs.Adding.{IsFileWithSuffix}
use Rattle.dfu_suffix.proofs.AddLaws.{suffix_adds_16_bytes, added_suffix_makes_file, false_test_means_no_suffix}
use Rattle.dfu_suffix.proofs.adding.with_suffix.Goals as goal

pub returns-in-Ok-clause-all : goal.returns-in-Ok-clause-all
returns-in-Ok-clause-all c = (
  (c.requires, false_test_means_no_suffix _ _ _ c.has_suffix.ensures c.if-has_suffix.false c.deref.ensures.value),
  subst (λ (xs : List ℕ). IsFileWithSuffix c.args.payload.items c.args.ids xs) (sym c.in-Ok.ensures)
      (added_suffix_makes_file c.args.payload.items c.args.ids c.requires (omega arith) (omega arith) (omega arith)),
)

pub returns-in-Ok-clause-len : goal.returns-in-Ok-clause-len
returns-in-Ok-clause-len c = omega (arith, ap length c.in-Ok.ensures, suffix_adds_16_bytes c.args.payload.items c.args.ids)
