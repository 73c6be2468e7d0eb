use Rattle.std.proofs.Common.{inl, inr, refl, ap, ◌∙◌, w32, arith}
use Rattle.std.proofs.lemmas.Int.{to_z-of_z}
use Rattle.std.proofs.lemmas.Option.{MatchOption-at_some, MatchOption-at_none}
use Rattle.std.proofs.lemmas.Result.{IfOk-at_ok}
use Rattle.dfu_core.specs.declared.numbers.CoreRefusal.{CoreRefusal}
use Rattle.dfu_core.specs.RecordMeaning.{block_in_memory, held_memory}
use Rattle.dfu_core.specs.Numbers.{refusal_number}
use Rattle.dfu_device_c.proofs.image.dfu_core_candidate.Goals as goal

pub returns-in-Ok-Some : goal.returns-in-Ok-Some
returns-in-Ok-Some c = record {
  outcome = inl (record {
    number_is = refl;
    asking = c.in-Ok.asking;
    is = IfOk-at_ok _ c.in-Ok.is c.found.ensures.ok;
    within = MatchOption-at_some _ _ _ c.in-Ok-Some.field-0-is c.in-Ok-Some.ensures.within;
    there = λ block whole. MatchOption-at_some _ _ _ c.in-Ok-Some.field-0-is
        (c.in-Ok-Some.ensures.some (block_in_memory c.in-Ok.asking block) (held_memory c.in-Ok.asking block) whole);
  });
}

pub returns-in-Ok-None : goal.returns-in-Ok-None
returns-in-Ok-None c = record {
  outcome = inr (
    refl,
    inl (record {
      number_is = refl;
      asking = c.in-Ok.asking;
      is = IfOk-at_ok _ c.in-Ok.is c.found.ensures.ok;
      none = λ block. MatchOption-at_none _ _ c.in-Ok-None.field-0-is
          (c.in-Ok-None.ensures.none (block_in_memory c.in-Ok.asking block) (held_memory c.in-Ok.asking block));
    }),
  );
}

pub returns-in-Err-candidate : goal.returns-in-Err-candidate
returns-in-Err-candidate c = record {
  outcome = inr (
    refl,
    inr (inr (
      c.in-Ok.asking,
      IfOk-at_ok _ c.in-Ok.is c.found.ensures.ok,
      c.in-Err-candidate.refusal,
      to_z-of_z w32 _ (omega (arith, c.number-in-Err-candidate.type_inv)) ∙ c.number-in-Err-candidate.ensures
          ∙ ap (λ (e : CoreRefusal). refusal_number e) c.refused.ensures,
      λ block. c.in-Err-candidate.ensures.refused (block_in_memory c.in-Ok.asking block) (held_memory c.in-Ok.asking block),
    )),
  );
}
