use Rattle.std.proofs.Common.{◌≡◌, min, ℕ, ℤ, pos, Option, Some, None, IfSome, IfNone, sym, ap, ◌∙◌, subst, inl, inr, w32, arith}
use Rattle.std.proofs.lemmas.Int.{to_z-of_z}
use Rattle.dfu_asks.specs.Times.{due_of}
use Rattle.dfu_core.specs.Due.{LONGEST_DUE}
use Rattle.dfu_core.specs.Idle.{RefusesConfigOrRecord}
use Rattle.dfu_device_c.proofs.RecordAnswers.{record_changes_when_due}
use Rattle.dfu_device_c.proofs.tells.dfu_core_due.Goals as goal

-- The result is the time until the state changes, at most LONGEST_DUE milliseconds, or 0 if the state doesn't change with time.
due_number_is_milliseconds : (o : Option ℕ) (n : ℤ) (due : ℕ) → IfSome o (λ ms. n ≡ pos (min LONGEST_DUE ms)) → IfNone o (n ≡ pos 0) →
    IfSome o (λ ms. ms ≡ due)
    → IfNone o (due ≡ 0) → n ≡ pos (min LONGEST_DUE due)
due_number_is_milliseconds (Some ms) n due some none is nothing = some ∙ ap (λ (k : ℕ). pos (min LONGEST_DUE k)) is
due_number_is_milliseconds None n due some none is nothing = none ∙ ap (λ (k : ℕ). pos (min LONGEST_DUE k)) (sym nothing)

pub returns : goal.returns
returns c = record {
  outcome = inl (
    c.in-Ok.ensures.config,
    record_changes_when_due c.args.config.now c.args.device.now c.in-Ok.found.1 _ c.in-Ok.ensures.set_up c.in-Ok.ensures.only
        (to_z-of_z w32 c.due_number.result (omega (arith, c.due_number.type_inv))
        ∙ due_number_is_milliseconds c.mode_due.result c.due_number.result _ c.due_number.ensures.some c.due_number.ensures.none
        c.mode_due.ensures.some
        c.mode_due.ensures.none
        ∙ ap (λ (n : ℕ). pos (min LONGEST_DUE (due_of c.in-Ok.found.0.config c.in-Ok.found.1 n))) c.from-block_len.ensures),
  );
}

pub returns-in-Err : goal.returns-in-Err
returns-in-Err c = record {
  outcome = inr (subst (λ (n : ℤ). RefusesConfigOrRecord c.args.config.now c.args.device.now n)
      (sym (to_z-of_z w32 _ (omega (arith, c.number.type_inv)) ∙ c.number.ensures)) c.in-Err.ensures.err);
}
