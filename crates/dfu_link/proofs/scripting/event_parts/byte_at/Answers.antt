use Rattle.std.proofs.Common.{◌∙◌, ◌-◌, ℕ, List, length, get_or, sym, ap, arith}
use Rattle.dfu_link.proofs.Checking.{taken_length, stored_byte_is_on_medium, later_byte_is_held_back}
use Rattle.dfu_link.proofs.scripting.event_parts.byte_at.Goals as goal

pub returns-then-i-stored-clause-some : goal.returns-then-i-stored-clause-some
returns-then-i-stored-clause-some g c =
    let s = c.args.slots.now in (
      omega (arith, taken_length s c.args.candidate c.requires, c.if-i-stored.true),
      c.stored_byte.ensures ∙ sym (stored_byte_is_on_medium s c.args.candidate c.requires c.args.i c.if-i-stored.true),
    )

pub returns-then-i-stored-2-clause-some : goal.returns-then-i-stored-2-clause-some
returns-then-i-stored-2-clause-some g c =
    let s = c.args.slots.now in
    let held = c.held-held.ensures.held in (
      omega (arith, taken_length s c.args.candidate c.requires, ap (λ (l : List ℕ). length l) held, c.if-i-stored-2.true),
      ap (λ (l : List ℕ). get_or l (c.args.i - c.args.candidate.stored) 0) held
          ∙ sym (later_byte_is_held_back s c.args.candidate c.requires c.args.i (omega (arith, c.if-i-stored.false))),
    )

pub returns-clause-none : goal.returns-clause-none
returns-clause-none g c =
    omega (
      arith,
      taken_length c.args.slots.now c.args.candidate c.requires,
      c.if-i-stored.false,
      c.if-i-stored-2.false,
      ap (λ (l : List ℕ). length l) c.held-held.ensures.held,
    )
