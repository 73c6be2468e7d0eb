use Rattle.std.proofs.Common.{ℕ, List, Ok, Err, refl, ap, ◌∙◌, arith}
use Rattle.std.proofs.lemmas.Bool.{eq-eqb, ne_eqb}
use Rattle.dfu_suffix.specs.Register.{register}
use Rattle.dfu_suffix.proofs.JudgeLaws.{crc_checked_summary_is_reading}
use Rattle.dfu_suffix.proofs.parse.parse.Goals as goal

pub returns-in-Err : goal.returns-in-Err
returns-in-Err c =
    let b = c.args.bytes.now in
    crc_checked_summary_is_reading b c.tail.result.now (register b) _ c.parse_tail.result (Err c.in-Err.fault)
    (λ k. omega (arith, c.type_inv.bytes k)) (omega arith) c.tail.ensures.value c.parse_tail.ensures.answer c.in-Err.is refl refl

pub returns-in-Ok : goal.returns-in-Ok
returns-in-Ok c =
    crc_checked_summary_is_reading c.args.bytes.now c.tail.result.now c.register_over.result _ c.parse_tail.result (Ok c.in-Ok.field-0)
    (λ k. omega (arith, c.type_inv.bytes k))
    (omega arith) c.tail.ensures.value c.parse_tail.ensures.answer c.in-Ok.is c.register_over.ensures
    (ne_eqb _ _ c.if-register_over-ne0.true)

pub returns-in-Ok-2 : goal.returns-in-Ok-2
returns-in-Ok-2 c =
    let s = c.in-Ok.field-0 in
    ap (λ (p : List ℕ). Ok (record { payload = p; ids = s.ids; dfu = s.dfu; suffix = s.suffix })) c.payload_of.ensures
    ∙ crc_checked_summary_is_reading c.args.bytes.now c.tail.result.now c.register_over.result _ c.parse_tail.result (Ok s)
    (λ k. omega (arith, c.type_inv.bytes k))
    (omega arith) c.tail.ensures.value c.parse_tail.ensures.answer c.in-Ok.is c.register_over.ensures
    (eq-eqb _ _ c.if-register_over-ne0.false)
