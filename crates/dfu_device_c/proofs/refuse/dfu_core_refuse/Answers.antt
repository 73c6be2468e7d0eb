use Rattle.std.proofs.Common.{pos, inl, refl, subst}
use Rattle.dfu_device.specs.declared.answer.Answer.TheVariants as answer
use Rattle.dfu_device.specs.declared.objection.Objection.{Objection}
use Rattle.dfu_device.specs.Rows.{Refusing}
use Rattle.dfu_core.specs.Refuse.{RecordTakesRow, RefuseOutcome}
use Rattle.dfu_device_c.proofs.ModeChanges.{record_takes_cause_row}
use Rattle.dfu_device_c.proofs.Refusals.{refused_image_takes_row}
use Rattle.dfu_device_c.proofs.refuse.dfu_core_refuse.Goals as goal

pub returns : goal.returns
returns c =
    let k = c.args.config.now in
    let r = c.args.device.now in
    let r' = c.set_mode.new.kept in
    let m' = c.after_refusal.result in
    let why = c.in-Some.objection in
    let outcome : RefuseOutcome k r c.args.status (pos 0) r' = inl (
      refl,
      c.in-Ok.ensures.idle,
      c.in-Some.ensures.some.1,
      subst (λ (w : Objection). RecordTakesRow k r (Refusing w) answer.Ack r') c.in-Some.ensures.some.0
          (record_takes_cause_row k r r' c.in-Ok.found.1 m' c.in-Ok.ensures.only c.in-Ok.ensures.idle.idle c.set_mode.ensures.mode
          c.set_mode.ensures.others (Refusing why) answer.Ack
          (λ l flash config mode device. refused_image_takes_row k c.in-Ok.found.1 m' why l flash config mode device
          c.after_refusal.ensures.stage
          c.after_refusal.ensures.filled)),
    ) in
    record { outcome = outcome; step = λ block flash. (record { config = refl; flash = refl }, refl, outcome) }
