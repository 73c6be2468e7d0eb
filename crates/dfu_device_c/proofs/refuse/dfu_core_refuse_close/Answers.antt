use Rattle.std.proofs.Common.{List, ℕ, inl, inr, refl, sym, subst, ◌∙◌}
use Rattle.std.proofs.lemmas.Bool.{false≢true}
use Rattle.dfu_device.specs.declared.answer.Answer.TheVariants as answer
use Rattle.dfu_device.specs.declared.objection.Objection.{Objection}
use Rattle.dfu_device.specs.Rows.{RefusingClose}
use Rattle.dfu_asks.specs.Addressed.{addressed_setup}
use Rattle.dfu_core.specs.RecordMeaning.{with_memory}
use Rattle.dfu_core.specs.Numbers.{STALL_NUMBER, NO_CLOSE_NUMBER}
use Rattle.dfu_core.specs.Refuse.{objection_of_status, RecordTakesRow, ClosesNoDownload, RefuseCloseOutcome}
use Rattle.dfu_device_c.proofs.RecordAnswers.{record_device_is_in_mode}
use Rattle.dfu_device_c.proofs.ModeChanges.{record_takes_cause_row}
use Rattle.dfu_device_c.proofs.Refusals.{refused_close_takes_row}
use Rattle.dfu_device_c.proofs.refuse.dfu_core_refuse_close.Goals as goal

pub returns-then-not-mode_closes : goal.returns-then-not-mode_closes
returns-then-not-mode_closes c =
    let k = c.args.config.now in
    let r = c.args.device.now in
    let none : ClosesNoDownload k r c.addressed-own.result = λ a kept block flash device closes.
    let told = c.mode_closes.ensures (with_memory block a) flash
    (record_device_is_in_mode k r c.in-Ok.found.1 c.in-Ok.ensures.set_up c.in-Ok.ensures.only block flash a kept device) in
    false≢true (sym c.if-not-mode_closes.true ∙ told.closes.1 closes) in
    let outcome : RefuseCloseOutcome k r (addressed_setup k.interface c.args.setup.now) c.args.status NO_CLOSE_NUMBER r = inr (
      refl,
      inl (
        refl,
        c.in-Ok.ensures.idle,
        c.in-Some.ensures.some.1,
        subst (λ (x : List ℕ). ClosesNoDownload k r x) c.addressed-own.ensures none,
      ),
    ) in
    record { outcome = outcome; step = λ block flash. (record { config = refl; flash = refl }, refl, outcome) }

pub returns : goal.returns
returns c =
    let k = c.args.config.now in
    let r = c.args.device.now in
    let r' = c.set_mode.new.kept in
    let m' = c.after_refused_close.result in
    let why = c.in-Some.objection in
    let own = c.addressed-own.result in
    let outcome : RefuseCloseOutcome k r (addressed_setup k.interface c.args.setup.now) c.args.status STALL_NUMBER r' = inl (
      refl,
      c.in-Ok.ensures.idle,
      c.in-Some.ensures.some.1,
      subst (λ (x : List ℕ). RecordTakesRow k r (RefusingClose x (objection_of_status c.args.status)) answer.Stall r')
          c.addressed-own.ensures
          (subst (λ (w : Objection). RecordTakesRow k r (RefusingClose own w) answer.Stall r') c.in-Some.ensures.some.0
          (record_takes_cause_row k r r' c.in-Ok.found.1 m' c.in-Ok.ensures.only c.in-Ok.ensures.idle.idle c.set_mode.ensures.mode
          c.set_mode.ensures.others (RefusingClose own why) answer.Stall
          (λ l flash config mode device. refused_close_takes_row k c.in-Ok.found.1 m' why l flash config mode device own
          ((c.mode_closes.ensures l flash (record {
            config_is = config ∙ sym c.in-Ok.ensures.set_up.config_is;
            mode_is = sym mode;
            device = device;
          })).closes.0 c.if-not-mode_closes.false)
          c.after_refused_close.ensures.stage c.after_refused_close.ensures.filled))),
    ) in
    record { outcome = outcome; step = λ block flash. (record { config = refl; flash = refl }, refl, outcome) }
