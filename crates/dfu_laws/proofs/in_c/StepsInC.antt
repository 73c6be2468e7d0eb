-- Each step of a board in C is a step of a board.
use Rattle.std.specs.Prelude.{◌≡◌, ℕ, ℤ, Bool, true, false, List, []}
use Rattle.std.proofs.Common.{inl, inr, refl, sym, ap, ◌∙◌, subst, arith}
use Rattle.dfu_device.specs.declared.answer.Answer.TheVariants as answer
use Rattle.dfu_device.specs.Parts.{stage_of}
use Rattle.dfu_device.specs.DeviceView.{powered_on_device}
use Rattle.dfu_asks.specs.declared.asking.Asking.{Asking}
use Rattle.dfu_asks.specs.Mapped.{mapped_medium}
use Rattle.dfu_asks.specs.Asks.{device_in, IsDevice}
use Rattle.dfu_laws.specs.board.Board.{Nothing, Answers}
use Rattle.dfu_laws.specs.board.Happens.{start_stage, BoardStarts, ObjectionServed, EventOutcome}
use Rattle.dfu_core.specs.declared.config.DfuConfig.{DfuConfig}
use Rattle.dfu_core.specs.declared.record.DfuRecord.{DfuRecord}
use Rattle.dfu_asks.specs.Addressed.{addressed_setup}
use Rattle.dfu_core.specs.RecordMeaning.{IsRecordOf, block_in_memory, held_memory, with_memory}
use Rattle.dfu_core.specs.Writes.{ask_step}
use Rattle.dfu_core.specs.Power.{PowerOutcome}
use Rattle.dfu_core.specs.Idle.{IsIdleRecord}
use Rattle.dfu_core.specs.Refuse.{objection_of_status, RecordTakesRow, RefuseCloseOutcome, RefuseOutcome}
use Rattle.dfu_device.specs.declared.answer.Answer.{Answer}
use Rattle.dfu_device.specs.Rows.{Cause, RefusingClose, Refusing, Row}
use Rattle.dfu_core.specs.Board.{CoreBoard, CoreEvent, CoreHandle, CoreElapse, CoreReset, CoreTooLong}
use Rattle.dfu_core.specs.Board.{CoreRefuseClose, CoreRefuse, CoreWrite, CoreTook, CoreRestart}
use Rattle.dfu_core.specs.Happens.{KeepsConfigAndFlash, CoreFlashIsWritten, start_mode, CoreEventOutcome}
use Rattle.dfu_laws.specs.in_c.Steps.{board_of_core, event_of_core, EventNumberTellsReply}
use Rattle.dfu_laws.proofs.in_c.RecordDevices.{work_number_0_is_no_work}
use Rattle.dfu_laws.proofs.in_c.BoardStepsInC.{IsSoundCoreBoard, CoreStepIsBoardStep, sound_with_same_config, refused_call_is_board_step}
use Rattle.dfu_laws.proofs.in_c.CallTurns.{handed_out_work_is_due, core_handle_is_board_step, core_elapse_is_board_step, core_reset_is_board_step, core_took_is_board_step, core_too_long_is_board_step, refused_setup_is_refusal}

-- A refusal by the program changes the record in C and the board that the record represents by the same row.
record_refusal_is_board_refusal : (b : CoreBoard) (a : Asking) (e : CoreEvent) (cause : Cause) (x : Answer) (n : ℤ) (out' : List ℕ) (b' :
    CoreBoard)
    → IsSoundCoreBoard b a → KeepsConfigAndFlash b b' → b'.block ≡ b.block → IsIdleRecord b.config b.kept →
    RecordTakesRow b.config b.kept cause x b'.kept
    → ((after : Asking) → ObjectionServed (board_of_core b a) cause x (Answers x []) (board_of_core b' after)
    → EventOutcome (board_of_core b a) (event_of_core b.config e) (Answers x []) (board_of_core b' after))
    → EventNumberTellsReply e n out' (Answers x []) → CoreStepIsBoardStep b a e n out' b'
record_refusal_is_board_refusal b a e cause x n out' b' sound called block idle takes happens told =
    let t = takes a sound.kept in
    let before = with_memory b.block a in
    record {
      config = called.config;
      after = t.0;
      sound = sound_with_same_config b b' t.0 sound.config called.config t.1 (omega (arith, sound.short, t.3));
      says = Answers x [];
      happens = happens t.0 (record {
        idle = work_number_0_is_no_work b.kept a.work sound.kept.work idle.idle;
        flash = called.flash;
        row = λ device. subst (λ (l : List ℕ). IsDevice (with_memory l t.0) b'.flash
            × Row (device_in before b.flash) cause x [] (device_in (with_memory l t.0) b'.flash)) (sym block)
            (subst (λ (f : List ℕ). IsDevice (with_memory b.block t.0) f
            × Row (device_in before b.flash) cause x [] (device_in (with_memory b.block t.0) f)) (sym called.flash)
            (t.4 b.block b.flash device));
        work = t.2;
        says_is = refl;
      });
      told = told;
    }

-- A call of dfu_core_refuse_close is a step of a board.
core_refuse_close_is_board_step : (b : CoreBoard) (a : Asking) (setup : List ℕ) (status : ℕ) (n : ℤ) (out' : List ℕ) (b' : CoreBoard) →
    IsSoundCoreBoard b a
    → KeepsConfigAndFlash b b' → b'.block ≡ b.block → RefuseCloseOutcome b.config b.kept (addressed_setup b.config.interface setup) status
    n b'.kept
    → CoreStepIsBoardStep b a (CoreRefuseClose setup status) n out' b'
core_refuse_close_is_board_step b a setup status n out' b' sound called block (inl (is, idle, objects, takes)) =
    record_refusal_is_board_refusal b a (CoreRefuseClose setup status)
    (RefusingClose (addressed_setup b.config.interface setup) (objection_of_status status)) answer.Stall n out'
    b' sound called block idle takes (λ after o. o) (is, refl)
core_refuse_close_is_board_step b a setup status n out' b' sound called block (inr (kept, denied)) =
    refused_call_is_board_step b a _ n out' b' sound called.config called.flash kept block (λ same. same)
    (elim denied [
      | inl none ↦ inr (inl none.0)
      | inr refused ↦ elim refused [
        | inl other ↦ inr (inr other.0)
        | inr early ↦ inl (refused_setup_is_refusal b n early)
      ]
    ])

-- A call of dfu_core_refuse is a step of a board.
core_refuse_is_board_step : (b : CoreBoard) (a : Asking) (status : ℕ) (n : ℤ) (out' : List ℕ) (b' : CoreBoard) → IsSoundCoreBoard b a →
    KeepsConfigAndFlash b b'
    → b'.block ≡ b.block → RefuseOutcome b.config b.kept status n b'.kept → CoreStepIsBoardStep b a (CoreRefuse status) n out' b'
core_refuse_is_board_step b a status n out' b' sound called block (inl (is, idle, objects, takes)) =
    record_refusal_is_board_refusal b a (CoreRefuse status) (Refusing (objection_of_status status)) answer.Ack n out' b' sound called block
    idle takes (λ after o. o)
    (is, refl)
core_refuse_is_board_step b a status n out' b' sound called block (inr (kept, denied)) =
    refused_call_is_board_step b a _ n out' b' sound called.config called.flash kept block (λ same. same)
    (elim denied [
      | inl other ↦ inr (inr other.0)
      | inr early ↦ inl (refused_setup_is_refusal b n early)
    ])

-- A write of the flash in C is a write of the board.
core_write_is_board_step : (b : CoreBoard) (a : Asking) (n : ℤ) (out' : List ℕ) (b' : CoreBoard) → IsSoundCoreBoard b a →
    CoreFlashIsWritten b n b'
    → CoreStepIsBoardStep b a CoreWrite n out' b'
core_write_is_board_step b a n out' b' sound w =
    let at = handed_out_work_is_due b a b.flash n w.ask sound w.handed in
    record {
      config = w.config;
      after = a;
      sound =
          sound_with_same_config b b' a sound.config w.config
          (subst (λ (r : DfuRecord). IsRecordOf b.config r a) (sym w.kept) sound.kept) sound.short;
      says = Nothing;
      happens = (
        refl,
        record {
          piece = ask_step w.ask;
          handed = (w.handed.work, at.0, at.1);
          torn = w.torn;
          asking = refl;
          block = ap (λ (l : List ℕ). block_in_memory a l) w.block;
          held = ap (λ (l : List ℕ). held_memory a l) w.block;
        },
      );
      told = (w.handed.number_is, refl);
    }

start_mode_has_start_stage : (begins : Bool) → stage_of (start_mode begins) [] [] ≡ start_stage begins
start_mode_has_start_stage true = refl
start_mode_has_start_stage false = refl

-- If a board in C was just powered on, the board that it represents was just powered on too.
pub power_outcome_starts_board : (b : CoreBoard) (n : ℤ) (begins : Bool) → (p : PowerOutcome b.config (start_mode begins) b.flash n b.kept)
    → IsSoundCoreBoard b p.after × BoardStarts begins (board_of_core b p.after)
power_outcome_starts_board b n begins p =
    let none : b.kept.length ≡ 0 = ap (λ (r : DfuRecord). r.length) p.rest in (
      record { config = p.config; kept = p.is; short = omega (arith, none, p.is.block) },
      (
        record {
          begins = begins;
          device = p.shows b.block ∙ (λ i. record (powered_on_device (sym p.is.set_up.config_is i) (mapped_medium (record {
            unit = sym p.is.set_up.unit_is i;
            sector = sym p.is.set_up.sector_is i;
          }) b.flash)) { stage = start_mode_has_start_stage begins i });
          is = p.device b.block;
          work = p.work;
        },
        refl,
      ),
    )

-- A call of dfu_core_power_on or dfu_core_begin is a step of a board.
core_restart_is_board_step : (b : CoreBoard) (a : Asking) (begins : Bool) (n : ℤ) (out' : List ℕ) (b' : CoreBoard) →
    KeepsConfigAndFlash b b'
    → PowerOutcome b.config (start_mode begins) b.flash n b'.kept → CoreStepIsBoardStep b a (CoreRestart begins) n out' b'
core_restart_is_board_step b a begins n out' b' called powers =
    let here = subst (λ (c : DfuConfig). PowerOutcome c (start_mode begins) b'.flash n b'.kept) (sym called.config)
    (subst (λ (f : List ℕ). PowerOutcome b.config (start_mode begins) f n b'.kept) (sym called.flash) powers) in
    let on = power_outcome_starts_board b' n begins here in
    record {
      config = called.config;
      after = here.after;
      sound = on.0;
      says = Nothing;
      happens = (refl, called.flash, on.1);
      told = (powers.number_is, refl);
    }

-- Each step of a board in C is a step of the board that it represents.
pub core_step_is_board_step : (b : CoreBoard) (a : Asking) (e : CoreEvent) (n : ℤ) (out' : List ℕ) (b' : CoreBoard) → IsSoundCoreBoard b a
    → CoreEventOutcome b e n out' b' → CoreStepIsBoardStep b a e n out' b'
core_step_is_board_step b a (CoreHandle setup body out) n out' b' sound is = core_handle_is_board_step b a setup body out n out' b' sound
    is.0 is.1
core_step_is_board_step b a (CoreElapse ms) n out' b' sound is = core_elapse_is_board_step b a ms n out' b' sound is.0 is.1
core_step_is_board_step b a CoreReset n out' b' sound is = core_reset_is_board_step b a n out' b' sound is.0 is.1
core_step_is_board_step b a (CoreTooLong setup body) n out' b' sound is = core_too_long_is_board_step b a setup body n out' b' sound is.0
    is.1 is.2 is.3 is.4
core_step_is_board_step b a (CoreRefuseClose setup status) n out' b' sound is = core_refuse_close_is_board_step b a setup status n out' b'
    sound is.0 is.1 is.2
core_step_is_board_step b a (CoreRefuse status) n out' b' sound is = core_refuse_is_board_step b a status n out' b' sound is.0 is.1 is.2
core_step_is_board_step b a CoreWrite n out' b' sound is = core_write_is_board_step b a n out' b' sound is
core_step_is_board_step b a (CoreTook failed out) n out' b' sound is = core_took_is_board_step b a failed out n out' b' sound is.0 is.1
core_step_is_board_step b a (CoreRestart begins) n out' b' sound is = core_restart_is_board_step b a begins n out' b' is.0 is.1
