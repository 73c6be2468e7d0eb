-- Whole runs of a board in C.
use Rattle.std.specs.Prelude.{◌≡◌, ◌≤◌, ◌<◌, ◌^◌, Bool, true, false, pos, List, [], ◌∷◌, length, None}
use Rattle.std.proofs.Common.{inl, inr, refl, sym, ap, ◌∙◌, subst, arith}
use Rattle.dfu_wire.specs.declared.states.State.{State}
use Rattle.dfu_slots.specs.declared.layout.Unit.{Unit as WriteUnit}
use Rattle.dfu_slots.specs.declared.layout.Unit.TheVariants as unit
use Rattle.dfu_slots.specs.Units.{unit_size, Grain}
use Rattle.dfu_slots.specs.Medium.{MediumState}
use Rattle.dfu_slots.specs.Image.{Active, IsSizedMedium}
use Rattle.dfu_device.specs.declared.device_state.DeviceState.{DeviceState}
use Rattle.dfu_device.specs.Stage.{state_of}
use Rattle.dfu_device.specs.Parts.{stage_of}
use Rattle.dfu_asks.specs.declared.asking.Asking.{Asking}
use Rattle.dfu_asks.specs.Mapped.{mapped_medium}
use Rattle.dfu_asks.specs.Asks.{grain_in}
use Rattle.dfu_laws.specs.board.Board.{Board, Event, Restart, BoardStep, lent_on, medium_on, device_on, state_on}
use Rattle.dfu_laws.specs.board.Happens.{IsRun}
use Rattle.dfu_laws.specs.board.ImageSurvival.{RunsKeepImage, ImageStaysInRun, ManifestationInstalls, accepted_bytes_of, is_manifesting, has_manifested}
use Rattle.dfu_laws.specs.board.Refines.{RunsRefineDeviceTable}
use Rattle.dfu_core.specs.declared.config.DfuConfig.{DfuConfig}
use Rattle.dfu_core.specs.Config.{config_grain}
use Rattle.dfu_core.specs.RecordMeaning.{IsRecordOf}
use Rattle.dfu_core.specs.Board.{CoreBoard, CoreEvent, CoreHandle, CoreElapse, CoreReset, CoreTooLong, CoreRefuseClose, CoreRefuse, CoreWrite, CoreTook, CoreRestart, medium_of_core, HasBoardState}
use Rattle.dfu_laws.specs.in_c.Steps.{CoreStep, IsCoreRun, board_of_core, event_of_core, IsBoardOfCore, AreBoardStepsOf}
use Rattle.dfu_laws.specs.in_c.Runs.{CoreRunIsBoardRun, CoreRunsRefineTable, CoreRunsKeepImage, CoreImageStaysInRun, CoreManifestationInstalls, CorePowerOnSucceeds}
use Rattle.dfu_laws.proofs.in_c.RecordDevices.{record_has_one_mode, same_config_same_setup}
use Rattle.dfu_laws.proofs.in_c.Fits.{run_replies_fit_setups}
use Rattle.dfu_laws.proofs.in_c.BoardStepsInC.{IsSoundCoreBoard}
use Rattle.dfu_laws.proofs.in_c.StepsInC.{power_outcome_starts_board, core_step_is_board_step}

-- The steps lead from a board in C, with the device a, to a board in C with another device. The steps correspond to a run of the boards
-- that the two boards in C represent.
pub record CoreRunOutcome (b : CoreBoard) (a : Asking) (steps : List CoreStep) (b' : CoreBoard) : Type 0 where
  pub config : b'.config ≡ b.config
  pub last : Asking
  -- The board in C represents this device, and is well-formed.
  pub sound : IsSoundCoreBoard b' last
  pub run : List BoardStep
  pub is_run : IsRun (board_of_core b a) run (board_of_core b' last)
  -- The steps in C correspond to these steps.
  pub are : AreBoardStepsOf steps run

sound_core_board_is_board : (b : CoreBoard) (a : Asking) → IsSoundCoreBoard b a → IsBoardOfCore b (board_of_core b a)
sound_core_board_is_board b a sound = record { kept = sound.kept; is = refl }

-- The flash of a board in C is the flash of the board that it represents.
pub core_flash_is_board_flash : (b : CoreBoard) (x : Board) → IsBoardOfCore b x → medium_on x ≡ medium_of_core b
core_flash_is_board_flash b x is = λ i. mapped_medium (record { unit = is.kept.set_up.unit_is i; sector = is.kept.set_up.sector_is i })
    (is.is i).flash

-- The state of a board in C is the state of the board that it represents.
pub core_state_is_board_state : (b : CoreBoard) (x : Board) (state : State) → IsBoardOfCore b x → HasBoardState b state → state_on x ≡ state
core_state_is_board_state b x state at is =
    ap (λ (m : DeviceState). state_of (stage_of m [] [])) (record_has_one_mode b.kept x.asking.mode is.mode at.kept.mode is.has_mode)
    ∙ is.state_is

sound_core_state_is_board_state : (b : CoreBoard) (a : Asking) (state : State) → IsSoundCoreBoard b a → HasBoardState b state →
    state_on (board_of_core b a) ≡ state
sound_core_state_is_board_state b a state sound is =
    ap (λ (m : DeviceState). state_of (stage_of m [] [])) (record_has_one_mode b.kept a.mode is.mode sound.kept.mode is.has_mode)
    ∙ is.state_is

pub core_run_has_outcome : (b : CoreBoard) (a : Asking) (steps : List CoreStep) (b' : CoreBoard) → IsSoundCoreBoard b a →
    IsCoreRun b steps b' → CoreRunOutcome b a steps b'
core_run_has_outcome b a [] b' sound run = record {
  config = ap (λ (x : CoreBoard). x.config) run;
  last = a;
  sound = subst (λ (x : CoreBoard). IsSoundCoreBoard x a) (sym run) sound;
  run = [];
  is_run = ap (λ (x : CoreBoard). board_of_core x a) run;
  are = tt;
}
core_run_has_outcome b a (s ∷ rest) b' sound run =
    let t = core_step_is_board_step b a s.event s.number s.out s.after sound run.1 in
    let more = core_run_has_outcome s.after t.after rest b' t.sound run.2 in
    let kept = subst (λ (c : DfuConfig). IsRecordOf c s.after.kept t.after) t.config t.sound.kept in
    let step : BoardStep = record {
      before = board_of_core b a;
      event = event_of_core b.config s.event;
      says = t.says;
      after = board_of_core s.after t.after;
    } in
    record {
      config = more.config ∙ t.config;
      last = more.last;
      sound = more.sound;
      run = step ∷ more.run;
      is_run = (refl, t.happens, same_config_same_setup b.config b.kept s.after.kept a t.after sound.kept kept, more.is_run);
      are = (
        record {
          before = subst (λ (x : CoreBoard). IsBoardOfCore x (board_of_core b a)) (sym run.0) (sound_core_board_is_board b a sound);
          event = ap (λ (x : CoreBoard). event_of_core x.config s.event) (sym run.0);
          says = t.told;
          after = sound_core_board_is_board s.after t.after t.sound;
        },
        more.are,
      );
    }

abbrev core_outcome_is_board_run : (b : CoreBoard) (a : Asking) (steps : List CoreStep) (b' : CoreBoard) → IsSoundCoreBoard b a →
    CoreRunOutcome b a steps b' → CoreRunIsBoardRun b b' steps
core_outcome_is_board_run b a steps b' sound ran = record {
  config = ran.config;
  first = board_of_core b a;
  last = board_of_core b' ran.last;
  run = ran.run;
  is_first = sound_core_board_is_board b a sound;
  is_last = sound_core_board_is_board b' ran.last ran.sound;
  is_run = ran.is_run;
  are = ran.are;
}

-- Runs of a board in C from power on are runs of a board, and rows of the device table.
pub core_runs_refine_table : RunsRefineDeviceTable → CoreRunsRefineTable
core_runs_refine_table refines b b' steps on run =
    let start = power_outcome_starts_board b (pos 0) on.begins on.powers in
    let ran = core_run_has_outcome b on.powers.after steps b' start.0 run in
    let refined = refines (board_of_core b on.powers.after) (board_of_core b' ran.last) ran.run start.1.0 ran.is_run in
    record {
      runs = core_outcome_is_board_run b on.powers.after steps b' start.0 ran;
      on = start.1.0;
      refined = refined;
      fit = run_replies_fit_setups ran.run None refined.due refined.rows (device_on (board_of_core b on.powers.after)) refined.device
          refined.tells
          refined.history;
    }

pub core_runs_keep_image : RunsKeepImage → CoreRunsKeepImage
unfolding core_run_has_outcome
core_runs_keep_image keeps b b' steps image on active run =
    let start = power_outcome_starts_board b (pos 0) on.begins on.powers in
    let none = core_run_has_outcome b on.powers.after [] b start.0 refl in
    let ran = core_run_has_outcome b on.powers.after steps b' start.0 run in
    let first = subst (λ (m : MediumState). Active m image)
    (sym (core_flash_is_board_flash b (board_of_core b on.powers.after) (sound_core_board_is_board b on.powers.after start.0))) active in
    let kept = keeps (board_of_core b on.powers.after) (board_of_core b' ran.last) ran.run image start.1.0 first ran.is_run in
    record {
      past = core_outcome_is_board_run b on.powers.after [] b start.0 none;
      runs = core_outcome_is_board_run b on.powers.after steps b' start.0 ran;
      kept = kept;
      active = subst (λ (m : MediumState). Active m kept.now)
          (core_flash_is_board_flash b' (board_of_core b' ran.last) (sound_core_board_is_board b' ran.last ran.sound)) kept.active;
    }

pub core_image_stays_in_run : ImageStaysInRun → CoreImageStaysInRun
core_image_stays_in_run stays b mid b' old steps image state on before is other active run =
    let start = power_outcome_starts_board b (pos 0) on.begins on.powers in
    let past = core_run_has_outcome b on.powers.after old mid start.0 before in
    let ran = core_run_has_outcome mid past.last steps b' past.sound run in
    let here = subst (λ (m : MediumState). Active m image)
    (sym (core_flash_is_board_flash mid (board_of_core mid past.last) (sound_core_board_is_board mid past.last past.sound))) active in
    let kept = stays (board_of_core b on.powers.after) (board_of_core mid past.last) (board_of_core b' ran.last) past.run ran.run image
    start.1.0 past.is_run
    (ap (λ (s : State). is_manifesting s) (sound_core_state_is_board_state mid past.last state past.sound is) ∙ other) here ran.is_run in
    record {
      past = core_outcome_is_board_run b on.powers.after old mid start.0 past;
      runs = core_outcome_is_board_run mid past.last steps b' past.sound ran;
      kept = kept;
      active = subst (λ (m : MediumState). Active m kept.now)
          (core_flash_is_board_flash b' (board_of_core b' ran.last) (sound_core_board_is_board b' ran.last ran.sound)) kept.active;
    }

-- Only dfu_core_begin restarts a board for a host.
only_core_begin_begins : (c : DfuConfig) (e : CoreEvent) → event_of_core c e ≡ Restart true → e ≡ CoreRestart true
only_core_begin_begins c (CoreRestart begins) same = ap CoreRestart (ap event_begins_for_host same)
  where
    -- True for a restart of a board that begins for a host.
    event_begins_for_host : Event → Bool
    event_begins_for_host (Restart begins) = begins
    event_begins_for_host e = false
only_core_begin_begins c (CoreHandle setup body out) same = absurd (cc)
only_core_begin_begins c (CoreElapse ms) same = absurd (cc)
only_core_begin_begins c CoreReset same = absurd (cc)
only_core_begin_begins c (CoreTooLong setup body) same = absurd (cc)
only_core_begin_begins c (CoreRefuseClose setup status) same = absurd (cc)
only_core_begin_begins c (CoreRefuse status) same = absurd (cc)
only_core_begin_begins c CoreWrite same = absurd (cc)
only_core_begin_begins c (CoreTook failed out) same = absurd (cc)

pub core_manifestation_installs : ManifestationInstalls → CoreManifestationInstalls
unfolding core_run_has_outcome
core_manifestation_installs installs b mid b' steps last state state' on before is waits run other is' over =
    let start = power_outcome_starts_board b (pos 0) on.begins on.powers in
    let past = core_run_has_outcome b on.powers.after steps mid start.0 before in
    let ran = core_run_has_outcome mid past.last (last ∷ []) b' past.sound run in
    record {
      runs = core_outcome_is_board_run b on.powers.after steps mid start.0 past;
      active = subst (λ (m : MediumState). Active m (accepted_bytes_of [] past.run))
          (core_flash_is_board_flash b' (board_of_core b' ran.last) (sound_core_board_is_board b' ran.last ran.sound))
          (installs (board_of_core b on.powers.after) (board_of_core mid past.last) (board_of_core b' ran.last) past.run _ start.1.0
          past.is_run
          (ap (λ (s : State). is_manifesting s) (sound_core_state_is_board_state mid past.last state past.sound is) ∙ waits) ran.is_run
          (λ e. other (only_core_begin_begins mid.config last.event e))
          (ap (λ (s : State). has_manifested s) (sound_core_state_is_board_state b' ran.last state' ran.sound is') ∙ over));
    }

write_unit_at_most_256 : (u : WriteUnit) → unit_size u ≤ 256
write_unit_at_most_256 unit.Byte = omega arith
write_unit_at_most_256 unit.U16 = omega arith
write_unit_at_most_256 unit.U64 = omega arith
write_unit_at_most_256 unit.U256 = omega arith

-- A medium of two slots has less than 2^32 bytes.
pub sized_medium_below_2_32 : (m : MediumState) → IsSizedMedium m → length m.bytes < 2 ^ 32
sized_medium_below_2_32 m sized = omega (arith, sized.even, sized.bound, sized.whole.bound, write_unit_at_most_256 m.grain.unit)

-- After any run, dfu_core_power_on is not refused.
pub core_power_on_succeeds : CoreRunsKeepImage → CorePowerOnSucceeds
core_power_on_succeeds keeps b b' steps on run n refused =
    let start = (power_outcome_starts_board b (pos 0) on.begins on.powers).1.0.is.store.has_image in
    let grain : grain_in (lent_on (board_of_core b on.powers.after)) ≡ config_grain b.config =
    λ i. record { unit = on.powers.is.set_up.unit_is i; sector = on.powers.is.set_up.sector_is i } in
    let first : Active (medium_of_core b) start.image =
    subst (λ (g : Grain). Active (mapped_medium g b.flash) start.image) grain start.active in
    let kept = keeps b b' steps start.image on first run in
    let active = subst (λ (c : DfuConfig). Active (mapped_medium (config_grain c) b'.flash) kept.kept.now) kept.runs.config kept.active in
    elim refused [
      | inl config ↦ config.1 on.powers.config
      | inr medium ↦ elim (medium.2) [
        | inl none ↦ none (record { image = kept.kept.now; active = active })
        | inr long ↦ omega (arith, long, sized_medium_below_2_32 (mapped_medium (config_grain b.config) b'.flash) active.sized)
      ]
    ]
