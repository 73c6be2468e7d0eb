-- Laws of a format in C.
use Rattle.std.specs.Prelude.{◌≡◌, ◌≢◌, ◌*◌, ◌/◌, ◌-◌, ◌≤◌, ◌<◌, ◌^◌, ◌==◌, ℕ, ℤ, pos, Bool, List, length, if◌then◌else◌}
use Rattle.std.proofs.Common.{inl, inr, refl, sym, ap, ◌∙◌, subst, arith}
use Rattle.dfu_slots.specs.declared.fault.WriteFault.{WriteFault}
use Rattle.dfu_slots.specs.declared.fault.WriteFault.TheVariants.{Failed, NotVerified}
use Rattle.dfu_slots.specs.declared.fault.FormatFault.TheVariants as fault
use Rattle.dfu_slots.specs.Units.{Grain, gate_room, IsWhole}
use Rattle.dfu_slots.specs.Medium.{Write}
use Rattle.dfu_slots.specs.Image.{Active, IsSizedMedium, capacity_of}
use Rattle.dfu_slots.specs.Changes.{CanFormat}
use Rattle.dfu_asks.specs.declared.formatting.FormatStep.{FormatStep}
use Rattle.dfu_asks.specs.declared.formatting.FormatStep.TheVariants as format_step
use Rattle.dfu_asks.specs.declared.formatting.Formatting.{Formatting}
use Rattle.dfu_asks.specs.declared.formatting.FormatProgress.{FormatProgress}
use Rattle.dfu_asks.specs.declared.formatting.FormatProgress.TheVariants as format_progress
use Rattle.dfu_asks.specs.Mapped.{mapped_medium}
use Rattle.dfu_asks.specs.Carried.{IsStepPiece}
use Rattle.dfu_asks.specs.Phases.{format_grain, remaining_steps}
use Rattle.dfu_asks.specs.Formats.{FormatPending, FormatOutcome, FormatPieceReported, format_piece_on_flash, format_piece_failed, format_piece_not_on_flash}
use Rattle.dfu_core.specs.declared.config.DfuConfig.{DfuConfig}
use Rattle.dfu_core.specs.declared.record.DfuRecord.{DfuRecord}
use Rattle.dfu_core.specs.Config.{config_grain, IsConfig}
use Rattle.dfu_core.specs.Formatting.{HasFormatPhase, IsFormatRecord}
use Rattle.dfu_core.specs.Formats.{FormatStartRefused, progress_number}
use Rattle.dfu_core.specs.Numbers.{WRITE_PENDING_NUMBER, format_number}
use Rattle.dfu_core.specs.Writes.{ask_step}
use Rattle.dfu_laws.specs.in_c.FormatCalls.{FormatPieceResult, IsBeingFormatted, begins, goes_on, EndedFormatActivatesImage, BrokenFormatCanRestart}
use Rattle.dfu_laws.proofs.in_c.RecordDevices.{sector_of_size_is_one}
use Rattle.dfu_laws.proofs.in_c.Runs.{sized_medium_below_2_32}

-- Phase of a format that the numbers of its record encode.
format_phase_at : (n from : ℕ) → FormatStep
format_phase_at n from =
    if n == 0 then format_step.CloseSecond else if n == 1 then format_step.CloseFirst else if n == 2 then format_step.Image from
    else if n == 3 then format_step.Header else if n == 4 then format_step.Gate else format_step.Ended

format_phase_of_numbers : (n from : ℕ) (p : FormatStep) → HasFormatPhase n from p → p ≡ format_phase_at n from
unfolding format_phase_at
format_phase_of_numbers n from format_step.CloseSecond h = λ i. format_phase_at (sym h i) from
format_phase_of_numbers n from format_step.CloseFirst h = λ i. format_phase_at (sym h i) from
format_phase_of_numbers n from (format_step.Image at) h = λ i. format_phase_at (sym h.0 i) (h.1 i)
format_phase_of_numbers n from format_step.Header h = λ i. format_phase_at (sym h i) from
format_phase_of_numbers n from format_step.Gate h = λ i. format_phase_at (sym h i) from
format_phase_of_numbers n from format_step.Ended h = λ i. format_phase_at (sym h i) from

pub record_is_one_format : (c : DfuConfig) (r : DfuRecord) (f g : Formatting) → IsFormatRecord c r f → IsFormatRecord c r g → f ≡ g
record_is_one_format c r f g h k = λ i. record {
  unit = (h.unit ∙ sym k.unit) i;
  sector = sector_of_size_is_one f.sector g.sector (h.sector ∙ sym k.sector) i;
  register = (h.sum ∙ sym k.sum) i;
  phase = (format_phase_of_numbers r.generation r.spare f.phase h.phase
      ∙ sym (format_phase_of_numbers r.generation r.spare g.phase k.phase)) i;
  done = (h.done ∙ sym k.done) i;
}

-- The record represents a format of the image. The format requests its next write on this flash.
pub record IsFormatAsking (c : DfuConfig) (image flash : List ℕ) (r : DfuRecord) : Type 0 where
  -- The configuration is valid for a device.
  pub config : IsConfig c
  pub format : Formatting
  pub is : IsFormatRecord c r format
  -- Bytes of the flash before the format.
  pub was : List ℕ
  pub asks : FormatPending format image was flash
  -- The flash has the same length as before the format.
  pub size : length was ≡ length flash

pub format_grain_is_config_grain : (c : DfuConfig) (r : DfuRecord) (f : Formatting) → IsFormatRecord c r f → format_grain f ≡ config_grain c
format_grain_is_config_grain c r f is = λ i. record { unit = is.unit i; sector = is.sector i }

pub pending_number_means_asks : (came : FormatProgress) → progress_number came ≡ WRITE_PENDING_NUMBER → came ≡ format_progress.Asks
pending_number_means_asks format_progress.Asks e = refl
pending_number_means_asks format_progress.Formatted e = absurd (cc)
pending_number_means_asks (format_progress.Broken why) e = absurd (cc)

zero_number_means_formatted : (came : FormatProgress) → progress_number came ≡ pos 0 → came ≡ format_progress.Formatted
zero_number_means_formatted format_progress.Asks e = absurd (cc)
zero_number_means_formatted format_progress.Formatted e = refl
zero_number_means_formatted (format_progress.Broken why) e = absurd (cc)

-- A piece that does not break off the format has the outcome of its format step.
unbroken_piece_has_outcome : (f f' : Formatting) (image was flash : List ℕ) (p : Write) (failed : Bool) (came : FormatProgress)
    → FormatPieceReported f f' image was flash p failed came → ((why : WriteFault) → came ≢ format_progress.Broken why)
    → FormatOutcome (format_grain f) f' image was flash came
unbroken_piece_has_outcome f f' image was flash p failed came (format_piece_on_flash r fine there comes) whole = comes
unbroken_piece_has_outcome f f' image was flash p failed _ (format_piece_failed fails broken) whole = absurd (whole Failed refl)
unbroken_piece_has_outcome f f' image was flash p failed _ (format_piece_not_on_flash fine lies broken) whole = absurd (whole NotVerified
    refl)

module _ (c : DfuConfig) (image flash flash' : List ℕ) (r r' : DfuRecord) (n : ℤ) (a : IsFormatAsking c image flash r)
    (t : FormatPieceResult c image flash r flash' n r') where
  took : FormatPieceReported t.goes.before t.goes.after image a.was flash' (ask_step t.ask).write t.failed t.goes.came
  took =
      let same : a.format ≡ t.goes.before = record_is_one_format c r a.format t.goes.before a.is t.goes.is in
      let handed : t.handed.formatting ≡ t.goes.before = record_is_one_format c r t.handed.formatting t.goes.before t.handed.is t.goes.is in
      t.goes.took a.was flash (subst (λ (f : Formatting). FormatPending f image a.was flash) same a.asks) (ask_step t.ask)
      (subst (λ (size : ℕ). IsStepPiece (remaining_steps t.goes.before size image) t.goes.before.done (ask_step t.ask)) (sym a.size)
      (subst (λ (f : Formatting). IsStepPiece (remaining_steps f (length flash) image) f.done (ask_step t.ask)) handed t.handed.piece))
      t.torn

  -- If dfu_core_format_took returns DFU_WRITE_PENDING, the format requests its next write.
  piece_leaves_format_asking : n ≡ WRITE_PENDING_NUMBER → IsFormatAsking c image flash' r'
  piece_leaves_format_asking e =
      let came : t.goes.came ≡ format_progress.Asks = pending_number_means_asks t.goes.came (sym t.goes.number_is ∙ e) in
      let comes = unbroken_piece_has_outcome t.goes.before t.goes.after image a.was flash' (ask_step t.ask).write t.failed t.goes.came took
      (λ why is. absurd (cc)) in
      record {
        config = a.config;
        format = t.goes.after;
        is = t.goes.on came;
        was = a.was;
        asks = subst (λ (x : FormatProgress). FormatOutcome (format_grain t.goes.before) t.goes.after image a.was flash' x) came comes;
        size = a.size ∙ sym t.torn.size;
      }

  -- If dfu_core_format_took returns 0, the image is active.
  ends : n ≡ pos 0 → Active (mapped_medium (config_grain c) flash') image
  ends e =
      let came : t.goes.came ≡ format_progress.Formatted = zero_number_means_formatted t.goes.came (sym t.goes.number_is ∙ e) in
      let comes = unbroken_piece_has_outcome t.goes.before t.goes.after image a.was flash' (ask_step t.ask).write t.failed t.goes.came took
      (λ why is. absurd (cc)) in
      let formatted =
      subst (λ (x : FormatProgress). FormatOutcome (format_grain t.goes.before) t.goes.after image a.was flash' x) came comes in
      subst (λ (g : Grain). Active (mapped_medium g flash') image) (format_grain_is_config_grain c r t.goes.before t.goes.is)
      formatted.active

pub format_under_way_asks : (c : DfuConfig) (image flash : List ℕ) (r : DfuRecord) → IsBeingFormatted c image flash r →
    IsFormatAsking c image flash r
format_under_way_asks c image flash r (begins s) = record {
  config = s.config;
  format = s.formatting;
  is = s.is;
  was = flash;
  asks = s.asks;
  size = refl;
}
format_under_way_asks c image flash' r' (goes_on {flash = flash} {n = n} {r = r} before t e) =
    piece_leaves_format_asking c image flash flash' r r' n (format_under_way_asks c image flash r before) t e

-- A completed format makes its image the active one.
pub ended_format_activates_image : EndedFormatActivatesImage
ended_format_activates_image c image flash flash' r r' n f t e =
    let a = format_under_way_asks c image flash r f in
    let active = ends c image flash flash' r r' n a t e in (
      active,
      λ k refused. elim refused [
        | inl config ↦ config.1 a.config
        | inr medium ↦ elim (medium.2) [
          | inl none ↦ none (record { image = image; active = active })
          | inr long ↦ omega (arith, long, sized_medium_below_2_32 (mapped_medium (config_grain c) flash') active.sized)
        ]
      ],
    )

-- If two flashes have the same length, and one has the size of two slots, the other has that size too.
same_length_is_sized_alike : (g : Grain) (xs ys : List ℕ) → length xs ≡ length ys → IsSizedMedium (mapped_medium g ys) →
    IsSizedMedium (mapped_medium g xs)
same_length_is_sized_alike g xs ys e s = record {
  even = subst (λ (n : ℕ). n ≡ 2 * (n / 2)) (sym e) s.even;
  room = subst (λ (n : ℕ). 2 * gate_room g < n / 2) (sym e) s.room;
  bound = subst (λ (n : ℕ). n / 2 - 2 * gate_room g ≤ 2 ^ 24) (sym e) s.bound;
  whole = subst (λ (n : ℕ). IsWhole g (n / 2 - 2 * gate_room g)) (sym e) s.whole;
}

same_length_same_capacity : (g : Grain) (xs ys : List ℕ) → length xs ≡ length ys → capacity_of (mapped_medium g xs)
    ≡ capacity_of (mapped_medium g ys)
same_length_same_capacity g xs ys e = ap (λ (n : ℕ). n / 2 - 2 * gate_room g) e

-- On a flash of two slots, dfu_core_format_start refuses an image only if the image is too large.
format_refused_if_too_large : (c : DfuConfig) (flash other : List ℕ) (n : ℤ) → IsConfig c →
    IsSizedMedium (mapped_medium (config_grain c) flash) →
    FormatStartRefused c flash other n
    → (n ≡ format_number fault.TooLarge) × (capacity_of (mapped_medium (config_grain c) flash) < length other)
format_refused_if_too_large c flash other n config sized (inl bad) = absurd (bad.1 config)
format_refused_if_too_large c flash other n config sized (inr (inl long)) =
    absurd (omega (arith, long.2, sized_medium_below_2_32 (mapped_medium (config_grain c) flash) sized))
format_refused_if_too_large c flash other n config sized (inr (inr (fault.WrongSize, known, is, allowed, small, bad))) = absurd (bad sized)
format_refused_if_too_large c flash other n config sized (inr (inr (fault.TooLarge, known, is, allowed, small, bad))) = (is, bad.1)
format_refused_if_too_large c flash other n config sized (inr (inr (fault.Failed, known, is, allowed, small, bad))) = absurd (known refl)

-- After a format was broken off, a new format may start.
pub broken_format_can_restart : BrokenFormatCanRestart
broken_format_can_restart c image flash flash' r f size =
    let a = format_under_way_asks c image flash r f in
    let can = subst (λ (g : Grain). CanFormat (mapped_medium g a.was) image) (format_grain_is_config_grain c r a.format a.is)
    a.asks.way.can in
    let same : length flash' ≡ length a.was = size ∙ sym a.size in
    let sized = same_length_is_sized_alike (config_grain c) flash' a.was same can.sized in (
      λ n refused.
          let x = format_refused_if_too_large c flash' image n a.config sized refused in
          omega (arith, x.1, can.fits, same_length_same_capacity (config_grain c) flash' a.was same),
      λ other n refused. format_refused_if_too_large c flash' other n a.config sized refused,
    )
