use Rattle.std.proofs.Common.{◌≡◌, ℕ, List, Option, Some, None, IfSome, IfNone, refl, sym, subst, length, arith}
use Rattle.dfu_slots.specs.StoreView.{spare_of}
use Rattle.dfu_device.specs.DeviceView.{DeviceView}
use Rattle.dfu_device.specs.Rows.{Elapses}
use Rattle.dfu_asks.specs.declared.asking.Asking.{Asking}
use Rattle.dfu_asks.specs.Lent.{lent}
use Rattle.dfu_asks.specs.Asks.{device_in, flash_store}
use Rattle.dfu_asks.specs.Times.{due_of, ChangesOnceDue}
use Rattle.dfu_asks.proofs.DueTimes.{each_mode_changes_when_due}
use Rattle.dfu_asks.proofs.asking.Asking.due.Goals as goal
use Rattle.std.proofs.lemmas.List.{length-take}
use Rattle.dfu_device.specs.Decision.{HasTimeInputs}
use Rattle.dfu_device.proofs.PlanRows.{parts_have_time_inputs}
use Rattle.dfu_asks.specs.Refused.{IsDeviceOn}

-- If P implies Q for every value, Q holds for the value in an option if P does.
implied_for_some : {X : Type 0} (P Q : X → Type 0) (o : Option X) → ((x : X) → P x → Q x) → IfSome o P → IfSome o Q
implied_for_some P Q (Some x) follows is = follows x is
implied_for_some P Q None follows is = tt

implied_for_none : {X A B : Type 0} (o : Option X) → (A → B) → IfNone o A → IfNone o B
implied_for_none (Some x) follows is = tt
implied_for_none None follows is = follows is

-- The state of a device changes once the time that is due in its mode has elapsed, and not before.
state_changes_by_mode_time : (a : Asking) (block held flash : List ℕ) (ms : ℕ) (d' : DeviceView) → IsDeviceOn a block held flash
    → Elapses ms (device_in (lent a block held) flash) d'
    → ChangesOnceDue (due_of a.config a.mode a.block_len) ms (device_in (lent a block held) flash) d'
state_changes_by_mode_time a block held flash ms d' kept went =
    let l = lent a block held in
    let s = flash_store l flash in
    let whole : length l.block ≡ a.block_len = omega (arith, length-take a.block_len block, kept.fits.block) in
    each_mode_changes_when_due ms (device_in l flash) d' a.mode a.block_len (spare_of s) l.block
    (subst (λ (n : ℕ). HasTimeInputs a.mode n (spare_of s) l.block) whole (parts_have_time_inputs a.mode l.block s kept.is.sound)) refl went

pub returns-clause-some : goal.returns-clause-some
returns-clause-some c =
    let a = c.args.self.now in
    implied_for_some (λ (n : ℕ). n ≡ due_of a.config a.mode a.block_len) _ c.mode_due.result
    (λ n is block held flash ms d' kept went. subst (λ (k : ℕ). ChangesOnceDue k ms (device_in (lent a block held) flash) d') (sym is)
    (state_changes_by_mode_time a block held flash ms d' kept went))
    c.mode_due.ensures.some

pub returns-clause-none : goal.returns-clause-none
returns-clause-none c =
    let a = c.args.self.now in
    implied_for_none c.mode_due.result (λ none block held flash ms d' kept went. (state_changes_by_mode_time a block held flash ms d' kept
    went).none none)
    c.mode_due.ensures.none
