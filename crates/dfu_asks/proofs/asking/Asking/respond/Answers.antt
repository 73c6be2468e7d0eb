use Rattle.std.proofs.Common.{◌≡◌, ℕ, length, Some, refl, sym, ◌∙◌, ap, subst, arith}
use Rattle.dfu_slots.specs.StoreView.{spare_of, room_of}
use Rattle.dfu_slots.proofs.VisibleStores.{room_is_capacity}
use Rattle.dfu_device.specs.Table.{Plan}
use Rattle.dfu_device.specs.DeviceView.{profile, profile_of}
use Rattle.dfu_device.specs.Rows.{Done, Handles, setup_plan, asked_length}
use Rattle.dfu_device.specs.Decision.{table_profile_of, IsPossibleDecision}
use Rattle.dfu_device.proofs.PlanRows.{parts_have_mode_bytes, setup_decision_means_row, handled}
use Rattle.dfu_asks.specs.Lent.{lent}
use Rattle.dfu_asks.specs.Mapped.{UnseenState}
use Rattle.dfu_asks.specs.Due.{plan_of_decision, IsStorelessOrDue}
use Rattle.dfu_asks.specs.Asks.{flash_store, device_in, device_with}
use Rattle.dfu_asks.specs.Calls.{PlansAreStorelessOrDue}
use Rattle.dfu_asks.proofs.CallResults.{call_answered_by_implied_row}
use Rattle.dfu_asks.proofs.WritingRows.{setup_plan_is_storeless_or_due}
use Rattle.dfu_asks.proofs.UnseenState.{unseen_of_mapped, room_with_unseen, parts_stay_with_unseen}
use Rattle.dfu_asks.proofs.Sending.{setup_decision_sends_within}
use Rattle.dfu_asks.proofs.asking.Asking.respond.Goals as goal

pub returns-clause-outcome : goal.returns-clause-outcome
returns-clause-outcome c = λ kept.
    let setup = c.args.setup.now in
    let body = c.args.body.now in
    let l = lent c.args.self.now c.args.block.now c.args.held.now in
    let flash = c.args.medium.now.bytes.now in
    let s = flash_store l flash in
    let p = c.profile-profile.result in
    let d = c.asked_row-decision.result.0 in
    let n = c.asked_row-decision.result.1 in
    let decides = c.asked_row-decision.ensures.row in
    let room : p.capacity ≡ room_of s =
    omega (arith, c.profile-profile.ensures.capacity, c.from.ensures, c.requires.view.room, room_is_capacity s) in
    let same : (u : UnseenState) → table_profile_of p ≡ profile (device_with u l flash) = λ u. c.profile-profile.ensures.profile
    ∙ ap (λ (k : ℕ). profile_of l.config k) (sym c.profile-profile.ensures.capacity ∙ room ∙ sym (room_with_unseen u s)) in
    let row : (u : UnseenState) → (let w = device_with u l flash in
    plan_of_decision l.block body d w ≡ setup_plan w decides.read decides.request body) = λ u.
    setup_decision_means_row p l.mode setup l.block body d n (device_with u l flash) (same u) (parts_stay_with_unseen u s l.mode (length
    l.block) kept.is.sound)
    refl decides in
    let possible : IsPossibleDecision l.config.functional.transfer (length l.block) (length body) s d =
    subst (λ (t : ℕ). IsPossibleDecision t (length l.block) (length body) s d) c.profile-profile.ensures.transfer
    (c.asked_row-decision.ensures.possible (length l.block) s (sym room) (parts_have_mode_bytes l.mode (length l.block) s kept.is.sound)) in
    let due : PlansAreStorelessOrDue (plan_of_decision l.block body d) l flash (Some n) n = λ u.
    let w = device_with u l flash in
    let k = asked_length decides.request in
    subst (λ (m : ℕ). IsStorelessOrDue (plan_of_decision l.block body d w) (profile w) w.stage (Some m) m) (sym
    decides.asked_is_request_length)
    (subst (λ (z : Plan). IsStorelessOrDue z (profile w) w.stage (Some k) k) (sym (row u)) (setup_plan_is_storeless_or_due w decides.read
    decides.request body))
    in
    call_answered_by_implied_row l flash c.args.out.now (λ w x sent d'. Done (plan_of_decision l.block body d w) n w x sent d')
    (λ w x sent d'. Handles setup body w x sent d')
    (lent c.carry_out.new.self c.carry_out.new.block c.carry_out.new.held) c.carry_out.new.out c.carry_out.result
    (λ u x sent d' done. handled p l.mode setup l.block body d n (device_with u l flash) (same u)
    (parts_stay_with_unseen u s l.mode (length l.block) kept.is.sound) refl decides x sent d' done)
    (c.carry_out.ensures.outcome kept possible due
    (setup_decision_sends_within (device_in l flash) (spare_of s) l.block body d decides.read decides.request (length c.args.out.now) (row
    unseen_of_mapped)
    (omega (arith, c.requires.room))))
