use Rattle.std.proofs.Common.{◌≡◌, ℕ, List, [], ◌∷◌, length, None, refl, sym, ◌∙◌, ap, subst, arith}
use Rattle.std.proofs.lemmas.List.{length-take}
use Rattle.dfu_slots.specs.StoreView.{image_of, room_of}
use Rattle.dfu_slots.proofs.VisibleStores.{room_is_capacity}
use Rattle.dfu_device.specs.declared.answer.Answer.{Answer}
use Rattle.dfu_device.specs.declared.answer.Answer.TheVariants as answer
use Rattle.dfu_device.specs.Table.{Plan, time_plan}
use Rattle.dfu_device.specs.DeviceView.{DeviceView, profile, profile_of}
use Rattle.dfu_device.specs.Rows.{Done, Elapses}
use Rattle.dfu_device.specs.Decision.{IsPossibleDecision, DecidesTime}
use Rattle.dfu_device.proofs.PlanRows.{parts_have_mode_bytes}
use Rattle.dfu_asks.specs.Lent.{lent}
use Rattle.dfu_asks.specs.Mapped.{UnseenState}
use Rattle.dfu_asks.specs.Due.{plan_of_decision, IsStorelessOrDue}
use Rattle.dfu_asks.specs.Asks.{flash_store, device_with}
use Rattle.dfu_asks.specs.Calls.{PlansAreStorelessOrDue, DeviceCalled}
use Rattle.dfu_asks.specs.Refused.{IsDeviceOn}
use Rattle.dfu_asks.proofs.CallResults.{call_answered_by_implied_row}
use Rattle.dfu_asks.proofs.WritingRows.{time_plan_is_storeless_or_due, time_plan_acknowledges, decision_on_time_is_row}
use Rattle.dfu_asks.proofs.UnseenState.{room_with_unseen, parts_stay_with_unseen}
use Rattle.dfu_asks.proofs.Sending.{time_decision_sends_nothing}
use Rattle.dfu_asks.proofs.asking.Asking.elapse.Goals as goal

pub returns-clause-outcome : goal.returns-clause-outcome
returns-clause-outcome c = λ kept.
    let flash = c.in_ok-medium.medium.bytes.now in
    let same_flash : flash ≡ c.args.flash.now = c.in_ok-medium.ensures.medium.2 in
    let here = subst (λ (f : List ℕ). IsDeviceOn c.args.self.now c.args.block.now c.args.held.now f) (sym same_flash) kept in
    let l = lent c.args.self.now c.args.block.now c.args.held.now in
    let now = lent c.carry_out.new.self c.carry_out.new.block c.carry_out.new.held in
    let s = flash_store l flash in
    let d = c.decide_time-decision.result in
    let zeros : List ℕ = 0 ∷ 0 ∷ 0 ∷ 0 ∷ 0 ∷ 0 ∷ [] in
    let view = c.in_ok-medium.ensures.view in
    let room : c.profile-profile.result.capacity ≡ room_of s = omega (
      arith,
      c.profile-profile.ensures.capacity,
      c.from.ensures,
      view.room,
      room_is_capacity s,
      ap (λ (f : List ℕ). length f) same_flash,
    ) in
    let whole : c.args.self.now.block_len ≡ length l.block =
    omega (arith, length-take c.args.self.now.block_len c.args.block.now, here.fits.block) in
    let row : (u : UnseenState) → (let w = device_with u l flash in plan_of_decision l.block [] d w ≡ time_plan
    (profile w) w.stage c.args.ms) = λ u.
    let w = device_with u l flash in
    decision_on_time_is_row c.profile-profile.result c.args.ms l.mode l.block d w (c.profile-profile.ensures.profile
    ∙ ap (λ (n : ℕ). profile_of l.config n) (sym c.profile-profile.ensures.capacity ∙ room ∙ sym (room_with_unseen u s)))
    (parts_stay_with_unseen u s l.mode (length l.block) here.is.sound) refl
    (subst (λ (n : ℕ). DecidesTime c.profile-profile.result l.mode n c.args.ms d) whole c.decide_time-decision.ensures.row) in
    let possible : IsPossibleDecision l.config.functional.transfer (length l.block) 0 s d =
    subst (λ (t : ℕ). IsPossibleDecision t (length l.block) 0 s d) c.profile-profile.ensures.transfer
    (c.decide_time-decision.ensures.possible (length l.block) s (sym room) (parts_have_mode_bytes l.mode (length l.block) s here.is.sound))
    in
    let due : PlansAreStorelessOrDue (plan_of_decision l.block [] d) l flash None 0 = λ u.
    let w = device_with u l flash in
    subst (λ (z : Plan). IsStorelessOrDue z (profile w) w.stage None 0) (sym (row u)) (time_plan_is_storeless_or_due (profile w) w.stage
    c.args.ms) in
    let Row : DeviceView → Answer → List ℕ → DeviceView → Type 0 =
    λ w x sent d'. (x ≡ answer.Ack) × (sent ≡ []) × Elapses c.args.ms w d' in (
      c.carry_out.new.out,
      subst (λ (f : List ℕ). DeviceCalled l f zeros Row now c.carry_out.new.out c.carry_out.result) same_flash
          (call_answered_by_implied_row l flash zeros (λ w x sent d'. Done (plan_of_decision l.block [] d w) 0 w x sent d') Row now
          c.carry_out.new.out
          c.carry_out.result
          (λ u x sent d' done.
          let w = device_with u l flash in
          let by_time : Done (time_plan (profile w) w.stage c.args.ms) 0 w x sent d' =
          subst (λ (z : Plan). Done z 0 w x sent d') (row u) done in
          let quiet = time_plan_acknowledges (profile w) w.stage c.args.ms 0 w x sent d' by_time in (
            quiet.0,
            quiet.1,
            subst (λ (y : List ℕ). Done (time_plan (profile w) w.stage c.args.ms) 0 w answer.Ack y d') quiet.1
                (subst (λ (y : Answer). Done (time_plan (profile w) w.stage c.args.ms) 0 w y sent d') quiet.0 by_time),
          ))
          (c.carry_out.ensures.outcome here possible due (time_decision_sends_nothing d (image_of s) 6
          c.decide_time-decision.ensures.silent))),
    )
