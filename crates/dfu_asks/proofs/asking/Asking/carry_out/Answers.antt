use Rattle.std.proofs.Common.{◌≡◌, inl, inr, ◌++◌, IsTrue, ℕ, ◌+◌, ◌-◌, ◌≤◌, min, List, [], length, take, drop, refl, sym, ◌∙◌, ap, subst, arith}
use Rattle.std.proofs.lemmas.List.{take_all, take_at, length-take, length-take-le, length-drop}
use Rattle.dfu_slots.specs.Medium.{MediumState}
use Rattle.dfu_slots.specs.Layout.{header_length}
use Rattle.dfu_slots.specs.Image.{gate_of, slot_of, active_at}
use Rattle.dfu_slots.specs.StoreView.{image_of, spare_of, room_of}
use Rattle.dfu_device.specs.declared.answer.Answer.TheVariants as answer
use Rattle.dfu_device.specs.declared.device_state.DeviceState.TheVariants as device_state
use Rattle.dfu_device.specs.declared.decision.Decision.{Decision}
use Rattle.dfu_device.specs.declared.decision.Decision.TheVariants as decision
use Rattle.dfu_device.specs.DeviceView.{profile}
use Rattle.dfu_device.specs.Parts.{view_of_parts, is_filled}
use Rattle.dfu_device.specs.Rows.{Done}
use Rattle.dfu_device.specs.Decision.{plan_of, IsPossibleDecision, HasTimeInputs}
use Rattle.dfu_device.proofs.PlanRows.{parts_have_time_inputs, filled_mode_is_device_part}
use Rattle.dfu_asks.specs.Lent.{lent}
use Rattle.dfu_asks.specs.Due.{plan_of_decision, wanted_status_length, IsStorelessPlan, SendsWithin}
use Rattle.dfu_asks.specs.Asks.{flash_store, store_with_unseen, device_with, IsReplyInMode}
use Rattle.dfu_asks.proofs.UnseenState.{image_ignores_unseen, spare_ignores_unseen}
use Rattle.dfu_asks.proofs.CallResults.{equal_grains_make_equal_media, call_setting_mode_is_complete, call_begins_due_row}
use Rattle.dfu_asks.specs.Mapped.{mapped_medium}
use Rattle.dfu_asks.proofs.Sending.{image_is_active_data_front, active_data_holds_image, prefix_bytes_are_list_bytes, counted_bytes_are_image_bytes, count_is_sent_length, IsModeAfterUpload, mode_after_upload_needs_no_bytes, sent_bytes_are_upload_row}
use Rattle.dfu_asks.proofs.asking.Asking.carry_out.Goals as goal
use Rattle.dfu_asks.proofs.asking.Asking.carry_out.Goals.{then-count-from, else-count-from}

pub returns-in-Sure-clause-outcome : goal.returns-in-Sure-clause-outcome
returns-in-Sure-clause-outcome c = λ kept possible due within.
    let flash = c.args.medium.now.bytes.now in
    let l = lent c.args.self.now c.args.block.now c.args.held.now in
    let s = flash_store l flash in
    let m = c.in-Sure.mode in
    let g = c.give-answer.ensures in
    let len = wanted_status_length c.args.asked in
    let n = c.args.self.now.block_len in
    let says : IsReplyInMode l.config m n c.in-Sure.reply len c.give-answer.result.0 g.sent =
    subst (λ (k : ℕ). IsReplyInMode l.config m n c.in-Sure.reply k c.give-answer.result.0 g.sent) c.wanted.ensures g.says in
    let can : IsTrue (is_filled m (length l.block) s) =
    subst (λ (d : Decision). IsPossibleDecision l.config.functional.transfer (length l.block) (length c.args.body.now) s d) c.in-Sure.is
    possible in
    let whole : length l.block ≡ n = omega (arith, length-take n c.args.block.now, kept.fits.block) in
    let holds : HasTimeInputs m n (spare_of s) l.block = subst (λ (k : ℕ). HasTimeInputs m k (spare_of s) l.block) whole
    (parts_have_time_inputs m l.block s (filled_mode_is_device_part l.mode m (length l.block) s kept.is.sound can)) in
    let body = c.args.body.now in
    call_setting_mode_is_complete l m l.block flash kept.is can
    c.requires.idle c.give-answer.result.0 c.give-answer.result.1 c.args.out.now c.give-answer.new.out g.sent
    (λ d x sent d'. Done (plan_of_decision l.block body c.args.decision d) len d x sent d') g.count_is g.out_is
    (λ u.
    let t = store_with_unseen u s in
    let d = device_with u l flash in
    subst (λ (k : Decision). Done (plan_of_decision l.block body k d) len d c.give-answer.result.0 g.sent
    (view_of_parts l.config t m l.block))
    (sym c.in-Sure.is) (
      says (room_of t) (spare_of t) l.block
          (subst (λ (x : List ℕ). HasTimeInputs m n x l.block) (sym (spare_ignores_unseen u s)) holds),
      refl,
    ))

pub returns-in-Holds-clause-outcome : goal.returns-in-Holds-clause-outcome
returns-in-Holds-clause-outcome c = λ kept possible due within.
    let flash = c.args.medium.now.bytes.now in
    let body = c.args.body.now in
    let block = c.args.block.now in
    let l = lent c.args.self.now block c.args.held.now in
    let s = flash_store l flash in
    let m = c.in-Holds.mode in
    let n = c.min-len.result in
    let can = subst (λ (d : Decision). IsPossibleDecision l.config.functional.transfer (length l.block) (length body) s d) c.in-Holds.is
    possible in
    let whole : n ≡ length body = omega (arith, c.min-len.ensures, c.min.ensures, can.0, kept.fits.transfer) in
    let front : c.copy_from_slice.new.self ≡ body = c.copy_from_slice.ensures.after ∙ take_all n body (omega (arith, whole)) in
    let held : take n (c.copy_from_slice.new.self ++ drop n block) ≡ body =
    ap (λ (x : List ℕ). take n (x ++ drop n block)) front ∙ take_at body (drop n block) n (sym whole) in
    let now = take n (c.copy_from_slice.new.self ++ drop n block) in
    call_setting_mode_is_complete l m now flash kept.is (subst (λ (x : List ℕ). IsTrue (is_filled m (length x) s)) (sym held) can.1)
    c.requires.idle answer.Ack 0 c.args.out.now c.args.out.now []
    (λ d x sent d'. Done (plan_of_decision l.block body c.args.decision d) (wanted_status_length c.args.asked) d x sent d') refl refl
    (λ u.
    let t = store_with_unseen u s in
    let d = device_with u l flash in
    subst (λ (k : Decision). Done (plan_of_decision l.block body k d) (wanted_status_length c.args.asked) d answer.Ack []
    (view_of_parts l.config t m now))
    (sym c.in-Holds.is) ((refl, refl), λ i. view_of_parts l.config t m (held i)))

pub returns-after-count-from-clause-outcome : goal.returns-after-count-from-clause-outcome
returns-after-count-from-clause-outcome c = λ kept possible due within.
    let flash = c.args.medium.now.bytes.now in
    let l = lent c.args.self.now c.args.block.now c.args.held.now in
    let s = flash_store l flash in
    let v = c.args.view.now in
    let place = c.in-Sends.place in
    let size = c.in-Sends.size in
    let count = c.put_image-count.result in
    let image = image_of s in
    let part = take size (drop place image) in
    let k = c.args.medium.now in
    let same = equal_grains_make_equal_media flash c.requires.unit c.requires.sector in
    let here : v.active ≡ active_at (gate_of s.medium) s.medium.bytes = c.requires.view.active ∙ kept.is.noted.place in
    let front : image ≡ take v.len (slot_of s.medium v.active).data_bytes = image_is_active_data_front s v.active v.len here
    (c.requires.view.len ∙ ap (λ (at : ℕ). header_length (slot_of s.medium at)) (sym c.requires.view.active)) in
    let long : length image ≡ v.len = ap length front
    ∙ length-take-le v.len (slot_of s.medium v.active).data_bytes (active_data_holds_image s v.active v.len kept.is.store here
    (omega (arith, c.requires.view.len, c.requires.view.stands.fits))) in
    let body = c.args.body.now in
    let len = wanted_status_length c.args.asked in
    let ideal : length part ≤ length c.args.out.now =
    subst (λ (d : Decision). SendsWithin d image (length c.args.out.now)) c.in-Sends.is within in
    let sized : count ≡ min size (length image - place) =
    omega (arith, c.put_image-count.ensures.count, long, ideal, length-take size (drop place image), length-drop place image) in
    let sent : take count (drop place (slot_of (mapped_medium (record { unit = k.unit; sector = k.sector.size }) flash)
    v.active).data_bytes)
    ≡ part =
    ap (λ (x : MediumState). take count (drop place (slot_of x v.active).data_bytes)) same
    ∙ sym (prefix_bytes_are_list_bytes (slot_of s.medium v.active).data_bytes place v.len count (omega (arith, sized, long)))
    ∙ ap (λ (x : List ℕ). take count (drop place x)) (sym front) ∙ counted_bytes_are_image_bytes image place size count sized in
    let m = c.if-count-from.self in
    let after : IsModeAfterUpload count size place c.in-Sends.number m = elim c.if-count-from.branch [
      | then-count-from x ↦ record {
        last = λ less. x.self-is;
        more = λ le. absurd (omega (arith, le, x.if-count-from, c.from.ensures));
      }
      | else-count-from x ↦ record {
        last = λ less. absurd (omega (arith, less, x.if-count-from, c.from.ensures));
        more = λ le. x.self-is ∙ ap (λ (n : ℕ). device_state.UploadIdle (place + n) c.in-Sends.number) x.from-else-count-from.ensures;
      }
    ] in
    call_setting_mode_is_complete l m l.block flash kept.is
    (mode_after_upload_needs_no_bytes count size place c.in-Sends.number m (length l.block) s after)
    c.requires.idle answer.Bytes count c.args.out.now c.put_image-count.new.out part
    (λ d x sent d'. Done (plan_of_decision l.block body c.args.decision d) len d x sent d')
    (count_is_sent_length image place size count sized)
    (c.put_image-count.ensures.bytes ∙ ap (λ (x : List ℕ). x ++ drop count c.args.out.now) sent)
    (λ u.
    let t = store_with_unseen u s in
    let d = device_with u l flash in
    subst (λ (k : Decision). Done (plan_of_decision l.block body k d) len d answer.Bytes part (view_of_parts l.config t m l.block))
    (sym c.in-Sends.is)
    (subst (λ (x : List ℕ). Done (plan_of (profile d) x (spare_of t) l.block body (decision.Sends place size c.in-Sends.number)) len d
    answer.Bytes part (view_of_parts l.config t m l.block)) (sym (image_ignores_unseen u s))
    (sent_bytes_are_upload_row d len part l.block size place c.in-Sends.number m count (count_is_sent_length image place size count sized)
    after)))

pub returns-in-Writes-clause-outcome : goal.returns-in-Writes-clause-outcome
returns-in-Writes-clause-outcome c = λ kept possible due within.
    let flash = c.args.medium.now.bytes.now in
    let l = lent c.args.self.now c.args.block.now c.args.held.now in
    call_begins_due_row l flash c.args.out.now (plan_of_decision l.block c.args.body.now c.args.decision) c.args.asked
    (wanted_status_length c.args.asked) (lent c.start.new.self c.args.block.now c.start.new.held) c.start.new.out c.start.result
    (λ d sure. elim c.in-Writes.is [
      | inl e ↦ subst (λ (k : Decision). IsStorelessPlan (plan_of_decision l.block c.args.body.now k d)) e.4 sure
      | inr e ↦ subst (λ (k : Decision). IsStorelessPlan (plan_of_decision l.block c.args.body.now k d)) e.3 sure
    ])
    due (λ stage. c.start.ensures.outcome (wanted_status_length c.args.asked) kept.is stage)
