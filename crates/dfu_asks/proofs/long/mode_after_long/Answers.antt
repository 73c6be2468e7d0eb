use Rattle.std.proofs.Common.{◌≡◌, nat_lt, ℕ, List, [], length, sym, ap, ◌∙◌, subst, arith}
use Rattle.dfu_slots.specs.StoreView.{spare_of}
use Rattle.dfu_wire.specs.declared.functionals.Functional.{Functional}
use Rattle.dfu_device.specs.declared.answer.Answer.TheVariants.{Stall}
use Rattle.dfu_device.specs.declared.device_state.DeviceState.{DeviceState}
use Rattle.dfu_device.specs.Parts.{stage_of}
use Rattle.dfu_device.specs.Rows.{Handles, body_length}
use Rattle.dfu_asks.specs.Lent.{LentDevice}
use Rattle.dfu_asks.specs.Mapped.{UnseenState}
use Rattle.dfu_asks.specs.Asks.{flash_store, store_with_unseen, device_with, IsDevice}
use Rattle.dfu_asks.specs.Verdict.{IsBodyOf}
use Rattle.dfu_asks.proofs.LongSetups.{mode_after_long_needs_no_bytes, found_setup_is_long, long_body_elsewhere_is_stalled, long_body_is_stalled}
use Rattle.dfu_asks.proofs.Refuses.{filled_mode_may_be_entered}
use Rattle.dfu_asks.proofs.long.mode_after_long.Goals as goal

-- For every body of the right length, the row of a setup is a stall that moves the device to the mode `after`.
abbrev RowLeadsTo : List ℕ → LentDevice → List ℕ → DeviceState → Type 0
RowLeadsTo setup a flash after = IsDevice (record a { mode = after }) flash × ((body : List ℕ) → IsBodyOf setup body → (u : UnseenState)
    → Handles setup body (device_with u a flash) Stall [] (device_with u (record a { mode = after }) flash))

pub returns-then-setup-eq0-clause-row : goal.returns-then-setup-eq0-clause-row
returns-then-setup-eq0-clause-row c a flash is =
    let p = c.decode-setup.result in
    let m = c.args.mode in
    let config = c.args.config.now in
    let s = flash_store a flash in
    let says : c.is_long.result ≡ nat_lt config.functional.transfer (body_length p) = c.is_long.ensures
    ∙ ap (λ (f : Functional). nat_lt f.transfer (body_length p)) c.functional.ensures in
    let long = (found_setup_is_long config c.args.setup.now p c.is_long.result c.decode-setup.ensures.only says c.if-not-is_long.false).0 in
    subst (λ (n : DeviceState). RowLeadsTo c.args.setup.now a flash n) (sym c.after_long.ensures) (
      filled_mode_may_be_entered a _ flash is.device (mode_after_long_needs_no_bytes m (length a.block) s),
      λ body body_is u. long_body_is_stalled c.args.setup.now p c.decode-setup.ensures.fields (device_with u a flash) m
          (spare_of (store_with_unseen u s))
          a.block
          (λ i. stage_of (is.mode_is i) (spare_of (store_with_unseen u s)) a.block)
          (omega (arith, long, ap (λ k. k.functional.transfer) is.config_is)) c.if-setup-eq0.true body
          (body_is p c.decode-setup.ensures.fields),
    )

pub returns-else-setup-eq0-clause-row : goal.returns-else-setup-eq0-clause-row
returns-else-setup-eq0-clause-row c a flash is =
    subst (λ (n : DeviceState). RowLeadsTo c.args.setup.now a flash n) is.mode_is (
      is.device,
      λ body body_is u. long_body_elsewhere_is_stalled c.args.setup.now c.decode-setup.result c.decode-setup.ensures.fields (device_with u a
          flash)
          c.if-setup-eq0.false body,
    )
