-- Lemmas about devices after their program refused an image.
use Rattle.std.proofs.Common.{◌≡◌, ℕ, true, IsTrue, List, [], length, refl, sym, ap, ◌∙◌, subst}
use Rattle.dfu_slots.specs.StoreView.{SlotsState, spare_of}
use Rattle.dfu_device.specs.declared.answer.Answer.TheVariants as answer
use Rattle.dfu_device.specs.declared.device_state.DeviceState.{DeviceState}
use Rattle.dfu_device.specs.declared.objection.Objection.{Objection}
use Rattle.dfu_device.specs.Parts.{stage_of, is_filled, are_device_parts}
use Rattle.dfu_device.specs.Rows.{ClosesDownload, RefusingClose, Refusing, Row}
use Rattle.dfu_device.specs.Stage.{InError}
use Rattle.dfu_device.specs.Table.{objection_code, refuse_stage}
use Rattle.dfu_device.proofs.PlanRows.{parts_have_mode_bytes}
use Rattle.dfu_asks.specs.Lent.{LentDevice}
use Rattle.dfu_asks.specs.Asks.{flash_store, device_in, IsDevice}
use Rattle.dfu_core.specs.declared.config.DfuConfig.{DfuConfig}
use Rattle.dfu_core.specs.Config.{config_setting}

module _ (c : DfuConfig) (m m' : DeviceState) (why : Objection) (l : LentDevice) (flash : List ℕ) (config : l.config ≡ config_setting c)
    (mode : m ≡ l.mode) (device : IsDevice l flash) where
  -- Slot store of the device on the flash.
  abbrev s : SlotsState
  s = flash_store l flash

  -- The mode and the slot store satisfy the invariant of a device.
  sound : IsTrue (are_device_parts m (length l.block) s)
  sound = subst (λ (x : DeviceState). IsTrue (are_device_parts x (length l.block) s)) (sym mode) device.sound

  -- A refusal of the image of a closed download is a row of Refusing, and the slot store agrees with the new mode.
  pub refused_image_takes_row : ((spare block : List ℕ) → stage_of m' spare block ≡ refuse_stage why (stage_of m spare block))
      → ((n : ℕ) (x : SlotsState) → is_filled m n x ≡ true → is_filled m' n x ≡ true)
      → IsTrue (is_filled m' (length l.block) s)
      × Row (device_in l flash) (Refusing why) answer.Ack [] (device_in (record l { mode = m' }) flash)
  refused_image_takes_row stage fills = (
    fills (length l.block) s (parts_have_mode_bytes m (length l.block) s sound),
    (
      refl,
      refl,
      ap (λ st. record (device_in l flash) { stage = st })
          (stage (spare_of s) l.block ∙ ap (λ (x : DeviceState). refuse_stage why (stage_of x (spare_of s) l.block)) mode),
    ),
  )

  -- A refusal of the image when the host closes its download is a row of RefusingClose, and the slot store agrees with the new mode.
  pub refused_close_takes_row : (setup : List ℕ) → ClosesDownload setup (device_in l flash)
      → ((spare block : List ℕ) → stage_of m' spare block ≡ InError (objection_code why))
      → ((n : ℕ) (x : SlotsState) → is_filled m' n x ≡ true)
      → IsTrue (is_filled m' (length l.block) s)
      × Row (device_in l flash) (RefusingClose setup why) answer.Stall [] (device_in (record l { mode = m' }) flash)
  refused_close_takes_row setup closes stage fills = (
    fills (length l.block) s,
    (refl, refl, closes, ap (λ st. record (device_in l flash) { stage = st }) (stage (spare_of s) l.block)),
  )
