-- A device can enter another mode without a write.
use Rattle.std.specs.Prelude.{◌≡◌, ℕ, Bool, IsTrue, List, length}
use Rattle.std.proofs.Common.{refl, sym, ap, ◌∙◌, subst}
use Rattle.dfu_slots.specs.StoreView.{spare_of}
use Rattle.dfu_device.specs.declared.device_state.DeviceState.{DeviceState}
use Rattle.dfu_device.specs.Decision.{HasWrittenBytes}
use Rattle.dfu_device.specs.Parts.{stage_of, is_filled, are_device_parts}
use Rattle.dfu_device.specs.Setting.{Setting}
use Rattle.dfu_device.specs.Table.{may_close}
use Rattle.dfu_device.proofs.PlanRows.{spare_holds_written}
use Rattle.dfu_asks.specs.Lent.{LentDevice}
use Rattle.dfu_asks.specs.Asks.{flash_store, device_in, IsDevice}
use Rattle.dfu_asks.specs.InMode.{IsDeviceIn}
use Rattle.dfu_asks.proofs.CallResults.{kept_parts_are_device}

-- A device may enter a mode if its slot store holds the bytes that the mode needs.
pub filled_mode_may_be_entered : (l : LentDevice) (m : DeviceState) (flash : List ℕ) → IsDevice l flash
    → IsTrue (is_filled m (length l.block) (flash_store l flash))
    → IsDevice (record l { mode = m }) flash
filled_mode_may_be_entered l m flash is filled = kept_parts_are_device l (record l { mode = m }) flash
    (record { config = refl; unit = refl; sector = refl; held = refl; end = refl; noted = refl; work = refl }) is filled

-- The mode and the length of the shortest allowed image determine whether the download of a device may be closed.
pub mode_may_close : (config : Setting) (m : DeviceState) (l : LentDevice) (flash : List ℕ) (least : ℕ) (result : Bool)
    → IsDeviceIn config m l flash → least ≡ config.least → ((spare block : List ℕ) → HasWrittenBytes m spare
    → result ≡ may_close least (stage_of m spare block))
    → result ≡ may_close l.config.least (device_in l flash).stage
mode_may_close config m l flash least result is same may =
    let s = flash_store l flash in
    let holds : HasWrittenBytes m (spare_of s) = spare_holds_written m (length l.block) s
    (subst (λ (x : DeviceState). IsTrue (are_device_parts x (length l.block) s)) is.mode_is is.device.sound) in
    may (spare_of s) l.block holds
    ∙ (λ i. may_close ((same ∙ ap (λ (c : Setting). c.least) (sym is.config_is)) i) (stage_of (sym is.mode_is i) (spare_of s) l.block))
