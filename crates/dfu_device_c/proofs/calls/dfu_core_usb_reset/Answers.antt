use Rattle.std.proofs.Common.{◌≡◌, inl, inr, refl, ◌∙◌, w32, arith}
use Rattle.std.proofs.lemmas.Int.{to_z-of_z}
use Rattle.std.proofs.lemmas.Result.{IfOk-at_ok}
use Rattle.dfu_device.specs.Table.{reset_stage}
use Rattle.dfu_asks.specs.Asks.{device_in}
use Rattle.dfu_device_c.proofs.Split.{memory_is_front_and_rest, whole, intact, call_same_on_parts, IsDeviceOfSplitMemory, found_device_has_split_memory, has_room, device_memory_is_split, memory_is_split_after_call, front_fits_transfer_size, goes, refuses}
use Rattle.dfu_device_c.proofs.calls.dfu_core_usb_reset.Goals.{After-split_at}
use Rattle.dfu_device_c.proofs.calls.dfu_core_usb_reset.Goals as goal

pub split_at-requires : goal.split_at-requires
split_at-requires c = omega (arith, IfOk-at_ok _ c.in-Ok.is c.found.ensures.room, c.from.ensures)

-- The record represents the device that was found, and the device's memory is split in two.
record_device_is_split : (c : After-split_at) → IsDeviceOfSplitMemory c.args.config.now c.args.device.now c.in-Ok.asking c.args.block.now
    c.split_at.result.0.now c.split_at.result.1.now
record_device_is_split c = found_device_has_split_memory _ _ _ _ _ _ _ c.in-Ok.is c.found.ensures.ok c.found.ensures.config
    c.found.ensures.room
    (memory_is_front_and_rest c.from.result _ _ _ c.split_at.ensures.front c.split_at.ensures.back)
    (omega (arith, c.split_at.ensures.front_len, c.from.ensures))

pub usb_reset-requires : goal.usb_reset-requires
usb_reset-requires c = has_room (record_device_is_split (goal.at.usb_reset-requires c).After-split_at)

pub returns-in-Ok-usb_reset : goal.returns-in-Ok-usb_reset
returns-in-Ok-usb_reset c =
    let p = record_device_is_split (goal.at.returns-in-Ok-usb_reset c).After-split_at in
    let done = c.in-Ok-usb_reset.ensures in
    let flash = c.args.flash.now in
    let after = memory_is_split_after_call p c.args.block.now _ _ done.same_config p.parts refl in
    record {
      step = (
        record { config = refl; flash = refl },
        inl (goes p done.same_config (c.keep.ensures c.args.config.now) (λ _. front_fits_transfer_size p _ refl done.block_fits) (
          done.served.work,
          refl,
          done.work,
          call_same_on_parts (λ l l'. device_in l' flash ≡ record (device_in l flash) { stage = reset_stage (device_in l flash).stage })
              (device_memory_is_split p) after done.row,
          λ is. intact after flash (done.stays_device (whole (device_memory_is_split p) flash is)),
        )),
      );
    }

pub returns-in-Err-usb_reset : goal.returns-in-Err-usb_reset
returns-in-Err-usb_reset c = record {
  step = (
    record { config = refl; flash = refl },
    inr (refuses (record_device_is_split (goal.at.returns-in-Err-usb_reset c).After-split_at) c.in-Err-usb_reset.refusal c.args.flash.now 0
        0
        (omega arith) c.in-Err-usb_reset.ensures.refused c.refused.ensures
        (to_z-of_z w32 _ (omega (arith, c.number-in-Err-usb_reset.type_inv)) ∙ c.number-in-Err-usb_reset.ensures) refl refl),
  );
}
