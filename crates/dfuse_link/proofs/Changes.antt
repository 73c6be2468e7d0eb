-- Bytes that an order may change, and facts that remain true after a stall, a started order or a status.
use Rattle.std.proofs.Common.{◌≡◌, ◌⊎◌, inl, inr, ℕ, ◌+◌, ◌<◌, ◌≤◌, true, sym, subst}
use Rattle.dfu_wire.specs.declared.states.State.{State}
use Rattle.dfu_wire.specs.declared.states.State.TheVariants as state
use Rattle.dfuse_link.specs.Chips.{Chip, Order, SetsPointer, ErasesPage, WritesByteRange, Other, DeviceWork, RestsInState, Pending, CarriesOut, ChangedBy}
use Rattle.dfuse_link.specs.Reactions.{work_with_order_started, work_after_status}

-- The order may change the byte at the address `a`.
abbrev pub OrderMayChange : Chip → Order → (a : ℕ) → Type 0
OrderMayChange chip (SetsPointer at) a = ⊥
OrderMayChange chip (ErasesPage at) a = chip.erases at a ≡ true
OrderMayChange chip (WritesByteRange at count) a = (at ≤ a) × (a < at + count)
OrderMayChange chip Other a = Unit {0}

-- No order that the device carries out may change the byte at `a`. An order that isn't started may change it.
abbrev pub IsSafeBeforeStart : Chip → (a : ℕ) → DeviceWork → Type 0
IsSafeBeforeStart chip a (RestsInState s) = Unit {0}
IsSafeBeforeStart chip a (Pending order) = Unit {0}
IsSafeBeforeStart chip a (CarriesOut order) = OrderMayChange chip order a → ⊥

-- A byte stays unchanged if no order that is carried out may change it.
pub byte_stays_if_safe : (chip : Chip) (a : ℕ) (device_work : DeviceWork) (memory memory' : ℕ → ℕ) →
    ChangedBy chip device_work memory memory' →
    IsSafeBeforeStart chip a device_work → memory' a ≡ memory a
byte_stays_if_safe chip a (RestsInState s) memory memory' changed now = changed a
byte_stays_if_safe chip a (Pending order) memory memory' changed now = changed a
byte_stays_if_safe chip a (CarriesOut (SetsPointer at)) memory memory' changed now = changed a
byte_stays_if_safe chip a (CarriesOut (ErasesPage at)) memory memory' changed now = (changed a).0 now
byte_stays_if_safe chip a (CarriesOut (WritesByteRange at count)) memory memory' changed now = changed a now
byte_stays_if_safe chip a (CarriesOut Other) memory memory' changed now = absurd (now tt)

-- A fact about a device's work stays true after a stall, if it also holds in dfuERROR.
pub stall_keeps_fact : (P : DeviceWork → Type 0) (before device_work : DeviceWork) → (device_work ≡ before) ⊎ (device_work
    ≡ RestsInState state.Error) → P before →
    P (RestsInState state.Error) → P device_work
stall_keeps_fact P before device_work (inl e) same error = subst P (sym e) same
stall_keeps_fact P before device_work (inr e) same error = subst P (sym e) error

-- A fact about a device's work stays true when its order is started, if it holds for the started order whenever it holds for the pending
-- one.
pub started_order_keeps_fact : (P : DeviceWork → Type 0) → ((order : Order) → P (Pending order) → P (CarriesOut order)) →
    (device_work : DeviceWork)
    → P device_work →
    P (work_with_order_started device_work)
started_order_keeps_fact P sets (RestsInState s) h = h
started_order_keeps_fact P sets (Pending order) h = sets order h
started_order_keeps_fact P sets (CarriesOut order) h = h

-- A fact stays true when the device reports its status, if it holds for a device at rest regardless of the state.
pub told_status_keeps_fact : (P : DeviceWork → Type 0) → ((s t : State) → P (RestsInState s) → P (RestsInState t)) →
    (device_work : DeviceWork) → P device_work
    → P (work_after_status device_work)
told_status_keeps_fact P rests (RestsInState state.DownloadSync) h = rests _ _ h
told_status_keeps_fact P rests (RestsInState state.DownloadBusy) h = rests _ _ h
told_status_keeps_fact P rests (RestsInState state.ManifestSync) h = rests _ _ h
told_status_keeps_fact P rests device_work h = h
