-- A DfuSe device: its memory, its pointer, and its work.
use Rattle.std.specs.Prelude.{◌≡◌, ◌⊎◌, ℕ, ◌+◌, ◌<◌, ◌≤◌, Bool, true}
use Rattle.dfu_wire.specs.declared.states.State.{State}
use Rattle.dfu_wire.specs.declared.states.State.TheVariants as state

-- Properties of a device model. `transfer` is the block size. `erases` is true for a byte that an erase at an address may change. `blank`
-- is true for a byte value that an erase may leave: FFh alone, for example, or any value if erases can't be relied on.
pub record Chip : Type 0 where
  -- Number of bytes in a block.
  pub transfer : ℕ
  -- True if an erase at the address `at` may change the byte at `a`.
  pub erases : (at a : ℕ) → Bool
  -- True if an erase may leave this byte.
  pub blank : (byte : ℕ) → Bool

-- Order that a DNLOAD gives to a device: set the address pointer, erase the page that contains an address, write `count` bytes from an
-- address on, or anything else.
pub data Order : Type 0 where
  -- Sets the pointer to an address.
  SetsPointer : (at : ℕ) → Order
  -- Erases the page that contains an address.
  ErasesPage : (at : ℕ) → Order
  -- Writes `count` bytes from the address `at` on.
  WritesByteRange : (at count : ℕ) → Order
  -- Any other order, which may change any byte.
  Other : Order

-- Work of a device: it has no order and rests in a state, it has an order that isn't started (dfuDNLOAD-SYNC), or it carries out an order
-- (dfuDNBUSY).
pub data DeviceWork : Type 0 where
  -- The device has no order and is in this state.
  RestsInState : State → DeviceWork
  -- The device has an order that the next GETSTATUS starts.
  Pending : Order → DeviceWork
  -- The device carries out an order.
  CarriesOut : Order → DeviceWork

-- State that a device reports during this work.
abbrev pub state_in : DeviceWork → State
state_in (RestsInState s) = s
state_in (Pending order) = state.DownloadSync
state_in (CarriesOut order) = state.DownloadBusy

-- A device: the byte of each address, the address pointer, and the device's work.
pub record Device : Type 0 where
  -- Byte at each address.
  pub memory : ℕ → ℕ
  -- Address to which the pointer is set.
  pub pointer : ℕ
  -- Order that the device has, or the state in which it rests.
  pub device_work : DeviceWork

-- While the device does this work, `memory` may become `memory'`, even if a restart interrupts the work. An erase changes only bytes that
-- it reaches, and leaves each blank byte blank. A write changes only bytes in its range. An order of another kind may change any byte. All
-- other work, such as setting the pointer, changes no byte.
abbrev pub ChangedBy : Chip → DeviceWork → (memory memory' : ℕ → ℕ) → Type 0
ChangedBy chip (CarriesOut (ErasesPage at)) memory memory' = (a : ℕ) →
    ((chip.erases at a ≡ true → ⊥) → memory' a ≡ memory a) × (chip.blank (memory a) ≡ true → chip.blank (memory' a) ≡ true)
ChangedBy chip (CarriesOut (WritesByteRange at count)) memory memory' = (a : ℕ) → ((at ≤ a) × (a < at + count) → ⊥) → memory' a ≡ memory a
ChangedBy chip (CarriesOut Other) memory memory' = Unit {0}
ChangedBy chip device_work memory memory' = (a : ℕ) → memory' a ≡ memory a

-- Pointer and memory after an order is done. SetsPointer leaves the pointer at its address. An erase leaves each byte that it reaches
-- blank. After any order except SetsPointer, the pointer may hold any address.
abbrev pub OrderCarriedOut : Chip → Order → (pointer : ℕ) → (memory : ℕ → ℕ) → Type 0
OrderCarriedOut chip (SetsPointer at) pointer memory = pointer ≡ at
OrderCarriedOut chip (ErasesPage at) pointer memory = (a : ℕ) → chip.erases at a ≡ true → chip.blank (memory a) ≡ true
OrderCarriedOut chip order pointer memory = Unit {0}

-- A device continues its order, completes it, or fails.
pub data DeviceAdvances (chip : Chip) (d d' : Device) : Type 0 where
  -- The order isn't done yet.
  goes_on : (order : Order) → d.device_work ≡ CarriesOut order → d'.device_work ≡ CarriesOut order →
      ChangedBy chip (CarriesOut order) d.memory d'.memory →
      DeviceAdvances chip d d'
  -- The order is done. Until a GETSTATUS reports it, the device is in dfuDNLOAD-SYNC, dfuDNBUSY or dfuDNLOAD-IDLE.
  ends : (order : Order) (s : State) → d.device_work ≡ CarriesOut order → d'.device_work ≡ RestsInState s →
      (s ≡ state.DownloadSync) ⊎ ((s ≡ state.DownloadBusy) ⊎ (s ≡ state.DownloadIdle)) →
      ChangedBy chip (CarriesOut order) d.memory d'.memory → OrderCarriedOut chip order d'.pointer d'.memory → DeviceAdvances chip d d'
  -- The order fails, and the device is in dfuERROR.
  fails : (order : Order) → d.device_work ≡ CarriesOut order → d'.device_work ≡ RestsInState state.Error →
      ChangedBy chip (CarriesOut order) d.memory d'.memory →
      DeviceAdvances chip d d'
