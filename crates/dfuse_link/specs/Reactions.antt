-- Reactions of a device to requests, and its work afterwards.
use Rattle.std.specs.Prelude.{◌≡◌, ◌⊎◌, ℕ, ◌+◌, ◌-◌, ◌*◌, ◌<◌, ◌≤◌, ◌==◌, nat_le, List, [], ◌∷◌, length, slice_index, if◌then◌else◌}
use Rattle.std.specs.Int.{w32, from_le_bytes}
use Rattle.dfu_wire.specs.declared.states.State.{State}
use Rattle.dfu_wire.specs.declared.states.State.TheVariants as state
use Rattle.dfu_wire.specs.declared.requests.Request.{Request}
use Rattle.dfu_wire.specs.declared.requests.Request.TheVariants as request
use Rattle.dfu_wire.specs.State.{state_byte}
use Rattle.dfu_wire.specs.Status.{StatusFields, IsStatus}
use Rattle.dfuse_link.specs.Chips.{Chip, Order, SetsPointer, ErasesPage, WritesByteRange, Other, DeviceWork, RestsInState, Pending, CarriesOut, state_in, Device, DeviceAdvances}

-- Reaction of a device to a request: an acknowledgement, bytes or a stall.
pub data Reaction : Type 0 where
  -- The device acknowledges the request.
  Acks : Reaction
  -- The device answers the request with these bytes.
  Data : (bytes : List ℕ) → Reaction
  -- The device stalls the request.
  Stalls : Reaction

-- Order in the body of a DNLOAD of block 0: a command number, and an address of four bytes with the low byte first. 21h sets the pointer
-- and 41h erases. Any other body is an order of another kind.
abbrev pub order_of_command_bytes : List ℕ → Order
order_of_command_bytes [] = Other
order_of_command_bytes (number ∷ address) =
    if length address == 4
    then (if number == 0x21 then SetsPointer (from_le_bytes w32 address)
    else (if number == 0x41 then ErasesPage (from_le_bytes w32 address) else Other))
    else Other

-- Order of a DNLOAD. Block 0 holds a command. The bytes of block 2 and later are written at the pointer plus (block - 2) * transfer. Block
-- 1 is an order of another kind.
abbrev pub order_of : Chip → (pointer block : ℕ) → (body : List ℕ) → Order
order_of chip pointer block body =
    if nat_le 2 block then WritesByteRange (pointer + (block - 2) * chip.transfer) (length body)
    else (if block == 0 then order_of_command_bytes body else Other)

-- The device rests in dfuIDLE or in the state `s`.
abbrev pub RestsIdleOr : State → DeviceWork → Type 0
RestsIdleOr s device_work = (device_work ≡ RestsInState state.DfuIdle) ⊎ (device_work ≡ RestsInState s)

-- ABORT leads to dfuIDLE from dfuIDLE, dfuDNLOAD-SYNC, dfuDNLOAD-IDLE, dfuMANIFEST-SYNC and dfuUPLOAD-IDLE, and also if an order isn't
-- started.
abbrev pub AbortLeadsToIdle : DeviceWork → Type 0
AbortLeadsToIdle (RestsInState state.DfuIdle) = Unit {0}
AbortLeadsToIdle (RestsInState state.DownloadSync) = Unit {0}
AbortLeadsToIdle (RestsInState state.DownloadIdle) = Unit {0}
AbortLeadsToIdle (RestsInState state.ManifestSync) = Unit {0}
AbortLeadsToIdle (RestsInState state.UploadIdle) = Unit {0}
AbortLeadsToIdle (Pending order) = Unit {0}
AbortLeadsToIdle device_work = ⊥

-- The memory holds `bytes` from the address `at` on.
abbrev pub BytesInMemoryAt : (memory : ℕ → ℕ) → (at : ℕ) → List ℕ → Type 0
BytesInMemoryAt memory at bytes = (i : ℕ) → i < length bytes → memory (at + i) ≡ slice_index bytes i

-- Work of a device after a GETSTATUS has started its order.
abbrev pub work_with_order_started : DeviceWork → DeviceWork
work_with_order_started (Pending order) = CarriesOut order
work_with_order_started device_work = device_work

-- Work of a device after a GETSTATUS has reported it. A completed order is followed by dfuDNLOAD-IDLE, and dfuMANIFEST-SYNC by dfuMANIFEST.
abbrev pub work_after_status : DeviceWork → DeviceWork
work_after_status (RestsInState state.DownloadSync) = RestsInState state.DownloadIdle
work_after_status (RestsInState state.DownloadBusy) = RestsInState state.DownloadIdle
work_after_status (RestsInState state.ManifestSync) = RestsInState state.Manifest
work_after_status device_work = device_work

-- Reaction of the device `d` to a request with this body, and the device afterwards.
pub data Reacts (chip : Chip) (d : Device) : Request → List ℕ → Reaction → Device → Type 0 where
  -- A device may stall any request, except GETSTATE while an order isn't started. It then keeps its work or goes to dfuERROR.
  stalls : (q : Request) (body : List ℕ) (device_work : DeviceWork)
      → ((order : Order) (n : ℕ) → d.device_work ≡ Pending order → q ≡ request.GetState n → ⊥)
      → (device_work ≡ d.device_work) ⊎ (device_work ≡ RestsInState state.Error) →
      Reacts chip d q body Stalls (record d { device_work = device_work })
  -- DNLOAD of bytes in dfuIDLE or dfuDNLOAD-IDLE gives the device an order, but doesn't start it.
  takes : (block n : ℕ) (body : List ℕ) → RestsIdleOr state.DownloadIdle d.device_work → 0 < length body
      → Reacts chip d (request.Dnload block n) body Acks (record d { device_work = Pending (order_of chip d.pointer block body) })
  -- DNLOAD without bytes, the leave request, leads from dfuIDLE or dfuDNLOAD-IDLE to dfuMANIFEST-SYNC.
  closes : (block n : ℕ) → RestsIdleOr state.DownloadIdle d.device_work
      → Reacts chip d (request.Dnload block n) [] Acks (record d { device_work = RestsInState state.ManifestSync })
  -- UPLOAD of block 2 or later, in dfuIDLE or dfuUPLOAD-IDLE, returns at most `n` bytes of the memory. They begin at the pointer plus
  -- (block - 2) * transfer.
  gives : (block n : ℕ) (body bytes : List ℕ) (s : State) → RestsIdleOr state.UploadIdle d.device_work → 2 ≤ block → length bytes ≤ n
      → BytesInMemoryAt d.memory (d.pointer + (block - 2) * chip.transfer) bytes → (s ≡ state.DfuIdle) ⊎ (s ≡ state.UploadIdle)
      → Reacts chip d (request.Upload block n) body (Data bytes) (record d { device_work = RestsInState s })
  -- UPLOAD of block 0 or 1, in dfuIDLE or dfuUPLOAD-IDLE, may return any bytes.
  gives_other_bytes : (block n : ℕ) (body bytes : List ℕ) → RestsIdleOr state.UploadIdle d.device_work → block < 2
      → Reacts chip d (request.Upload block n) body (Data bytes) (record d { device_work = RestsInState state.UploadIdle })
  -- GETSTATUS starts an order that isn't started. The device may then continue its order, and reports the state after that, with any status
  -- code and any poll timeout.
  tells : (n : ℕ) (body bytes : List ℕ) (status : StatusFields) (mid : Device)
      → (mid ≡ record d { device_work = work_with_order_started d.device_work }) ⊎ DeviceAdvances chip (record d {
        device_work =
            work_with_order_started d.device_work;
      }) mid
      → IsStatus status bytes
      → status.state ≡ state_in (work_after_status mid.device_work) → Reacts chip d (request.GetStatus n) body (Data bytes)
      (record mid { device_work = work_after_status mid.device_work })
  -- GETSTATE returns the state and changes nothing.
  shows : (n : ℕ) (body : List ℕ) → Reacts chip d (request.GetState n) body (Data (state_byte (state_in d.device_work) ∷ [])) d
  -- ABORT leads to dfuIDLE and drops an order that isn't started.
  aborts : (body : List ℕ) → AbortLeadsToIdle d.device_work → Reacts chip d request.Abort body Acks (record d {
    device_work = RestsInState
        state.DfuIdle;
  })
  -- CLRSTATUS leads from dfuERROR to dfuIDLE.
  clears_error : (body : List ℕ) → d.device_work ≡ RestsInState state.Error
      → Reacts chip d request.ClrStatus body Acks (record d { device_work = RestsInState state.DfuIdle })
