-- Facts about the device at each step of a session.
use Rattle.std.proofs.Common.{◌≡◌, ℕ, ◌%◌, ◌^◌, true}
use Rattle.dfu_wire.specs.declared.states.State.{State}
use Rattle.dfu_wire.specs.declared.states.State.TheVariants as state
use Rattle.dfuse_host.specs.declared.plan.Plan.{Plan}
use Rattle.dfuse_host.specs.declared.phase.Phase.{Phase}
use Rattle.dfuse_host.specs.declared.phase.Phase.TheVariants.{On, Over}
use Rattle.dfuse_host.specs.declared.work.Work.{Work}
use Rattle.dfuse_host.specs.declared.place.Place.{Place}
use Rattle.dfuse_host.specs.declared.place.Place.TheVariants as place
use Rattle.dfuse_host.specs.declared.step.Step.{Step}
use Rattle.dfuse_host.specs.declared.step.Step.TheVariants as step
use Rattle.dfuse_host.proofs.ForCallers.{AnyCommand, commands_have_fact, AnyHeard, heards_have_fact}
use Rattle.dfuse_host.specs.Settling.{can_read}
use Rattle.dfuse_host.specs.Commands.{command_of}
use Rattle.dfuse_host.specs.Deeds.{stands_at}
use Rattle.dfuse_link.specs.Chips.{Chip, Order, SetsPointer, ErasesPage, DeviceWork, RestsInState, Pending, CarriesOut, Device}

-- The device has no order and isn't in dfuDNLOAD-SYNC.
abbrev pub IsQuiet : DeviceWork → Type 0
IsQuiet (RestsInState state.DownloadSync) = ⊥
IsQuiet (RestsInState s) = Unit {0}
IsQuiet (Pending order) = ⊥
IsQuiet (CarriesOut order) = ⊥

-- The pointer holds the address that the session knows. If the place is Lost, the pointer may hold any address.
abbrev pub KnowsPointer : Place → (pointer : ℕ) → Type 0
KnowsPointer place.Lost pointer = Unit {0}
KnowsPointer (place.At p) pointer = pointer ≡ p % 2 ^ 32
KnowsPointer (place.Reading p) pointer = pointer ≡ p % 2 ^ 32

-- If the command sets the pointer or erases, the order is the order of this command. For a write there is no condition.
abbrev pub IsOrderOfCommand : AnyCommand → Order → Type 0
IsOrderOfCommand c order =
    commands_have_fact (λ _. Type 0) (λ at. order ≡ SetsPointer (at % 2 ^ 32)) (λ at. order ≡ ErasesPage (at % 2 ^ 32)) (λ at. Unit {0}) c

-- Each byte that an erase at `at` reaches is blank.
abbrev pub ErasedBytesBlank : Chip → (at : ℕ) → (memory : ℕ → ℕ) → Type 0
ErasedBytesBlank chip at memory = (a : ℕ) → chip.erases at a ≡ true → chip.blank (memory a) ≡ true

-- If the command sets the pointer, the pointer holds its address. If it erases, the erased bytes are blank. For a write there is no
-- condition.
abbrev pub IsCommandDone : Chip → AnyCommand → (pointer : ℕ) → (memory : ℕ → ℕ) → Type 0
IsCommandDone chip c pointer memory =
    commands_have_fact (λ _. Type 0) (λ at. pointer ≡ at % 2 ^ 32) (λ at. ErasedBytesBlank chip (at % 2 ^ 32) memory) (λ at. Unit {0}) c

-- The command may have reached the device or not: the device is quiet, or has the command's order and hasn't started it.
abbrev pub MayHaveCommand : AnyCommand → DeviceWork → Type 0
MayHaveCommand c (RestsInState s) = IsQuiet (RestsInState s)
MayHaveCommand c (Pending order) = IsOrderOfCommand c order
MayHaveCommand c (CarriesOut order) = ⊥

-- The command has reached the device: its order isn't started yet, is carried out, is done or has failed.
abbrev pub HasCommand : Chip → AnyCommand → DeviceWork → (pointer : ℕ) → (memory : ℕ → ℕ) → Type 0
HasCommand chip c (RestsInState state.Error) pointer memory = Unit {0}
HasCommand chip c (RestsInState s) pointer memory = IsCommandDone chip c pointer memory
HasCommand chip c (Pending order) pointer memory = IsOrderOfCommand c order
HasCommand chip c (CarriesOut order) pointer memory = IsOrderOfCommand c order

-- The session is reading, and UPLOAD can return the bytes of the work from the address to which the pointer was set.
abbrev pub CanReadWork : Plan → Work → Place → Type 0
CanReadWork plan w place.Lost = ⊥
CanReadWork plan w (place.At p) = ⊥
CanReadWork plan w (place.Reading base) = can_read plan base (stands_at w) ≡ true

-- Facts about the device at a step. At Send and Probe the device may have the command, and its pointer holds the address that the session
-- knows. At Poll and PollWait it has the command. At the three steps of reading it is quiet, and the session knows its pointer. At other
-- steps there is no condition.
abbrev pub DeviceFitsStep : Chip → Plan → Work → Place → Step → Device → Type 0
DeviceFitsStep chip plan w p step.Send d = MayHaveCommand (command_of plan w p) d.device_work × KnowsPointer p d.pointer
DeviceFitsStep chip plan w p step.Probe d = MayHaveCommand (command_of plan w p) d.device_work × KnowsPointer p d.pointer
DeviceFitsStep chip plan w p (step.Poll last) d = HasCommand chip (command_of plan w p) d.device_work d.pointer d.memory
DeviceFitsStep chip plan w p (step.PollWait ms) d = HasCommand chip (command_of plan w p) d.device_work d.pointer d.memory
DeviceFitsStep chip plan w p step.BeginReading d = IsQuiet d.device_work × KnowsPointer p d.pointer
DeviceFitsStep chip plan w p step.EndReading d = IsQuiet d.device_work × KnowsPointer p d.pointer
DeviceFitsStep chip plan w p step.Read d = IsQuiet d.device_work × KnowsPointer p d.pointer × CanReadWork plan w p
DeviceFitsStep chip plan w p s d = Unit {0}

-- The device fits the step of the phase, as defined by DeviceFitsStep. If the session is over, there is no condition.
abbrev pub DeviceFitsPhase : Chip → Plan → Phase → Device → Type 0
DeviceFitsPhase chip plan (On s) d = DeviceFitsStep chip plan s.work s.place s.step d
DeviceFitsPhase chip plan (Over r) d = Unit {0}

-- If the result is a state or a status, it names the state `t`.
abbrev pub HeardSaysState : AnyHeard → State → Type 0
HeardSaysState h t =
    heards_have_fact (λ _. Type 0) (Unit {0}) (λ s. t ≡ s.state) (λ s. t
    ≡ s) (λ same. Unit {0}) (Unit {0}) (Unit {0}) (Unit {0}) (Unit {0}) h
