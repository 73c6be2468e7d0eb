-- Verdict, before the body of a setup arrives, on whether a device will stall the setup.
use Rattle.std.specs.Prelude.{◌≡◌, ◌↔◌, ℕ, Bool, true, false, IsTrue, Option, Some, None, List, length}
use Rattle.dfu_wire.specs.declared.setups.Setup.{Setup}
use Rattle.dfu_wire.specs.Setup.{IsSetup}
use Rattle.dfu_device.specs.declared.answer.Answer.{Answer}
use Rattle.dfu_device.specs.declared.answer.Answer.TheVariants as answer
use Rattle.dfu_device.specs.DeviceView.{DeviceView}
use Rattle.dfu_device.specs.Stage.{Reply, Stall}
use Rattle.dfu_device.specs.Table.{Plan, Sure, Writes, Commits}
use Rattle.dfu_device.specs.Rows.{Handles, body_length}
use Rattle.dfu_slots.specs.declared.fault.WriteFault.TheVariants.{Failed, NotVerified}

-- True if the reply is a stall.
abbrev pub is_stall : Reply → Bool
is_stall Stall = true
is_stall reply = false

-- The value of three Bools if they are equal; None if they differ.
abbrev pub equal_bool_of_three : Bool → Bool → Bool → Option Bool
equal_bool_of_three true true true = Some true
equal_bool_of_three false false false = Some false
equal_bool_of_three x y z = None

-- True if the plan stalls the request for every outcome of its writes, false if it never does; None if the outcome decides.
abbrev pub stall_verdict : Plan → Option Bool
stall_verdict (Sure reply stage) = Some (is_stall reply)
stall_verdict (Writes before block reply stage bad) =
    equal_bool_of_three (is_stall reply) (is_stall (bad Failed)) (is_stall (bad NotVerified))
stall_verdict (Commits taken reply stage bad) = equal_bool_of_three (is_stall reply) (is_stall (bad Failed)) (is_stall (bad NotVerified))

-- A body has wLength bytes if bmRequestType is 21h, because the host sends it then; else it is empty.
abbrev pub IsBodyOf : List ℕ → List ℕ → Type 0
IsBodyOf setup body = (p : Setup) → IsSetup p setup → length body ≡ body_length p

-- For every body that the setup announces, the verdict is true exactly if this device stalls the setup.
abbrev pub IsStallVerdict : Bool → List ℕ → DeviceView → Type 0
IsStallVerdict said setup d = (body : List ℕ) → IsBodyOf setup body → (x : Answer) (sent : List ℕ) (d' : DeviceView)
    → Handles setup body d x sent d' → IsTrue said ↔ (x ≡ answer.Stall)
