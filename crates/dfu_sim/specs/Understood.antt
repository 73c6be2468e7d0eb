-- Statements that a play in bytes has the meaning of a play of values.
use Rattle.std.specs.Prelude.{◌≡◌, ℕ, List, Bool}
use Rattle.dfu_slots.specs.Medium.Fuse.{Whole}
use Rattle.dfu_slots.specs.Image.{Active, HasImage}
use Rattle.dfu_slots.specs.Changes.{FirstOpenFault}
use Rattle.dfu_slots.specs.declared.fault.OpenFault.{OpenFault}
use Rattle.dfu_device.specs.declared.answer.Answer.{Answer}
use Rattle.dfu_device.specs.Table.{plan}
use Rattle.dfu_device.specs.Outcome.{Luck, plan_outcome}
use Rattle.dfu_device.specs.Stage.{Profile, Stage}
use Rattle.dfu_device.specs.DeviceView.{profile}
use Rattle.dfu_device.specs.Rows.{request_for_table, asked_length, ReplyAnswer}
use Rattle.dfu_wire.specs.declared.requests.Request.{Request as Asked}
use Rattle.dfu_host.specs.Phases.{Task, Phase, Send, Heard}
use Rattle.dfu_host.specs.Table.{deed}
use Rattle.dfu_sim.specs.Play.{Answered, Play, heard_of_reply, heard_with_room}
use Rattle.dfu_sim.specs.Bytes.{HeardOfAnswer, link_of_bench, BytePlay}
use Rattle.dfu_sim.specs.Happening.{Happening}
use Rattle.dfu_sim.specs.LinkView.{LinkView, BenchMatchesFlash}

-- A host reads the bytes of a device's answer with the meaning that the device gave them, or as NoRoom for a part without memory.
abbrev pub ResponsesUnderstood : Type 0
ResponsesUnderstood = (task : Task) (phase : Phase) (q : Asked) (body : List ℕ) (c : Profile) (image : List ℕ) (stage : Stage) (luck : Luck)
    (a : Answer) (out : List ℕ) (heard : Heard)
    → deed task phase ≡ Send q body → let reply = (plan_outcome image (plan c image stage (request_for_table q body)) luck).reply in
    ReplyAnswer (asked_length q) reply a out → HeardOfAnswer (Send q body) a out heard
    → (room : Bool) × (heard ≡ heard_with_room (heard_of_reply reply) room)

-- A play in bytes is a play of the links that the benches show. The device keeps its profile, and its medium is not armed afterwards.
pub record PlayIsShown (b : LinkView) (event : Happening) (b' : LinkView) (answer : Answered) : Type 0 where
  pub play : Play (profile b.device) (link_of_bench b) event (link_of_bench b') answer
  pub fixed : profile b'.device ≡ profile b.device
  pub unarmed : b'.device.slots.medium.fuse ≡ Whole

-- Each play in bytes is a play of the links that the benches show.
abbrev pub PlaysMatchLinks : Type 0
PlaysMatchLinks = (b b' : LinkView) (event : Happening) (answer : Answered) → BytePlay b event b' answer → PlayIsShown b event b' answer

-- If the medium's bytes have an active image, the link that the bench shows has that image, and the bytes have no other.
abbrev pub BenchImageIsActive : Type 0
BenchImageIsActive = (b : LinkView) → (HasImage b.device.slots.medium → BenchMatchesFlash b)
    × ((image : List ℕ) → Active b.device.slots.medium image → image ≡ (link_of_bench b).device.image)

-- A device can power on from the medium of a bench that shows the active image of its bytes: no fault of `Device::power_on` applies.
abbrev pub PowerOnSucceeds : Type 0
PowerOnSucceeds = (b : LinkView) (fault : OpenFault) → BenchMatchesFlash b → ¬ FirstOpenFault fault b.device.slots.medium
