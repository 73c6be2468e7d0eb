-- Setup packets of the host's actions, and meanings of the results.
use Rattle.std.specs.Prelude.{◌≡◌, ◌≢◌, ◌⊎◌, ℕ, suc, ◌<◌, ◌==◌, nat_lt, ◌&&◌, ◌||◌, not, Bool, IsTrue, List, [], ◌∷◌, length}
use Rattle.dfu_wire.specs.declared.setups.Setup.{Setup}
use Rattle.dfu_wire.specs.declared.states.State.{State}
use Rattle.dfu_wire.specs.declared.requests.Request.{Request}
use Rattle.dfu_wire.specs.declared.requests.Request.TheVariants as request
use Rattle.dfu_wire.specs.Status.{StatusFields, IsStatus}
use Rattle.dfu_wire.specs.Setup.{IsSetup}
use Rattle.dfu_wire.specs.Request.{SetupAsksFor, UnusedValueIsZero}
use Rattle.dfu_wire.specs.State.{state_byte}
use Rattle.dfu_host.specs.declared.action.Action.{Action}
use Rattle.dfu_host.specs.declared.action.Action.TheVariants as action
use Rattle.dfu_host.specs.declared.seen.Seen.{Seen}
use Rattle.dfu_host.specs.declared.seen.Seen.TheVariants as seen
use Rattle.dfu_host.specs.Phases.{Deed, Send, Wait, Reset, Done, Heard, Acked, Status, StateIs, Part, NoRoom, Stalled, Nothing, Waited, WasReset, Restarted, Left}

-- The eight bytes are the setup packet of this request. Fields that the request doesn't use are 0.
pub record IsSetupOf (q : Request) (bytes : List ℕ) : Type 0 where
  pub setup : Setup
  pub fields : IsSetup setup bytes
  pub asks : SetupAsksFor setup q
  pub plain : UnusedValueIsZero setup q

-- The action is the code's form of the deed: a request is sent as the bytes of its setup packet, with its body.
abbrev pub SpellsDeed : Deed → Action → Type 0
SpellsDeed (Send q body) (action.Send setup given) = IsSetupOf q setup × (given.now ≡ body)
SpellsDeed (Wait ms) (action.Wait given) = given ≡ ms
SpellsDeed Reset action.Reset = Unit {0}
SpellsDeed (Done report) (action.Done given) = given ≡ report
SpellsDeed deed given = ⊥

-- Bytes that answer GETSTATUS mean the status that they encode, or Nothing if they encode none.
abbrev pub ReadsStatus : List ℕ → Heard → Type 0
ReadsStatus bytes (Status code poll state) = IsStatus (record { code = code; poll_ms = poll; state = state }) bytes
ReadsStatus bytes Nothing = (s : StatusFields) → IsStatus s bytes → ⊥
ReadsStatus bytes heard = ⊥

-- Bytes that answer GETSTATE mean the state that their single byte encodes, or Nothing if they are not such a byte.
abbrev pub ReadsState : List ℕ → Heard → Type 0
ReadsState bytes (StateIs state) = bytes ≡ state_byte state ∷ []
ReadsState bytes Nothing = (state : State) → bytes ≢ state_byte state ∷ []
ReadsState bytes heard = ⊥

-- Part k of an upload is kept if it is short, because it is the last one then, or if it is full and its number isn't 65,534. A full part
-- 65,534 is one too many.
abbrev pub is_part_to_be_kept : (t k length : ℕ) → Bool
is_part_to_be_kept t k length = nat_lt length t || ((length == t) && not (suc k == 65535))

-- A part needs memory if it is to be kept and has at least one byte.
pub record NeedsRoom (t k length : ℕ) : Type 0 where
  pub kept : IsTrue (is_part_to_be_kept t k length)
  pub some : 0 < length

-- Bytes that answer a request have this meaning: for UPLOAD, a part, or NoRoom if the part needs memory; for requests other than UPLOAD,
-- GETSTATUS and GETSTATE, Nothing. The number in an UPLOAD is that of the part, because the host requests only parts 0 to 65,534.
abbrev pub ReadsAnswer : Request → List ℕ → Heard → Type 0
ReadsAnswer (request.GetStatus len) bytes heard = ReadsStatus bytes heard
ReadsAnswer (request.GetState len) bytes heard = ReadsState bytes heard
ReadsAnswer (request.Upload block len) bytes heard = (heard ≡ Part bytes) ⊎ ((heard ≡ NoRoom) × NeedsRoom len block (length bytes))
ReadsAnswer q bytes heard = heard ≡ Nothing

-- The bytes have this meaning after an action. They mean Nothing if the action is not a request.
abbrev pub BytesMeaning : Deed → List ℕ → Heard → Type 0
BytesMeaning (Send q body) bytes heard = ReadsAnswer q bytes heard
BytesMeaning deed bytes heard = heard ≡ Nothing

-- The result of an action has this meaning, which depends on the action only if the result is an answer with bytes.
abbrev pub SeenMeaning : Deed → Seen → Heard → Type 0
SeenMeaning deed (seen.Bytes bytes) heard = BytesMeaning deed bytes.now heard
SeenMeaning deed seen.Ack heard = heard ≡ Acked
SeenMeaning deed seen.Stall heard = heard ≡ Stalled
SeenMeaning deed seen.Nothing heard = heard ≡ Nothing
SeenMeaning deed seen.Waited heard = heard ≡ Waited
SeenMeaning deed seen.WasReset heard = heard ≡ WasReset
SeenMeaning deed seen.Restarted heard = heard ≡ Restarted
SeenMeaning deed seen.Left heard = heard ≡ Left
