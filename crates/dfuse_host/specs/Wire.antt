-- The table on the wire: setups of the actions and meanings of the results.
use Rattle.std.specs.Prelude.{◌≡◌, ◌≢◌, ℕ, ◌==◌, List, [], ◌∷◌, length, if◌then◌else◌}
use Rattle.std.specs.Str.{bytes_eq}
use Rattle.dfu_wire.specs.declared.setups.Setup.{Setup}
use Rattle.dfu_wire.specs.declared.states.State.{State}
use Rattle.dfu_wire.specs.declared.requests.Request.{Request}
use Rattle.dfu_wire.specs.Status.{StatusFields, IsStatus}
use Rattle.dfu_wire.specs.Setup.{IsSetup}
use Rattle.dfu_wire.specs.Request.{SetupAsksFor, UnusedValueIsZero}
use Rattle.dfu_wire.specs.State.{state_byte}
use Rattle.dfuse_host.specs.declared.action.Action.{Action}
use Rattle.dfuse_host.specs.declared.action.Action.TheVariants as action
use Rattle.dfuse_host.specs.declared.seen.Seen.{Seen}
use Rattle.dfuse_host.specs.declared.seen.Seen.TheVariants as seen
use Rattle.dfuse_host.specs.declared.heard.Heard.{Heard}
use Rattle.dfuse_host.specs.declared.heard.Heard.TheVariants as heard
use Rattle.dfuse_host.specs.declared.plan.Plan.{Plan}
use Rattle.dfuse_host.specs.declared.work.Work.{Work}
use Rattle.dfuse_host.specs.declared.step.Step.{Step}
use Rattle.dfuse_host.specs.declared.step.Step.TheVariants as step
use Rattle.dfuse_host.specs.Deeds.{DfuseDeed, Send, Wait, Done, read_bytes}

-- The eight bytes are the setup of this request. Fields that the request doesn't use are 0.
pub record IsDfuseSetupOf (q : Request) (bytes : List ℕ) : Type 0 where
  -- Setup that the bytes encode.
  pub setup : Setup
  -- The bytes encode the fields of the setup.
  pub fields : IsSetup setup bytes
  -- The setup belongs to the request.
  pub asks : SetupAsksFor setup q
  -- The value field is 0 if the request doesn't use it.
  pub plain : UnusedValueIsZero setup q

-- The action has the form of the deed. For a request it contains the bytes of the setup, and the body.
abbrev pub DfuseSpells : DfuseDeed → Action → Type 0
DfuseSpells (Send q body) (action.Send setup given) = IsDfuseSetupOf q setup × (given.now ≡ body)
DfuseSpells (Send q body) (action.Command setup given) = IsDfuseSetupOf q setup × (given ≡ body)
DfuseSpells (Wait ms) (action.Wait given) = given ≡ ms
DfuseSpells (Done report) (action.Done given) = given ≡ report
DfuseSpells deed given = ⊥

-- Meaning of an answer to GETSTATUS: the status that the bytes encode, or Nothing if they encode none.
abbrev pub DfuseReadsStatus : List ℕ → Heard → Type 0
DfuseReadsStatus bytes (heard.Told status) = IsStatus status bytes
DfuseReadsStatus bytes heard.Nothing = (s : StatusFields) → IsStatus s bytes → ⊥
DfuseReadsStatus bytes h = ⊥

-- Meaning of an answer to GETSTATE: the state that its single byte encodes, or Nothing if it isn't the single byte of a state.
abbrev pub DfuseReadsState : List ℕ → Heard → Type 0
DfuseReadsState bytes (heard.StateIs state) = bytes ≡ state_byte state ∷ []
DfuseReadsState bytes heard.Nothing = (state : State) → bytes ≢ state_byte state ∷ []
DfuseReadsState bytes h = ⊥

-- Meaning of an answer to UPLOAD: the comparison with the wanted bytes, or Nothing if the lengths differ.
abbrev pub heard_of_compare : (wanted bytes : List ℕ) → Heard
heard_of_compare wanted bytes = if length bytes == length wanted then heard.Compared (bytes_eq bytes wanted) else heard.Nothing

-- Meaning of an answer with bytes at a step: Nothing if the step's request has no answer.
abbrev pub DfuseBytesMeaning : Plan → Work → Step → List ℕ → Heard → Type 0
DfuseBytesMeaning plan w step.AskState bytes h = DfuseReadsState bytes h
DfuseBytesMeaning plan w step.Probe bytes h = DfuseReadsState bytes h
DfuseBytesMeaning plan w step.CloseProbe bytes h = DfuseReadsState bytes h
DfuseBytesMeaning plan w step.AskStatus bytes h = DfuseReadsStatus bytes h
DfuseBytesMeaning plan w (step.Poll last) bytes h = DfuseReadsStatus bytes h
DfuseBytesMeaning plan w step.ClosePoll bytes h = DfuseReadsStatus bytes h
DfuseBytesMeaning plan w step.Read bytes h = h ≡ heard_of_compare (read_bytes plan w) bytes
DfuseBytesMeaning plan w step.Abort bytes h = h ≡ heard.Nothing
DfuseBytesMeaning plan w (step.ClearWait ms) bytes h = h ≡ heard.Nothing
DfuseBytesMeaning plan w step.ClearStatus bytes h = h ≡ heard.Nothing
DfuseBytesMeaning plan w step.Send bytes h = h ≡ heard.Nothing
DfuseBytesMeaning plan w (step.PollWait ms) bytes h = h ≡ heard.Nothing
DfuseBytesMeaning plan w step.BeginReading bytes h = h ≡ heard.Nothing
DfuseBytesMeaning plan w step.EndReading bytes h = h ≡ heard.Nothing
DfuseBytesMeaning plan w step.Close bytes h = h ≡ heard.Nothing

-- Meaning of a result at a step. A result that doesn't fit the step also has a meaning, and the table has a row for it.
abbrev pub DfuseSeenMeaning : Plan → Work → Step → Seen → Heard → Type 0
DfuseSeenMeaning plan w s (seen.Bytes bytes) h = DfuseBytesMeaning plan w s bytes.now h
DfuseSeenMeaning plan w s seen.Ack h = h ≡ heard.Acked
DfuseSeenMeaning plan w s seen.Stall h = h ≡ heard.Stalled
DfuseSeenMeaning plan w s seen.Nothing h = h ≡ heard.Nothing
DfuseSeenMeaning plan w s seen.Waited h = h ≡ heard.Waited
DfuseSeenMeaning plan w s seen.Restarted h = h ≡ heard.Restarted
