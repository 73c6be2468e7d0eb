-- A host reads from a device's bytes the status or state that the device encoded in them.
use Rattle.std.proofs.Common.{◌≡◌, ℕ, List, [], ◌∷◌, refl, sym, ap, ◌∙◌, subst}
use Rattle.dfu_wire.specs.declared.requests.Request.{Request}
use Rattle.dfu_wire.specs.declared.requests.Request.TheVariants as request
use Rattle.dfu_wire.specs.declared.states.State.{State}
use Rattle.dfu_wire.specs.State.{state_byte}
use Rattle.dfu_wire.specs.Status.{StatusFields, IsStatus}
use Rattle.dfu_wire.specs.OneValue.{state_byte_is_injective}
use Rattle.dfu_wire.specs.OneValue.{bytes_encode_one_status}
use Rattle.dfu_host.specs.declared.seen.Seen.{Seen}
use Rattle.dfu_host.specs.declared.seen.Seen.TheVariants as seen
use Rattle.dfu_host.specs.Phases.{Deed, Send, Wait, Reset, Done, Heard, Status, StateIs, Nothing}
use Rattle.dfu_host.specs.Wire.{ReadsStatus, ReadsState, ReadsAnswer, BytesMeaning, SeenMeaning}

-- Bytes that encode a status mean that status.
abbrev pub StatusUnderstood : Type 0
StatusUnderstood =
    (s : StatusFields) (bytes : List ℕ) (heard : Heard) → IsStatus s bytes → ReadsStatus bytes heard
    → heard ≡ Status s.code s.poll_ms s.state

-- The byte that encodes a state means that state.
abbrev pub StateUnderstood : Type 0
StateUnderstood = (state : State) (heard : Heard) → ReadsState (state_byte state ∷ []) heard → heard ≡ StateIs state

pub status_understood : StatusUnderstood
status_understood s bytes (Status code poll state) is reads =
    ap (λ (z : StatusFields). Status z.code z.poll_ms z.state)
    (bytes_encode_one_status (record { code = code; poll_ms = poll; state = state }) s bytes reads is)
status_understood s bytes Nothing is reads = absurd (reads s is)
status_understood s bytes heard is reads = elim reads [ ]

pub state_understood : StateUnderstood
state_understood state (StateIs s) reads = let e : state_byte s
    ≡ state_byte state = cc in ap StateIs (state_byte_is_injective s state e)
state_understood state Nothing reads = absurd (reads state refl)
state_understood state heard reads = elim reads [ ]

-- The request isn't an UPLOAD, so its answer has only one meaning. For the part that answers an UPLOAD, memory may be missing.
abbrev pub AnswerHasOneMeaning : Request → Type 0
AnswerHasOneMeaning (request.Upload block len) = ⊥
AnswerHasOneMeaning (request.GetStatus len) = Unit {0}
AnswerHasOneMeaning (request.GetState len) = Unit {0}
AnswerHasOneMeaning (request.Detach timeout) = Unit {0}
AnswerHasOneMeaning (request.Dnload block len) = Unit {0}
AnswerHasOneMeaning request.ClrStatus = Unit {0}
AnswerHasOneMeaning request.Abort = Unit {0}
AnswerHasOneMeaning request.OtherClass = Unit {0}
AnswerHasOneMeaning request.NotDfu = Unit {0}

-- The action isn't an UPLOAD, so its result has only one meaning.
abbrev pub HasOneMeaning : Deed → Type 0
HasOneMeaning (Send q body) = AnswerHasOneMeaning q
HasOneMeaning (Wait ms) = Unit {0}
HasOneMeaning Reset = Unit {0}
HasOneMeaning (Done report) = Unit {0}

-- The result of an action other than UPLOAD has only one meaning.
abbrev pub ResultHasOneMeaning : Type 0
ResultHasOneMeaning = (d : Deed) (what : Seen) (x y : Heard) → HasOneMeaning d → SeenMeaning d what x → SeenMeaning d what y → x ≡ y

-- Bytes that answer GETSTATUS have only one meaning.
status_bytes_have_one_meaning : (bytes : List ℕ) (x y : Heard) → ReadsStatus bytes x → ReadsStatus bytes y → x ≡ y
status_bytes_have_one_meaning bytes (Status code poll state) y a b =
    sym (status_understood (record { code = code; poll_ms = poll; state = state }) bytes y a b)
status_bytes_have_one_meaning bytes Nothing (Status code poll state) a b = absurd (a (record {
  code = code;
  poll_ms = poll;
  state = state;
}) b)
status_bytes_have_one_meaning bytes Nothing Nothing a b = refl
status_bytes_have_one_meaning bytes Nothing y a b = elim b [ ]
status_bytes_have_one_meaning bytes x y a b = elim a [ ]

-- Bytes that answer GETSTATE have only one meaning.
state_bytes_have_one_meaning : (bytes : List ℕ) (x y : Heard) → ReadsState bytes x → ReadsState bytes y → x ≡ y
state_bytes_have_one_meaning bytes (StateIs s) y a b = sym (state_understood s y (subst (λ (l : List ℕ). ReadsState l y) a b))
state_bytes_have_one_meaning bytes Nothing (StateIs s) a b = absurd (a s b)
state_bytes_have_one_meaning bytes Nothing Nothing a b = refl
state_bytes_have_one_meaning bytes Nothing y a b = elim b [ ]
state_bytes_have_one_meaning bytes x y a b = elim a [ ]

-- Bytes that answer a request other than UPLOAD have only one meaning.
answer_bytes_have_one_meaning : (q : Request) (bytes : List ℕ) (x y : Heard) → AnswerHasOneMeaning q → ReadsAnswer q bytes x →
    ReadsAnswer q bytes y → x ≡ y
answer_bytes_have_one_meaning (request.GetStatus len) bytes x y o a b = status_bytes_have_one_meaning bytes x y a b
answer_bytes_have_one_meaning (request.GetState len) bytes x y o a b = state_bytes_have_one_meaning bytes x y a b
answer_bytes_have_one_meaning (request.Upload block len) bytes x y o a b = absurd o
answer_bytes_have_one_meaning q bytes x y o a b = a ∙ sym b

-- Bytes after an action other than UPLOAD have only one meaning.
action_bytes_have_one_meaning : (d : Deed) (bytes : List ℕ) (x y : Heard) → HasOneMeaning d → BytesMeaning d bytes x →
    BytesMeaning d bytes y → x ≡ y
action_bytes_have_one_meaning (Send q body) bytes x y o a b = answer_bytes_have_one_meaning q bytes x y o a b
action_bytes_have_one_meaning d bytes x y o a b = a ∙ sym b

pub result_has_one_meaning : ResultHasOneMeaning
result_has_one_meaning d (seen.Bytes bytes) x y o a b = action_bytes_have_one_meaning d bytes.now x y o a b
result_has_one_meaning d seen.Ack x y o a b = a ∙ sym b
result_has_one_meaning d seen.Stall x y o a b = a ∙ sym b
result_has_one_meaning d seen.Nothing x y o a b = a ∙ sym b
result_has_one_meaning d seen.Waited x y o a b = a ∙ sym b
result_has_one_meaning d seen.WasReset x y o a b = a ∙ sym b
result_has_one_meaning d seen.Restarted x y o a b = a ∙ sym b
result_has_one_meaning d seen.Left x y o a b = a ∙ sym b
