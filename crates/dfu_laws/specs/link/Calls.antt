-- A call of a board over a link, with the writes that it requests.
use Rattle.std.specs.Prelude.{◌≡◌, ℕ, Bool, List, [], ◌∷◌, ◌++◌}
use Rattle.dfu_device.specs.declared.answer.Answer.{Answer}
use Rattle.dfu_device.specs.declared.objection.Objection.{Objection}
use Rattle.dfu_laws.specs.board.Board.{Board, Event, Handle, RefuseClose, Write, Took, Restart, BoardReply, Nothing, WritesDue, Answers, BoardStep}
use Rattle.dfu_laws.specs.board.Happens.{IsRun}

-- Writes are still pending after an event: the flash is written, a report has no answer yet, or another call is refused.
abbrev pub WritesStayDue : Event → BoardReply → Type 0
WritesStayDue Write says = Unit {0}
WritesStayDue (Took failed) (Answers a out) = ⊥
WritesStayDue (Took failed) says = Unit {0}
WritesStayDue (Restart begins) says = ⊥
WritesStayDue event says = says ≡ Nothing

-- Writes are pending before the steps, and the last step gives this answer with these bytes.
pub data WritesEndWithAnswer (a : Answer) (out : List ℕ) : List BoardStep → Type 0 where
  ends : (s : BoardStep) (failed : Bool) → s.event ≡ Took failed → s.says ≡ Answers a out → WritesEndWithAnswer a out (s ∷ [])
  writes_still_due_then : (s : BoardStep) (rest : List BoardStep) → WritesStayDue s.event s.says → WritesEndWithAnswer a out rest →
      WritesEndWithAnswer a out (s ∷ rest)

-- The steps are a call that gives this answer with these bytes, at once or after the writes that it requests.
pub data AnsweredCall (call : Event) (a : Answer) (out : List ℕ) : List BoardStep → Type 0 where
  at_once : (s : BoardStep) → s.event ≡ call → s.says ≡ Answers a out → AnsweredCall call a out (s ∷ [])
  answered_after_writes : (s : BoardStep) (rest : List BoardStep) → s.event ≡ call → s.says ≡ WritesDue → WritesEndWithAnswer a out rest
      → AnsweredCall call a out (s ∷ rest)

-- Writes are pending before the steps, and stay pending until the last step, which is a loss of power.
pub data WritesCutByPower : List BoardStep → Type 0 where
  power_goes : (s : BoardStep) (begins : Bool) → s.event ≡ Restart begins → WritesCutByPower (s ∷ [])
  power_lost_later : (s : BoardStep) (rest : List BoardStep) → WritesStayDue s.event s.says → WritesCutByPower rest →
      WritesCutByPower (s ∷ rest)

-- The steps are a call that requests writes, and the power fails before the answer.
pub data IsBrokenCall (call : Event) : List BoardStep → Type 0 where
  broken : (s : BoardStep) (rest : List BoardStep) → s.event ≡ call → s.says ≡ WritesDue → WritesCutByPower rest →
      IsBrokenCall call (s ∷ rest)

-- A board answers a call in these steps.
pub record CallServed (b : Board) (call : Event) (steps : List BoardStep) (a : Answer) (out : List ℕ) (b' : Board) : Type 0 where
  pub run : IsRun b steps b'
  pub is : AnsweredCall call a out steps

-- A request is sent to a board over a link. The link loses it, or delivers it once or twice, and returns the last answer.
pub data CallReaches (call : Event) (b : Board) : List BoardStep → BoardReply → Board → Type 0 where
  lost : CallReaches call b [] Nothing b
  once : {steps : List BoardStep} {a : Answer} {out : List ℕ} {b' : Board} → CallServed b call steps a out b'
      → CallReaches call b steps (Answers a out) b'
  twice : {first second : List BoardStep} {a x : Answer} {out said : List ℕ} {mid b' : Board} → CallServed b call first x said mid
      → CallServed mid call second a out b' → CallReaches call b (first ++ second) (Answers a out) b'

-- A request that closes a download arrives at a board, and the board's program refuses the image. The link may then deliver the same
-- request a second time.
pub data ImageRefusedAtClose (setup body : List ℕ) (why : Objection) (b : Board) : List BoardStep → BoardReply → Board → Type 0 where
  close_refused_once : {steps : List BoardStep} {a : Answer} {out : List ℕ} {b' : Board} →
      CallServed b (RefuseClose setup why) steps a out b'
      → ImageRefusedAtClose setup body why b steps (Answers a out) b'
  close_refused_then_repeated : {first second : List BoardStep} {a x : Answer} {out said : List ℕ} {mid b' : Board}
      → CallServed b (RefuseClose setup why) first x said mid → CallServed mid (Handle setup body) second a out b'
      → ImageRefusedAtClose setup body why b (first ++ second) (Answers a out) b'

-- A call is sent to a board over a link, and the power fails before the delivery, during the call, after it, or during its second delivery.
pub data CallCutOff (call : Event) (b : Board) : List BoardStep → Board → Type 0 where
  behind : {steps : List BoardStep} {says : BoardReply} {mid b' : Board} (power : BoardStep) (begins : Bool)
      → CallReaches call b steps says mid
      → IsRun mid (power ∷ []) b' → power.event ≡ Restart begins → CallCutOff call b (steps ++ power ∷ []) b'
  within : {steps : List BoardStep} {b' : Board} → IsRun b steps b' → IsBrokenCall call steps → CallCutOff call b steps b'
  power_lost_in_second_call : {first second : List BoardStep} {a : Answer} {out : List ℕ} {mid b' : Board} →
      CallServed b call first a out mid
      → IsRun mid second b' → IsBrokenCall call second → CallCutOff call b (first ++ second) b'
