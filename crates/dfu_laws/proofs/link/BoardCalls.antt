-- Calls to a board with their writes. Each answered call is one row of the device table.
use Rattle.std.specs.Prelude.{◌≡◌, ℕ, List, [], ◌∷◌, ◌++◌, Option, Some, None}
use Rattle.std.proofs.Common.{sym, ◌∙◌, subst}
use Rattle.dfu_device.specs.declared.answer.Answer.{Answer}
use Rattle.dfu_device.specs.DeviceView.{DeviceView}
use Rattle.dfu_device.specs.Rows.{Cause, Transfer, Passing, BusReset, RefusingClose, Refusing, Row}
use Rattle.dfu_device.specs.History.{IsHistory, HistoryStep as TableRow}
use Rattle.dfu_laws.specs.board.Board.{Board, Event, Handle, Elapse, UsbReset, RefuseClose, Refuse, Write, Took, Restart, BoardReply, Nothing, WritesDue, Answers, BoardStep}
use Rattle.dfu_laws.specs.board.Refines.{IsOneRow, CallRows, EventRows, StepRows, IsIdleBoard, RepresentsDevice, IdleRunsRefineTable}
use Rattle.dfu_laws.specs.link.Calls.{WritesStayDue, WritesEndWithAnswer, ends, writes_still_due_then, AnsweredCall, at_once, answered_after_writes, CallServed}

-- The call has this cause in the device table.
abbrev pub IsCallOfCause : Event → Cause → Type 0
IsCallOfCause (Handle setup body) cause = cause ≡ Transfer setup body
IsCallOfCause (Elapse ms) cause = cause ≡ Passing ms
IsCallOfCause UsbReset cause = cause ≡ BusReset
IsCallOfCause (RefuseClose setup why) cause = cause ≡ RefusingClose setup why
IsCallOfCause (Refuse why) cause = cause ≡ Refusing why
IsCallOfCause event cause = ⊥

-- The rows of the event of a call are the rows of its cause.
pub event_rows_are_cause_rows : (call : Event) (cause : Cause) (due due' : Option Cause) (says : BoardReply) (rows : List TableRow)
    → IsCallOfCause call cause
    → EventRows due call says rows due' → CallRows cause due says rows due'
event_rows_are_cause_rows (Handle setup body) cause due due' says rows is t =
    subst (λ (x : Cause). CallRows x due says rows due') (sym is) t
event_rows_are_cause_rows (Elapse ms) cause due due' says rows is t = subst (λ (x : Cause). CallRows x due says rows due') (sym is) t
event_rows_are_cause_rows UsbReset cause due due' says rows is t = subst (λ (x : Cause). CallRows x due says rows due') (sym is) t
event_rows_are_cause_rows (RefuseClose setup why) cause due due' says rows is t =
    subst (λ (x : Cause). CallRows x due says rows due') (sym is) t
event_rows_are_cause_rows (Refuse why) cause due due' says rows is t = subst (λ (x : Cause). CallRows x due says rows due') (sym is) t
event_rows_are_cause_rows event cause due due' says rows is t = elim is [ ]

-- A refused call has no row, and the pending row stays pending.
refused_call_has_no_row : (cause due : Cause) (due' : Option Cause) (says : BoardReply) (rows : List TableRow) → says ≡ Nothing
    → CallRows cause (Some due) says rows due' → (rows ≡ []) × (due' ≡ Some due)
refused_call_has_no_row cause due due' says rows e t = subst (λ (x : BoardReply). CallRows cause (Some due) x rows due') e t

-- An event after which writes are still pending has no row, and the pending row stays pending.
pub carried_writes_have_no_row : (e : Event) (says : BoardReply) (due : Cause) (due' : Option Cause) (rows : List TableRow)
    → WritesStayDue e says
    → EventRows (Some due) e says rows due' → (rows ≡ []) × (due' ≡ Some due)
carried_writes_have_no_row Write says due due' rows c t = t
carried_writes_have_no_row (Took failed) (Answers a out) due due' rows c t = elim c [ ]
carried_writes_have_no_row (Took failed) Nothing due due' rows c t = t
carried_writes_have_no_row (Took failed) WritesDue due due' rows c t = t
carried_writes_have_no_row (Handle setup body) says due due' rows c t = refused_call_has_no_row (Transfer setup body) due due' says rows c t
carried_writes_have_no_row (Elapse ms) says due due' rows c t = refused_call_has_no_row (Passing ms) due due' says rows c t
carried_writes_have_no_row UsbReset says due due' rows c t = refused_call_has_no_row BusReset due due' says rows c t
carried_writes_have_no_row (RefuseClose setup why) says due due' rows c t = refused_call_has_no_row (RefusingClose setup why) due due' says
    rows c t
carried_writes_have_no_row (Refuse why) says due due' rows c t = refused_call_has_no_row (Refusing why) due due' says rows c t
carried_writes_have_no_row (Restart begins) says due due' rows c t = elim c [ ]

-- An answered call has one row, with the cause and the answer of the call, and no row is pending afterwards.
pub answered_call_rows : (cause : Cause) (due due' end : Option Cause) (says : BoardReply) (a : Answer) (out : List ℕ)
    (rows first later : List TableRow)
    → says ≡ Answers a out → CallRows cause due says first due' → rows ≡ first ++ later → later ≡ [] → end ≡ due'
    → IsOneRow cause a out rows × (end ≡ None)
answered_call_rows cause due due' end says a out rows first later e t are none same =
    let x : IsOneRow cause a out first × (due' ≡ None) = subst (λ (y : BoardReply). CallRows cause due y first due') e t in (
      record {
        row = x.0.row;
        rows_are = are ∙ (λ i. x.0.rows_are i ++ none i);
        cause_is = x.0.cause_is;
        answer_is = x.0.answer_is;
        out_is = x.0.out_is;
      },
      same ∙ x.1,
    )

ended_writes_make_one_row : (cause : Cause) (a : Answer) (out : List ℕ) (steps : List BoardStep) (rows : List TableRow) (due : Option Cause)
    → WritesEndWithAnswer a out steps → StepRows (Some cause) steps rows due → IsOneRow cause a out rows × (due ≡ None)
ended_writes_make_one_row cause a out _ rows due (ends s failed event says) (first, later, mid, are, t, more) =
    answered_call_rows cause (Some cause) mid due s.says a out rows first later says
    (subst (λ (x : Event). EventRows (Some cause) x s.says first mid) event t) are more.0 more.1
ended_writes_make_one_row cause a out _ rows due (writes_still_due_then s rest c w) (first, later, mid, are, t, more) =
    let x = carried_writes_have_no_row s.event s.says cause mid first c t in
    let same : rows ≡ later = are ∙ (λ i. x.0 i ++ later) in
    let y = ended_writes_make_one_row cause a out rest later due w (subst (λ (z : Option Cause). StepRows z rest later due) x.1 more) in
    (subst (λ (r : List TableRow). IsOneRow cause a out r) (sym same) y.0, y.1)

answered_call_makes_one_row : (call : Event) (cause : Cause) (a : Answer) (out : List ℕ) (steps : List BoardStep) (rows : List TableRow)
    (due : Option Cause) → IsCallOfCause call cause → AnsweredCall call a out steps → StepRows None steps rows due
    → IsOneRow cause a out rows × (due ≡ None)
answered_call_makes_one_row call cause a out _ rows due is (at_once s event says) (first, later, mid, are, t, more) =
    answered_call_rows cause None mid due s.says a out rows first later says
    (event_rows_are_cause_rows call cause None mid s.says first is (subst (λ (x : Event). EventRows None x s.says first mid) event t)) are
    more.0
    more.1
answered_call_makes_one_row call cause a out _ rows due is (answered_after_writes s rest event says w) (first, later, mid, are, t, more) =
    let told = event_rows_are_cause_rows call cause None mid s.says first is
    (subst (λ (x : Event). EventRows None x s.says first mid) event t) in
    let x : (first ≡ []) × (mid ≡ Some cause) = subst (λ (y : BoardReply). CallRows cause None y first mid) says told in
    let same : rows ≡ later = are ∙ (λ i. x.0 i ++ later) in
    let y = ended_writes_make_one_row cause a out rest later due w (subst (λ (z : Option Cause). StepRows z rest later due) x.1 more) in
    (subst (λ (r : List TableRow). IsOneRow cause a out r) (sym same) y.0, y.1)

-- If a history has one row, this row leads from the first device of the history to the last.
pub history_of_one_row : (d d' : DeviceView) (cause : Cause) (a : Answer) (out : List ℕ) (rows : List TableRow) → IsOneRow cause a out rows
    → IsHistory d rows d' → Row d cause a out d'
history_of_one_row d d' cause a out rows one h =
    let x : IsHistory d (one.row ∷ []) d' = subst (λ (r : List TableRow). IsHistory d r d') one.rows_are h in
    let row : Row d one.row.cause one.row.answer one.row.out d' =
    subst (λ (z : DeviceView). Row d one.row.cause one.row.answer one.row.out z) (sym x.2)
    (subst (λ (z : DeviceView). Row z one.row.cause one.row.answer one.row.out one.row.after) x.0 x.1) in
    subst (λ (z : Cause). Row d z a out d') one.cause_is
    (subst (λ (z : Answer). Row d one.row.cause z out d') one.answer_is
    (subst (λ (z : List ℕ). Row d one.row.cause one.row.answer z d') one.out_is row))

-- The call ended with the row of its cause, and no writes are pending.
pub record ServedByRow (d : DeviceView) (cause : Cause) (a : Answer) (out : List ℕ) (b' : Board) : Type 0 where
  pub device : DeviceView
  pub row : Row d cause a out device
  pub idle : IsIdleBoard b' device

module _ (refines : IdleRunsRefineTable) where
  -- An answered call of a board without pending writes corresponds to the row of its cause.
  pub served : (b b' : Board) (d : DeviceView) (call : Event) (cause : Cause) (steps : List BoardStep) (a : Answer) (out : List ℕ)
      → IsCallOfCause call cause → IsIdleBoard b d → CallServed b call steps a out b' → ServedByRow d cause a out b'
  served b b' d call cause steps a out is k s =
      let r = refines b b' d steps k s.run in
      let t = answered_call_makes_one_row call cause a out steps r.rows r.due is s.is r.tells in
      record {
        device = r.device;
        row = history_of_one_row d r.device cause a out r.rows t.0 r.history;
        idle = subst (λ (x : Option Cause). RepresentsDevice b' x r.device) t.1 r.stands;
      }
