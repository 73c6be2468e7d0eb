-- A board requests at most one write for each piece of its write steps.
use Rattle.std.specs.Prelude.{◌≡◌, ◌⊎◌, ℕ, ◌+◌, ◌≤◌, ◌<◌, Bool, List, [], ◌∷◌, ◌++◌, length, Option, Some, None, Result, Ok, Err, IfOk}
use Rattle.std.proofs.Common.{inl, inr, refl, sym, ap, ◌∙◌, subst, arith}
use Rattle.dfu_slots.specs.Medium.{Write}
use Rattle.dfu_device.specs.DeviceView.{DeviceView}
use Rattle.dfu_device.specs.Rows.{Cause, Transfer, Passing, BusReset, RefusingClose, Refusing}
use Rattle.dfu_device.specs.History.{IsHistory, HistoryStep as TableRow}
use Rattle.dfu_asks.specs.declared.pending_writes.PendingWrites.{PendingWrites}
use Rattle.dfu_asks.specs.declared.pending_writes.SlotWrite.{SlotWrite}
use Rattle.dfu_asks.specs.declared.reply.Refusal.{Refusal}
use Rattle.dfu_asks.specs.declared.reply.Reply.{Reply}
use Rattle.dfu_asks.specs.declared.reply.Reply.TheVariants as reply
use Rattle.dfu_asks.specs.Steps.{Step}
use Rattle.dfu_asks.specs.Carried.{total, IsStepPiece}
use Rattle.dfu_asks.specs.Asks.{grain_in, steps_in}
use Rattle.dfu_laws.specs.board.Board.{Board, lent_on, Event, Handle, Elapse, UsbReset, RefuseClose, Refuse, Write as Writing, Took, Restart, BoardReply, Nothing, WritesDue, Answers, BoardStep}
use Rattle.dfu_laws.specs.board.Happens.{EventOutcome, IsRun}
use Rattle.dfu_laws.specs.board.Steps.{reply_of_result}
use Rattle.dfu_laws.specs.board.Counts.{operation_bound, operations_of, operations_in, IsUnanswered, AreUnanswered, PieceAdvances, AllPiecesAdvance, RunOperationsBounded}
use Rattle.dfu_laws.specs.board.Refines.{CallRows, EventRows, StepRows, IsBoardAtWork, IsIdleBoard, RepresentsDevice, RunsRefineDeviceTable, IdleRunsRefineTable}
use Rattle.dfu_laws.proofs.board.Pieces.{series_has_next_piece}
use Rattle.dfu_laws.proofs.board.Cut.{StepsAreWrites}
use Rattle.dfu_laws.proofs.board.Counting.{count_behind_bytes, piece_count, one_piece_fewer_behind, count_behind_at_most_count}
use Rattle.dfu_laws.proofs.board.Asked.{device_due_steps, work_steps_are_device_steps, work_pieces_bounded}

none_is_not_some_work : (w : PendingWrites) (x : Option PendingWrites) → x ≡ None → x ≡ Some w → ⊥
none_is_not_some_work w x none some = absurd (cc)

kept_work_is_same : (x y : PendingWrites) (z : Option PendingWrites) → z ≡ Some x → z ≡ Some y → x ≡ y
kept_work_is_same x y z a b = cc

unanswered_call_has_no_row : (cause : Cause) (due due' : Option Cause) (says : BoardReply) (rows : List TableRow) →
    IsUnanswered (Elapse 0) says
    → CallRows cause due says rows due' → rows ≡ []
unanswered_call_has_no_row cause due due' Nothing rows un t = t.0
unanswered_call_has_no_row cause due due' WritesDue rows un t = t.0
unanswered_call_has_no_row cause due due' (Answers a out) rows un t = elim un [ ]

unanswered_event_has_no_row : (e : Event) (says : BoardReply) (due due' : Option Cause) (rows : List TableRow) → IsUnanswered e says
    → EventRows due e says rows due' → rows ≡ []
unanswered_event_has_no_row (Restart begins) says due due' rows un t = elim un [ ]
unanswered_event_has_no_row e (Answers a out) due due' rows un t = elim un [ ]
unanswered_event_has_no_row (Handle setup body) says due due' rows un t = unanswered_call_has_no_row (Transfer setup body) due due' says
    rows un t
unanswered_event_has_no_row (Elapse ms) says due due' rows un t = unanswered_call_has_no_row (Passing ms) due due' says rows un t
unanswered_event_has_no_row UsbReset says due due' rows un t = unanswered_call_has_no_row BusReset due due' says rows un t
unanswered_event_has_no_row (RefuseClose setup why) says due due' rows un t = unanswered_call_has_no_row (RefusingClose setup why) due due'
    says rows un t
unanswered_event_has_no_row (Refuse why) says due due' rows un t = unanswered_call_has_no_row (Refusing why) due due' says rows un t
unanswered_event_has_no_row Writing says due due' rows un t = t.0
unanswered_event_has_no_row (Took failed) says None due' rows un t = t.0
unanswered_event_has_no_row (Took failed) says (Some cause) due' rows un t = unanswered_call_has_no_row cause (Some cause) due' says rows
    un t

unanswered_steps_have_no_rows : (steps : List BoardStep) (due due' : Option Cause) (rows : List TableRow) → AreUnanswered steps →
    StepRows due steps rows due'
    → rows ≡ []
unanswered_steps_have_no_rows [] due due' rows un t = t.0
unanswered_steps_have_no_rows (s ∷ rest) due due' rows un (first, later, mid, are, t, more) =
    are ∙ (λ i. unanswered_event_has_no_row s.event s.says due mid first un.0 t i
    ++ unanswered_steps_have_no_rows rest mid due' later un.1 more i)

unanswered_append : (xs ys : List BoardStep) → AreUnanswered xs → AreUnanswered ys → AreUnanswered (xs ++ ys)
unanswered_append [] ys un more = more
unanswered_append (x ∷ xs) ys un more = (un.0, unanswered_append xs ys un.1 more)

runs_append : (b mid b' : Board) (xs ys : List BoardStep) → IsRun b xs mid → IsRun mid ys b' → IsRun b (xs ++ ys) b'
runs_append b mid b' [] ys run more = subst (λ (x : Board). IsRun x ys b') run more
runs_append b mid b' (x ∷ xs) ys run more = (run.0, run.1, run.2, runs_append x.after mid b' xs ys run.3 more)

-- The board requests no write in this step, and its pending writes stay as they are.
record StepKeepsWork (b : Board) (says : BoardReply) (b' : Board) : Type 0 where
  none : operations_of says ≡ 0
  stays : b'.asking.work ≡ b.asking.work

-- The step is a call on a board without pending writes. It requests writes, and makes the row of its cause pending.
record CallAsksForWork (b : Board) (e : Event) (says : BoardReply) : Type 0 where
  due : says ≡ WritesDue
  idle : b.asking.work ≡ None
  tells : (rows : List TableRow) (due' : Option Cause) → EventRows None e WritesDue rows due' → (cause : Cause) × (due' ≡ Some cause)

-- The step is the report of a piece, after which the board requests the next piece.
record ReportAsksForMore (b : Board) (e : Event) (says : BoardReply) : Type 0 where
  due : says ≡ WritesDue
  failed : Bool
  event : e ≡ Took failed
  work : PendingWrites
  work_is : b.asking.work ≡ Some work

unanswered_step_of_work : (b b' : Board) (e : Event) (says : BoardReply) → EventOutcome b e says b' → IsUnanswered e says
    → StepKeepsWork b says b' ⊎ CallAsksForWork b e says ⊎ ReportAsksForMore b e says
unanswered_step_of_work b b' (Restart begins) says h un = elim un [ ]
unanswered_step_of_work b b' Writing says h un = inl (record { none = ap operations_of h.0; stays = ap (λ a. a.work) h.1.asking })
unanswered_step_of_work b b' e (Answers a out) h un = elim un [ ]
unanswered_step_of_work b b' e Nothing h un = inl (record { none = refl; stays = ap (λ (x : Board). x.asking.work) h })
unanswered_step_of_work b b' (Handle setup body) WritesDue h un =
    inr (inl (record { due = refl; idle = h.idle; tells = λ rows due' t. (Transfer setup body, t.1) }))
unanswered_step_of_work b b' (Elapse ms) WritesDue h un =
    inr (inl (record { due = refl; idle = h.idle; tells = λ rows due' t. (Passing ms, t.1) }))
unanswered_step_of_work b b' UsbReset WritesDue h un = inr (inl (record {
  due = refl;
  idle = h.idle;
  tells = λ rows due' t. (BusReset, t.1);
}))
unanswered_step_of_work b b' (RefuseClose setup why) WritesDue h un =
    inr (inl (record { due = refl; idle = h.idle; tells = λ rows due' t. (RefusingClose setup why, t.1) }))
unanswered_step_of_work b b' (Refuse why) WritesDue h un =
    inr (inl (record { due = refl; idle = h.idle; tells = λ rows due' t. (Refusing why, t.1) }))
unanswered_step_of_work b b' (Took failed) WritesDue h un =
    inr (inr (record { due = refl; failed = failed; event = refl; work = h.work; work_is = h.left.work_is }))

module _ (same : StepsAreWrites) (refines : IdleRunsRefineTable) (mid : Board) (d : DeviceView) (idle : IsIdleBoard mid d) where
  -- The pending writes have a next piece, and at most `operation_bound` pieces.
  record IsBoundedWork (b : Board) (w : PendingWrites) : Type 0 where
    piece : Step
    is : IsStepPiece (steps_in (lent_on b) w) w.done piece
    here : IsStepPiece (device_due_steps d w.job) w.done piece
    most : piece_count (device_due_steps d w.job) ≤ operation_bound w.job (length (lent_on b).block) b.asking.sector.size

  works_at : (b : Board) (cause : Cause) (k : IsBoardAtWork b cause d) → IsBoundedWork b k.asks.work
  works_at b cause k =
      let a = lent_on b in
      let w = k.asks.work in
      let left = subst (λ (ws : List Write). w.done < total ws) (sym (same w.job (grain_in a) a.put_end a.held a.block)) k.asks.left in
      let x = series_has_next_piece (steps_in a w) w.done left in
      record {
        piece = x.0;
        is = x.1;
        here = subst (λ (ss : List Step). IsStepPiece ss w.done x.0) (work_steps_are_device_steps b cause d k) x.1;
        most = work_pieces_bounded b cause d k;
      }

  -- If none of the steps gives an answer, the board still represents the same device.
  unanswered_steps_keep_device : (b : Board) (front : List BoardStep) → IsRun mid front b → AreUnanswered front
      → (due : Option Cause) × RepresentsDevice b due d
  unanswered_steps_keep_device b front run un =
      let r = refines mid b d front idle run in
      let none = unanswered_steps_have_no_rows front None r.due r.rows un r.tells in
      let still : r.device ≡ d = subst (λ (rows : List TableRow). IsHistory d rows r.device) none r.history in
      (r.due, subst (λ (x : DeviceView). RepresentsDevice b r.due x) still r.stands)

  work_is_due : (b : Board) (front : List BoardStep) (w : PendingWrites) → IsRun mid front b → AreUnanswered front → b.asking.work ≡ Some w
      → IsBoundedWork b w
  work_is_due b front w run un some = let x = unanswered_steps_keep_device b front run un in by_due_row x.0 x.1
    where
      by_due_row : (due : Option Cause) → RepresentsDevice b due d → IsBoundedWork b w
      by_due_row None k = absurd (none_is_not_some_work w b.asking.work k.work some)
      by_due_row (Some cause) k =
          subst (λ (x : PendingWrites). IsBoundedWork b x) (kept_work_is_same k.asks.work w b.asking.work k.asks.work_is some) (works_at b
          cause k)

  idle_after_unanswered : (b : Board) (front : List BoardStep) → IsRun mid front b → AreUnanswered front → b.asking.work ≡ None →
      IsIdleBoard b d
  idle_after_unanswered b front run un none = let x = unanswered_steps_keep_device b front run un in by_due_row x.0 x.1
    where
      by_due_row : (due : Option Cause) → RepresentsDevice b due d → IsIdleBoard b d
      by_due_row None k = k
      by_due_row (Some cause) k = absurd (none_is_not_some_work k.asks.work b.asking.work none k.asks.work_is)

  -- The job is the same as before, and each write that the board requested in these steps leaves at least one fewer piece.
  record FewerPiecesLeft (w w' : PendingWrites) (asks : ℕ) : Type 0 where
    job : w'.job ≡ w.job
    few : asks + count_behind_bytes (device_due_steps d w.job) w'.done ≤ count_behind_bytes (device_due_steps d w.job) w.done

  working : (rest front : List BoardStep) (b b' : Board) (w w' : PendingWrites) → IsRun mid front b → AreUnanswered front
      → IsRun b rest b' → AreUnanswered rest → AllPiecesAdvance rest → b.asking.work ≡ Some w → b'.asking.work ≡ Some w'
      → FewerPiecesLeft w w' (operations_in rest)
  working [] front b b' w w' run un more still further some some' =
      let e : w' ≡ w = kept_work_is_same w' w b.asking.work (ap (λ (x : Board). x.asking.work) (sym more) ∙ some') some in
      record {
        job = ap (λ (x : PendingWrites). x.job) e;
        few = omega (arith, ap (λ (x : PendingWrites). count_behind_bytes (device_due_steps d w.job) x.done) e);
      }
  working (t ∷ rest) front b b' w w' run un more still further some some' =
      let on = front ++ t ∷ [] in
      let run' = runs_append mid b t.after front (t ∷ []) run (more.0, more.1, more.2, refl) in
      let un' = unanswered_append front (t ∷ []) un (still.0, tt) in
      elim (unanswered_step_of_work b t.after t.event t.says more.1 still.0) [
        | inl keeps ↦
            let x = working rest on t.after b' w w' run' un' more.3 still.1 further.1 (keeps.stays ∙ some) some' in
            record { job = x.job; few = omega (arith, x.few, keeps.none) }
        | inr (inl calls) ↦ absurd (none_is_not_some_work w b.asking.work calls.idle some)
        | inr (inr reports) ↦
            let at = work_is_due b front w run un some in
            let p = at.piece in
            let goes : PieceAdvances b (Took reports.failed) WritesDue t.after =
            subst (λ (x : Board). PieceAdvances x (Took reports.failed) WritesDue t.after) more.0
            (subst (λ (x : Event). PieceAdvances t.before x WritesDue t.after) reports.event
            (subst (λ (x : BoardReply). PieceAdvances t.before t.event x t.after) reports.due further.0)) in
            let next : PendingWrites = record w { done = w.done + length p.write.bytes } in
            let x = working rest on t.after b' next w' run' un' more.3 still.1 further.1 (goes w p some at.is) some' in
            record {
              job = x.job;
              few = omega (arith, x.few, ap operations_of reports.due, one_piece_fewer_behind (device_due_steps d w.job) w.done p at.here);
            }
      ]

  -- If no writes are pending at first, and no step gives an answer, the board requests at most one write for each piece of the job.
  idle_steps_ask_few : (rest front : List BoardStep) (b b' : Board) (w' : PendingWrites) → IsRun mid front b → AreUnanswered front
      → IsRun b rest b' → AreUnanswered rest → AllPiecesAdvance rest → b.asking.work ≡ None → b'.asking.work ≡ Some w'
      → operations_in rest ≤ piece_count (device_due_steps d w'.job)
  idle_steps_ask_few [] front b b' w' run un more still further none some' =
      absurd (none_is_not_some_work w' b.asking.work none (ap (λ (x : Board). x.asking.work) (sym more) ∙ some'))
  idle_steps_ask_few (t ∷ rest) front b b' w' run un more still further none some' =
      let on = front ++ t ∷ [] in
      let one : IsRun b (t ∷ []) t.after = (more.0, more.1, more.2, refl) in
      let run' = runs_append mid b t.after front (t ∷ []) run one in
      let un' = unanswered_append front (t ∷ []) un (still.0, tt) in
      elim (unanswered_step_of_work b t.after t.event t.says more.1 still.0) [
        | inl keeps ↦
            let x = idle_steps_ask_few rest on t.after b' w' run' un' more.3 still.1 further.1 (keeps.stays ∙ none) some' in
            omega (arith, x, keeps.none)
        | inr (inl calls) ↦
            let k = asking_call_leaves_work b t.after front t run un one calls none in
            let x = working rest on t.after b' k.0 w' run' un' more.3 still.1 further.1 k.1 some' in
            let at = work_is_due b' (on ++ rest) w' (runs_append mid t.after b' on rest run' more.3) (unanswered_append on rest un' still.1)
            some' in
            omega (
              arith,
              x.few,
              ap operations_of calls.due,
              count_behind_at_most_count (device_due_steps d (k.0).job) (k.0).done,
              one_piece_fewer_behind (device_due_steps d w'.job) w'.done at.piece at.here,
              ap (λ (j : SlotWrite). piece_count (device_due_steps d j)) x.job,
              ap (λ (j : SlotWrite). count_behind_bytes (device_due_steps d j) w'.done) x.job,
            )
        | inr (inr reports) ↦ absurd (none_is_not_some_work reports.work b.asking.work none reports.work_is)
      ]
    where
      asking_call_leaves_work : (b b' : Board) (front : List BoardStep) (t : BoardStep) → IsRun mid front b → AreUnanswered front →
          IsRun b (t ∷ []) b'
          → CallAsksForWork b t.event t.says → b.asking.work ≡ None → (w : PendingWrites) × (b'.asking.work ≡ Some w)
      asking_call_leaves_work b b' front t run un one calls none =
          let r = refines b b' d (t ∷ []) (idle_after_unanswered b front run un none) one in
          let (first, later, between, are, told, more) = r.tells in
          let c = calls.tells first between (subst (λ (x : BoardReply). EventRows None t.event x first between) calls.due told) in
          let k : RepresentsDevice b' (Some c.0) r.device = subst (λ (x : Option Cause). RepresentsDevice b' x r.device) (more.1 ∙ c.1) r.stands in
          (k.asks.work, k.asks.work_is)

-- The clause `piece_advances` of `took` implies `PieceAdvances` for the step.
pub took_advances_piece : (b b' : Board) (failed : Bool) (out : List ℕ) (r : Result Reply Refusal)
    → IfOk r (λ x. x ≡ reply.Asks → (w : PendingWrites) (p : Step) → b.asking.work ≡ Some w
    → IsStepPiece (steps_in (lent_on b) w) w.done p → b'.asking.work ≡ Some (record w { done = w.done + length p.write.bytes }))
    → PieceAdvances b (Took failed) (reply_of_result r out) b'
took_advances_piece b b' failed out (Ok reply.Asks) h = λ w p some is. h refl w p some is
took_advances_piece b b' failed out (Ok (reply.Answered a piece_count)) h = tt
took_advances_piece b b' failed out (Err e) h = tt

-- A board requests at most `operation_bound` writes before it answers a call.
pub run_operations_bounded : StepsAreWrites → RunsRefineDeviceTable → IdleRunsRefineTable → RunOperationsBounded
run_operations_bounded same runs refines b mid b' old steps w on run none more un further some =
    let r = runs b mid old on run in
    let idle = by_due_row mid r.due r.device r.stands none in
    let few = idle_steps_ask_few same refines mid r.device idle steps [] mid b' w refl tt more un further none some in
    let at = work_is_due same refines mid r.device idle b' steps w more un some in
    omega (arith, few, at.most)
  where
    by_due_row : (m : Board) (due : Option Cause) (d : DeviceView) → RepresentsDevice m due d → m.asking.work ≡ None → IsIdleBoard m d
    by_due_row m None d k none = k
    by_due_row m (Some cause) d k none = absurd (none_is_not_some_work k.asks.work m.asking.work none k.asks.work_is)
