-- Each reply of a board to a setup fits the request of that setup.
use Rattle.std.specs.Prelude.{ℕ, List, [], ◌∷◌, ◌++◌, Option}
use Rattle.std.proofs.Common.{refl, sym, ap, subst}
use Rattle.dfu_wire.specs.declared.requests.Request.{Request}
use Rattle.dfu_wire.specs.declared.requests.Request.TheVariants as request
use Rattle.dfu_slots.specs.StoreView.{image_of}
use Rattle.dfu_device.specs.declared.answer.Answer.{Answer}
use Rattle.dfu_device.specs.declared.answer.Answer.TheVariants as answer
use Rattle.dfu_device.specs.Stage.{Reply, Ack, StatusOf, StateOf, Data, Stall}
use Rattle.dfu_device.specs.Table.{plan}
use Rattle.dfu_device.specs.Outcome.{Outcome}
use Rattle.dfu_device.specs.DeviceView.{DeviceView, profile}
use Rattle.dfu_device.specs.Rows.{request_for_table, asked_length, ReplyAnswer, is_served, setup_plan, Handles, Cause, Row}
use Rattle.dfu_device.specs.PlanOutcomes.{row_follows_reading, came}
use Rattle.dfu_device.specs.Cases.{holds_in_both_branches}
use Rattle.dfu_device.specs.RowForms.{HoldsForEachReply, reply_of_plan, ReplyMatches, row_form, row_reply_matches_request}
use Rattle.dfu_device.specs.History.{IsHistory, HistoryStep as TableRow}
use Rattle.dfu_laws.specs.board.Board.{Event, Handle, BoardReply, Nothing, WritesDue, Answers as SaysAnswer, BoardStep}
use Rattle.dfu_laws.specs.board.Refines.{EventRows, StepRows}
use Rattle.dfu_laws.specs.in_c.ReplyKinds.{ReplyFitsRequest, ReplyFitsSetup, RepliesFitSetups}

stall_fits_request : (q : Request) (out : List ℕ) → ReplyFitsRequest q (SaysAnswer answer.Stall out)
stall_fits_request (request.GetStatus len) out = tt
stall_fits_request (request.GetState len) out = tt
stall_fits_request (request.Upload block len) out = tt
stall_fits_request q out = tt

ack_fits_request : (most : ℕ) (q : Request) (body out : List ℕ) → ReplyMatches most Ack (request_for_table q body)
    → ReplyFitsRequest q (SaysAnswer answer.Ack out)
ack_fits_request most (request.GetStatus len) body out f = f
ack_fits_request most (request.GetState len) body out f = f
ack_fits_request most (request.Upload block len) body out f = f
ack_fits_request most q body out f = tt

answered_reply_fits_request : (most : ℕ) (q : Request) (body : List ℕ) (reply : Reply) (a : Answer) (out : List ℕ)
    → ReplyMatches most reply (request_for_table q body)
    → ReplyAnswer (asked_length q) reply a out → ReplyFitsRequest q (SaysAnswer a out)
answered_reply_fits_request most q body Stall a out f says = subst (λ (x : Answer). ReplyFitsRequest q (SaysAnswer x out)) (sym says.0)
    (stall_fits_request q out)
answered_reply_fits_request most q body Ack a out f says = subst (λ (x : Answer). ReplyFitsRequest q (SaysAnswer x out)) (sym says.0)
    (ack_fits_request most q body out f)
answered_reply_fits_request most (request.GetStatus len) body (StatusOf code poll state) a out f says =
    subst (λ (x : Answer). ReplyFitsRequest (request.GetStatus len) (SaysAnswer x out)) (sym says.0) tt
answered_reply_fits_request most (request.GetState len) body (StateOf state) a out f says =
    subst (λ (x : Answer). ReplyFitsRequest (request.GetState len) (SaysAnswer x out)) (sym says.0) tt
answered_reply_fits_request most (request.Upload block len) body (Data bytes) a out f says =
    subst (λ (x : Answer). ReplyFitsRequest (request.Upload block len) (SaysAnswer x out)) (sym says.0) tt
answered_reply_fits_request most q body reply a out f says = absurd f

handled_answer_fits_setup : (w w' : DeviceView) (setup body : List ℕ) (a : Answer) (out : List ℕ) → Handles setup body w a out w' →
    ReplyFitsSetup (Handle setup body) (SaysAnswer a out)
handled_answer_fits_setup w w' setup body a out h p q reads asks =
    let c = profile w in
    let image = image_of w.slots in
    let r = request_for_table q body in
    let P : Reply → Type 0 = λ reply. ReplyMatches c.transfer reply r in
    let x = came (setup_plan w p q body) (asked_length q) w a out w' (row_follows_reading p q setup body w a out w' reads asks h) in
    let each = holds_in_both_branches (HoldsForEachReply P) (is_served p q body) _ _
    (row_reply_matches_request c image w.stage r (plan c image w.stage r) (row_form c image w.stage r)) tt in
    answered_reply_fits_request c.transfer q body x.reply a out
    (subst P (ap (λ (o : Outcome). o.reply) x.same) (reply_of_plan P image (setup_plan w p q body) x.luck each)) x.answers

no_reply_fits_request : (q : Request) → ReplyFitsRequest q Nothing
no_reply_fits_request (request.GetStatus len) = tt
no_reply_fits_request (request.GetState len) = tt
no_reply_fits_request (request.Upload block len) = tt
no_reply_fits_request q = tt

writes_due_fit_request : (q : Request) → ReplyFitsRequest q WritesDue
writes_due_fit_request (request.GetStatus len) = tt
writes_due_fit_request (request.GetState len) = tt
writes_due_fit_request (request.Upload block len) = tt
writes_due_fit_request q = tt

step_reply_fits_setup : (e : Event) (says : BoardReply) (due due' : Option Cause) (rows : List TableRow) (d d' : DeviceView)
    → EventRows due e says rows due'
    → IsHistory d rows d' → ReplyFitsSetup e says
step_reply_fits_setup (Handle setup body) (SaysAnswer a out) due due' rows d d' tells h =
    let one = tells.0 in
    let x : IsHistory d (one.row ∷ []) d' = subst (λ (l : List TableRow). IsHistory d l d') one.rows_are h in
    let s = one.row in
    handled_answer_fits_setup s.before s.after setup body a out
    (subst (λ (c : Cause). Row s.before c a out s.after) one.cause_is
    (subst (λ (y : Answer). Row s.before s.cause y out s.after) one.answer_is
    (subst (λ (l : List ℕ). Row s.before s.cause s.answer l s.after) one.out_is x.1)))
step_reply_fits_setup (Handle setup body) Nothing due due' rows d d' tells h = λ p q reads asks. no_reply_fits_request q
step_reply_fits_setup (Handle setup body) WritesDue due due' rows d d' tells h = λ p q reads asks. writes_due_fit_request q
step_reply_fits_setup e says due due' rows d d' tells h = tt

-- A history consists of two parts, with this device between them.
record HistoryParts (d : DeviceView) (xs ys : List TableRow) (d' : DeviceView) : Type 0 where
  mid : DeviceView
  -- The first rows lead to this device.
  first : IsHistory d xs mid
  -- The other rows begin at this device.
  second : IsHistory mid ys d'

history_has_parts : (d : DeviceView) (xs ys : List TableRow) (d' : DeviceView) → IsHistory d (xs ++ ys) d' → HistoryParts d xs ys d'
history_has_parts d [] ys d' h = record { mid = d; first = refl; second = h }
history_has_parts d (x ∷ xs) ys d' h =
    let more = history_has_parts x.after xs ys d' h.2 in
    record { mid = more.mid; first = (h.0, h.1, more.first); second = more.second }

-- Each reply of a run to a setup fits the request of the setup.
pub run_replies_fit_setups : (steps : List BoardStep) (due due' : Option Cause) (rows : List TableRow) (d d' : DeviceView)
    → StepRows due steps rows due'
    → IsHistory d rows d' → RepliesFitSetups steps
run_replies_fit_setups [] due due' rows d d' tells h = tt
run_replies_fit_setups (s ∷ rest) due due' rows d d' (first, later, mid, are, t, more) h =
    let parts = history_has_parts d first later d' (subst (λ (l : List TableRow). IsHistory d l d') are h) in (
      step_reply_fits_setup s.event s.says due mid first d parts.mid t parts.first,
      run_replies_fit_setups rest mid due' later parts.mid d'
          more parts.second,
    )
