-- Steps of a board while a call is still under way: a prefix of the call's steps.
use Rattle.std.specs.Prelude.{◌≡◌, ◌⊎◌, ℕ, Bool, List, [], ◌∷◌, ◌++◌, Option, Some, None}
use Rattle.std.proofs.Common.{inl, inr, refl, sym, ap, ◌∙◌, subst}
use Rattle.dfu_device.specs.declared.answer.Answer.{Answer}
use Rattle.dfu_device.specs.Rows.{Cause}
use Rattle.dfu_device.specs.History.{HistoryStep as TableRow}
use Rattle.dfu_laws.specs.board.Board.{Event, Restart, BoardReply, WritesDue, BoardStep}
use Rattle.dfu_laws.specs.board.Refines.{CallRows, EventRows, StepRows}
use Rattle.dfu_laws.specs.link.Calls.{WritesStayDue, WritesEndWithAnswer, ends, writes_still_due_then, AnsweredCall, at_once, answered_after_writes, WritesCutByPower, power_goes, power_lost_later, IsBrokenCall, broken}
use Rattle.dfu_laws.proofs.link.BoardCalls.{IsCallOfCause, event_rows_are_cause_rows, carried_writes_have_no_row}

-- First step of a list, or the given step if the list is empty.
abbrev pub first_step_of : BoardStep → List BoardStep → BoardStep
first_step_of s [] = s
first_step_of s (x ∷ xs) = x

-- Steps of a list after its first.
abbrev pub steps_behind_first : List BoardStep → List BoardStep
steps_behind_first [] = []
steps_behind_first (x ∷ xs) = xs

-- If two lists join to the empty list, both are empty.
pub joined_parts_are_empty : (xs ys : List BoardStep) → xs ++ ys ≡ [] → (xs ≡ []) × (ys ≡ [])
joined_parts_are_empty [] ys e = (refl, e)
joined_parts_are_empty (x ∷ xs) ys e = absurd (cc)

-- Writes are still pending after each of the steps.
abbrev AllWritesStayDue : List BoardStep → Type 0
AllWritesStayDue [] = Unit {0}
AllWritesStayDue (s ∷ rest) = WritesStayDue s.event s.says × AllWritesStayDue rest

-- The steps belong to a call without an answer so far: there are none, or the call requested writes, which are still pending.
abbrev pub IsUnansweredPart : Event → List BoardStep → Type 0
IsUnansweredPart call [] = Unit {0}
IsUnansweredPart call (s ∷ rest) = (s.event ≡ call) × (s.says ≡ WritesDue) × AllWritesStayDue rest

writes_still_due_have_no_row : (cause : Cause) (steps : List BoardStep) (rows : List TableRow) (due : Option Cause) → AllWritesStayDue steps
    → StepRows (Some cause) steps rows due → rows ≡ []
writes_still_due_have_no_row cause [] rows due c t = t.0
writes_still_due_have_no_row cause (s ∷ rest) rows due c (first, later, mid, are, t, more) =
    let x = carried_writes_have_no_row s.event s.says cause mid first c.0 t in
    are ∙ (λ i. x.0 i ++ later)
    ∙ writes_still_due_have_no_row cause rest later due c.1 (subst (λ (z : Option Cause). StepRows z rest later due) x.1 more)

-- If the steps of a call have given no answer so far, they have no row in the device table.
pub unanswered_part_has_no_row : (call : Event) (cause : Cause) (steps : List BoardStep) (rows : List TableRow) (due : Option Cause) →
    IsCallOfCause call cause
    → IsUnansweredPart call steps → StepRows None steps rows due → rows ≡ []
unanswered_part_has_no_row call cause [] rows due is p t = t.0
unanswered_part_has_no_row call cause (s ∷ rest) rows due is p (first, later, mid, are, t, more) =
    let told = event_rows_are_cause_rows call cause None mid s.says first is
    (subst (λ (x : Event). EventRows None x s.says first mid) p.0 t) in
    let x : (first ≡ []) × (mid ≡ Some cause) = subst (λ (y : BoardReply). CallRows cause None y first mid) p.1 told in
    are ∙ (λ i. x.0 i ++ later)
    ∙ writes_still_due_have_no_row cause rest later due p.2 (subst (λ (z : Option Cause). StepRows z rest later due) x.1 more)

same_step_stays_due : (x s : BoardStep) → x ≡ s → WritesStayDue s.event s.says → WritesStayDue x.event x.says
same_step_stays_due x s e c = subst (λ (y : BoardStep). WritesStayDue y.event y.says) (sym e) c

ending_writes_stay_due : (a : Answer) (out : List ℕ) (front rest steps : List BoardStep) → WritesEndWithAnswer a out steps → front
    ++ rest ≡ steps
    → AllWritesStayDue front ⊎ (rest ≡ [])
ending_writes_stay_due a out [] rest steps w e = inl tt
ending_writes_stay_due a out (x ∷ xs) rest _ (ends s failed event says) e = inr (joined_parts_are_empty xs rest (ap steps_behind_first e)).1
ending_writes_stay_due a out (x ∷ xs) rest _ (writes_still_due_then s more c w) e = elim (ending_writes_stay_due a out xs rest more w (ap
    steps_behind_first e)) [
      | inl all ↦ inl (same_step_stays_due x s (ap (first_step_of x) e) c, all)
      | inr none ↦ inr none
    ]

-- A prefix of an answered call is a part without the answer, or the whole call.
pub call_part_is_unanswered : (call : Event) (a : Answer) (out : List ℕ) (front rest steps : List BoardStep) → AnsweredCall call a out steps
    → front ++ rest ≡ steps → IsUnansweredPart call front ⊎ (rest ≡ [])
call_part_is_unanswered call a out [] rest steps is e = inl tt
call_part_is_unanswered call a out (x ∷ xs) rest _ (at_once s event says) e = inr (joined_parts_are_empty xs rest (ap steps_behind_first
    e)).1
call_part_is_unanswered call a out (x ∷ xs) rest _ (answered_after_writes s more event says w) e =
    let same : x ≡ s = ap (first_step_of x) e in
    elim (ending_writes_stay_due a out xs rest more w (ap steps_behind_first e)) [
      | inl all ↦ inl (ap (λ (y : BoardStep). y.event) same ∙ event, ap (λ (y : BoardStep). y.says) same ∙ says, all)
      | inr none ↦ inr none
    ]

-- The last of the steps is a loss of power, and `Holds` is true for the steps before it.
pub record IsCutByPowerAfter (Holds : List BoardStep → Type 0) (steps : List BoardStep) : Type 0 where
  -- Steps before the loss of power.
  pub front : List BoardStep
  -- Step at which the power fails.
  pub power : BoardStep
  -- True if the board then begins for a host.
  pub begins : Bool
  -- The steps are those of `front`, and then the loss of power.
  pub steps_are : steps ≡ front ++ power ∷ []
  -- `Holds` is true for the steps before the loss of power.
  pub part : Holds front
  -- The last step is the loss of power.
  pub event : power.event ≡ Restart begins

-- A list of steps that ends with a loss of power still does so if a step is added at the front.
step_keeps_cut : {Holds Before : List BoardStep → Type 0} (s : BoardStep) (rest : List BoardStep)
    → ((front : List BoardStep) → Holds front → Before (s ∷ front)) → IsCutByPowerAfter Holds rest → IsCutByPowerAfter Before (s ∷ rest)
step_keeps_cut s rest more x = record {
  front = s ∷ x.front;
  power = x.power;
  begins = x.begins;
  steps_are = ap (λ (l : List BoardStep). s ∷ l) x.steps_are;
  part = more x.front x.part;
  event = x.event;
}

cut_writes_end_by_power : (steps : List BoardStep) → WritesCutByPower steps → IsCutByPowerAfter AllWritesStayDue steps
cut_writes_end_by_power _ (power_goes s begins event) =
    record { front = []; power = s; begins = begins; steps_are = refl; part = tt; event = event }
cut_writes_end_by_power _ (power_lost_later s rest c w) = step_keeps_cut s rest (λ front all. (c, all)) (cut_writes_end_by_power rest w)

-- A broken call consists of steps without an answer and a loss of power.
pub broken_call_is_cut_by_power : (call : Event) (steps : List BoardStep) → IsBrokenCall call steps →
    IsCutByPowerAfter (IsUnansweredPart call) steps
broken_call_is_cut_by_power call _ (broken s rest event says w) = step_keeps_cut s rest (λ front all. (event, says, all))
    (cut_writes_end_by_power rest w)

cut_writes_stay_due : (front rest steps : List BoardStep) → WritesCutByPower steps → front ++ rest ≡ steps →
    AllWritesStayDue front ⊎ (rest ≡ [])
cut_writes_stay_due [] rest steps w e = inl tt
cut_writes_stay_due (x ∷ xs) rest _ (power_goes s begins event) e = inr (joined_parts_are_empty xs rest (ap steps_behind_first e)).1
cut_writes_stay_due (x ∷ xs) rest _ (power_lost_later s more c w) e = elim (cut_writes_stay_due xs rest more w (ap steps_behind_first e)) [
  | inl all ↦ inl (same_step_stays_due x s (ap (first_step_of x) e) c, all)
  | inr none ↦ inr none
]

-- A prefix of a broken call is a part without the loss of power, or the whole call.
pub broken_part_unanswered : (call : Event) (front rest steps : List BoardStep) → IsBrokenCall call steps → front ++ rest ≡ steps
    → IsUnansweredPart call front ⊎ (rest ≡ [])
broken_part_unanswered call [] rest steps br e = inl tt
broken_part_unanswered call (x ∷ xs) rest _ (broken s more event says w) e =
    let same : x ≡ s = ap (first_step_of x) e in
    elim (cut_writes_stay_due xs rest more w (ap steps_behind_first e)) [
      | inl all ↦ inl (ap (λ (y : BoardStep). y.event) same ∙ event, ap (λ (y : BoardStep). y.says) same ∙ says, all)
      | inr none ↦ inr none
    ]
