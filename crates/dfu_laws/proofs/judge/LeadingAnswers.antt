-- Answers of a device that the standard's table allows.
use Rattle.std.specs.Prelude.{◌≡◌, ℕ, ◌+◌, ◌==◌, nat_lt, not, Bool, true, false, List, [], ◌∷◌, length, take, drop, slice_index, if◌then◌else◌}
use Rattle.std.specs.List.{list_any}
use Rattle.std.proofs.Common.{refl, sym, ap, ◌∙◌, arith}
use Rattle.std.proofs.lemmas.List.{length-take}
use Rattle.std.proofs.lemmas.Bool.{eqb-true, or_left, eq-eqb, ne_eqb, cond-true, cond-false, ltb-false}
use Rattle.dfu_slots.specs.declared.fault.WriteFault.{WriteFault}
use Rattle.dfu_slots.specs.declared.fault.WriteFault.TheVariants.{Failed, NotVerified}
use Rattle.dfu_wire.specs.declared.setups.Setup.{Setup}
use Rattle.dfu_wire.specs.declared.codes.Code.{Code}
use Rattle.dfu_wire.specs.declared.codes.Code.TheVariants.{StalledPkt as ErrStalledPkt, Address as ErrAddress}
use Rattle.dfu_wire.specs.declared.requests.Request.{Request as Asked}
use Rattle.dfu_wire.specs.declared.requests.Request.TheVariants as asked
use Rattle.dfu_wire.specs.Request.{SetupAsksFor}
use Rattle.dfu_device.specs.declared.answer.Answer.{Answer}
use Rattle.dfu_device.specs.Stage.{Reply, Ack, StateOf, Data, Stall, Profile, Stage, InDfuIdle, InDownloadSync, InUploadIdle, InError, state_of, code_of, poll_of_stage, status_of}
use Rattle.dfu_device.specs.Table.{Plan, Sure, Writes, Commits, write_code, commit_code, block_plan, upload_plan, number_after}
use Rattle.dfu_device.specs.Cases.{holds_in_both_branches}
use Rattle.dfu_device.specs.Rows.{ReplyAnswer, asked_length, is_served}
use Rattle.dfu_conformance.specs.declared.row.StandardState.TheVariants as place
use Rattle.dfu_conformance.specs.declared.row.EventKind.{EventKind as Came}
use Rattle.dfu_conformance.specs.declared.row.EventKind.TheVariants as came
use Rattle.dfu_conformance.specs.declared.row.When.{When}
use Rattle.dfu_conformance.specs.declared.row.When.TheVariants.{Always, CanUpload}
use Rattle.dfu_conformance.specs.declared.row.Gives.{Gives}
use Rattle.dfu_conformance.specs.declared.row.Gives.TheVariants as gives
use Rattle.dfu_conformance.specs.declared.event.Response.{Response as Shows}
use Rattle.dfu_conformance.specs.declared.standard.TheConstants.{STANDARD}
use Rattle.dfu_conformance.specs.declared.drifts.TheConstants.{DRIFTS}
use Rattle.dfu_conformance.specs.RowMatches.{asks, event_kind_number, answer_allows_bytes}
use Rattle.dfu_conformance.specs.Candidates.{applies_to}
use Rattle.dfu_conformance.specs.Setups.{event_of}
use Rattle.dfu_conformance.proofs.ForCallers.{is_row, is_move}
use Rattle.dfu_laws.specs.judge.Conformity.{attributes_of, place_of, seen, StageInvariant}
use Rattle.dfu_laws.proofs.judge.Bits.{attribute_bits_select_rows}
use Rattle.dfu_laws.proofs.judge.SeenAnswers.{EventLeadsOn, row_leads_on_in_place, row_after_own_move_leads_on, ack_answer_matches_row, stall_answer_matches_row, state_answer_matches_row, status_answer_matches_row, image_part_matches_row, state_number_of_place, stage_code_allowed_at_place}

-- The answer to a request, and the change of the stage, are a row of the standard's table.
abbrev pub AnswerLeadsOn : Profile → Setup → Asked → List ℕ → Stage → Reply → Stage → Type 0
AnswerLeadsOn c p q body st reply next = (a : Answer) (out : List ℕ) → ReplyAnswer (asked_length q) reply a out
    → EventLeadsOn (attributes_of c) (place_of st) (event_of p q (length body) (seen a out)) (place_of next)

-- Each outcome of a plan is a row of the standard's table.
abbrev pub PlanOutcomesLead : Profile → Setup → Asked → List ℕ → Stage → Plan → Type 0
PlanOutcomesLead c p q body st (Sure reply next) = AnswerLeadsOn c p q body st reply next × StageInvariant c next
PlanOutcomesLead c p q body st (Writes before block reply next bad) =
    (AnswerLeadsOn c p q body st reply next × StageInvariant c next) × ((fault : WriteFault)
    → AnswerLeadsOn c p q body st (bad fault) (InError (write_code fault)))
PlanOutcomesLead c p q body st (Commits taken reply next bad) =
    (AnswerLeadsOn c p q body st reply next × StageInvariant c next) × ((fault : WriteFault)
    → AnswerLeadsOn c p q body st (bad fault) (InError (commit_code fault)))

-- A served DNLOAD has as many bytes as its setup requires.
pub dnload_has_length : (p : Setup) (number len : ℕ) (body : List ℕ) → SetupAsksFor p (asked.Dnload number len)
    → is_served p (asked.Dnload number len) body ≡ true
    → len ≡ length body
dnload_has_length p number len body asks served =
    asks.2 ∙ sym (eqb-true _ _ served ∙ cond-true (p.kind == 0x21) p.length 0 (eq-eqb _ _ asks.0.kind))

-- In the judge's table, a DNLOAD of no bytes is a close.
pub empty_dnload_asks_close : (p : Setup) (number len n : ℕ) (a : Shows) → len ≡ 0 →
    asks came.Close (event_of p (asked.Dnload number len) n a) ≡ true
empty_dnload_asks_close p number len n a is =
    or_left _ _ (eq-eqb _ _ (ap event_kind_number (sym (cond-true (len == 0) came.Close came.Block (eq-eqb len 0 is)))))

-- In the judge's table, a DNLOAD with bytes is a block.
pub dnload_with_bytes_asks_block : (p : Setup) (number len n : ℕ) (a : Shows) (x : ℕ) (xs : List ℕ) → len ≡ length (x ∷ xs)
    → asks came.Block (event_of p (asked.Dnload number len) n a) ≡ true
dnload_with_bytes_asks_block p number len n a x xs is =
    or_left _ _ (eq-eqb _ _ (ap event_kind_number (sym (cond-false (len == 0) came.Close came.Block (ne_eqb len 0 (λ z. omega (
      arith,
      z,
      is,
    )))))))

-- Kind of a request in the judge's table, if its body is as long as its setup requires.
abbrev pub came_of_request : Asked → List ℕ → Came
came_of_request (asked.Detach timeout) body = came.Detach
came_of_request (asked.Dnload k len) [] = came.Close
came_of_request (asked.Dnload k len) (x ∷ xs) = came.Block
came_of_request (asked.Upload k len) body = came.Upload
came_of_request (asked.GetStatus len) body = came.GetStatus
came_of_request asked.ClrStatus body = came.ClrStatus
came_of_request (asked.GetState len) body = came.GetState
came_of_request asked.Abort body = came.Abort
came_of_request q body = came.Other

-- The event of a request has the kind of that request in the judge's table.
pub row_is_about_request : (p : Setup) (q : Asked) (body : List ℕ) (a : Shows) → SetupAsksFor p q → is_served p q body ≡ true
    → asks (came_of_request q body) (event_of p q (length body) a) ≡ true
row_is_about_request p (asked.Dnload k len) [] a asks v = empty_dnload_asks_close p k len 0 a (dnload_has_length p k len [] asks v)
row_is_about_request p (asked.Dnload k len) (x ∷ xs) a asks v = dnload_with_bytes_asks_block p k len (length (x ∷ xs)) a x xs
    (dnload_has_length p k len (x ∷ xs) asks v)
row_is_about_request p q body a asks v = refl

-- If the table has a row for a stall of the request, a stalled request follows the table.
pub stall_row_leads : (c : Profile) (p : Setup) (q : Asked) (body : List ℕ) (st next : Stage) → SetupAsksFor p q → is_served p q body ≡ true
    → list_any (is_row (place_of st) (came_of_request q body) Always gives.Stall (place_of next)) STANDARD ≡ true →
    AnswerLeadsOn c p q body st Stall next
stall_row_leads c p q body st next asks v some = λ a out h.
    row_leads_on_in_place (attributes_of c) (place_of st) (came_of_request q body) Always gives.Stall (place_of next) (event_of p q (length
    body)
    (seen a out)) some
    refl (row_is_about_request p q body (seen a out) asks v) (stall_answer_matches_row (place_of st) (place_of next) p.length (asked_length
    q) a out h)

-- If the table has a row for an acknowledgement of the request, an acknowledged request follows the table.
pub ack_row_leads : (c : Profile) (p : Setup) (q : Asked) (body : List ℕ) (st next : Stage) (when : When) → SetupAsksFor p q
    → is_served p q body ≡ true
    → list_any (is_row (place_of st) (came_of_request q body) when gives.Ack (place_of next)) STANDARD ≡ true
    → applies_to when (attributes_of c) 0 ≡ true → AnswerLeadsOn c p q body st Ack next
ack_row_leads c p q body st next when asks v some row_is_for_device = λ a out h.
    row_leads_on_in_place (attributes_of c) (place_of st) (came_of_request q body) when gives.Ack (place_of next) (event_of p q (length
    body) (seen a out)) some
    row_is_for_device (row_is_about_request p q body (seen a out) asks v) (ack_answer_matches_row (place_of st) (place_of next) p.length
    (asked_length q) a out h)

-- If the table has a row for GETSTATUS, an answer with the status of the stage that the device enters follows the table.
pub getstatus_row_leads : (c : Profile) (p : Setup) (len : ℕ) (body : List ℕ) (st next : Stage) (when : When) → StageInvariant c next →
    len ≡ p.length
    → list_any (is_row (place_of st) came.GetStatus when gives.Status (place_of next)) STANDARD ≡ true
    → applies_to when (attributes_of c) 0 ≡ true
    → AnswerLeadsOn c p (asked.GetStatus len) body st (status_of c next) next
getstatus_row_leads c p len body st next when stands is some row_is_for_device = λ a out h.
    row_leads_on_in_place (attributes_of c) (place_of st) came.GetStatus when gives.Status (place_of next)
    (event_of p (asked.GetStatus len) (length body) (seen a out)) some row_is_for_device refl
    (status_answer_matches_row (place_of st) (place_of next) (code_of next) (poll_of_stage c next) (state_of next) p.length len a out
    (stage_code_allowed_at_place c next stands)
    (state_number_of_place next) is h)

-- If the table lets the device move to dfuERROR without an event, an answer to GETSTATUS with the code of the fault follows the table.
pub getstatus_of_fault_leads : (c : Profile) (p : Setup) (len : ℕ) (body : List ℕ) (st : Stage) (code : Code) →
    StageInvariant c (InError code)
    → len ≡ p.length
    → list_any (is_move (place_of st) Always place.Error) DRIFTS ≡ true
    → AnswerLeadsOn c p (asked.GetStatus len) body st (status_of c (InError code)) (InError code)
getstatus_of_fault_leads c p len body st code stands is move = λ a out h.
    row_after_own_move_leads_on (attributes_of c) (place_of st) place.Error came.GetStatus Always gives.Status place.Error
    (event_of p (asked.GetStatus len) (length body) (seen a out)) move refl refl refl
    (status_answer_matches_row place.Error place.Error code 0 (state_of (InError code)) p.length len a out (stage_code_allowed_at_place c
    (InError code) stands) refl is h)

-- The status code after a failed write of a block is not OK, as dfuERROR requires.
pub write_code_allowed_in_error : (c : Profile) (fault : WriteFault) → StageInvariant c (InError (write_code fault))
write_code_allowed_in_error c Failed = tt
write_code_allowed_in_error c NotVerified = tt

-- The status code after a failed commit is not OK, as dfuERROR requires.
pub commit_code_allowed_in_error : (c : Profile) (fault : WriteFault) → StageInvariant c (InError (commit_code fault))
commit_code_allowed_in_error c Failed = tt
commit_code_allowed_in_error c NotVerified = tt

-- If the table has a row for GETSTATE, an answer with the current state follows the table.
pub getstate_row_leads : (c : Profile) (p : Setup) (len : ℕ) (body : List ℕ) (st : Stage) → len ≡ p.length
    → list_any (is_row (place_of st) came.GetState Always gives.State (place_of st)) STANDARD ≡ true
    → AnswerLeadsOn c p (asked.GetState len) body st (StateOf (state_of st)) st
getstate_row_leads c p len body st is some = λ a out h.
    row_leads_on_in_place (attributes_of c) (place_of st) came.GetState Always gives.State (place_of st)
    (event_of p (asked.GetState len) (length body) (seen a out)) some refl refl
    (state_answer_matches_row (place_of st) (state_of st) p.length len a out (state_number_of_place st) is h)

-- If the table has a row for this UPLOAD, and the device can upload, an answer with a part of the image follows the table.
pub upload_gives_part : (c : Profile) (p : Setup) (number len : ℕ) (body part : List ℕ) (st next : Stage) (g : Gives)
    → list_any (is_row (place_of st) came.Upload CanUpload g (place_of next)) STANDARD ≡ true → c.can_upload ≡ true
    → answer_allows_bytes g (place_of st) (place_of next) p.length (length part) (slice_index part 0) (slice_index part 4) ≡ true
    → AnswerLeadsOn c p (asked.Upload number len) body st (Data part) next
upload_gives_part c p number len body part st next g some can fits = λ a out h.
    row_leads_on_in_place (attributes_of c) (place_of st) came.Upload CanUpload g (place_of next)
    (event_of p (asked.Upload number len) (length body) (seen a out)) some
    ((attribute_bits_select_rows c.can_download c.can_upload c.tolerant c.will_detach).1 ∙ can) refl
    (image_part_matches_row (place_of st) (place_of next) part p.length 0 a out g fits h)

-- If P holds for each branch of a conditional in the case in which it is taken, P holds for the conditional.
pub fact_of_branch : {A : Type 0} (P : A → Type 0) (b : Bool) (x y : A) → (b ≡ true → P x) → (b ≡ false → P y) → P (if b then x else y)
fact_of_branch P true x y f g = f refl
fact_of_branch P false x y f g = g refl

-- An UPLOAD from any offset of the image follows the standard's table.
pub upload_plan_leads : (c : Profile) (image : List ℕ) (at expected : ℕ) (st : Stage) (p : Setup) (k len : ℕ) (body : List ℕ) →
    c.can_upload ≡ true
    → SetupAsksFor p (asked.Upload k len) → is_served p (asked.Upload k len) body ≡ true
    → list_any (is_row (place_of st) came.Upload Always gives.Stall place.Error) STANDARD ≡ true
    → list_any (is_row (place_of st) came.Upload CanUpload gives.Short place.DfuIdle) STANDARD ≡ true
    → list_any (is_row (place_of st) came.Upload CanUpload gives.Full place.UploadIdle) STANDARD ≡ true
    → PlanOutcomesLead c p (asked.Upload k len) body st (upload_plan c image at expected k len)
upload_plan_leads c image at expected st p k len body can asks v stall_row short_row full_row =
    let P : Plan → Type 0 = PlanOutcomesLead c p (asked.Upload k len) body st in
    let bad : (code : Code) → StageInvariant c (InError code) → P (Sure Stall (InError code)) = λ code stands.
    (stall_row_leads c p (asked.Upload k len) body st (InError code) asks v stall_row, stands) in
    let part = take len (drop at image) in
    let next = InUploadIdle (at + len) (number_after expected) in
    holds_in_both_branches P (len == 0) _ _ (bad ErrStalledPkt tt)
    (holds_in_both_branches P (nat_lt c.transfer len) _ _ (bad ErrStalledPkt tt)
    (holds_in_both_branches P (not (k == expected)) _ _ (bad ErrAddress tt)
    (fact_of_branch P (nat_lt (length part) len) (Sure (Data part) InDfuIdle) (Sure (Data part) next)
    (λ is_short. (
      upload_gives_part c p k len body part st InDfuIdle gives.Short short_row can
          (or_left _ _ (ap (λ (n : ℕ). nat_lt (length part) n) (sym asks.2) ∙ is_short)),
      tt,
    ))
    (λ is_full. (
      upload_gives_part c p k len body part st next gives.Full full_row can
          (eq-eqb _ _ (omega (arith, length-take len (drop at image), ltb-false _ _ is_full, asks.2))),
      can,
    )))))

-- A DNLOAD of a block, accepted or stalled, follows the standard's table.
pub block_plan_leads : (c : Profile) (taken : List ℕ) (expected : ℕ) (st : Stage) (p : Setup) (k len x : ℕ) (xs : List ℕ) (when : When)
    → SetupAsksFor p (asked.Dnload k len) → is_served p (asked.Dnload k len) (x ∷ xs) ≡ true
    → list_any (is_row (place_of st) came.Block Always gives.Stall place.Error) STANDARD ≡ true
    → list_any (is_row (place_of st) came.Block when gives.Ack place.DownloadSync) STANDARD ≡ true
    → applies_to when (attributes_of c) 0 ≡ true
    → PlanOutcomesLead c p (asked.Dnload k len) (x ∷ xs) st (block_plan c taken expected k (x ∷ xs))
block_plan_leads c taken expected st p k len x xs when asks v stall_row ack_row row_is_for_device =
    let P : Plan → Type 0 = PlanOutcomesLead c p (asked.Dnload k len) (x ∷ xs) st in
    let bad : (code : Code) → StageInvariant c (InError code) → P (Sure Stall (InError code)) = λ code stands.
    (stall_row_leads c p (asked.Dnload k len) (x ∷ xs) st (InError code) asks v stall_row, stands) in
    holds_in_both_branches P (nat_lt c.transfer (length (x ∷ xs))) _ _ (bad ErrStalledPkt tt)
    (holds_in_both_branches P (not (k == expected)) _ _
    (bad ErrAddress tt)
    (holds_in_both_branches P (nat_lt c.capacity (length taken + length (x ∷ xs))) _ _ (bad ErrAddress tt) (
      ack_row_leads c p (asked.Dnload k len) (x ∷ xs) st (InDownloadSync taken (x ∷ xs) (number_after expected)) when asks v ack_row
          row_is_for_device,
      tt,
    )))
