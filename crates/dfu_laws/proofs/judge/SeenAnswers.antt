-- Answers that the judge observes match the answers in the rows of its table.
use Rattle.std.specs.Prelude.{◌≡◌, ℕ, zero, suc, ◌<◌, ◌==◌, ◌||◌, min, true, List, [], ◌∷◌, length, take, slice_index}
use Rattle.std.specs.List.{list_any}
use Rattle.std.proofs.Common.{refl, ap, ◌∙◌, inl, inr, arith}
use Rattle.std.proofs.lemmas.List.{length-take, get_or-take}
use Rattle.std.proofs.lemmas.Bool.{lt-ltb, cases_lt, and_from, or_left, or_right, eq-eqb}
use Rattle.dfu_wire.specs.declared.codes.Code.{Code}
use Rattle.dfu_wire.specs.declared.codes.Code.TheVariants.{Ok as NoFault}
use Rattle.dfu_wire.specs.declared.states.State.{State}
use Rattle.dfu_wire.specs.Code.{code_byte}
use Rattle.dfu_wire.specs.State.{state_byte}
use Rattle.dfu_device.specs.declared.answer.Answer.{Answer}
use Rattle.dfu_device.specs.Stage.{Ack, StatusOf, StateOf, Data, Stall, Profile, Stage, InError, state_of, code_of}
use Rattle.dfu_device.specs.Rows.{ReplyAnswer}
use Rattle.dfu_conformance.specs.declared.row.StandardState.{StandardState}
use Rattle.dfu_conformance.specs.declared.row.EventKind.{EventKind as Came}
use Rattle.dfu_conformance.specs.declared.row.When.{When}
use Rattle.dfu_conformance.specs.declared.row.When.TheVariants.{Always}
use Rattle.dfu_conformance.specs.declared.row.Gives.{Gives}
use Rattle.dfu_conformance.specs.declared.row.Gives.TheVariants as gives
use Rattle.dfu_conformance.specs.declared.event.LogEvent.{LogEvent}
use Rattle.dfu_conformance.specs.declared.standard.TheConstants.{STANDARD}
use Rattle.dfu_conformance.specs.declared.drifts.TheConstants.{DRIFTS}
use Rattle.dfu_conformance.specs.RowMatches.{asks, answer_matches, answer_allows_bytes, has_code, bstate_of_place}
use Rattle.dfu_conformance.specs.Candidates.{applies_to}
use Rattle.dfu_conformance.specs.MayAnswer.{MayAnswer, MayMove}
use Rattle.dfu_conformance.proofs.ForCallers.{is_row, device_goes_by_listed_row, is_move, device_moves_by_listed_drift}
use Rattle.dfu_laws.specs.judge.Conformity.{place_of, seen, StageInvariant}

-- The device first stays in its state or moves by itself, and then the event follows the table.
abbrev pub EventLeadsOn : (attributes : ℕ) → StandardState → LogEvent → StandardState → Type 0
EventLeadsOn a from e next = (here : StandardState) × MayMove a 0 from here × MayAnswer a 0 here e next

-- An event that a row of the standard's table allows follows the table.
pub row_leads_on_in_place : (a : ℕ) (from : StandardState) (q : Came) (when : When) (g : Gives) (next : StandardState) (e : LogEvent)
    → list_any (is_row from q when g next) STANDARD ≡ true → applies_to when a 0 ≡ true → asks q e ≡ true
    → answer_matches g from next e.length e.answer ≡ true → EventLeadsOn a from e next
row_leads_on_in_place a from q when g next e some row_is_for_device is_asked is_shown =
    (from, inl refl, inl (device_goes_by_listed_row STANDARD from q when g next a 0 e some row_is_for_device is_asked is_shown))

-- If the device first moves by itself, an event that a row allows in its new state follows the table.
pub row_after_own_move_leads_on : (a : ℕ) (from here : StandardState) (q : Came) (when : When) (g : Gives) (next : StandardState) (e :
    LogEvent)
    → list_any (is_move from Always here) DRIFTS ≡ true
    → list_any (is_row here q when g next) STANDARD ≡ true → applies_to when a 0 ≡ true → asks q e ≡ true
    → answer_matches g here next e.length e.answer ≡ true → EventLeadsOn a from e next
row_after_own_move_leads_on a from here q when g next e move some row_is_for_device is_asked is_shown = (
  here,
  inr (device_moves_by_listed_drift DRIFTS from Always here a 0 move refl),
  inl (device_goes_by_listed_row STANDARD here q when g
      next a 0 e some row_is_for_device is_asked is_shown),
)

-- An acknowledgement matches a row with the answer Ack.
pub ack_answer_matches_row : (from next : StandardState) (len n : ℕ) (a : Answer) (out : List ℕ) → ReplyAnswer n Ack a out
    → answer_matches gives.Ack from next len (seen a out) ≡ true
ack_answer_matches_row from next len n a out h = ap (λ (x : Answer). answer_matches gives.Ack from next len (seen x out)) h.0

-- A stall matches a row with the answer Stall.
pub stall_answer_matches_row : (from next : StandardState) (len n : ℕ) (a : Answer) (out : List ℕ) → ReplyAnswer n Stall a out
    → answer_matches gives.Stall from next len (seen a out) ≡ true
stall_answer_matches_row from next len n a out h = ap (λ (x : Answer). answer_matches gives.Stall from next len (seen x out)) h.0

-- The first len bytes of a list of n bytes are min len n bytes.
pub prefix_length_is_min : (bytes : List ℕ) (len n : ℕ) → length bytes ≡ n → (length (take len bytes) == min len n) ≡ true
prefix_length_is_min bytes len n size = eq-eqb _ _ (length-take len bytes ∙ ap (λ (k : ℕ). min len k) size)

-- The answer to GETSTATE matches a row with the answer State.
pub state_answer_matches_row : (from : StandardState) (state : State) (len n : ℕ) (a : Answer) (out : List ℕ)
    → state_byte state ≡ bstate_of_place from
    → n ≡ len
    → ReplyAnswer n (StateOf state) a out → answer_matches gives.State from from len (seen a out) ≡ true
state_answer_matches_row from state len n a out same is h =
    ap (λ (x : Answer). answer_matches gives.State from from len (seen x out)) h.0
    ∙ ap (λ (l : List ℕ). answer_allows_bytes gives.State from from len (length l) (slice_index l 0) (slice_index l 4))
    (h.1 ∙ ap (λ (k : ℕ). take k (state_byte state ∷ [])) is)
    ∙ and_from _ _ (prefix_length_is_min (state_byte state ∷ []) len 1 refl) (first len)
  where
    first : (len : ℕ) → ((length (take len (state_byte state ∷ [])) == 0) || (slice_index (take len
        (state_byte state ∷ [])) 0 == bstate_of_place from)) ≡ true
    first zero = refl
    first (suc k) = or_right _ _ (eq-eqb _ _ same)

-- The first len bytes of a status match a row with the answer Status.
pub status_front_matches_row : (next : StandardState) (bytes : List ℕ) (len : ℕ) → length bytes ≡ 6 →
    has_code next (slice_index bytes 0) ≡ true
    → slice_index bytes 4 ≡ bstate_of_place next
    → answer_allows_bytes gives.Status next next len (length (take len bytes)) (slice_index (take len bytes) 0) (slice_index
    (take len bytes) 4) ≡ true
status_front_matches_row next bytes len size coded same =
    and_from _ _ (prefix_length_is_min bytes len 6 size) (and_from _ _ (first len) (elim (cases_lt 4 len) [
      | inl long ↦ or_right _ _ (eq-eqb _ _ (get_or-take len bytes 4 0 long ∙ same))
      | inr short ↦
          let few : length (take len bytes) < 5 =
          omega (arith, length-take len bytes, size) in or_left _ _ (lt-ltb (length (take len bytes)) 5 few)
    ]))
  where
    first : (len : ℕ) → ((length (take len bytes) == 0) || has_code next (slice_index (take len bytes) 0)) ≡ true
    first zero = refl
    first (suc k) = or_right _ _ (ap (λ (x : ℕ). has_code next x) (get_or-take (suc k) bytes 0 0 (omega arith)) ∙ coded)

-- The answer to GETSTATUS matches a row with the answer Status.
pub status_answer_matches_row : (from next : StandardState) (code : Code) (poll : ℕ) (state : State) (len n : ℕ) (a : Answer) (out : List ℕ)
    → has_code next (code_byte code) ≡ true → state_byte state ≡ bstate_of_place next → n ≡ len
    → ReplyAnswer n (StatusOf code poll state) a out → answer_matches gives.Status from next len (seen a out) ≡ true
status_answer_matches_row from next code poll state len n a out coded same is (bytes_are, bytes, status, string, front) =
    ap (λ (x : Answer). answer_matches gives.Status from next len (seen x out)) bytes_are
    ∙ ap (λ (l : List ℕ). answer_allows_bytes gives.Status from next len (length l) (slice_index l 0) (slice_index l 4))
    (front ∙ ap (λ (k : ℕ). take k bytes) is)
    ∙ status_front_matches_row next bytes len status.length (ap (λ (x : ℕ). has_code next x) status.code ∙ coded) (status.state ∙ same)

-- A short or full part of an image matches a row of UPLOAD.
pub image_part_matches_row : (from next : StandardState) (part : List ℕ) (len n : ℕ) (a : Answer) (out : List ℕ) (g : Gives)
    → answer_allows_bytes g from next len (length part) (slice_index part 0) (slice_index part 4) ≡ true
    → ReplyAnswer n (Data part) a out → answer_matches g from next len (seen a out) ≡ true
image_part_matches_row from next part len n a out g fits h =
    ap (λ (x : Answer). answer_matches g from next len (seen x out)) h.0
    ∙ ap (λ (l : List ℕ). answer_allows_bytes g from next len (length l) (slice_index l 0) (slice_index l 4)) h.1 ∙ fits

-- The bState of a stage is that of its state in the judge's table.
pub state_number_of_place : (st : Stage) → state_byte (state_of st) ≡ bstate_of_place (place_of st)
state_number_of_place (InError code) = refl
state_number_of_place st = refl

-- The status code of a stage is allowed in its state of the judge's table.
pub stage_code_allowed_at_place : (c : Profile) (st : Stage) → StageInvariant c st → has_code (place_of st) (code_byte (code_of st)) ≡ true
stage_code_allowed_at_place c (InError NoFault) h = absurd h
stage_code_allowed_at_place c (InError code) h = refl
stage_code_allowed_at_place c st h = refl
