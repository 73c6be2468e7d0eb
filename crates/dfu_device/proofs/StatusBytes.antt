-- Lemmas about the six bytes of a status.
use Rattle.std.proofs.Common.{◌≡◌, ℕ, ◌+◌, ◌≤◌, min, List, [], ◌++◌, length, take, slice_index, refl, sym, ◌∙◌, ap, subst, arith, Result, Ok, Err, IsOk, OnOk}
use Rattle.std.proofs.lemmas.List.{take_min, length-take}
use Rattle.std.proofs.lemmas.Bool.{false≢true}
use Rattle.dfu_wire.specs.declared.codes.Code.{Code}
use Rattle.dfu_wire.specs.declared.states.State.{State}
use Rattle.dfu_wire.specs.declared.statuses.Status.{Status}
use Rattle.dfu_wire.specs.Status.{IsStatus}
use Rattle.dfu_device.specs.declared.answer.Answer.TheVariants as answer
use Rattle.dfu_device.specs.Stage.{StatusOf}
use Rattle.dfu_device.specs.Rows.{ReplyAnswer}

-- The first `len` of the six bytes of a status answer a GETSTATUS with wLength `len`.
pub status_front_answers : (status : Status) (c code : Code) (p poll : ℕ) (s state : State) (len : ℕ) (bytes : List ℕ)
    → status ≡ record { code = c; poll_ms = p; state = s } → c ≡ code → p ≡ poll → s ≡ state → IsStatus status bytes
    → slice_index bytes 5 ≡ 0 → ReplyAnswer len (StatusOf code poll state) answer.Bytes (take len bytes)
status_front_answers status c code p poll s state len bytes is code_is poll_is state_is fields string =
    let same : status ≡ record { code = code; poll_ms = poll; state = state } = is
    ∙ (λ k. record { code = code_is k; poll_ms = poll_is k; state = state_is k }) in
    (refl, bytes, subst (λ (x : Status). IsStatus x bytes) same fields, string, refl)

-- If a result is Ok, a fact that OnOk states for the result holds.
fact_holds_of_ok_result : {T E P : Type 0} (r : Result T E) → IsOk r → OnOk r P → P
fact_holds_of_ok_result (Ok x) is p = p
fact_holds_of_ok_result (Err e) is p = absurd (false≢true is)

-- The first `asked` of six bytes fit into an empty vector.
pub status_front_fits_vector : (asked n : ℕ) (bytes old : List ℕ) → n ≡ min asked 6 → old ≡ [] → length old + length (take n bytes) ≤ 4096
status_front_fits_vector asked n bytes old count empty =
    let none : length old ≡ 0 = ap (λ (l : List ℕ). length l) empty in
    omega (arith, none, count, length-take n bytes)

-- An empty vector to which the first `asked` of six bytes were added holds exactly those bytes.
pub vector_is_front : {T E : Type 0} (r : Result T E) (asked n : ℕ) (bytes old out : List ℕ) → n ≡ min asked 6 → length bytes ≡ 6 → old ≡ []
    → IsOk r → OnOk r (out ≡ old ++ take n bytes) → out ≡ take asked bytes
vector_is_front r asked n bytes old out count size empty fine ok =
    let front : n ≡ min asked (length bytes) = count ∙ ap (λ (k : ℕ). min asked k) (sym size) in
    fact_holds_of_ok_result r fine ok ∙ ap (λ (l : List ℕ). l ++ take n bytes) empty ∙ ap (λ (k : ℕ). take k bytes) front
    ∙ take_min asked bytes
