-- Plan of a request on a device whose program refuses the image of the download that the request closes.
use Rattle.std.proofs.Common.{◌≡◌, ℕ, ◌==◌, nat_le, Bool, true, false, cond, List, [], ◌∷◌, length, Option, Some, None, refl, ap, arith}
use Rattle.std.proofs.lemmas.Bool.Decides.{nat_tests}
use Rattle.dfu_wire.specs.declared.codes.Code.{Code}
use Rattle.dfu_wire.specs.declared.codes.Code.TheVariants.{NotDone as ErrNotDone}
use Rattle.dfu_wire.specs.declared.requests.Request.{Request as Asked}
use Rattle.dfu_wire.specs.declared.requests.Request.TheVariants as request
use Rattle.dfu_device.specs.declared.objection.Objection.{Objection}
use Rattle.dfu_device.specs.Stage.{Request, Dnload, Ack, Profile, Stage, InDownloadIdle, InManifestSync}
use Rattle.dfu_device.specs.Table.{Plan, Sure, error_plan, plan, has_no_bytes, may_close, objection_code}
use Rattle.dfu_device.specs.Rows.{request_for_table, is_close}
use Rattle.dfu_device.specs.Cases.{holds_in_both_branches}
use Rattle.dfu_sim.specs.Play.{request_closes, plan_with_refusal}
use Rattle.dfu_sim.proofs.MovesWithoutBlocks.{IsBlocklessRequest}
use Rattle.dfu_sim.proofs.Replies.{IsHostRequest}

-- A request that does not close a download has the table's plan, even if the program has an objection.
pub closeless_request_goes_by_table : (x : Option Objection) (c : Profile) (i : List ℕ) (stage : Stage) (r : Request) →
    request_closes c.least stage r ≡ false
    → plan_with_refusal x c i stage r ≡ plan c i stage r
closeless_request_goes_by_table None c i stage r e = refl
closeless_request_goes_by_table (Some why) c i stage r e = ap (λ (t : Bool). cond t (error_plan (objection_code why)) (plan c i stage r)) e

-- If a request closes a download and the program refuses the image, the plan is an error with the code of the objection.
pub refused_close_is_error : (why : Objection) (c : Profile) (i : List ℕ) (stage : Stage) (r : Request) →
    request_closes c.least stage r ≡ true
    → plan_with_refusal (Some why) c i stage r ≡ error_plan (objection_code why)
refused_close_is_error why c i stage r e = ap (λ (t : Bool). cond t (error_plan (objection_code why)) (plan c i stage r)) e

-- A request that transfers no block does not close a download.
pub blockless_request_closes_nothing : (least : ℕ) (stage : Stage) (r : Request) → IsBlocklessRequest r
    → request_closes least stage r ≡ false
blockless_request_closes_nothing least stage (Dnload number body) p = elim p [ ]
blockless_request_closes_nothing least stage r p = refl

-- A DNLOAD with a body that is not empty does not close a download.
pub block_closes_nothing : (least : ℕ) (stage : Stage) (number : ℕ) (body : List ℕ) → has_no_bytes body ≡ false
    → request_closes least stage (Dnload number body) ≡ false
block_closes_nothing least stage number body e = ap (λ (t : Bool). cond t (may_close least stage) false) e

-- A property of the plan of a closing request holds if it holds for each error, and for the plan that closes the download.
pub close_errs_or_works : (P : Plan → Type 0) (x : Option Objection) (c : Profile) (i taken : List ℕ) (expected number : ℕ)
    → ((code : Code) → P (error_plan code)) → P (Sure Ack (InManifestSync taken))
    → P (plan_with_refusal x c i (InDownloadIdle taken expected) (Dnload number []))
close_errs_or_works P None c i taken expected number pf pt = holds_in_both_branches P (nat_le c.least (length taken)) _ _ pt (pf ErrNotDone)
close_errs_or_works P (Some why) c i taken expected number pf pt =
    holds_in_both_branches P (nat_le c.least (length taken)) _ _ (pf (objection_code why))
    (holds_in_both_branches P (nat_le c.least (length taken)) _ _ pt (pf ErrNotDone))

-- Lemmas about the requests that hosts send.

-- A Boolean that is not true is false.
not_true_is_false : (b : Bool) → (b ≡ true → ⊥) → b ≡ false
not_true_is_false true f = absurd (f refl)
not_true_is_false false f = refl

-- If a download may be closed, the closing request of a host closes it.
pub host_close_request_closes : (q : Asked) (body : List ℕ) (least : ℕ) (stage : Stage) → IsHostRequest q body → is_close q ≡ true
    → may_close least stage ≡ true → request_closes least stage (request_for_table q body) ≡ true
host_close_request_closes (request.Dnload block len) [] least stage i e may = may
host_close_request_closes (request.Dnload block len) (x ∷ xs) least stage i e may =
    let none : len ≡ 0 = grind (arith, nat_tests) in absurd (omega (arith, none, i))
host_close_request_closes q body least stage i e may = absurd cc

-- A request of a host does not close a download if it is not the closing request, or if the download may not be closed yet.
pub other_host_request_closes_nothing : (q : Asked) (body : List ℕ) (least : ℕ) (stage : Stage) → IsHostRequest q body
    → (is_close q ≡ true → may_close least stage ≡ true → ⊥) → request_closes least stage (request_for_table q body) ≡ false
other_host_request_closes_nothing (request.Dnload block len) [] least stage i request_closes =
    not_true_is_false (may_close least stage) (λ may. request_closes (ap (λ (n : ℕ). n == 0) i) may)
other_host_request_closes_nothing (request.Dnload block len) (x ∷ xs) least stage i request_closes = refl
other_host_request_closes_nothing q body least stage i request_closes = refl
