-- Handling a setup closes the download of a device exactly if `ClosesDownload` holds for the setup.
use Rattle.std.proofs.Common.{◌≡◌, ◌↔◌, arith, ◌==◌, inl, inr, Bool, true, IsTrue, ℕ, List, [], ◌∷◌, length, Some, if◌then◌else◌, refl, sym, ap, ◌∙◌, subst}
use Rattle.std.proofs.lemmas.Bool.{eq-eqb, eqb-true, false≢true}
use Rattle.dfu_wire.specs.declared.setups.Setup.{Setup}
use Rattle.dfu_wire.specs.declared.requests.Request.{Request as Asked}
use Rattle.dfu_wire.specs.declared.requests.Request.TheVariants as asked
use Rattle.dfu_wire.specs.declared.codes.Code.TheVariants.{NotDone as ErrNotDone}
use Rattle.dfu_wire.specs.Request.{SetupAsksFor}
use Rattle.dfu_slots.specs.StoreView.{image_of}
use Rattle.dfu_device.specs.declared.answer.Answer.{Answer}
use Rattle.dfu_device.specs.declared.answer.Answer.TheVariants as answer
use Rattle.dfu_device.specs.Candidate.{candidate_in}
use Rattle.dfu_device.specs.Cases.{holds_in_both_branches}
use Rattle.dfu_device.specs.Stage.{Request, Dnload, Reply, Ack, StatusOf, StateOf, Data, Stall, Profile, Stage, InDownloadIdle, InManifestSync}
use Rattle.dfu_device.specs.Table.{Plan, Sure, Writes, Commits, ack_plan, error_plan, plan, may_close}
use Rattle.dfu_device.specs.DeviceView.{DeviceView, profile}
use Rattle.dfu_device.specs.PlanOutcomes.{close_setup_asks_for_close}
use Rattle.dfu_device.specs.Rows.{request_for_table, asked_length, body_length, ReplyAnswer, Done, is_served, setup_plan, is_close, ClosesDownload, Handles, handled_by_reading}
use Rattle.dfu_asks.specs.Verdict.{IsBodyOf}
use Rattle.dfu_asks.specs.Close.{DownloadWasClosed, IsCloseVerdict}
use Rattle.dfu_asks.proofs.ClosePlans.{IsClosingRequest, NeedsClosingRequest, row_needs_closing}

-- If a row's answer is an acknowledgement, the reply is an acknowledgement.
acknowledging_reply : (len : ℕ) (reply : Reply) (x : Answer) (out : List ℕ) → ReplyAnswer len reply x out → x ≡ answer.Ack → reply ≡ Ack
acknowledging_reply len Ack x out says is = refl
acknowledging_reply len Stall x out says is = absurd (cc)
acknowledging_reply len (Data bytes) x out says is = absurd (cc)
acknowledging_reply len (StateOf state) x out says is = absurd (cc)
acknowledging_reply len (StatusOf code poll state) x out says is = absurd (cc)

-- If a plan acknowledged its request and left an image pending, that request closes the download.
done_plan_needs_closing : (p : Plan) (c : Profile) (r : Request) (len : ℕ) (w : DeviceView) (x : Answer) (out : List ℕ) (w' : DeviceView)
    (taken : List ℕ) → NeedsClosingRequest c w.stage r p → Done p len w x out w' → x ≡ answer.Ack → w'.stage ≡ InManifestSync taken
    → IsClosingRequest c w.stage r taken
done_plan_needs_closing (Sure reply stage) c r len w x out w' taken needs (says, is) acks waits =
    needs taken (acknowledging_reply len reply x out says acks) (sym (ap (λ (v : DeviceView). v.stage) is) ∙ waits)
done_plan_needs_closing (Writes before block reply stage bad) c r len w x out w' taken needs (inl (says, h)) acks waits =
    absurd (needs taken (sym h.stage_is ∙ waits))
done_plan_needs_closing (Writes before block reply stage bad) c r len w x out w' taken needs (inr (fault, says, h)) acks waits =
    let is = sym h.stage_is ∙ waits in absurd (cc)
done_plan_needs_closing (Commits t reply stage bad) c r len w x out w' taken needs (inl (says, h)) acks waits =
    absurd (needs taken (sym h.stage_is ∙ waits))
done_plan_needs_closing (Commits t reply stage bad) c r len w x out w' taken needs (inr (fault, says, h)) acks waits =
    let is = sym h.stage_is ∙ waits in absurd (cc)

-- If a request is a DNLOAD of 0 bytes in the table, its setup is a DNLOAD with an empty body.
close_request_is_empty_dnload : (q : Asked) (body : List ℕ) (number : ℕ) → request_for_table q body ≡ Dnload number []
    → (block len : ℕ) × (q ≡ asked.Dnload block len) × (body ≡ [])
close_request_is_empty_dnload (asked.Dnload block len) body number e = (block, len, refl, cc)
close_request_is_empty_dnload q body number e = absurd (cc)

-- The plan of a setup leaves an image pending only for a request that closes the download.
setup_needs_closing : (w : DeviceView) (p : Setup) (q : Asked) (body : List ℕ)
    → NeedsClosingRequest (profile w) w.stage (request_for_table q body) (setup_plan w p q body)
setup_needs_closing w p q body =
    holds_in_both_branches (NeedsClosingRequest (profile w) w.stage (request_for_table q body)) (is_served p q body) _ _
    (row_needs_closing (profile w) (image_of w.slots) w.stage (request_for_table q body)) (λ t a m. absurd (cc))

-- The body of a DNLOAD has wLength bytes.
dnload_body_has_size : (p : Setup) (block len : ℕ) (body : List ℕ) → SetupAsksFor p (asked.Dnload block len) → length body ≡ body_length p
    → length body ≡ len
dnload_body_has_size p block len body asks fits =
    fits ∙ ap (λ (k : ℕ). if k == 0x21 then p.length else 0) asks.0.kind ∙ sym asks.2

no_length_no_elements : (l : List ℕ) → length l ≡ 0 → l ≡ []
no_length_no_elements [] none = refl
no_length_no_elements (x ∷ xs) none = absurd (omega (arith, none))

-- In the table, a setup that closes a download is a DNLOAD of 0 bytes.
close_setup_is_empty_dnload : (p : Setup) (q : Asked) (body : List ℕ) → SetupAsksFor p q → is_close q ≡ true → length body ≡ body_length p
    → (number : ℕ) × (request_for_table q body ≡ Dnload number []) × (is_served p q body ≡ true)
close_setup_is_empty_dnload p (asked.Dnload block len) body asks close fits = (
  block,
  ap (λ (l : List ℕ). Dnload block l) (no_length_no_elements body (dnload_body_has_size p block len body asks fits ∙ eqb-true len 0 close)),
  eq-eqb (length body) (body_length p) fits,
)
close_setup_is_empty_dnload p q body asks close fits = absurd (false≢true close)

-- A DNLOAD of 0 bytes closes the download if the download may be closed.
empty_dnload_closes_download : (c : Profile) (image : List ℕ) (st : Stage) (number : ℕ) → may_close c.least st ≡ true
    → (taken : List ℕ) × (candidate_in st ≡ Some taken) × (plan c image st (Dnload number []) ≡ Sure Ack (InManifestSync taken))
empty_dnload_closes_download c image (InDownloadIdle taken due) number may =
    (taken, refl, ap (λ (b : Bool). if b then ack_plan (InManifestSync taken) else error_plan ErrNotDone) may)
empty_dnload_closes_download c image st number may = absurd (false≢true may)

module _ (setup body : List ℕ) (d : DeviceView) (x : Answer) (sent : List ℕ) (d' : DeviceView) (body_is : IsBodyOf setup body) where
  -- If handling a setup closed the download, `ClosesDownload` holds for that setup.
  closed_download_had_setup : Handles setup body d x sent d' → DownloadWasClosed d x d' → ClosesDownload setup d
  closed_download_had_setup (handled_by_reading p q reads asks done) was =
      let n = done_plan_needs_closing (setup_plan d p q body) (profile d) (request_for_table q body) (asked_length q) d x sent d' was.taken
      (setup_needs_closing d p q body) done was.close_acknowledged was.waits in
      let e = close_request_is_empty_dnload q body n.number n.asks in
      let asks_dnload : SetupAsksFor p (asked.Dnload e.0 e.1) = subst (λ (r : Asked). SetupAsksFor p r) e.2 asks in
      let none : e.1 ≡ 0 = sym (dnload_body_has_size p e.0 e.1 body asks_dnload (body_is p reads)) ∙ ap (λ (l : List ℕ). length l) e.3 in
      ((p, q, reads, asks, ap is_close e.2 ∙ eq-eqb e.1 0 none), n.may)

  -- If `ClosesDownload` holds for a setup, handling it closes the download.
  closing_setup_closes : Handles setup body d x sent d' → ClosesDownload setup d → DownloadWasClosed d x d'
  closing_setup_closes (handled_by_reading p q reads asks done) (close, may) =
      let m = close_setup_is_empty_dnload p q body asks (close_setup_asks_for_close setup p q reads asks close) (body_is p reads) in
      let row = empty_dnload_closes_download (profile d) (image_of d.slots) d.stage m.0 may in
      let the_plan : setup_plan d p q body ≡ Sure Ack (InManifestSync row.0) =
      ap (λ (b : Bool). if b then plan (profile d) (image_of d.slots) d.stage (request_for_table q body) else Sure Stall d.stage) m.2
      ∙ ap (λ (r : Request). plan (profile d) (image_of d.slots) d.stage r) m.1 ∙ row.2 in
      let went : Done (Sure Ack (InManifestSync row.0)) (asked_length q) d x sent d' =
      subst (λ (w : Plan). Done w (asked_length q) d x sent d') the_plan done in
      record { close_acknowledged = went.0.0; taken = row.0; had = row.1; waits = ap (λ (v : DeviceView). v.stage) went.1 }

-- A verdict that is true exactly if `ClosesDownload` holds also predicts the result of handling the setup.
pub close_verdict_holds_of_row : (said : Bool) (setup : List ℕ) (d : DeviceView) → IsTrue said ↔ ClosesDownload setup d →
    IsCloseVerdict said setup d
close_verdict_holds_of_row said setup d is = record {
  closes = is;
  closed = λ body body_is x sent d' h. (
    λ yes. closing_setup_closes setup body d x sent d' body_is h (is.0 yes),
    λ was. is.1 (closed_download_had_setup setup body d x sent d' body_is h was),
  );
}
