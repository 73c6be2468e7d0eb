-- Only a DNLOAD without data, in a stage whose download may be closed, leaves an image pending.
use Rattle.std.proofs.Common.{◌≡◌, ◌==◌, nat_lt, nat_le, not, Bool, true, false, ℕ, ◌+◌, List, [], ◌∷◌, length, take, drop, Some, if◌then◌else◌, refl}
use Rattle.dfu_wire.specs.declared.codes.Code.TheVariants.{NotDone as ErrNotDone}
use Rattle.dfu_device.specs.Candidate.{candidate_in}
use Rattle.dfu_device.specs.Cases.{holds_in_both_branches}
use Rattle.dfu_device.specs.Stage.{Request, Dnload, Upload, GetStatus, GetState, Ack, Profile, Stage, InDfuIdle, InDownloadSync, InDownloadIdle, InManifestSync, InUploadIdle}
use Rattle.dfu_device.specs.Table.{Plan, Sure, Writes, Commits, has_no_bytes, ack_plan, error_plan, block_plan, next_dnload_plan, upload_plan, plan, may_close}

-- `r` is a DNLOAD of 0 bytes in a stage that has downloaded `taken` and may close that download.
pub record IsClosingRequest (c : Profile) (st : Stage) (r : Request) (taken : List ℕ) : Type 0 where
  pub may : may_close c.least st ≡ true
  pub had : candidate_in st ≡ Some taken
  pub number : ℕ
  pub asks : r ≡ Dnload number []

-- If the plan acknowledges the request and leaves an image pending, the request closes the download.
abbrev pub NeedsClosingRequest : Profile → Stage → Request → Plan → Type 0
NeedsClosingRequest c st r (Sure reply next) = (taken : List ℕ) → reply ≡ Ack → next ≡ InManifestSync taken → IsClosingRequest c st r taken
NeedsClosingRequest c st r (Writes before block reply next bad) = (taken : List ℕ) → next ≡ InManifestSync taken → ⊥
NeedsClosingRequest c st r (Commits taken reply next bad) = (t : List ℕ) → next ≡ InManifestSync t → ⊥

-- The plan of a DNLOAD with data leaves no image pending.
block_needs_closing : (c : Profile) (st : Stage) (before : List ℕ) (expected number : ℕ) (body : List ℕ)
    → NeedsClosingRequest c st (Dnload number body) (block_plan c before expected number body)
block_needs_closing c st before expected number body =
    let P : Plan → Type 0 = NeedsClosingRequest c st (Dnload number body) in
    holds_in_both_branches P (nat_lt c.transfer (length body)) _ _ (λ t a m. absurd (cc))
    (holds_in_both_branches P (not (number == expected)) _ _ (λ t a m. absurd (cc))
    (holds_in_both_branches P (nat_lt c.capacity (length before + length body)) _ _ (λ t a m. absurd (cc)) (λ t a m. absurd (cc))))

-- The plan of a DNLOAD of 0 bytes leaves an image pending only if the DNLOAD closes the download.
close_needs_closing : (c : Profile) (taken : List ℕ) (expected number : ℕ) (may : Bool) → nat_le c.least (length taken) ≡ may
    → NeedsClosingRequest c (InDownloadIdle taken expected) (Dnload number []) (if may then ack_plan (InManifestSync taken) else error_plan
    ErrNotDone)
close_needs_closing c taken expected number true is = λ t a m. record {
  may = is;
  had = cc;
  number = number;
  asks = refl;
}
close_needs_closing c taken expected number false is = λ t a m. absurd (cc)

-- In dfuDNLOAD-IDLE, the plan of a DNLOAD leaves an image pending only if the DNLOAD closes the download.
further_block_needs_closing : (c : Profile) (taken : List ℕ) (expected number : ℕ) (body : List ℕ)
    → NeedsClosingRequest c (InDownloadIdle taken expected) (Dnload number body) (next_dnload_plan c taken expected number body)
further_block_needs_closing c taken expected number [] = close_needs_closing c taken expected number (nat_le c.least (length taken)) refl
further_block_needs_closing c taken expected number (b ∷ bs) = block_needs_closing c (InDownloadIdle taken expected) taken expected number
    (b ∷ bs)

-- The plan of an UPLOAD leaves no image pending.
upload_needs_closing : (c : Profile) (image : List ℕ) (st : Stage) (place expected number size : ℕ)
    → NeedsClosingRequest c st (Upload number size) (upload_plan c image place expected number size)
upload_needs_closing c image st place expected number size =
    let P : Plan → Type 0 = NeedsClosingRequest c st (Upload number size) in
    holds_in_both_branches P (size == 0) _ _ (λ t a m. absurd (cc))
    (holds_in_both_branches P (nat_lt c.transfer size) _ _ (λ t a m. absurd (cc))
    (holds_in_both_branches P (not (number == expected)) _ _ (λ t a m. absurd (cc))
    (holds_in_both_branches P (nat_lt (length (take size (drop place image))) size) _ _ (λ t a m. absurd (cc)) (λ t a m. absurd (cc)))))

-- In every stage, a plan leaves an image pending only for a request that closes the download.
pub row_needs_closing : (c : Profile) (image : List ℕ) (st : Stage) (r : Request) → NeedsClosingRequest c st r (plan c image st r)
row_needs_closing c image InDfuIdle (Dnload number body) =
    let P : Plan → Type 0 = NeedsClosingRequest c InDfuIdle (Dnload number body) in
    holds_in_both_branches P (not c.can_download) _ _ (λ t a m. absurd (cc))
    (holds_in_both_branches P (has_no_bytes body) _ _ (λ t a m. absurd (cc)) (block_needs_closing c InDfuIdle [] 0 number body))
row_needs_closing c image InDfuIdle (Upload number size) =
    holds_in_both_branches (NeedsClosingRequest c InDfuIdle (Upload number size)) c.can_upload _
    _
    (upload_needs_closing c image InDfuIdle 0 0 number size) (λ t a m. absurd (cc))
row_needs_closing c image (InDownloadSync before block number) GetStatus =
    holds_in_both_branches (NeedsClosingRequest c (InDownloadSync before block number) GetStatus) (c.busy == 0) _ _ (λ t m. absurd (cc))
    (λ t a m.
    absurd (cc))
row_needs_closing c image (InDownloadIdle taken number) (Dnload k body) = further_block_needs_closing c taken number k body
row_needs_closing c image (InManifestSync taken) GetStatus =
    holds_in_both_branches (NeedsClosingRequest c (InManifestSync taken) GetStatus) (c.manifest == 0) _ _ (λ t m. absurd (cc))
    (λ t a m. absurd (cc))
row_needs_closing c image (InUploadIdle place number) (Upload k size) = upload_needs_closing c image (InUploadIdle place number) place
    number k size
row_needs_closing c image st GetState = λ t a m. absurd (cc)
row_needs_closing c image st r = λ t a m. absurd (cc)
