-- The session machine: everything on which a user of the link relies, without a state of the standard, a stall, a timer or a slot.
use Rattle.std.specs.Prelude.{◌≡◌, ◌≢◌, ◌⊎◌, ℕ, suc, ◌<◌, Bool, IsTrue, List, [], ◌∷◌, ◌++◌, length, Option, Some, None}
use Rattle.dfu_host.specs.declared.report.Report.{Report}
use Rattle.dfu_host.specs.declared.report.Report.TheVariants.{Installed, Unconfirmed, Aborted, GaveUp, Refused, RestartsSpent, Uploaded, TooManyBlocks, NoMemory, Verified, Different}
use Rattle.dfu_host.specs.Blocks.{blocks, first_blocks}

-- Live session of a machine: none, one that installs or compares a payload, or one that uploads the active image.
pub data LiveSession : Type 0 where
  NothingLive : LiveSession
  LoadingPayload : (payload : List ℕ) → LiveSession
  Fetching : LiveSession

-- State of the session machine.
pub record Machine : Type 0 where
  pub cur : List ℕ  -- the active image
  pub offers : List (List ℕ)  -- the payloads offered so far
  pub pending : Option (List ℕ)  -- the bytes of an image taken so far, or None
  pub live : LiveSession  -- the live session
  pub up : List ℕ  -- the bytes of the last upload

-- The bytes are an element of the list.
abbrev pub IsOneOf : List ℕ → List (List ℕ) → Type 0
IsOneOf x [] = ⊥
IsOneOf x (y ∷ ys) = (x ≡ y) ⊎ IsOneOf x ys

-- The pending bytes are the first n blocks of the payload, joined. If n is 0, no bytes are pending.
abbrev pub AreFirstBlocks : List ℕ → (t n : ℕ) → Option (List ℕ) → Type 0
AreFirstBlocks p t n None = n ≡ 0
AreFirstBlocks p t n (Some taken) = (0 < n) × (taken ≡ first_blocks p t n)

-- Definitions for the steps of the session machine.

-- A step takes the next block of the live payload, installs a whole payload that was offered, or does neither.
pub data TakesOrInstalls (t : ℕ) : Machine → Machine → Type 0 where
  takes_nothing : {m : Machine} → TakesOrInstalls t m m
  takes : {m : Machine} {p : List ℕ} (n : ℕ) → m.live ≡ LoadingPayload p → n < length (blocks p t) → AreFirstBlocks p t n m.pending
      → TakesOrInstalls t m (record m { pending = Some (first_blocks p t (suc n)) })
  installs : {m : Machine} {x : List ℕ} → m.pending ≡ Some x → IsOneOf x m.offers
      → TakesOrInstalls t m (record m { cur = x; pending = None })

-- A step drops the pending bytes, or keeps them.
pub data MayDrop : Machine → Machine → Type 0 where
  drops_nothing : {m : Machine} → MayDrop m m
  drops : {m : Machine} → MayDrop m (record m { pending = None })

-- The report promises nothing: it is not Installed, Uploaded or Verified.
abbrev pub PromisesNothing : Report → Type 0
PromisesNothing Installed = ⊥
PromisesNothing Uploaded = ⊥
PromisesNothing Unconfirmed = Unit {0}
PromisesNothing Aborted = Unit {0}
PromisesNothing GaveUp = Unit {0}
PromisesNothing (Refused code) = Unit {0}
PromisesNothing RestartsSpent = Unit {0}
PromisesNothing TooManyBlocks = Unit {0}
PromisesNothing NoMemory = Unit {0}
PromisesNothing Verified = ⊥
PromisesNothing Different = Unit {0}

-- A step reports nothing, or ends the session with a report. Verified is reported only if the live payload is the active image and nothing
-- is pending, and Installed only if the device is tolerant too. Uploaded ends an upload, and its bytes are the active image. Any other
-- report needs a live session and promises nothing.
pub data ReportStep (tolerant : Bool) : Machine → Option Report → Machine → Type 0 where
  reports_nothing : {m : Machine} → ReportStep tolerant m None m
  reports_installed : {m : Machine} → m.live ≡ LoadingPayload m.cur → m.pending ≡ None → IsTrue tolerant
      → ReportStep tolerant m (Some Installed) (record m { live = NothingLive })
  reports_verified : {m : Machine} → m.live ≡ LoadingPayload m.cur → m.pending ≡ None →
      ReportStep tolerant m (Some Verified) (record m { live = NothingLive })
  reports_uploaded : {m : Machine} → m.live ≡ Fetching → ReportStep tolerant m (Some Uploaded) (record m { live = NothingLive; up = m.cur })
  reports_no_promise : {m : Machine} {report : Report} → PromisesNothing report → m.live ≢ NothingLive
      → ReportStep tolerant m (Some report) (record m { live = NothingLive })

-- Definitions for the steps that an event allows.

-- Kinds of events: the offer of a payload, the start of an upload, an abort, time that passes, a restart of the device, a refusal by the
-- device's program, and one action of the host.
pub data Kind : Type 0 where
  OfferKind : (payload : List ℕ) → Kind
  UploadKind : Kind
  AbortKind : Kind
  TimeKind : Kind
  RestartKind : Kind
  RefusalKind : Kind
  ActionKind : Kind

-- The report means that the payload is in place: it is Installed or Verified.
abbrev pub IsInPlaceReport : Option Report → Type 0
IsInPlaceReport (Some Installed) = Unit {0}
IsInPlaceReport (Some Verified) = Unit {0}
IsInPlaceReport report = ⊥

-- Nothing is reported, or a report that promises nothing.
abbrev pub ReportsNoPromise : Option Report → Type 0
ReportsNoPromise None = Unit {0}
ReportsNoPromise (Some report) = PromisesNothing report

-- Step of the session machine for an event of each kind. An offer and an upload begin a session if none is live; an abort changes nothing
-- yet; time installs pending bytes that were offered, or changes nothing. A restart drops the pending bytes, and then makes at most a
-- report that promises nothing. A refusal may drop the pending bytes. An action of the host takes a block or installs at most once, then
-- may drop the pending bytes, and then makes at most one report.
pub data MachineStep (tolerant : Bool) (t : ℕ) : Kind → Machine → Option Report → Machine → Type 0 where
  offered : {m : Machine} {p : List ℕ} → m.live ≡ NothingLive
      → MachineStep tolerant t (OfferKind p) m None (record m { offers = p ∷ m.offers; live = LoadingPayload p })
  uploads : {m : Machine} → m.live ≡ NothingLive → MachineStep tolerant t UploadKind m None (record m { live = Fetching })
  aborts : {m : Machine} → MachineStep tolerant t AbortKind m None m
  passes : {m : Machine} → MachineStep tolerant t TimeKind m None m
  time_installs_pending : {m : Machine} {x : List ℕ} → m.pending ≡ Some x → IsOneOf x m.offers
      → MachineStep tolerant t TimeKind m None (record m { cur = x; pending = None })
  restarts : {m m' : Machine} {report : Option Report} → ReportStep tolerant (record m { pending = None }) report m'
      → ReportsNoPromise report
      → MachineStep tolerant t RestartKind m report m'
  refuses : {m m' : Machine} → MayDrop m m' → MachineStep tolerant t RefusalKind m None m'
  goes : {m m1 m2 m' : Machine} {report : Option Report} → TakesOrInstalls t m m1 → MayDrop m1 m2 → ReportStep tolerant m2 report m'
      → MachineStep tolerant t ActionKind m report m'

-- A report as a list of one, or the empty list for no report.
abbrev pub report_list : Option Report → List Report
report_list None = []
report_list (Some report) = report ∷ []

-- A legal run: one legal step for each event, with the reports in their order.
pub data Legal (tolerant : Bool) (t : ℕ) : Machine → List Kind → List Report → Machine → Type 0 where
  stops : {m : Machine} → Legal tolerant t m [] [] m
  and_then : {m mid m' : Machine} {kind : Kind} {kinds : List Kind} {report : Option Report} {reports : List Report}
      → MachineStep tolerant t kind m report mid → Legal tolerant t mid kinds reports m'
      → Legal tolerant t m (kind ∷ kinds) (report_list report ++ reports) m'
