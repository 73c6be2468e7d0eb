-- Bytes of an image that a session has read back since it last wrote them.
use Rattle.std.specs.Prelude.{◌≡◌, ℕ, ◌<◌, ◌≤◌, ◌⊎◌, true, List, [], ◌∷◌}
use Rattle.dfu_formats.specs.declared.dfuse.element.Element.{Element}
use Rattle.dfuse_host.specs.declared.plan.Plan.{Plan}
use Rattle.dfuse_host.specs.declared.phase.Phase.{Phase}
use Rattle.dfuse_host.specs.declared.phase.Phase.TheVariants.{On, Over}
use Rattle.dfuse_host.specs.declared.work.Work.{Work}
use Rattle.dfuse_host.specs.declared.work.Work.TheVariants as work
use Rattle.dfuse_host.specs.declared.step.Step.{Step}
use Rattle.dfuse_host.specs.declared.step.Step.TheVariants as step
use Rattle.dfuse_host.specs.declared.heard.Heard.{Heard}
use Rattle.dfuse_host.specs.declared.heard.Heard.TheVariants as heard
use Rattle.dfuse_host.specs.declared.report.Report.{Report}
use Rattle.dfuse_host.specs.declared.report.Report.TheVariants as report
use Rattle.dfuse_host.specs.declared.session.Session.{Session}
use Rattle.dfuse_host.specs.Images.{end_of}
use Rattle.dfuse_host.specs.Plans.{front_end, read_end}
use Rattle.dfuse_host.specs.Commands.{end_of_work}
use Rattle.dfuse_host.specs.Deeds.{stands_at}
use Rattle.dfuse_host.specs.Refusing.{apart_from}
use Rattle.dfuse_host.specs.Sessions.{session_after_heard}

-- The image has a byte at the address.
abbrev pub HasByte : ℕ → List Element → Type 0
HasByte a [] = ⊥
HasByte a (e ∷ es) = ((e.address ≤ a) × (a < end_of e)) ⊎ HasByte a es

-- During this work, the byte at the address counts as read back: the session compared it, and has sent nothing since that may change it.
abbrev pub WasReadInWork : Plan → Work → ℕ → Type 0
WasReadInWork plan (work.Erase at) a = ⊥
WasReadInWork plan (work.EraseAgain page end) a = ⊥
WasReadInWork plan (work.Write at end) a = ⊥
WasReadInWork plan (work.Compare at) a = (front_end plan ≤ a) × (a < at)
WasReadInWork plan (work.WriteFront at) a = front_end plan ≤ a
WasReadInWork plan (work.CompareFront at) a = (front_end plan ≤ a) ⊎ (a < at)
WasReadInWork plan work.Leave a = Unit {0}

-- The report is Verified, which means that the session read back every byte of the image.
abbrev pub IsReadBackReport : Report → Type 0
IsReadBackReport (report.Verified leaving) = Unit {0}
IsReadBackReport r = ⊥

-- In this phase, the byte at the address counts as read back.
abbrev pub WasReadInPhase : Plan → Phase → ℕ → Type 0
WasReadInPhase plan (On s) a = WasReadInWork plan s.work a
WasReadInPhase plan (Over r) a = IsReadBackReport r

-- The result at this step is a comparison that found equal bytes, and these bytes include the one at the address.
abbrev pub ReadsBack : Plan → Work → Step → Heard → ℕ → Type 0
ReadsBack plan w step.Read (heard.Compared true) a = (stands_at w ≤ a) × (a < read_end plan (stands_at w) (end_of_work plan w))
ReadsBack plan w s h a = ⊥

-- The result in this phase is a comparison that found equal bytes, and these bytes include the one at the address.
abbrev pub PhaseReadsBack : Plan → Phase → Heard → ℕ → Type 0
PhaseReadsBack plan (On s) h a = ReadsBack plan s.work s.step h a
PhaseReadsBack plan (Over r) h a = ⊥

-- At the step of the leave request (a DNLOAD without bytes) and at the two steps after it, the work is Leave, which follows the comparison.
abbrev pub ClosesAfterCompare : Work → Step → Type 0
ClosesAfterCompare w step.Close = w ≡ work.Leave
ClosesAfterCompare w step.CloseProbe = w ≡ work.Leave
ClosesAfterCompare w step.ClosePoll = w ≡ work.Leave
ClosesAfterCompare w s = Unit {0}

-- If the session has reached the leave request in this phase, the work is Leave, which follows the comparison.
abbrev pub PhaseClosesAfterCompare : Phase → Type 0
PhaseClosesAfterCompare (On s) = ClosesAfterCompare s.work s.step
PhaseClosesAfterCompare (Over r) = Unit {0}

-- After any result, a byte of the image counts as read back only if it did before or if the session read it back with this result. For
-- example, a session that ends as Verified has read back each byte of the image since the last write of this byte. The image's elements
-- must ascend and not overlap, and the session must not reach the leave request before the comparison is complete.
abbrev pub OnlyReadBack : Type 0
OnlyReadBack =
    (s : Session) (h : Heard) (a : ℕ) → apart_from 0 s.plan.image.now ≡ true → HasByte a s.plan.image.now →
    PhaseClosesAfterCompare s.phase →
    WasReadInPhase s.plan (session_after_heard s h).phase a → WasReadInPhase s.plan s.phase a ⊎ PhaseReadsBack s.plan s.phase h a

-- If a session reaches the leave request only after the comparison, this stays true after any result.
abbrev pub AlwaysClosesAfterCompare : Type 0
AlwaysClosesAfterCompare = (s : Session) (h : Heard) → PhaseClosesAfterCompare s.phase →
    PhaseClosesAfterCompare (session_after_heard s h).phase
