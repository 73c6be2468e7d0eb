-- The phase fact of a live session: the state of the device in each phase, which every event preserves.
use Rattle.std.specs.Prelude.{[], ◌%◌, take, ◌≡◌, ℕ, suc, ◌<◌, IsTrue, List, ◌++◌, length}
use Rattle.dfu_host.specs.declared.report.Report.{Report}
use Rattle.dfu_host.specs.declared.report.Report.TheVariants.{Installed, Verified}
use Rattle.dfu_host.specs.Blocks.{blocks, first_blocks}
use Rattle.dfu_device.specs.Stage.{Profile, Stage, InAppIdle, InDfuIdle, InDownloadSync, InDownloadSyncWritten, InDownloadBusy, InDownloadIdle, InManifestSync, InManifestSyncComplete, InManifest, InManifestWaitReset, InUploadIdle, InError}
use Rattle.dfu_device.specs.Outcome.{Situation}
use Rattle.dfu_host.specs.Phases.{Goal, LoadGoal, FetchGoal, VerifyGoal, CompareGoal, Task, Phase, Block, Ask, Poll, WaitPoll, Close, AskLast, Manifest, WaitManifest, WaitLast, Fetch, LastUploaded, Compare, Last, Over, OverUploaded}
use Rattle.dfu_host.specs.CommonPhases.{IsCommonPhase}
use Rattle.dfu_host.specs.Host.{HostState, IsLivePhase}
use Rattle.dfu_sim.specs.Session.{PromisesNothing}
use Rattle.dfu_sim.specs.LinkView.{Session, NoLiveSession, HostSession}

-- Definitions of the facts of the device, by phase.

-- The device is in dfuIDLE.
abbrev pub IsDfuIdle : Stage → Type 0
IsDfuIdle InDfuIdle = Unit {0}
IsDfuIdle stage = ⊥

-- The device is in appIDLE.
abbrev pub IsAppIdle : Stage → Type 0
IsAppIdle InAppIdle = Unit {0}
IsAppIdle stage = ⊥

-- Phase `Block n`: the device has taken the first n blocks and expects the next one.
abbrev pub IsAtBlock : List ℕ → (t n : ℕ) → Stage → Type 0
IsAtBlock p t n InDfuIdle = n ≡ 0
IsAtBlock p t n (InDownloadIdle taken number) = (0 < n) × (taken ≡ first_blocks p t n)
IsAtBlock p t n stage = ⊥

-- Phase `Ask n`: the device has taken the first n blocks and expects the next one; or it has taken block n too (counted from 0) and not
-- written it; or it is in dfuERROR.
abbrev pub MayBeAtBlock : List ℕ → (t n : ℕ) → Stage → Type 0
MayBeAtBlock p t n InDfuIdle = n ≡ 0
MayBeAtBlock p t n (InDownloadIdle taken number) = (0 < n) × (taken ≡ first_blocks p t n)
MayBeAtBlock p t n (InDownloadSync before block number) = before ++ block ≡ first_blocks p t (suc n)
MayBeAtBlock p t n (InError code) = Unit {0}
MayBeAtBlock p t n stage = ⊥

-- Phases `Poll` and `WaitPoll`: the device has taken the bytes x, which are the blocks up to the polled one; or it is in dfuERROR.
abbrev pub BlockAccepted : List ℕ → Stage → Type 0
BlockAccepted x (InDownloadSync before block number) = before ++ block ≡ x
BlockAccepted x (InDownloadSyncWritten taken number) = taken ≡ x
BlockAccepted x (InDownloadBusy before block number passed) = before ++ block ≡ x
BlockAccepted x (InDownloadIdle taken number) = taken ≡ x
BlockAccepted x (InError code) = Unit {0}
BlockAccepted x stage = ⊥

-- Phase `Close`: the device has taken the whole payload, and the download is still open.
abbrev pub WholePayloadAccepted : List ℕ → Stage → Type 0
WholePayloadAccepted p (InDownloadIdle taken number) = taken ≡ p
WholePayloadAccepted p stage = ⊥

-- Phase `AskLast`: the device has taken the whole payload, and the download is open or closed; or the device is in dfuERROR.
abbrev pub MayBeAtLastBlock : List ℕ → Stage → Type 0
MayBeAtLastBlock p (InDownloadIdle taken number) = taken ≡ p
MayBeAtLastBlock p (InManifestSync taken) = taken ≡ p
MayBeAtLastBlock p (InError code) = Unit {0}
MayBeAtLastBlock p stage = ⊥

-- Phases `Manifest` and `WaitManifest`: the download of the whole payload is closed, or the payload is the active image, or the device is
-- in dfuERROR.
abbrev pub IsManifesting : List ℕ → (image : List ℕ) → Stage → Type 0
IsManifesting p image (InManifestSync taken) = taken ≡ p
IsManifesting p image (InManifest taken passed) = taken ≡ p
IsManifesting p image InManifestSyncComplete = image ≡ p
IsManifesting p image InDfuIdle = image ≡ p
IsManifesting p image InManifestWaitReset = image ≡ p
IsManifesting p image (InError code) = Unit {0}
IsManifesting p image stage = ⊥

-- Meaning of a report at the end of a session with a payload. With Verified the payload is active, and P holds for the device's stage. With
-- Installed the device is tolerant too. Any other report promises nothing.
abbrev pub ReportMeaning : Profile → List ℕ → Situation → (Stage → Type 0) → Report → Type 0
ReportMeaning c p s P Installed = IsTrue c.tolerant × (s.image ≡ p) × P s.stage
ReportMeaning c p s P Verified = (s.image ≡ p) × P s.stage
ReportMeaning c p s P report = PromisesNothing report

-- Phase `Fetch k`: the kept bytes are the active image up to the device's offset, and the device expects block number k modulo 65,536.
abbrev pub FetchedSoFar : (k : ℕ) → (kept image : List ℕ) → Stage → Type 0
FetchedSoFar k kept image InDfuIdle = (k ≡ 0) × (kept ≡ [])
FetchedSoFar k kept image (InUploadIdle place number) = (0 < k) × (number ≡ k % 65536) × (kept ≡ take place image)
FetchedSoFar k kept image stage = ⊥

-- Definitions of the phase fact, by phase and goal.

-- Fact of a phase of a download, also of one that is to be verified. The phases of an upload and of a comparison do not occur. In the
-- phases that all sessions share, nothing is known about the device.
abbrev pub PhaseFact : Profile → List ℕ → Phase → Situation → Type 0
PhaseFact c p (Block n) s = (n < length (blocks p c.transfer)) × IsAtBlock p c.transfer n s.stage
PhaseFact c p (Ask n) s = (n < length (blocks p c.transfer)) × MayBeAtBlock p c.transfer n s.stage
PhaseFact c p (Poll n) s = (n < length (blocks p c.transfer)) × BlockAccepted (first_blocks p c.transfer (suc n)) s.stage
PhaseFact c p (WaitPoll n poll) s = (n < length (blocks p c.transfer)) × BlockAccepted (first_blocks p c.transfer (suc n)) s.stage
PhaseFact c p Close s = WholePayloadAccepted p s.stage
PhaseFact c p AskLast s = MayBeAtLastBlock p s.stage
PhaseFact c p Manifest s = IsManifesting p s.image s.stage
PhaseFact c p (WaitManifest poll) s = IsManifesting p s.image s.stage
PhaseFact c p (WaitLast poll) s = Unit {0}
PhaseFact c p (Last report) s = ReportMeaning c p s IsDfuIdle report
PhaseFact c p (Over report) s = ReportMeaning c p s IsAppIdle report
PhaseFact c p phase s = IsCommonPhase phase

-- Fact of a phase of an upload. The phases of a download and of a comparison do not occur.
abbrev pub FetchFact : Phase → Situation → Type 0
FetchFact (Fetch k kept) s = (k < 65535) × FetchedSoFar k kept s.image s.stage
FetchFact (LastUploaded kept) s = (kept ≡ s.image) × IsDfuIdle s.stage
FetchFact (OverUploaded kept) s = kept ≡ s.image
FetchFact (Over report) s = PromisesNothing report
FetchFact phase s = IsCommonPhase phase

-- Fact of a phase of a comparison: the first k blocks are the active image up to the device's offset. The phases of a download and of an
-- upload do not occur.
abbrev pub CompareFact : Profile → List ℕ → Phase → Situation → Type 0
CompareFact c p (Compare k) s = (k < 65535) × FetchedSoFar k (first_blocks p c.transfer k) s.image s.stage
CompareFact c p (Last report) s = ReportMeaning c p s IsDfuIdle report
CompareFact c p (Over report) s = ReportMeaning c p s IsAppIdle report
CompareFact c p phase s = IsCommonPhase phase

-- Fact of a phase, by the goal of its session.
abbrev pub GoalFact : Profile → Goal → Phase → Situation → Type 0
GoalFact c (LoadGoal p) phase s = PhaseFact c p phase s
GoalFact c FetchGoal phase s = FetchFact phase s
GoalFact c (VerifyGoal p) phase s = PhaseFact c p phase s
GoalFact c (CompareGoal p) phase s = CompareFact c p phase s

-- The payload of the session, if it has one, has at least one block.
abbrev pub HasBlocks : Profile → Goal → Type 0
HasBlocks c (LoadGoal p) = 0 < length (blocks p c.transfer)
HasBlocks c FetchGoal = Unit {0}
HasBlocks c (VerifyGoal p) = 0 < length (blocks p c.transfer)
HasBlocks c (CompareGoal p) = 0 < length (blocks p c.transfer)

-- The session's task has the values of the device's descriptor.
pub record TaskMatchesProfile (c : Profile) (task : Task) : Type 0 where
  pub transfer : task.transfer ≡ c.transfer
  pub tolerant : task.tolerant ≡ c.tolerant
  pub will_detach : task.will_detach ≡ c.will_detach
  pub detach_ms : task.detach_ms ≡ c.detach_ms

-- Fact of a live host: its task has the values of the device's descriptor, it is not done, its payload has at least one block, and its
-- phase agrees with the device.
pub record HostFact (c : Profile) (s : Situation) (h : HostState) : Type 0 where
  pub task_is : TaskMatchesProfile c h.task
  pub on : IsLivePhase h.phase
  pub some : HasBlocks c h.task.goal
  pub fact : GoalFact c h.task.goal h.phase s

-- Phase fact of a link: the fact of its live host. If no session is live, the phase fact always holds.
abbrev pub SessionFact : Profile → Situation → Session → Type 0
SessionFact c s NoLiveSession = Unit {0}
SessionFact c s (HostSession h) = HostFact c s h
