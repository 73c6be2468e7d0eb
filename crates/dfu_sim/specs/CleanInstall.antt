-- The clean run of a link: a download, verified or not, in which nothing is lost and no time is wasted, with its exact number of passes.
use Rattle.std.specs.Prelude.{◌≡◌, ℕ, ◌<◌, ◌≤◌, true, List, [], ◌∷◌, length, replicate, Result, Ok, Err}
use Rattle.std.specs.declared.vec.Vec.{Vec}
use Rattle.std.specs.declared.alloc.Global.{Global}
use Rattle.dfu_slots.specs.StoreView.{room_of}
use Rattle.dfu_device.specs.Stage.{InAppIdle}
use Rattle.dfu_device.specs.Setting.{Setting}
use Rattle.dfu_host.specs.declared.limits.Limits.{Limits}
use Rattle.dfu_host.specs.declared.report.Report.{Report}
use Rattle.dfu_sim.specs.declared.fault.LinkFault.TheVariants.{NoMemory}
use Rattle.dfu_sim.specs.declared.running.Stop.{Stop}
use Rattle.dfu_sim.specs.declared.offering.Purpose.{Purpose}
use Rattle.dfu_sim.specs.Happening.{Pass, Happening, Offers, Goes, no_write_harmed}
use Rattle.dfu_sim.specs.LinkView.{NoLiveSession, LinkView}
use Rattle.dfu_sim.specs.Bytes.{link_of_bench}
use Rattle.dfu_sim.specs.CleanRun.{clean_actions_of_purpose, report_of_purpose, ComparesFewBlocks, resting_link}
use Rattle.dfu_sim.specs.Refusing.{IsOffered}

-- Number of passes that install a payload on a device with this setting, and verify it if that is the purpose.
abbrev pub clean_passes : Purpose → Setting → List ℕ → ℕ
clean_passes purpose s payload = clean_actions_of_purpose purpose s.functional.transfer s.busy_ms s.manifest_ms payload

-- A file can be installed cleanly, and verified if that is the purpose. A tolerant device rests in appIDLE with no session and accepts the
-- file; the payload has at least the device's least length, at most its room, and fewer than 65,535 full blocks if it is to be verified;
-- and the limits allow enough actions.
pub record CanInstall (b : LinkView) (purpose : Purpose) (file : List ℕ) (limits : Limits) (payload : List ℕ) : Type 0 where
  pub free : b.session ≡ NoLiveSession
  pub rests : b.device.stage ≡ InAppIdle
  pub tolerant : b.device.config.functional.tolerant ≡ true
  pub offered : IsOffered b.device.config purpose file payload
  pub least : b.device.config.least ≤ length payload
  pub room : length payload ≤ room_of b.device.slots
  pub parts : ComparesFewBlocks purpose b.device.config.functional.transfer payload
  pub enough : clean_passes purpose b.device.config payload ≤ limits.actions

-- Events of a clean run: an offer, and then `count` passes.
abbrev pub offer_and_passes : Purpose → List ℕ → Limits → ℕ → List Happening
offer_and_passes purpose file limits count = Offers purpose file limits ∷ replicate count (Goes Pass no_write_harmed)

-- With fewer passes than a clean run takes, nothing is reported. With exactly as many, the last pass reports Installed or Verified, and the
-- device is in appIDLE with the payload active.
pub record InstallsCleanly (b : LinkView) (purpose : Purpose) (payload : List ℕ) (count : ℕ) (reports : List Report) (b' : LinkView)
    : Type 0 where
  pub early : count < clean_passes purpose b.device.config payload → reports ≡ []
  pub reported : count ≡ clean_passes purpose b.device.config payload → reports ≡ report_of_purpose purpose ∷ []
  pub installed : count ≡ clean_passes purpose b.device.config payload → link_of_bench b' ≡ resting_link payload

-- Result of a clean run: its reports, or NoMemory before anything was reported.
abbrev pub CleanRunResult : LinkView → Purpose → List ℕ → ℕ → LinkView → Result (Vec Report Global) Stop → Type 0
CleanRunResult b purpose payload count b' (Ok reports) = InstallsCleanly b purpose payload count reports.items b'
CleanRunResult b purpose payload count b' (Err stop) = (stop.fault ≡ NoMemory) × (stop.reports.items ≡ [])

-- A run of an offer and at most the passes of a clean run has the result of a clean run.
abbrev pub RunsCleanly : LinkView → List Happening → LinkView → Result (Vec Report Global) Stop → Type 0
RunsCleanly b hs b' result = (purpose : Purpose) (file : List ℕ) (limits : Limits) (payload : List ℕ) (count : ℕ)
    → CanInstall b purpose file limits payload → hs ≡ offer_and_passes purpose file limits count
    → count ≤ clean_passes purpose b.device.config payload → CleanRunResult b purpose payload count b' result
