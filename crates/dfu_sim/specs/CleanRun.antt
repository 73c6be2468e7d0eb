-- The clean run: a download, verified or not, in which nothing is lost, nothing fails and no time is wasted, with its exact number of
-- actions.
use Rattle.std.specs.Prelude.{◌≡◌, ℕ, suc, ◌+◌, ◌-◌, ◌/◌, ◌<◌, ◌≤◌, Bool, true, List, length, Some, None}
use Rattle.dfu_host.specs.declared.limits.Limits.{Limits}
use Rattle.dfu_host.specs.declared.report.Report.{Report}
use Rattle.dfu_host.specs.declared.report.Report.TheVariants.{Installed, Verified}
use Rattle.dfu_host.specs.Blocks.{blocks}
use Rattle.dfu_host.specs.Clean.{clean}
use Rattle.dfu_device.specs.Stage.{Profile, InAppIdle}
use Rattle.dfu_device.specs.Outcome.{Luck, Works}
use Rattle.dfu_sim.specs.declared.offering.Purpose.{Purpose}
use Rattle.dfu_sim.specs.declared.offering.Purpose.TheVariants.{Install, Verify}
use Rattle.dfu_sim.specs.Happening.{Pass, Offers, Goes, no_write_harmed}
use Rattle.dfu_sim.specs.Play.{Link, Answered, silent, play_of_event}
use Rattle.dfu_sim.specs.LinkView.{NoLiveSession}

-- A pass leads from one link to another if the first write succeeds, for any second luck of the medium, and with or without memory.
abbrev pub PassesTo : Profile → Link → Link → Answered → Type 0
PassesTo c w w' answer = (other : Luck) (room : Bool) → play_of_event c w (Goes Pass no_write_harmed) Works other room
    ≡ record { link = w'; answer = answer }

-- A chain of n passes without a report leads from one link to another.
pub data QuietPasses (c : Profile) : Link → ℕ → Link → Type 0 where
  here : {w : Link} → QuietPasses c w 0 w
  there : {w mid w' : Link} {n : ℕ} → PassesTo c w mid silent → QuietPasses c mid n w' → QuietPasses c w (suc n) w'

-- A link with no session whose device is in appIDLE with this image active.
abbrev pub resting_link : List ℕ → Link
resting_link image = record { device = record { image = image; stage = InAppIdle }; session = NoLiveSession }

-- Number of actions of a clean run. A verified run takes 6 more than the download, and one more for each full block of the payload.
abbrev pub clean_actions_of_purpose : Purpose → (t busy manifest : ℕ) → List ℕ → ℕ
clean_actions_of_purpose Install t busy manifest payload = clean (length (blocks payload t)) busy manifest
clean_actions_of_purpose Verify t busy manifest payload = clean (length (blocks payload t)) busy manifest + 6 + length payload / t

-- Report at the end of a clean run.
abbrev pub report_of_purpose : Purpose → Report
report_of_purpose Install = Installed
report_of_purpose Verify = Verified

-- A payload that is to be verified has fewer than 65,535 full blocks.
abbrev pub ComparesFewBlocks : Purpose → (t : ℕ) → List ℕ → Type 0
ComparesFewBlocks Install t payload = Unit {0}
ComparesFewBlocks Verify t payload = length payload / t < 65535

-- The device downloads, and it uploads too if the payload is to be verified.
abbrev pub ProfileServesPurpose : Purpose → Profile → Type 0
ProfileServesPurpose Install c = c.can_download ≡ true
ProfileServesPurpose Verify c = (c.can_download ≡ true) × (c.can_upload ≡ true)

-- Pass number `count` makes the report `report`, and the earlier passes report nothing. Pass number `count` leaves the device in appIDLE
-- with the payload active and no session.
pub record InstalledAfter (c : Profile) (w : Link) (count : ℕ) (payload : List ℕ) (report : Report) : Type 0 where
  pub before : Link
  pub quiet : QuietPasses c w (count - 1) before
  pub last : PassesTo c before (resting_link payload) (record { report = Some report; gave = None })

-- A clean run. The device is tolerant, serves the purpose, and is in appIDLE with no session; its blocks have at least one byte. The
-- payload has at least one byte, at least the least length and at most the capacity, and fewer than 65,535 full blocks if it is to be
-- verified. The limits allow enough actions. Then the last of the clean run's passes after the offer gives its report, and the earlier ones
-- report nothing.
abbrev pub CleanRun : Type 0
CleanRun = (c : Profile) (purpose : Purpose) (image payload : List ℕ) (limits : Limits) → c.tolerant ≡ true → ProfileServesPurpose purpose c
    → 0 < c.transfer
    → 0 < length payload → c.least ≤ length payload → length payload ≤ c.capacity → ComparesFewBlocks purpose c.transfer payload
    → clean_actions_of_purpose purpose c.transfer c.busy c.manifest payload ≤ limits.actions
    → (other : Luck) (room : Bool) → InstalledAfter c (play_of_event c (resting_link image) (Offers purpose payload limits) Works other
    room).link
    (clean_actions_of_purpose purpose c.transfer c.busy c.manifest payload) payload (report_of_purpose purpose)
