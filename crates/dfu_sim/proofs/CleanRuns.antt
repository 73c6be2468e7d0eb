-- The clean run of a link, along a chain of events.
use Rattle.std.proofs.Common.{◌≡◌, ℕ, zero, suc, ◌-◌, ◌≤◌, Bool, true, List, [], ◌∷◌, ◌++◌, replicate, Option, Some, None, refl, sym, ap, ◌∙◌, subst, arith}
use Rattle.dfu_suffix.proofs.ForCallers.{one_reading}
use Rattle.dfu_device.specs.Stage.{Profile}
use Rattle.dfu_device.specs.Outcome.{Works}
use Rattle.dfu_device.specs.Setting.{Setting}
use Rattle.dfu_device.specs.DeviceView.{profile_of, profile}
use Rattle.dfu_host.specs.declared.limits.Limits.{Limits}
use Rattle.dfu_host.specs.declared.report.Report.{Report}
use Rattle.dfu_sim.specs.Session.{report_list}
use Rattle.dfu_sim.specs.declared.offering.Purpose.{Purpose}
use Rattle.dfu_sim.specs.declared.offering.Purpose.TheVariants.{Install, Verify}
use Rattle.dfu_sim.specs.Happening.{Pass, Happening, Offers, Goes, no_write_harmed}
use Rattle.dfu_sim.specs.Opening.{goal_of_purpose, opened}
use Rattle.dfu_sim.specs.Play.{Link, Answered, silent, PlayResult, play_of_event}
use Rattle.dfu_sim.specs.LinkView.{LinkView, WorldView}
use Rattle.dfu_sim.specs.Bytes.{link_of_bench}
use Rattle.dfu_sim.specs.CleanRun.{report_of_purpose, ProfileServesPurpose, PassesTo, QuietPasses, here, there, resting_link, InstalledAfter}
use Rattle.dfu_sim.specs.Refusing.{IsOffered}
use Rattle.dfu_sim.specs.Sure.{IsHarmless, IsResultOfPlay, EventFollowsTable}
use Rattle.dfu_sim.specs.CleanSteps.{StepsFollowTable, no_sure_step, one_step, StepsInstallCleanly}
use Rattle.dfu_sim.specs.CleanInstall.{clean_passes, CanInstall, offer_and_passes, InstallsCleanly}
use Rattle.dfu_sim.proofs.Clean.{clean_run, clean_run_takes_actions}
use Rattle.dfu_sim.proofs.Events.{offered_device_has_transfer, can_download, can_upload, bytes_of}
use Rattle.dfu_sim.proofs.Chains.{EventChain, empty_chain, one_more, same_setting_has_same_profile}

-- Each step of a chain follows the table of fates.
pub chain_steps_are_sure : {w w' : WorldView} {hs : List Happening} {reports : List Report} → EventChain w hs reports w'
    → StepsFollowTable w.bench hs reports w'.bench
chain_steps_are_sure empty_chain = no_sure_step
chain_steps_are_sure (one_more s more) = one_step s.sure (chain_steps_are_sure more)

-- Event in which the host's next action has the fate Pass, and no write is harmed.
abbrev pub pass : Happening
pass = Goes Pass no_write_harmed

-- If two events are equal, and one has the result of a play, the other has that result too.
event_plays_as_meant : (b mid : LinkView) (report : Option Report) (event now : Happening) → event ≡ now → IsHarmless now
    → (IsHarmless event → IsResultOfPlay b event mid report) → IsResultOfPlay b now mid report
event_plays_as_meant b mid report event now e harmless w =
    subst (λ (x : Happening). IsResultOfPlay b x mid report) e (w (subst IsHarmless (sym e) harmless))

-- The bench after an event shows the link `w`, and the report of the event is that of `answer`.
record LeadsToLink (mid : LinkView) (report : Option Report) (w : Link) (answer : Answered) : Type 0 where
  link : link_of_bench mid ≡ w
  told : report ≡ answer.report

-- If the table gives one link and one answer for an event, with memory or without, the event leads to that link and its report.
sure_event_leads_to_play : (b mid : LinkView) (report : Option Report) (event : Happening) (c : Profile) (w : Link) (answer : Answered)
    → profile b.device ≡ c
    → IsResultOfPlay b event mid report
    → ((room : Bool) → play_of_event c (link_of_bench b) event Works Works room ≡ record { link = w; answer = answer }) →
    LeadsToLink mid report w answer
sure_event_leads_to_play b mid report event c w answer e x f =
    let same : ◌≡◌ {A = PlayResult} (record { link = link_of_bench mid; answer = x.answer }) (record { link = w; answer = answer }) =
    sym x.same ∙ ap (λ (d : Profile). play_of_event d (link_of_bench b) event Works Works x.room) e ∙ f x.room in
    record { link = ap (λ (p : PlayResult). p.link) same; told = x.told ∙ ap (λ (p : PlayResult). p.answer.report) same }

-- A pass leads to the link and the report that the table gives for it.
sure_pass_leads_to_link : (b mid : LinkView) (report : Option Report) (c : Profile) (w : Link) (answer : Answered) → profile b.device ≡ c
    → EventFollowsTable b pass mid report → PassesTo c (link_of_bench b) w answer → LeadsToLink mid report w answer
sure_pass_leads_to_link b mid report c w answer e s f = sure_event_leads_to_play b mid report pass c w answer e
    (event_plays_as_meant b mid report s.event pass s.means tt s.works)
    (λ room. f Works room)

-- Some quiet passes reported nothing, and n more quiet passes lead from the link after them to `end`.
pub record QuietPassesRan (c : Profile) (b' : LinkView) (reports : List Report) (n : ℕ) (end : Link) : Type 0 where
  pub none : reports ≡ []
  pub rest : QuietPasses c (link_of_bench b') n end
  pub fixed : profile b'.device ≡ c

-- If m passes report nothing, the first k of them report nothing, and m - k passes remain.
pub quiet_passes_report_nothing : {b b' : LinkView} {reports : List Report} {c : Profile} {end : Link} (k m : ℕ) → k ≤ m
    → StepsFollowTable b (replicate k pass) reports b' → profile b.device ≡ c → QuietPasses c (link_of_bench b) m end →
    QuietPassesRan c b' reports (m - k) end
quiet_passes_report_nothing {b = b} {c = c} {end = end} zero m h no_sure_step e q = record {
  none = refl;
  rest = let same : m ≡ m - 0 = omega arith in subst (λ (z : ℕ). QuietPasses c (link_of_bench b) z end) same q;
  fixed = e;
}
quiet_passes_report_nothing {b = b} {b' = b'} {c = c} {end = end} (suc k) (suc m) h (one_step {mid = mid} {report = report} {reports =
    later} s more) e
    (there {mid = w} p q) =
    let t = sure_pass_leads_to_link b mid report c w silent e s p in
    let rest = quiet_passes_report_nothing k m (omega (arith, h)) more (same_setting_has_same_profile b.device mid.device s.kept ∙ e)
    (subst (λ (z : Link). QuietPasses c z m end) (sym t.link) q) in
    record {
      none = ap (λ (r : Option Report). report_list r ++ later) t.told ∙ rest.none;
      rest = let same : m - k ≡ suc m - suc k = omega arith in subst (λ (z : ℕ). QuietPasses c (link_of_bench b') z end) same rest.rest;
      fixed = rest.fixed;
    }
quiet_passes_report_nothing (suc k) zero h chain e q = absurd (omega (arith, h))

-- Only the last pass made a report, and it led to the link `end`.
record LastPassReported (b' : LinkView) (reports : List Report) (end : Link) (report : Report) : Type 0 where
  says : reports ≡ report ∷ []
  link : link_of_bench b' ≡ end

-- If n passes are quiet, and the next one reports and leads to the link `end`, these n + 1 passes make only that report and lead to `end`.
last_pass_reports : {b b' : LinkView} {reports : List Report} {c : Profile} {before end : Link} {last : Report} (n : ℕ)
    → StepsFollowTable b (replicate (suc n) pass) reports b' → profile b.device ≡ c → QuietPasses c (link_of_bench b) n before
    → PassesTo c before end (record { report = Some last; gave = None }) → LastPassReported b' reports end last
last_pass_reports {b = b} {b' = b'} {c = c} {end = end} {last = last} zero (one_step {report = report} s no_sure_step) e here f =
    let t = sure_pass_leads_to_link b b' report c end (record { report = Some last; gave = None }) e s f in
    record { says = ap (λ (r : Option Report). report_list r ++ []) t.told; link = t.link }
last_pass_reports {b = b} {c = c} {before = before} (suc n) (one_step {mid = mid} {report = report} {reports = later} s more) e
    (there {mid = w} p q) f =
    let t = sure_pass_leads_to_link b mid report c w silent e s p in
    let rest = last_pass_reports n more (same_setting_has_same_profile b.device mid.device s.kept ∙ e)
    (subst (λ (z : Link). QuietPasses c z n before) (sym t.link) q)
    f in
    record { says = ap (λ (r : Option Report). report_list r ++ later) t.told ∙ rest.says; link = rest.link }

-- If a device accepts a file for a purpose, it downloads, and it also uploads if the file is to be verified.
offered_device_can_serve : (purpose : Purpose) {s : Setting} {file payload : List ℕ} (room : ℕ) → IsOffered s purpose file payload
    → ProfileServesPurpose purpose (profile_of s room)
offered_device_can_serve Install room offered = can_download offered
offered_device_can_serve Verify room offered = (can_download offered, can_upload offered)

-- A session was opened without a report. Quiet passes, and then one that reports, lead from the link after the opening to the end of a
-- clean run.
pub record SessionOpened (b : LinkView) (purpose : Purpose) (payload : List ℕ) (mid : LinkView) (report : Option Report) : Type 0 where
  pub before : Link
  pub quiet : QuietPasses (profile b.device) (link_of_bench mid) (clean_passes purpose b.device.config payload - 1) before
  pub last : PassesTo (profile b.device) before (resting_link payload) (record { report = Some (report_of_purpose purpose); gave = None })
  pub fixed : profile mid.device ≡ profile b.device
  pub told : report ≡ None

-- The offer of a file that can be installed begins its session, and reports nothing.
pub offer_opens_session : (b mid : LinkView) (report : Option Report) (purpose : Purpose) (file : List ℕ) (limits : Limits) (payload : List
    ℕ)
    → CanInstall b purpose file limits payload
    → EventFollowsTable b (Offers purpose file limits) mid report → SessionOpened b purpose payload mid report
offer_opens_session b mid report purpose file limits payload can s =
    let c : Profile = profile b.device in
    let n : ℕ = clean_passes purpose b.device.config payload in
    let image : List ℕ = (link_of_bench b).device.image in
    let offer : Happening = Offers purpose s.means.0 limits in
    let same : s.means.0 ≡ payload = (one_reading file s.means.0 payload _ _ _ _ _ _ s.means.1.reads can.offered.reads).0 in
    let start : Link = (play_of_event c (resting_link image) (Offers purpose payload limits) Works Works true).link in
    let lead : LeadsToLink mid report start silent =
    sure_event_leads_to_play b mid report offer c start silent refl (event_plays_as_meant b mid report s.event offer s.means.2 tt s.works)
    (λ room. λ i. record {
      link = record {
        device = record { image = image; stage = can.rests i };
        session = opened c (goal_of_purpose purpose (same i)) limits.actions limits.restarts;
      };
      answer = silent;
    }) in
    let run : InstalledAfter c start n payload (report_of_purpose purpose) =
    clean_run c purpose image payload limits can.tolerant (offered_device_can_serve purpose _ can.offered) (offered_device_has_transfer
    can.offered)
    (bytes_of can.offered) can.least can.room can.parts can.enough Works true in
    record {
      before = run.before;
      quiet = subst (λ (z : Link). QuietPasses c z (n - 1) run.before) (sym lead.link) run.quiet;
      last = run.last;
      fixed = same_setting_has_same_profile b.device mid.device s.kept;
      told = lead.told;
    }

-- If an offer and at most the passes of a clean run follow the table, they report what a clean run reports.
pub steps_install_cleanly : StepsInstallCleanly
steps_install_cleanly b b' purpose file limits payload count reports can most (one_step {mid = mid} {report = report} {reports = later} s
    more) =
    let n : ℕ = clean_passes purpose b.device.config payload in
    let x = offer_opens_session b mid report purpose file limits payload can s in
    let some : suc (n - 1) ≡ n = omega (
      arith,
      clean_run_takes_actions purpose b.device.config.functional.transfer b.device.config.busy_ms b.device.config.manifest_ms
          payload,
    ) in
    let ends : count ≡ n → LastPassReported b' later (resting_link payload) (report_of_purpose purpose) =
    λ k. last_pass_reports (n - 1) (subst (λ (z : ℕ). StepsFollowTable mid (replicate z pass) later b') (k
    ∙ sym some) more) x.fixed x.quiet x.last in
    record {
      early = λ less. ap (λ (r : Option Report). report_list r ++ later) x.told
          ∙ (quiet_passes_report_nothing count (n - 1) (omega (arith, less)) more x.fixed x.quiet).none;
      reported = λ k. ap (λ (r : Option Report). report_list r ++ later) x.told ∙ (ends k).says;
      installed = λ k. (ends k).link;
    }

-- A chain of an offer and at most the passes of a clean run reports what a clean run reports.
pub chain_runs_cleanly : {w w' : WorldView} {hs : List Happening} {reports : List Report} → EventChain w hs reports w'
    → (purpose : Purpose) (file : List ℕ) (limits : Limits) (payload : List ℕ) (count : ℕ) → CanInstall w.bench purpose file limits payload
    → hs ≡ offer_and_passes purpose file limits count → count ≤ clean_passes purpose w.bench.device.config payload
    → InstallsCleanly w.bench purpose payload count reports w'.bench
chain_runs_cleanly {w = w} {w' = w'} {reports = reports} chain purpose file limits payload count can is most =
    steps_install_cleanly w.bench w'.bench purpose file limits payload count reports can most
    (subst (λ (x : List Happening). StepsFollowTable w.bench x reports w'.bench) is (chain_steps_are_sure chain))
