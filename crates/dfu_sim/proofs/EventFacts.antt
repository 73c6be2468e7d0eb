-- Each event keeps a link steady, and the session machine follows it.
use Rattle.std.proofs.Common.{◌≡◌, ◌⊎◌, ℕ, ◌<◌, List, [], Option, Some, None, Result, Ok, Err, refl, sym, ap, ◌∙◌, subst, inl, inr}
use Rattle.dfu_slots.specs.Medium.Fuse.{Whole}
use Rattle.dfu_device.specs.Stage.{Profile}
use Rattle.dfu_device.specs.DeviceView.{DeviceView, profile, situation}
use Rattle.dfu_host.specs.declared.report.Report.{Report}
use Rattle.dfu_host.specs.declared.report.Report.TheVariants.{Uploaded}
use Rattle.dfu_device.specs.Setting.{Setting}
use Rattle.dfu_sim.specs.declared.fault.LinkFault.{LinkFault}
use Rattle.dfu_sim.specs.Session.{Machine, LoadingPayload}
use Rattle.dfu_sim.specs.Play.{kind_of, Answered, uploaded_after, MayHappen}
use Rattle.dfu_sim.specs.declared.delivery.MediumFault.{MediumFault}
use Rattle.dfu_sim.specs.declared.delivery.MediumFault.TheVariants.{NoWrite}
use Rattle.dfu_sim.specs.Delivery.{delivery_of}
use Rattle.dfu_sim.specs.Happening.{WriteHarm, Happening, Offers, Uploads, Goes, Passes, Resets, Cuts, Refuses}
use Rattle.dfu_sim.specs.LinkView.{Session, NoLiveSession, HostSession, LinkView, BenchMatchesFlash, WorldView, world_of_bench}
use Rattle.dfu_sim.specs.LinkAgreement.{Agrees}
use Rattle.dfu_sim.specs.Fact.{SessionFact}
use Rattle.dfu_sim.specs.Simulation.{StepIsFollowed}
use Rattle.dfu_sim.specs.Bytes.{fuse_of, link_of_bench, HappensOnBench, BytePlay}
use Rattle.dfu_sim.specs.Understood.{PlayIsShown, BenchImageIsActive}
use Rattle.dfu_sim.specs.EventResults.{EventMeaning, EventResult, refuses, happens, report_of_result, upload_of_result, WorldEventResult}
use Rattle.dfu_sim.specs.LinkInvariant.{SendsBytes, IsSteadyLink}
use Rattle.dfu_sim.specs.Following.{EventHasKind, AllMachinesFollow}
use Rattle.dfu_sim.specs.UploadResults.{UploadOrUnchanged, UploadsAreActive, RestIsSteady}
use Rattle.dfu_sim.specs.Sure.{HarmsNothing, IsHarmless, IsResultOfPlay, EventFollowsTableIfPlayed}
use Rattle.dfu_sim.proofs.Config.{event_keeps_config}
use Rattle.dfu_sim.proofs.Projected.{fuse_of_event, bytes_show, unharmed_play_works}
use Rattle.dfu_sim.proofs.EachEvent.{IsSized, event_has_needed_transfer, sized_play_is_followed}
use Rattle.dfu_sim.proofs.MachineReports.{uploaded_step_gives_active_image}
use Rattle.dfu_sim.proofs.Counted.{BytesFitReport, event_keeps_session_counted, event_answer_fits}
use Rattle.dfu_sim.proofs.Events.{offered_device_has_transfer}
use Rattle.dfu_sim.proofs.Uploads.{upload_device_has_transfer}
use Rattle.dfu_sim.proofs.AgreeingMachines.{session_machine_of_link, machine_agrees, bench_agrees_as_link, link_agrees_as_bench}

-- A caller's event has the same kind as its event in the play.
meaning_has_event_kind : (s : Setting) (h event : Happening) → EventMeaning s h event → EventHasKind h (kind_of event)
meaning_has_event_kind s (Offers purpose file limits) event m = (m.0, m.1.ids, m.1.dfu, m.1.extra, m.1.reads, ap kind_of m.2)
meaning_has_event_kind s (Uploads limits) event m = ap kind_of m.1
meaning_has_event_kind s h event m = ap kind_of m

-- If the event begins a session, the transfer size is at least one byte.
abbrev SessionEventKnowsSize : (t : ℕ) → Happening → Type 0
SessionEventKnowsSize t (Offers purpose payload limits) = 0 < t
SessionEventKnowsSize t (Uploads limits) = 0 < t
SessionEventKnowsSize t event = Unit {0}

meaning_knows_transfer_size : (s : Setting) (h event : Happening) → EventMeaning s h event →
    SessionEventKnowsSize s.functional.transfer event
meaning_knows_transfer_size s (Offers purpose file limits) event m = subst (SessionEventKnowsSize s.functional.transfer) (sym m.2)
    (offered_device_has_transfer m.1)
meaning_knows_transfer_size s (Uploads limits) event m = subst (SessionEventKnowsSize s.functional.transfer) (sym m.1)
    (upload_device_has_transfer s m.0)
meaning_knows_transfer_size s h event m = subst (SessionEventKnowsSize s.functional.transfer) (sym m) tt

-- The transfer size of a device is large enough for an event, if it is large enough for the sessions that the event begins and for the live
-- session.
sizes : (w : DeviceView) (session : Session) (event : Happening) → SessionEventKnowsSize w.config.functional.transfer event
    → SessionFact (profile w) (situation w) session → SendsBytes session → IsSized (profile w) session event
sizes w (HostSession host) event begins f z = event_has_needed_transfer (profile w) (HostSession host) event (subst (λ (n : ℕ). 0 < n)
    f.task_is.transfer z)
sizes w NoLiveSession (Offers purpose payload limits) begins f z = begins
sizes w NoLiveSession event begins f z = tt

-- After an event no session is live, or the transfer size is at least one byte.
live_session_knows_size : (w : DeviceView) (session : Session) (event : Happening) (b' : LinkView) (answer : Answered)
    → SessionEventKnowsSize w.config.functional.transfer event → SessionFact (profile w) (situation w) session → SendsBytes session
    → MayHappen session event → HappensOnBench event (record { device = w; session = session }) b' answer
    → (0 < (profile w).transfer) ⊎ (b'.session ≡ NoLiveSession)
live_session_knows_size w (HostSession host) event b' answer begins f z a x = inl (subst (λ (n : ℕ). 0 < n) f.task_is.transfer z)
live_session_knows_size w NoLiveSession (Offers purpose payload limits) b' answer begins f z a x = inl begins
live_session_knows_size w NoLiveSession (Uploads limits) b' answer begins f z a x = inl begins
live_session_knows_size w NoLiveSession (Passes ms) b' answer begins f z a x = inr x.1
live_session_knows_size w NoLiveSession Resets b' answer begins f z a x = inr (ap (λ (b : LinkView). b.session) x.0)
live_session_knows_size w NoLiveSession Cuts b' answer begins f z a x = inr (ap (λ (b : LinkView). b.session) x.0)
live_session_knows_size w NoLiveSession (Refuses why) b' answer begins f z a x = inr (ap (λ (b : LinkView). b.session) x.0)
live_session_knows_size w NoLiveSession event b' answer begins f z a x = elim a [ ]

known_size_sends_bytes : (c : Profile) (w : DeviceView) (session : Session) → SessionFact c (situation w) session →
    (0 < c.transfer) ⊎ (session ≡ NoLiveSession)
    → SendsBytes session
known_size_sends_bytes c w NoLiveSession f z = tt
known_size_sends_bytes c w (HostSession host) f (inl z) = subst (λ (n : ℕ). 0 < n) (sym f.task_is.transfer) z
known_size_sends_bytes c w (HostSession host) f (inr e) = absurd cc

-- Facts after one event that is a play in bytes on a steady link.
module _ {b b' : LinkView} {event : Happening} {answer : Answered} (steady : IsSteadyLink b)
    (begins : SessionEventKnowsSize b.device.config.functional.transfer event) (play : BytePlay b event b' answer) where
  -- The session machine follows a play in bytes.
  machine_follows_play : (up : List ℕ) (m : Machine) → Agrees (link_of_bench b) up m
      → StepIsFollowed (profile b.device) m event (link_of_bench b') (uploaded_after answer.gave up) answer.report
  machine_follows_play up m agrees =
      sized_play_is_followed (profile b.device) (link_of_bench b) (link_of_bench b') up m event answer
      (sizes b.device b.session event begins steady.fact steady.sized) steady.fact agrees (bytes_show b b' event answer play).play

  play_keeps_link_steady : IsSteadyLink b'
  play_keeps_link_steady =
      let s : PlayIsShown b event b' answer = bytes_show b b' event answer play in
      let f = machine_follows_play [] (session_machine_of_link (link_of_bench b) []) (machine_agrees (link_of_bench b) []) in
      record {
        fact = subst (λ (c : Profile). SessionFact c (situation b'.device) b'.session) (sym s.fixed) f.fact;
        unarmed = s.unarmed;
        counted = event_keeps_session_counted event b b' answer steady.sized steady.counted play.happens;
        sized = known_size_sends_bytes (profile b.device) b'.device b'.session f.fact
            (live_session_knows_size b.device b.session event b' answer begins steady.fact steady.sized play.allowed play.happens);
      }

  -- If the event reports Uploaded, the last upload after it is the active image.
  uploaded_gives_active_image : (up : List ℕ) → answer.report ≡ Some Uploaded → uploaded_after answer.gave up
      ≡ (link_of_bench b').device.image
  uploaded_gives_active_image up e =
      let f = machine_follows_play up (session_machine_of_link (link_of_bench b) up) (machine_agrees (link_of_bench b) up) in
      sym f.agrees.up_is ∙ (uploaded_step_gives_active_image f.step e ∙ f.agrees.cur)

  play_answer_fits : BytesFitReport b.device.config.functional.transfer answer.report answer.gave
  play_answer_fits = event_answer_fits (profile b.device) (situation b.device) event b b' answer steady.fact steady.sized steady.counted
      play.happens

-- If a fact holds for an event's result, it holds for the result that the caller gets.
told_result_has_fact : {w w' : WorldView} {h : Happening} {result : Result (Option Report) LinkFault}
    (P : WorldView → Result (Option Report) LinkFault → Type 0) (x : WorldEventResult w h w' result)
    → P (world_of_bench w'.bench (uploaded_after (upload_of_result x.answer) w.up)) (report_of_result x.answer) → P w' result
told_result_has_fact {w = w} {w' = w'} {result = result} P x p =
    subst (λ (up : List ℕ). P (world_of_bench w'.bench up) result) (sym x.up_is)
    (subst (λ (r : Result (Option Report) LinkFault). P (world_of_bench w'.bench (uploaded_after (upload_of_result x.answer) w.up)) r)
    (sym x.told) p)

event_result_is_steady : {b b' : LinkView} {h : Happening} {answer : Result Answered LinkFault} → IsSteadyLink b → EventResult b h b' answer
    → IsSteadyLink b'
event_result_is_steady steady (refuses why) = steady
event_result_is_steady {b = b} {h = h} steady (happens {event = event} means play) =
    play_keeps_link_steady steady (meaning_knows_transfer_size b.device.config h event means) play

-- A steady link is steady after each event.
pub world_event_is_steady : {w w' : WorldView} {h : Happening} {result : Result (Option Report) LinkFault} → IsSteadyLink w.bench
    → WorldEventResult w h w' result
    → IsSteadyLink w'.bench
world_event_is_steady steady x = event_result_is_steady steady x.comes

-- Each machine that agrees with a steady link follows the result of an event.
pub machines_follow_event_result : BenchImageIsActive → {b b' : LinkView} {h : Happening} {answer : Result Answered LinkFault} (up : List ℕ)
    → IsSteadyLink b
    → BenchMatchesFlash b'
    → EventResult b h b' answer → AllMachinesFollow (world_of_bench b up) h
    (world_of_bench b' (uploaded_after (upload_of_result answer) up)) (report_of_result answer)
machines_follow_event_result shown up steady shows (refuses why) = refl
machines_follow_event_result shown {b = b} {b' = b'} {h = h} up steady shows (happens {event = event} {answer = answer} means play) = λ m
    agrees.
    let f = machine_follows_play steady (meaning_knows_transfer_size b.device.config h event means) play up m (link_agrees_as_bench shown b
    up m agrees) in
    record {
      kind = kind_of event;
      is = meaning_has_event_kind b.device.config h event means;
      after = f.after;
      step = f.step;
      agrees = bench_agrees_as_link b' (uploaded_after answer.gave up) f.after shows f.agrees;
      in_place = λ e. let x = f.in_place e in (x.0, x.1 ∙ ap LoadingPayload (sym f.agrees.cur));
    }

-- Each machine that agrees with a steady world follows the event.
pub machines_follow_world_event : BenchImageIsActive → {w w' : WorldView} {h : Happening} {result : Result (Option Report) LinkFault} →
    IsSteadyLink w.bench
    → BenchMatchesFlash w'.bench → WorldEventResult w h w' result → AllMachinesFollow w h w' result
machines_follow_world_event shown {w = w} {h = h} steady shows x =
    told_result_has_fact (λ v r. AllMachinesFollow w h v r) x (machines_follow_event_result shown w.up steady shows x.comes)

-- If bytes fit their report, and are the active image if the report is Uploaded, the report returns the active image or keeps the last
-- upload.
uploaded_bytes_by_report : (b' : LinkView) (up : List ℕ) (report : Option Report) (gave : Option (List ℕ)) (w : WorldView) → w.up ≡ up
    → BytesFitReport b'.device.config.functional.transfer report gave
    → (report ≡ Some Uploaded → uploaded_after gave up ≡ (link_of_bench b').device.image)
    → UploadOrUnchanged w (world_of_bench b' (uploaded_after gave up)) (Ok report)
uploaded_bytes_by_report b' up (Some Uploaded) (Some bytes) w same fits image = record { image = image refl; short = fits }
uploaded_bytes_by_report b' up (Some Uploaded) None w same fits image = elim fits [ ]
uploaded_bytes_by_report b' up report (Some bytes) w same fits image = elim fits [ ]
uploaded_bytes_by_report b' up report None w same fits image = sym same

-- The result of an event on a steady link returns the active image if it reports Uploaded, and otherwise keeps the last upload.
event_result_gives_bytes : {b b' : LinkView} {h : Happening} {answer : Result Answered LinkFault} (up : List ℕ) → IsSteadyLink b
    → EventResult b h b' answer
    → UploadOrUnchanged (world_of_bench b up) (world_of_bench b' (uploaded_after (upload_of_result answer) up)) (report_of_result answer)
event_result_gives_bytes up steady (refuses why) = refl
event_result_gives_bytes {b = b} {b' = b'} {h = h} up steady (happens {event = event} {answer = answer} means play) =
    let begins = meaning_knows_transfer_size b.device.config h event means in
    let same : b.device.config.functional.transfer ≡ b'.device.config.functional.transfer = ap (λ (s : Setting). s.functional.transfer)
    (sym (event_keeps_config event b b' answer play.happens)) in
    uploaded_bytes_by_report b' up answer.report answer.gave (world_of_bench b up) refl
    (subst (λ (n : ℕ). BytesFitReport n answer.report answer.gave) same (play_answer_fits steady begins play)) (uploaded_gives_active_image
    steady begins play up)

-- An event of a steady link returns the active image if it reports Uploaded, and otherwise keeps the last upload.
pub event_gives_bytes : {w w' : WorldView} {h : Happening} {result : Result (Option Report) LinkFault} → IsSteadyLink w.bench
    → WorldEventResult w h w' result
    → UploadOrUnchanged w w' result
event_gives_bytes {w = w} steady x = told_result_has_fact (λ v r. UploadOrUnchanged w v r) x (event_result_gives_bytes w.up steady x.comes)

uploaded_report_gave_image : (t : ℕ) (up image : List ℕ) (report : Option Report) (gave : Option (List ℕ)) → BytesFitReport t report gave
    → uploaded_after gave up ≡ image
    → report ≡ Some Uploaded → gave ≡ Some image
uploaded_report_gave_image t up image report (Some bytes) fits e u = ap Some e
uploaded_report_gave_image t up image report None fits e u = absurd (subst (λ (r : Option Report). BytesFitReport t r None) u fits)

-- If the result of an event reports Uploaded, the bytes of its answer are the active image of the bench.
abbrev ResultGivesImage : LinkView → Result Answered LinkFault → Type 0
ResultGivesImage b (Ok answer) = answer.report ≡ Some Uploaded → answer.gave ≡ Some (link_of_bench b).device.image
ResultGivesImage b (Err fault) = Unit {0}

-- If an event of a steady link reports Uploaded, the bytes of its answer are the active image.
event_result_gives_image : {b b' : LinkView} {h : Happening} {result : Result Answered LinkFault} → IsSteadyLink b →
    EventResult b h b' result
    → ResultGivesImage b' result
event_result_gives_image steady (refuses why) = tt
event_result_gives_image {b = b} {b' = b'} {h = h} steady (happens {event = event} {answer = answer} means play) = λ e.
    let begins = meaning_knows_transfer_size b.device.config h event means in
    uploaded_report_gave_image b.device.config.functional.transfer [] (link_of_bench b').device.image answer.report answer.gave
    (play_answer_fits steady begins play)
    (uploaded_gives_active_image steady begins play [] e) e

-- After an event a steady link is steady again, and the bytes of Uploaded are the active image.
pub uploads_are_active : UploadsAreActive
uploads_are_active b b' h answer steady comes = (event_result_is_steady steady comes, event_result_gives_image steady comes)

-- A link to an unarmed device with no session is steady.
pub rest_is_steady : RestIsSteady
rest_is_steady device unarmed = record { fact = tt; unarmed = unarmed; sized = tt; counted = tt }

-- An action in which no write is harmed has a whole fuse.
unharmed_fuse_is_whole : (harming : MediumFault) (harm : WriteHarm) → HarmsNothing harming → fuse_of harming harm ≡ Whole
unharmed_fuse_is_whole NoWrite harm h = refl
unharmed_fuse_is_whole harming harm h = elim h [ ]

harmless_event_fuse_is_whole : (event : Happening) → IsHarmless event → fuse_of_event event ≡ Whole
harmless_event_fuse_is_whole (Goes fate harm) h = unharmed_fuse_is_whole (delivery_of fate).harming harm h
harmless_event_fuse_is_whole event h = refl

-- A play in bytes of a harmless event has the result of the table of fates for a medium that works.
harmless_play_has_result : (b b' : LinkView) (event : Happening) (answer : Answered) → BytePlay b event b' answer → IsHarmless event
    → IsResultOfPlay b event b' answer.report
harmless_play_has_result b b' event answer play h =
    let s = unharmed_play_works b b' event answer play (harmless_event_fuse_is_whole event h) in
    record { room = s.0; answer = answer; same = s.1; told = refl }

-- If an event is not refused and no write is harmed, its result is that of the table of fates.
pub event_result_is_sure : {b b' : LinkView} {h : Happening} {answer : Result Answered LinkFault} → EventResult b h b' answer
    → EventFollowsTableIfPlayed b h b' (report_of_result answer)
event_result_is_sure (refuses why) = tt
event_result_is_sure {b = b} {b' = b'} {h = h} (happens {event = event} {answer = answer} means play) = record {
  event = event;
  means = means;
  kept = record {
    config = event_keeps_config event b b' answer play.happens;
    room = ap (λ (c : Profile). c.capacity) (bytes_show b b' event answer play).fixed;
  };
  works = harmless_play_has_result b b' event answer play;
}

-- Each event in which no write is harmed follows the table of fates, unless it is refused.
pub each_event_is_sure : {w w' : WorldView} {h : Happening} {result : Result (Option Report) LinkFault} → WorldEventResult w h w' result
    → EventFollowsTableIfPlayed w.bench h w'.bench result
each_event_is_sure {w = w} {h = h} x =
    told_result_has_fact (λ v r. EventFollowsTableIfPlayed w.bench h v.bench r) x (event_result_is_sure x.comes)
