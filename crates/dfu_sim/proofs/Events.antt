-- Result of each event, from the clauses of its parts: a play in bytes, or a refusal.
use Rattle.std.proofs.Common.{◌≡◌, ◌↔◌, ℕ, ◌+◌, ◌<◌, ◌==◌, not, cond, is_some, Bool, true, false, List, length, Option, Some, None, Result, Ok, Err, refl, ap, ◌∙◌, subst, arith}
use Rattle.std.proofs.lemmas.Bool.Decides.{nat_tests}
use Rattle.dfu_slots.specs.Medium.Fuse.{Whole}
use Rattle.dfu_suffix.specs.Grammar.{Content, IsFile}
use Rattle.dfu_device.specs.Setting.{Setting}
use Rattle.dfu_device.specs.DeviceView.{DeviceView}
use Rattle.dfu_device.specs.Rows.{Elapses}
use Rattle.dfu_device.specs.declared.objection.Objection.{Objection}
use Rattle.dfu_wire.specs.declared.functionals.Functional.{Functional}
use Rattle.dfu_wire.specs.declared.ids.Ids.{Ids}
use Rattle.dfu_host.specs.Download.{file_is_for, first_download_fault, first_verify_fault}
use Rattle.dfu_host.specs.declared.fault.HostFault.{HostFault}
use Rattle.dfu_host.specs.declared.limits.Limits.{Limits}
use Rattle.dfu_host.specs.declared.report.Report.{Report}
use Rattle.dfu_host.specs.Host.{HostState, host_for_goal}
use Rattle.dfu_sim.specs.declared.offering.Purpose.{Purpose}
use Rattle.dfu_sim.specs.declared.offering.Purpose.TheVariants.{Install, Verify}
use Rattle.dfu_sim.specs.declared.fault.LinkFault.{LinkFault}
use Rattle.dfu_sim.specs.declared.fault.LinkFault.TheVariants as fault
use Rattle.dfu_sim.specs.declared.fault.OfferFault.TheVariants as offer_fault
use Rattle.dfu_sim.specs.Delivery.{delivery_of}
use Rattle.dfu_sim.specs.Happening.{Fate, WriteHarm, Happening, Offers, Goes, Passes, Refuses}
use Rattle.dfu_sim.specs.Opening.{goal_of_purpose}
use Rattle.dfu_sim.specs.Play.{Answered, uploaded_after, silent, HostOutcome, notify_restart, host_outcome, settled_session, MayHappen}
use Rattle.dfu_sim.specs.LinkView.{Session, NoLiveSession, HostSession, LinkView, world_of_bench}
use Rattle.dfu_sim.specs.Bytes.{refused_device, HostActsArmed, HappensOnBench, BytePlay}
use Rattle.dfu_sim.specs.Refusing.{first_offer_fault, IsOffered, IsBadOffer, IsRefused}
use Rattle.dfu_sim.specs.EventResults.{EventMeaning, refuses, happens, BytesOnlyWithUploaded, WorldEventResult, WorldEventAlone}
use Rattle.dfu_sim.specs.LinkInvariant.{session_of, given_by, bench_of, link_state, SendsBytes, SessionIsCounted}
use Rattle.dfu_sim.specs.inside.Acting.{session_outcome, SessionOpened}
use Rattle.dfu_sim.proofs.Counted.{heard_outcome_gives_bytes, restart_outcome_gives_bytes}

-- An event may happen in any session if it may happen with each live host and without one.
event_may_happen_in_session : (s : Session) (h : Happening) → MayHappen NoLiveSession h → ((k : HostState) →
    MayHappen (HostSession k) h) → MayHappen s h
event_may_happen_in_session NoLiveSession h none live = none
event_may_happen_in_session (HostSession k) h none live = live k

-- A refused event changes nothing.
pub refused_event_leaves_link : (b : LinkView) (h : Happening) (why : LinkFault) → IsRefused b h why → WorldEventAlone b h b (Err why)
refused_event_leaves_link b h why is up = record { answer = Err why; comes = refuses is; whole = tt; up_is = refl; told = refl }

-- If a caller's event is a play, its result is the report of the play's answer, and any uploaded bytes replace those of the last upload.
pub allowed_event_has_result : {b b' : LinkView} {h : Happening} {up up' : List ℕ} {report : Option Report} (event : Happening) (answer :
    Answered)
    → EventMeaning b.device.config h event → BytePlay b event b' answer → BytesOnlyWithUploaded (Ok answer)
    → up' ≡ uploaded_after answer.gave up
    → report ≡ answer.report → WorldEventResult (world_of_bench b up) h (world_of_bench b' up') (Ok report)
allowed_event_has_result event answer means play whole kept says =
    record { answer = Ok answer; comes = happens {event = event} means play; whole = whole; up_is = kept; told = ap Ok says }

-- Time that passes is an event without a report.
pub time_event_has_result : (ms : ℕ) (w w' : DeviceView) (host gave : Option HostState) → w.slots.medium.fuse ≡ Whole → Elapses ms w w'
    → WorldEventResult (link_state w host gave) (Passes ms) (link_state w' host gave) (Ok None)
time_event_has_result ms w w' host gave e row = allowed_event_has_result (Passes ms) silent refl (record {
  allowed = event_may_happen_in_session (session_of host) (Passes ms) tt (λ k. tt);
  unarmed = e;
  happens = (row, refl, refl);
}) tt refl refl

-- A refusal by the program is an event without a report.
pub refusal_event_has_result : (why : Objection) (w w' : DeviceView) (host gave : Option HostState) → w.slots.medium.fuse ≡ Whole
    → w' ≡ refused_device why w
    → WorldEventResult (link_state w host gave) (Refuses why) (link_state w' host gave) (Ok None)
refusal_event_has_result why w w' host gave e row = allowed_event_has_result (Refuses why) silent refl (record {
  allowed = event_may_happen_in_session (session_of host) (Refuses why) tt (λ k. tt);
  unarmed = e;
  happens = ((λ i. record { device = row i; session = session_of host }), refl);
}) tt refl refl

-- A reset of the bus or a cut of the power between actions is an event with the report of the session that it ends.
pub restart_event_has_result : (h : Happening) (w w' : DeviceView) (host host' gave gave' : Option HostState) (report : Option Report)
    → EventMeaning w.config h h → MayHappen NoLiveSession h → ((k : HostState) → MayHappen (HostSession k) h) → SendsBytes (session_of host)
    → SessionIsCounted (session_of host) → w.slots.medium.fuse ≡ Whole
    → HappensOnBench h (bench_of w host) (bench_of w' host') (notify_restart (session_of host)).answer
    → given_by gave' ≡ uploaded_after (notify_restart (session_of host)).answer.gave (given_by gave)
    → report ≡ (notify_restart (session_of host)).answer.report
    → WorldEventResult (link_state w host gave) h (link_state w' host' gave') (Ok report)
restart_event_has_result h w w' host host' gave gave' report means none live sized counted e row kept says =
    allowed_event_has_result h (notify_restart (session_of host)).answer means
    (record { allowed = event_may_happen_in_session (session_of host) h none live; unarmed = e; happens = row })
    (restart_outcome_gives_bytes (session_of host) sized counted) kept says

-- The host's next action is an event with the report of the session that it ends.
pub action_event_has_result : (fate : Fate) (harm : WriteHarm) (w w' : DeviceView) (h h' : HostState) (host' gave gave' : Option HostState)
    (report : Option Report)
    → SendsBytes (HostSession h) → SessionIsCounted (HostSession h) → w.slots.medium.fuse ≡ Whole →
    HostActsArmed h (delivery_of fate) harm w w' h'
    → session_of host' ≡ (session_outcome (HostSession h')).session
    → given_by gave' ≡ uploaded_after (session_outcome (HostSession h')).answer.gave (given_by gave)
    → report ≡ (session_outcome (HostSession h')).answer.report
    → WorldEventResult (link_state w (Some h) gave) (Goes fate harm) (link_state w' host' gave') (Ok report)
action_event_has_result fate harm w w' h h' host' gave gave' report sized counted e gone session kept says =
    let same : session_outcome (HostSession h') ≡ host_outcome h gone.acted.heard = ap
    (λ (x : HostState). settled_session x x.phase) gone.acted.same in
    allowed_event_has_result (Goes fate harm) (host_outcome h gone.acted.heard).answer refl (record {
      allowed = tt;
      unarmed = e;
      happens = record {
        host = h;
        live = refl;
        next = h';
        gone = gone;
        session = session ∙ ap (λ (t : HostOutcome). t.session) same;
        answered = refl;
      };
    }) (heard_outcome_gives_bytes h gone.acted.heard sized counted)
    (kept ∙ ap (λ (t : HostOutcome). uploaded_after t.answer.gave (given_by gave)) same)
    (says ∙ ap (λ (t : HostOutcome). t.answer.report) same)

-- An action without a live session is refused with NoHost.
pub action_without_host_is_refused : (f : Fate) (harm : WriteHarm) (w : DeviceView) (gave : Option HostState)
    → WorldEventResult (link_state w None gave) (Goes f harm) (link_state w None gave) (Err fault.NoHost)
action_without_host_is_refused f harm w gave = refused_event_leaves_link (bench_of w None) (Goes f harm) fault.NoHost refl (given_by gave)

-- If no fault of a list applies, its first fault does not apply, and no fault of the rest applies.
pub no_first_fault_is_no_fault : (t : Bool) (fault : HostFault) (rest : Option HostFault) → cond t (Some fault) rest ≡ None → (t ≡ false)
    × (rest ≡ None)
no_first_fault_is_no_fault true fault rest e = absurd cc
no_first_fault_is_no_fault false fault rest e = (refl, e)

not_false_is_true : (t : Bool) → not t ≡ false → t ≡ true
not_false_is_true true e = refl
not_false_is_true false e = absurd cc

-- Facts of a payload and a descriptor, if the offer of that payload has no fault.
record NoFault (purpose : Purpose) (payload : List ℕ) (f : Functional) : Type 0 where
  some : (length payload == 0) ≡ false
  can_download_flag : f.can_download ≡ true
  gives : purpose ≡ Verify → f.can_upload ≡ true
  sized : (f.transfer == 0) ≡ false

-- If an offer has no first fault, all facts of `NoFault` hold.
offer_without_first_fault : (purpose : Purpose) (file : Content) (f : Functional) (ids : Ids) → first_offer_fault purpose file f ids ≡ None
    → NoFault purpose file.payload f
offer_without_first_fault Install file f ids e =
    let a = no_first_fault_is_no_fault (length file.payload == 0) _ _ e in
    let d = no_first_fault_is_no_fault (not f.can_download) _ _ (no_first_fault_is_no_fault (not (file_is_for file.ids ids)) _ _ a.1).1 in
    let z = no_first_fault_is_no_fault (f.transfer == 0) _ _ d.1 in
    record { some = a.0; can_download_flag = not_false_is_true f.can_download d.0; gives = λ other. absurd cc; sized = z.0 }
offer_without_first_fault Verify file f ids e =
    let a = no_first_fault_is_no_fault (length file.payload == 0) _ _ e in
    let d = no_first_fault_is_no_fault (not f.can_download) _ _ (no_first_fault_is_no_fault (not (file_is_for file.ids ids)) _ _ a.1).1 in
    let u = no_first_fault_is_no_fault (not f.can_upload) _ _ d.1 in
    let z = no_first_fault_is_no_fault (f.transfer == 0) _ _ u.1 in
    record {
      some = a.0;
      can_download_flag = not_false_is_true f.can_download d.0;
      gives = λ same. not_false_is_true f.can_upload u.0;
      sized = z.0;
    }

offer_has_no_fault : {s : Setting} {purpose : Purpose} {file payload : List ℕ} → IsOffered s purpose file payload
    → NoFault purpose payload s.functional
offer_has_no_fault {s = s} {purpose = purpose} offered = offer_without_first_fault purpose _ s.functional s.ids offered.taken

-- A file that a device accepts has a payload of at least one byte.
pub bytes_of : {s : Setting} {purpose : Purpose} {file payload : List ℕ} → IsOffered s purpose file payload → 0 < length payload
bytes_of {payload = payload} offered = let e : (length payload == 0) ≡ false = (offer_has_no_fault offered).some in grind (arith, nat_tests)

-- A device that accepts a file has a transfer size of at least one byte.
pub offered_device_has_transfer : {s : Setting} {purpose : Purpose} {file payload : List ℕ} → IsOffered s purpose file payload →
    0 < s.functional.transfer
offered_device_has_transfer {s = s} offered = let e : (s.functional.transfer == 0)
    ≡ false = (offer_has_no_fault offered).sized in grind (arith, nat_tests)

-- A device that accepts a file has bitCanDnload 1.
pub can_download : {s : Setting} {purpose : Purpose} {file payload : List ℕ} → IsOffered s purpose file payload
    → s.functional.can_download ≡ true
can_download offered = (offer_has_no_fault offered).can_download_flag

-- A device that accepts a file for verification has bitCanUpload 1.
pub can_upload : {s : Setting} {file payload : List ℕ} → IsOffered s Verify file payload → s.functional.can_upload ≡ true
can_upload offered = (offer_has_no_fault offered).gives refl

-- If each live session refuses an event with HostBusy, the event has that result while a session is live.
pub event_in_session_is_refused : (h : Happening) (w : DeviceView) (host : Option HostState)
    → ((k : HostState) → IsRefused (bench_of w (Some k)) h fault.HostBusy) → is_some host ≡ true
    → WorldEventAlone (bench_of w host) h (bench_of w host) (Err fault.HostBusy)
event_in_session_is_refused h w (Some k) busy e = refused_event_leaves_link (bench_of w (Some k)) h fault.HostBusy (busy k)
event_in_session_is_refused h w None busy e = absurd cc

-- If no session is live, and an event is refused on a bench without a session, the result of the event is the fault of that refusal.
pub sessionless_event_is_refused : (h : Happening) (why : LinkFault) (w : DeviceView) (host : Option HostState) → is_some host ≡ false
    → IsRefused (bench_of w None) h why → WorldEventAlone (bench_of w host) h (bench_of w host) (Err why)
sessionless_event_is_refused h why w None e is = refused_event_leaves_link (bench_of w None) h why is
sessionless_event_is_refused h why w (Some k) e is = absurd cc

-- While no session is live, an event that begins a session is a play without a report.
pub beginning_event_has_result : (h event : Happening) (w : DeviceView) (host : Option HostState) (k : HostState) → is_some host ≡ false
    → w.slots.medium.fuse ≡ Whole → EventMeaning w.config h event → MayHappen NoLiveSession event
    → HappensOnBench event (bench_of w None) (bench_of w (Some k)) silent
    → WorldEventAlone (bench_of w host) h (bench_of w (Some k)) (Ok None)
beginning_event_has_result h event w None k n e means allowed row up =
    allowed_event_has_result event silent means (record { allowed = allowed; unarmed = e; happens = row }) tt refl refl
beginning_event_has_result h event w (Some j) k n e means allowed row up = absurd cc

-- If an offer opens a session, and no session is live, the session begins without a report.
pub offer_makes_session : (purpose : Purpose) (file : List ℕ) (limits : Limits) (w : DeviceView) (host : Option HostState) (h : HostState)
    → is_some host ≡ false
    → w.slots.medium.fuse ≡ Whole → SessionOpened w.config purpose file limits h
    → WorldEventAlone (bench_of w host) (Offers purpose file limits) (bench_of w (Some h)) (Ok None)
offer_makes_session purpose file limits w host h n e begun =
    beginning_event_has_result (Offers purpose file limits) (Offers purpose begun.content.payload limits) w host h n e
    (begun.content.payload, begun.offered, refl) (bytes_of begun.offered)
    ((λ i. record { device = w; session = HostSession (begun.host i) }), refl)

-- The fault of an offer depends only on the payload and the identifiers of the file.
pub equal_offers_fail_alike : (purpose : Purpose) (c d : Content) (f : Functional) (ids : Ids) → c.payload ≡ d.payload → c.ids ≡ d.ids
    → first_offer_fault purpose c f ids ≡ first_offer_fault purpose d f ids
equal_offers_fail_alike Install c d f ids p q = λ i. first_download_fault (record {
  payload = p i;
  ids = q i;
  dfu = c.dfu;
  suffix = c.suffix;
}) f ids
equal_offers_fail_alike Verify c d f ids p q = λ i. first_verify_fault (record { payload = p i; ids = q i; dfu = c.dfu; suffix = c.suffix })
    f ids

-- The bytes are a file with this content. Its suffix has 16 bytes, and more if there are extra ones.
abbrev FileHasContent : List ℕ → Content → Type 0
FileHasContent file content = (extra : List ℕ) × IsFile content.payload content.ids content.dfu extra file × (content.suffix
    ≡ 16 + length extra)

-- The offer of a valid file whose session has a fault is refused with the first fault.
pub faulty_offer_is_bad : (s : Setting) (purpose : Purpose) (file : List ℕ) (content : Content) (f : Functional) (ids : Ids) (why :
    HostFault)
    → f ≡ s.functional
    → ids ≡ s.ids → FileHasContent file content
    → first_offer_fault purpose content f ids ≡ Some why → IsBadOffer s purpose file (offer_fault.Host why)
faulty_offer_is_bad s purpose file content f ids why e k found h = (
  content,
  record { extra = found.0; reads = found.1; suffix = found.2 },
  subst (λ (x : Functional). first_offer_fault purpose content x s.ids ≡ Some why) e
      (subst (λ (y : Ids). first_offer_fault purpose content f y ≡ Some why) k h),
)

-- If a call fails with the first fault exactly if there is one, and the call made a host, then there is no fault.
pub begun_session_has_no_fault : (o : Option HostFault) (h : HostState) → ((why : HostFault)
    → (◌≡◌ {A = Result HostState HostFault} (Ok h) (Err why)) ↔ (o ≡ Some why)) → o ≡ None
begun_session_has_no_fault None h f = refl
begun_session_has_no_fault (Some why) h f = let e : ◌≡◌ {A = Result HostState HostFault} (Ok h) (Err why) = (f why).1 refl in absurd cc

-- A valid file whose session has no fault opens a session.
pub faultless_offer_opens_session : (s : Setting) (purpose : Purpose) (file : List ℕ) (limits : Limits) (content : Content) (f :
    Functional) (ids : Ids)
    (h : HostState)
    → f ≡ s.functional → ids ≡ s.ids → FileHasContent file content
    → ((why : HostFault) → (◌≡◌ {A = Result HostState HostFault} (Ok h) (Err why)) ↔ (first_offer_fault purpose content f ids ≡ Some why))
    → h ≡ host_for_goal f (goal_of_purpose purpose content.payload) limits → SessionOpened s purpose file limits h
faultless_offer_opens_session s purpose file limits content f ids h e k found none is =
    let taken : first_offer_fault purpose content s.functional s.ids ≡ None =
    subst (λ (x : Functional). first_offer_fault purpose content x s.ids ≡ None) e
    (subst (λ (y : Ids). first_offer_fault purpose content f y ≡ None) k
    (begun_session_has_no_fault (first_offer_fault purpose content f ids) h none)) in
    record {
      content = content;
      offered = record {
        ids = content.ids;
        dfu = content.dfu;
        extra = found.0;
        reads = found.1;
        taken = equal_offers_fail_alike purpose _ content s.functional s.ids refl refl ∙ taken;
      };
      host = is ∙ ap (λ (x : Functional). host_for_goal x (goal_of_purpose purpose content.payload) limits) e;
    }
