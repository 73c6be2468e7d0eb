-- Results of uploads and aborts, from the clauses of their parts: a play in bytes, or a refusal.
use Rattle.std.proofs.Common.{◌≡◌, ◌↔◌, ◌<◌, ◌==◌, not, is_some, false, Option, Some, None, Result, Ok, Err, refl, sym, ap, ◌∙◌, subst, arith}
use Rattle.std.proofs.lemmas.Bool.Decides.{nat_tests}
use Rattle.dfu_slots.specs.Medium.Fuse.{Whole}
use Rattle.dfu_device.specs.Setting.{Setting}
use Rattle.dfu_device.specs.DeviceView.{DeviceView}
use Rattle.dfu_wire.specs.declared.functionals.Functional.{Functional}
use Rattle.dfu_host.specs.Uploading.{first_upload_fault}
use Rattle.dfu_host.specs.declared.fault.HostFault.{HostFault}
use Rattle.dfu_host.specs.declared.limits.Limits.{Limits}
use Rattle.dfu_host.specs.declared.report.Report.{Report}
use Rattle.dfu_host.specs.Host.{HostState, host_for_goal}
use Rattle.dfu_host.specs.Phases.{FetchGoal}
use Rattle.dfu_sim.specs.declared.fault.LinkFault.{LinkFault}
use Rattle.dfu_sim.specs.declared.fault.LinkFault.TheVariants as fault
use Rattle.dfu_sim.specs.declared.fault.OfferFault.TheVariants as offer_fault
use Rattle.dfu_sim.specs.Play.{silent, session_aborted}
use Rattle.dfu_sim.specs.LinkView.{Session, HostSession, world_of_bench}
use Rattle.dfu_sim.specs.Happening.{Uploads, Aborts}
use Rattle.dfu_sim.specs.Refusing.{ServesUpload}
use Rattle.dfu_sim.specs.EventResults.{WorldEventResult, WorldEventAlone}
use Rattle.dfu_sim.specs.LinkInvariant.{session_of, given_by, bench_of, link_state}
use Rattle.dfu_sim.specs.inside.Acting.{abort_answer}
use Rattle.dfu_sim.proofs.Events.{refused_event_leaves_link, allowed_event_has_result, no_first_fault_is_no_fault, sessionless_event_is_refused, beginning_event_has_result, begun_session_has_no_fault}

-- A device that serves uploads has a transfer size of at least one byte.
pub upload_device_has_transfer : (s : Setting) → ServesUpload s → 0 < s.functional.transfer
upload_device_has_transfer s gives =
    let a = no_first_fault_is_no_fault (not s.functional.can_upload) _ _ gives in
    let z = no_first_fault_is_no_fault (s.functional.transfer == 0) _ _ a.1 in
    let e : (s.functional.transfer == 0) ≡ false = z.0 in
    grind (arith, nat_tests)

-- While no session is live, an upload from a device that does not serve uploads is refused with the first fault of an upload.
pub faulty_upload_is_refused : (limits : Limits) (w : DeviceView) (host : Option HostState) (f : Functional) (why : HostFault) →
    is_some host ≡ false
    → f ≡ w.config.functional → first_upload_fault f ≡ Some why
    → WorldEventAlone (bench_of w host) (Uploads limits) (bench_of w host) (Err (fault.BadOffer (offer_fault.Host why)))
faulty_upload_is_refused limits w host f why n e bad = sessionless_event_is_refused (Uploads limits) (fault.BadOffer (offer_fault.Host why))
    w host n
    (refl, subst (λ (x : Functional). first_upload_fault x ≡ Some why) e bad)

-- While no session is live, an upload without a fault begins a session.
pub upload_makes_session : (limits : Limits) (w : DeviceView) (host : Option HostState) (h : HostState) (f : Functional) → is_some host
    ≡ false
    → w.slots.medium.fuse ≡ Whole → f ≡ w.config.functional
    → ((why : HostFault) → (◌≡◌ {A = Result HostState HostFault} (Ok h) (Err why)) ↔ (first_upload_fault f ≡ Some why))
    → h ≡ host_for_goal f FetchGoal limits
    → WorldEventAlone (bench_of w host) (Uploads limits) (bench_of w (Some h)) (Ok None)
upload_makes_session limits w host h f n e k none is =
    let begun : h ≡ host_for_goal w.config.functional FetchGoal limits = is ∙ ap (λ (x : Functional). host_for_goal x FetchGoal limits) k in
    beginning_event_has_result (Uploads limits) (Uploads limits) w host h n e
    (subst (λ (x : Functional). first_upload_fault x ≡ None) k (begun_session_has_no_fault (first_upload_fault f) h none), refl) tt
    ((λ i. record { device = w; session = HostSession (begun i) }), refl)

-- An abort makes the live host give up, or is refused without a session.
pub abort_event_has_result : (w : DeviceView) (host host' gave : Option HostState) (result : Result (Option Report) LinkFault)
    → w.slots.medium.fuse ≡ Whole
    → session_of host' ≡ session_aborted (session_of host) → result ≡ abort_answer (session_of host)
    → WorldEventResult (link_state w host gave) Aborts (link_state w host' gave) result
abort_event_has_result w None host' gave result e session says =
    subst (λ (r : Result (Option Report) LinkFault). WorldEventResult (link_state w None gave) Aborts (link_state w host' gave) r) (sym says)
    (subst (λ (s : Session). WorldEventResult (link_state w None gave) Aborts
    (world_of_bench (record { device = w; session = s }) (given_by gave))
    (Err fault.NoHost)) (sym session) (refused_event_leaves_link (bench_of w None) Aborts fault.NoHost refl (given_by gave)))
abort_event_has_result w (Some h) host' gave result e session says =
    subst (λ (r : Result (Option Report) LinkFault). WorldEventResult (link_state w (Some h) gave) Aborts (link_state w host' gave) r) (sym says)
    (allowed_event_has_result Aborts silent refl
    (record { allowed = tt; unarmed = e; happens = ((λ i. record { device = w; session = session i }), refl) }) tt refl refl)
