-- The facts about a device and its session stay true in each turn.
use Rattle.std.proofs.Common.{◌≡◌, ℕ, ◌≤◌, ◌<◌, ◌^◌, inl, inr, true, false, Option, refl, sym, ap, ◌∙◌, subst, arith}
use Rattle.std.proofs.lemmas.Bool.{true_from_ne_false}
use Rattle.dfuse_host.specs.declared.plan.Plan.{Plan}
use Rattle.dfuse_host.specs.declared.phase.Phase.{Phase}
use Rattle.dfuse_host.specs.declared.phase.Phase.TheVariants.{On, Over}
use Rattle.dfuse_host.specs.declared.work.Work.{Work}
use Rattle.dfuse_host.specs.declared.place.Place.{Place}
use Rattle.dfuse_host.specs.declared.step.Step.{Step}
use Rattle.dfuse_host.specs.declared.step.Step.TheVariants as step
use Rattle.dfuse_host.specs.declared.seen.Seen.{Seen}
use Rattle.dfuse_host.specs.declared.seen.Seen.TheVariants as seen
use Rattle.dfuse_host.specs.declared.session.Session.{Session}
use Rattle.dfuse_host.specs.Deeds.{DfuseDeed, Send, Wait, Done, dfuse_deed, deed_of_step}
use Rattle.dfuse_host.specs.Refusing.{apart_from, wanted_access}
use Rattle.dfuse_host.specs.ReadBack.{HasByte, WasReadInPhase, ReadsBack, PhaseReadsBack, PhaseClosesAfterCompare, OnlyReadBack, AlwaysClosesAfterCompare}
use Rattle.dfuse_host.specs.Sessions.{session_after_heard, session_after_phase_heard, DfuseSeenMeaningIn, SessionRow}
use Rattle.dfuse_host.specs.Wire.{DfuseSeenMeaning}
use Rattle.dfuse_host.proofs.ForCallers.{AnyHeard}
use Rattle.dfuse_link.specs.Chips.{Chip, Device}
use Rattle.dfuse_link.specs.Reactions.{Reaction}
use Rattle.dfuse_link.specs.Histories.{SeenOfReaction, RequestUnderWay, none, request, sent, waited, restarted}
use Rattle.dfuse_link.specs.Promises.{IsPlanFor}
use Rattle.dfuse_link.proofs.Claims.{DeviceFitsStep, DeviceFitsPhase}
use Rattle.dfuse_link.proofs.SentClaims.{DeedArrives}
use Rattle.dfuse_link.proofs.StepClaims.{device_fits_after_request, device_fits_after_wait}
use Rattle.dfuse_host.proofs.RunLaws.{heard_phase_keeps_plan}
use Rattle.dfuse_link.proofs.Sessions.{device_fits_after_heard, device_fits_restart_phase, device_fits_after_restart}
use Rattle.dfuse_link.proofs.Safe.{IsSafeAt, KeepsByte, DeedLeavesByte, harmless_request_keeps_byte, restart_keeps_byte, deed_leaves_read_byte}
use Rattle.dfuse_link.proofs.Bytes.{byte_at, image_byte_fits_32_bits}
use Rattle.dfuse_link.proofs.ReadClaims.{read_back_byte_is_right}
use Rattle.dfuse_link.proofs.Pairs.{DeviceAndSession, IsTurnOfBoth}

-- The memory holds the byte of the image at the address, and the device's work may not change it.
abbrev pub IsRightInMemory : Chip → Plan → Device → ℕ → Type 0
IsRightInMemory chip plan d a = (d.memory a ≡ byte_at a plan.image.now) × IsSafeAt chip a d.device_work

-- The plan is for the device, the session sends the leave request only after the comparison, the device fits the phase, and the memory
-- holds each byte of the image that the session has read back.
pub record SessionFactsHold (chip : Chip) (l : DeviceAndSession) : Type 0 where
  pub for : IsPlanFor chip l.session.plan
  pub closes : PhaseClosesAfterCompare l.session.phase
  pub stands : DeviceFitsPhase chip l.session.plan l.session.phase l.device
  pub right : (a : ℕ) → HasByte a l.session.plan.image.now → WasReadInPhase l.session.plan l.session.phase a →
      IsRightInMemory chip l.session.plan l.device a

pub plan_elements_are_apart : (chip : Chip) (plan : Plan) → IsPlanFor chip plan → apart_from 0 plan.image.now ≡ true
plan_elements_are_apart chip plan for = true_from_ne_false (apart_from 0 plan.image.now) for.sound.0.0.0.0.1

transfer_is_positive : (chip : Chip) (plan : Plan) → IsPlanFor chip plan → 1 ≤ chip.transfer
transfer_is_positive chip plan for =
    let some : plan.transfer ≡ 0 → ⊥ = for.sound.0.0.0.0.0.0.0 in
    omega (arith, some, for.transfer)

pub image_byte_below_address_end : (chip : Chip) (plan : Plan) (a : ℕ) → IsPlanFor chip plan → HasByte a plan.image.now → a < 2 ^ 32
image_byte_below_address_end chip plan a for b =
    image_byte_fits_32_bits (wanted_access false false false) a plan.map.now.ranges plan.image.now for.ranges for.sound.0.0.0.1 b

pub kept_byte_is_right : (chip : Chip) (plan : Plan) (d d' : Device) (a : ℕ) → KeepsByte chip a d d' → IsRightInMemory chip plan d a →
    IsRightInMemory chip plan d' a
kept_byte_is_right chip plan d d' a k h = (k.byte ∙ h.0, k.safe)

pub deed_keeps_read_byte : (chip : Chip) (a : ℕ) (x : DfuseDeed) (d : Device) (r : Option Reaction) (d' : Device) →
    DeedArrives chip x d r d' →
    DeedLeavesByte chip a x d.pointer →
    IsSafeAt chip a d.device_work → KeepsByte chip a d d'
deed_keeps_read_byte chip a (Send q body) d r d' comes new safe = harmless_request_keeps_byte chip a q body d r d' comes new safe
deed_keeps_read_byte chip a (Wait ms) d r d' comes new safe = absurd comes
deed_keeps_read_byte chip a (Done report) d r d' comes new safe = absurd comes

phase_leaves_read_byte : (chip : Chip) (plan : Plan) (a : ℕ) (p : Phase) (d : Device) → WasReadInPhase plan p a →
    DeviceFitsPhase chip plan p d →
    DeedLeavesByte chip a (dfuse_deed plan p) d.pointer
phase_leaves_read_byte chip plan a (On at) d was k = deed_leaves_read_byte chip plan a at.work at.place at.step d was k
phase_leaves_read_byte chip plan a (Over r) d was k = tt

read_byte_stays_right : (chip : Chip) (plan : Plan) (a : ℕ) (p : Phase) (d : Device) (r : Option Reaction) (d' : Device) →
    DeedArrives chip (dfuse_deed plan p) d r d' →
    DeviceFitsPhase chip plan p d → WasReadInPhase plan p a → IsRightInMemory chip plan d a → KeepsByte chip a d d'
read_byte_stays_right chip plan a p d r d' comes k was h = deed_keeps_read_byte chip a (dfuse_deed plan p) d r d' comes
    (phase_leaves_read_byte chip plan a p d was k) h.1

step_reads_right_byte : (chip : Chip) (plan : Plan) (for : IsPlanFor chip plan) (a : ℕ) → HasByte a plan.image.now →
    (w : Work) (p : Place) (s : Step) (d d' : Device)
    (h : AnyHeard) (r : Option Reaction) (x : Seen) → DeviceFitsStep chip plan w p s d → DeedArrives chip (deed_of_step plan w p s) d r d'
    → SeenOfReaction r x →
    DfuseSeenMeaning plan w s x h → ReadsBack plan w s h a → IsRightInMemory chip plan d' a
step_reads_right_byte chip plan for a b w p step.Read d d' h r x k comes is hears reads =
    read_back_byte_is_right chip plan w a for.transfer (transfer_is_positive chip plan for) (plan_elements_are_apart chip plan for)
    (image_byte_below_address_end chip plan a for b) p d d' h r x k comes is hears
    reads
step_reads_right_byte chip plan for a b w p s d d' h r x k comes is hears reads = absurd reads

phase_reads_right_byte : (chip : Chip) (plan : Plan) (for : IsPlanFor chip plan) (a : ℕ) → HasByte a plan.image.now →
    (p : Phase) (d d' : Device) (h : AnyHeard)
    (r : Option Reaction) (x : Seen) → DeviceFitsPhase chip plan p d → DeedArrives chip (dfuse_deed plan p) d r d' → SeenOfReaction r x →
    DfuseSeenMeaningIn plan p x h →
    PhaseReadsBack plan p h a → IsRightInMemory chip plan d' a
phase_reads_right_byte chip plan for a b (On at) d d' h r x k comes is hears reads =
    step_reads_right_byte chip plan for a b at.work at.place at.step d d' h r x k comes is hears reads
phase_reads_right_byte chip plan for a b (Over rep) d d' h r x k comes is hears reads = absurd reads

wait_reads_nothing_back : (plan : Plan) (w : Work) (p : Place) (s : Step) (h : AnyHeard) (ms a : ℕ) → deed_of_step plan w p s ≡ Wait ms →
    ReadsBack plan w s h a → ⊥
wait_reads_nothing_back plan w p step.Read h ms a e reads = cc
wait_reads_nothing_back plan w p s h ms a e reads = reads

waiting_phase_reads_nothing : (plan : Plan) (p : Phase) (h : AnyHeard) (ms a : ℕ) → dfuse_deed plan p ≡ Wait ms →
    PhaseReadsBack plan p h a → ⊥
waiting_phase_reads_nothing plan (On at) h ms a e reads = wait_reads_nothing_back plan at.work at.place at.step h ms a e reads
waiting_phase_reads_nothing plan (Over r) h ms a e reads = reads

restart_step_reads_nothing : (plan : Plan) (w : Work) (s : Step) (h : AnyHeard) (a : ℕ) → DfuseSeenMeaning plan w s seen.Restarted h
    → ReadsBack plan w s h a → ⊥
restart_step_reads_nothing plan w step.Read h a e reads = subst (λ y. ReadsBack plan w step.Read y a) e reads
restart_step_reads_nothing plan w s h a e reads = reads

restart_reads_nothing_back : (plan : Plan) (p : Phase) (h : AnyHeard) (a : ℕ) → DfuseSeenMeaningIn plan p seen.Restarted h →
    PhaseReadsBack plan p h a → ⊥
restart_reads_nothing_back plan (On at) h a e reads = restart_step_reads_nothing plan at.work at.step h a e reads
restart_reads_nothing_back plan (Over r) h a e reads = reads

device_fits_over_phase : (chip : Chip) (s : Session) (rep : Phase) (d : Device) → s.phase ≡ rep → DeviceFitsPhase chip s.plan rep d →
    DeviceFitsPhase chip s.plan s.phase d
device_fits_over_phase chip s rep d e k = subst (λ (p : Phase). DeviceFitsPhase chip s.plan p d) (sym e) k

device_fits_phase_after_request : (chip : Chip) (s : Session) (p : Phase) (d d' : Device) (h : AnyHeard) (r : Option Reaction) (x : Seen) →
    s.phase ≡ p →
    DeviceFitsPhase chip s.plan p d →
    DeedArrives chip (dfuse_deed s.plan p) d r d' → SeenOfReaction r x → DfuseSeenMeaningIn s.plan p x h →
    DeviceFitsPhase chip s.plan (session_after_phase_heard s p h).phase d'
device_fits_phase_after_request chip s (On at) d d' h r x e k comes is hears =
    device_fits_after_heard chip s d' at.work at.place at.step h (device_fits_after_request chip s.plan at.work at.place d d' h at.step r x
    k comes is hears)
device_fits_phase_after_request chip s (Over rep) d d' h r x e k comes is hears = absurd comes

device_fits_phase_after_wait : (chip : Chip) (s : Session) (p : Phase) (d : Device) (h : AnyHeard) (ms : ℕ) → s.phase ≡ p →
    DeviceFitsPhase chip s.plan p d →
    dfuse_deed s.plan p ≡ Wait ms → DeviceFitsPhase chip s.plan (session_after_phase_heard s p h).phase d
device_fits_phase_after_wait chip s (On at) d h ms e k is =
    device_fits_after_heard chip s d at.work at.place at.step h (device_fits_after_wait chip s.plan at.work at.place d h at.step ms k is)
device_fits_phase_after_wait chip s (Over rep) d h ms e k is = device_fits_over_phase chip s (Over rep) d e tt

device_fits_phase_after_restart : (chip : Chip) (s : Session) (p : Phase) (d : Device) (h : AnyHeard) → s.phase ≡ p
    → DfuseSeenMeaningIn s.plan p seen.Restarted h →
    DeviceFitsPhase chip s.plan (session_after_phase_heard s p h).phase d
device_fits_phase_after_restart chip s (On at) d h e hears =
    device_fits_after_restart chip s d at.work at.place at.step h _ hears (device_fits_restart_phase chip s d at.work at.place at.step)
device_fits_phase_after_restart chip s (Over rep) d h e hears = device_fits_over_phase chip s (Over rep) d e tt

-- The facts about a session depend only on its plan, its phase and the device.
parts_make_session_facts : (chip : Chip) (l : DeviceAndSession) (plan : Plan) (phase : Phase) → l.session.plan ≡ plan → l.session.phase
    ≡ phase → IsPlanFor chip plan →
    PhaseClosesAfterCompare phase →
    DeviceFitsPhase chip plan phase l.device → ((a : ℕ) → HasByte a plan.image.now → WasReadInPhase plan phase a →
    IsRightInMemory chip plan l.device a) →
    SessionFactsHold chip l
parts_make_session_facts chip l plan phase e f for closes stands right = record {
  for = subst (IsPlanFor chip) (sym e) for;
  closes = subst PhaseClosesAfterCompare (sym f) closes;
  stands = subst (λ (p : Phase). DeviceFitsPhase chip l.session.plan p l.device) (sym f)
      (subst (λ (q : Plan). DeviceFitsPhase chip q phase l.device) (sym e) stands);
  right = subst (λ (p : Phase). (a : ℕ) → HasByte a l.session.plan.image.now → WasReadInPhase l.session.plan p a →
      IsRightInMemory chip l.session.plan l.device a) (sym f)
      (subst (λ (q : Plan). (a : ℕ) → HasByte a q.image.now → WasReadInPhase q phase a → IsRightInMemory chip q l.device a) (sym e) right);
}

module _ (chip : Chip) (only : OnlyReadBack) (always : AlwaysClosesAfterCompare) where
  -- The facts stay true after a row of the table, because each byte that was read back was read back before the row or by its result.
  row_keeps_session_facts : (l l' : DeviceAndSession) (x : Seen) → SessionFactsHold chip l → (row : SessionRow l.session x l'.session) →
      DeviceFitsPhase chip l.session.plan (session_after_heard l.session row.heard).phase l'.device →
      ((a : ℕ) → HasByte a l.session.plan.image.now → WasReadInPhase l.session.plan l.session.phase a →
      IsRightInMemory chip l.session.plan l'.device a)
      →
      ((a : ℕ) → HasByte a l.session.plan.image.now → PhaseReadsBack l.session.plan l.session.phase row.heard a →
      IsRightInMemory chip l.session.plan l'.device a) →
      SessionFactsHold chip l'
  row_keeps_session_facts l l' x so row stands was now =
      let plan : l'.session.plan ≡ l.session.plan =
      ap (λ (t : Session). t.plan) row.same ∙ heard_phase_keeps_plan l.session l.session.phase row.heard in
      let phase : l'.session.phase ≡ (session_after_heard l.session row.heard).phase = ap (λ (t : Session). t.phase) row.same in
      let right = λ (a : ℕ) (b : HasByte a l.session.plan.image.now)
      (h : WasReadInPhase l.session.plan (session_after_heard l.session row.heard).phase a).
      elim (only l.session row.heard a (plan_elements_are_apart chip l.session.plan so.for) b so.closes h) as
      (λ _. IsRightInMemory chip l.session.plan l'.device a) [
        | inl w ↦ was a b w
        | inr w ↦ now a b w
      ] in
      parts_make_session_facts chip l' l.session.plan (session_after_heard l.session row.heard).phase plan phase so.for (always l.session
      row.heard so.closes)
      stands right

  read_byte_stays_while_under_way : (s : Session) (p : Phase) (d mid : Device) (a : ℕ) → s.phase ≡ p → RequestUnderWay chip s d mid
      → DeviceFitsPhase chip s.plan s.phase d →
      WasReadInPhase s.plan s.phase a → IsRightInMemory chip s.plan d a → KeepsByte chip a d mid
  read_byte_stays_while_under_way s p d _ a e none k was h = record { byte = refl; safe = h.1 }
  read_byte_stays_while_under_way s p d mid a e (request {reaction = reaction} q body is comes) k was h =
      read_byte_stays_right chip s.plan a s.phase d reaction mid (subst (λ (x : DfuseDeed). DeedArrives chip x d reaction mid) (sym is)
      comes) k was h

  pub turn_keeps_session_facts : (l l' : DeviceAndSession) (x : Seen) → IsTurnOfBoth chip l x l' → SessionFactsHold chip l →
      SessionFactsHold chip l'
  turn_keeps_session_facts l l' x (sent q body reaction is comes seen row) so =
      let by = subst (λ (y : DfuseDeed). DeedArrives chip y l.device reaction l'.device) (sym is) comes in
      row_keeps_session_facts l l' x so row
      (device_fits_phase_after_request chip l.session l.session.phase l.device l'.device row.heard reaction x refl so.stands by seen
      row.hears)
      (λ a b was. kept_byte_is_right chip l.session.plan l.device l'.device a
      (read_byte_stays_right chip l.session.plan a l.session.phase l.device reaction l'.device by so.stands was (so.right a b was))
      (so.right a b was))
      (λ a b reads. phase_reads_right_byte chip l.session.plan so.for a b l.session.phase l.device l'.device row.heard reaction x so.stands
      by seen
      row.hears reads)
  turn_keeps_session_facts l l' x (waited ms is same seen row) so =
      row_keeps_session_facts l l' x so row
      (subst (λ (d : Device). DeviceFitsPhase chip l.session.plan (session_after_heard l.session row.heard).phase d) (sym same)
      (device_fits_phase_after_wait chip l.session l.session.phase l.device row.heard ms refl so.stands is))
      (λ a b was. subst (λ (d : Device). IsRightInMemory chip l.session.plan d a) (sym same) (so.right a b was))
      (λ a b reads. absurd (waiting_phase_reads_nothing l.session.plan l.session.phase row.heard ms a is reads))
  turn_keeps_session_facts l l' x (restarted mid any way rests changed seen row) so =
      let hears = subst (λ (y : Seen). DfuseSeenMeaningIn l.session.plan l.session.phase y row.heard) seen row.hears in
      row_keeps_session_facts l l' x so row
      (device_fits_phase_after_restart chip l.session l.session.phase l'.device row.heard refl hears)
      (λ a b was.
      let one = read_byte_stays_while_under_way l.session l.session.phase l.device mid a refl way so.stands was (so.right a b was) in
      kept_byte_is_right chip l.session.plan mid l'.device a (restart_keeps_byte chip a mid l'.device any rests changed one.safe)
      (kept_byte_is_right chip l.session.plan l.device mid a one (so.right a b was)))
      (λ a b reads. absurd (restart_reads_nothing_back l.session.plan l.session.phase row.heard a hears reads))
