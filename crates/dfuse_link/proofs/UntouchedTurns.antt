-- In each turn, a byte stays unchanged if it lies on a page without a byte of the image.
use Rattle.std.proofs.Common.{◌≡◌, ℕ, false, List, ◌∷◌, refl, sym, ap, ◌∙◌, subst}
use Rattle.std.proofs.lemmas.Bool.{false_from_ne_true}
use Rattle.dfuse_host.specs.declared.plan.Plan.{Plan}
use Rattle.dfuse_host.specs.declared.phase.Phase.{Phase}
use Rattle.dfuse_host.specs.declared.phase.Phase.TheVariants.{On, Over}
use Rattle.dfuse_host.specs.declared.seen.Seen.{Seen}
use Rattle.dfuse_host.specs.declared.session.Session.{Session}
use Rattle.dfuse_host.specs.Refusing.{is_empty}
use Rattle.dfuse_host.specs.ReadBack.{OnlyReadBack, AlwaysClosesAfterCompare}
use Rattle.dfuse_host.specs.Touching.{WorkTouchesImage, PhaseTouchesImage, WorkAlwaysTouchesImage, OnlyTouchedPagesChange}
use Rattle.dfuse_host.specs.Sessions.{initial_dfuse_session, session_after_heard}
use Rattle.dfuse_link.specs.Chips.{Chip, Order, DeviceWork, CarriesOut, Device, DeviceAdvances}
use Rattle.dfuse_link.specs.Histories.{History, so_far, passes, turns}
use Rattle.dfuse_link.specs.Promises.{IsPlanFor}
use Rattle.dfuse_link.specs.Touched.{OtherPagesStay}
use Rattle.dfuse_link.proofs.Rows.{turn_is_session_row}
use Rattle.dfuse_host.proofs.RunLaws.{heard_phase_keeps_plan}
use Rattle.dfuse_link.proofs.UnchangedBytes.{HoldsInPhase, turn_keeps_byte_safe, advance_keeps_byte_safe}
use Rattle.dfuse_link.proofs.Passing.{advance_keeps_session_facts}
use Rattle.dfuse_link.proofs.SessionTurns.{SessionFactsHold, turn_keeps_session_facts}
use Rattle.dfuse_link.proofs.Verified.{begun_session_has_facts}
use Rattle.dfuse_link.proofs.Changes.{IsSafeBeforeStart}
use Rattle.dfuse_link.proofs.UntouchedBytes.{IsSafeInPhase}
use Rattle.dfuse_link.proofs.ImagePageRequests.{IsOnOtherPage, step_leaves_other_page}
use Rattle.dfuse_link.proofs.Pairs.{DeviceAndSession, IsTurnOfBoth, device_with_session}

-- The byte at `a` has the value that it had when the session began, its page has no byte of the image, and the byte is safe in this phase,
-- as defined by IsSafeInPhase.
record IsOtherByteKept (chip : Chip) (a : ℕ) (first : Device) (l : DeviceAndSession) : Type 0 where
  so : SessionFactsHold chip l
  apart : IsOnOtherPage chip l.session.plan a
  touches : PhaseTouchesImage l.session.plan l.session.phase
  own : IsSafeInPhase chip a l.session.phase l.device.device_work
  byte : l.device.memory a ≡ first.memory a

pub plan_image_is_filled : (chip : Chip) (plan : Plan) → IsPlanFor chip plan → is_empty plan.image.now ≡ false
plan_image_is_filled chip plan for = false_from_ne_true (is_empty plan.image.now) for.sound.0.0.0.0.0.0.1

touching_phase_has_touching_work : (plan : Plan) (p : Phase) → PhaseTouchesImage plan p → HoldsInPhase (WorkTouchesImage plan) p
touching_phase_has_touching_work plan (On s) h = h
touching_phase_has_touching_work plan (Over r) h = h

module _ (read : OnlyReadBack) (closes : AlwaysClosesAfterCompare) (always : WorkAlwaysTouchesImage) (only : OnlyTouchedPagesChange) (chip
    : Chip) (a : ℕ)
    (first : Device) where
  turn_keeps_other_byte : (l l' : DeviceAndSession) (x : Seen) → IsTurnOfBoth chip l x l' → IsOtherByteKept chip a first l →
      IsOtherByteKept chip a first l'
  turn_keeps_other_byte l l' x turn k =
      let row = turn_is_session_row chip l l' x turn in
      let plan : l.session.plan ≡ l'.session.plan =
      sym (ap (λ (t : Session). t.plan) row.same ∙ heard_phase_keeps_plan l.session l.session.phase row.heard) in
      let phase : (session_after_heard l.session row.heard).phase ≡ l'.session.phase = sym (ap (λ (t : Session). t.phase) row.same) in
      let touches = always.1 l.session row.heard (plan_image_is_filled chip l.session.plan k.so.for) k.so.closes k.touches in
      let stays = turn_keeps_byte_safe chip a (WorkTouchesImage l.session.plan) l l'
      (λ w p at d t. step_leaves_other_page only chip l.session.plan a k.apart k.so.for w p at d t) x turn
      (touching_phase_has_touching_work l.session.plan l.session.phase k.touches) k.so.stands k.own in
      record {
        so = turn_keeps_session_facts chip read closes l l' x turn k.so;
        apart = subst (λ (q : Plan). IsOnOtherPage chip q a) plan k.apart;
        touches = subst (λ (p : Phase). PhaseTouchesImage l'.session.plan p) phase
            (subst (λ (q : Plan). PhaseTouchesImage q (session_after_heard l.session row.heard).phase) plan touches);
        own = stays.own;
        byte = stays.byte ∙ k.byte;
      }

  advance_keeps_other_byte : (l : DeviceAndSession) (d : Device) → DeviceAdvances chip l.device d → IsOtherByteKept chip a first l →
      IsOtherByteKept chip a first (record { device = d; session = l.session })
  advance_keeps_other_byte l d x k =
      let stays = advance_keeps_byte_safe chip a l d x k.own in
      record {
        so = advance_keeps_session_facts chip l d x k.so;
        apart = k.apart;
        touches = k.touches;
        own = stays.own;
        byte = stays.byte ∙ k.byte;
      }

  history_keeps_other_byte : (d d' : Device) (s s' : Session) (seens : List Seen) → History chip d s seens d' s' →
      IsOtherByteKept chip a first (device_with_session d s) →
      IsOtherByteKept chip a first (device_with_session d' s')
  history_keeps_other_byte d _ s _ _ so_far k = k
  history_keeps_other_byte d d' s s' seens (passes mid more rest) k = history_keeps_other_byte mid d' s s' seens rest
      (advance_keeps_other_byte (device_with_session d s) mid more k)
  history_keeps_other_byte d d' s s' (x ∷ seens) (turns {mid = mid} {at = at} turn rest) k =
      history_keeps_other_byte mid d' at s' seens rest (turn_keeps_other_byte (device_with_session d s) (device_with_session mid at) x turn
      k)

pub idle_work_is_safe_before_start : (chip : Chip) (a : ℕ) (device_work : DeviceWork) → ((order : Order) → device_work
    ≡ CarriesOut order → ⊥) → IsSafeBeforeStart chip a device_work
idle_work_is_safe_before_start chip a (CarriesOut order) idle = absurd (idle order refl)
idle_work_is_safe_before_start chip a device_work idle = tt

pub others_stay : OnlyReadBack → AlwaysClosesAfterCompare → WorkAlwaysTouchesImage → OnlyTouchedPagesChange → OtherPagesStay
others_stay read closes always only chip plan limits d d' s seens a for map idle history page_is_untouched =
    (history_keeps_other_byte read closes always only chip a d d d' (initial_dfuse_session plan limits) s seens history (record {
      so = begun_session_has_facts chip plan limits d for;
      apart = record { page_is_untouched = page_is_untouched; map = map };
      touches = always.0 plan limits (plan_image_is_filled chip plan for);
      own = idle_work_is_safe_before_start chip a d.device_work idle;
      byte = refl;
    })).byte
