-- The facts from which NoMixture and NoneButErasing follow stay true through each history.
use Rattle.std.proofs.Common.{◌≡◌, ℕ, ◌⊎◌, inl, inr, List, ◌∷◌, sym, ap, ◌∙◌, subst}
use Rattle.dfu_formats.specs.memory.Lookups.{AddressOnOnePage}
use Rattle.dfuse_host.specs.declared.plan.Plan.{Plan}
use Rattle.dfuse_host.specs.declared.phase.Phase.{Phase}
use Rattle.dfuse_host.specs.declared.phase.Phase.TheVariants.{On, Over}
use Rattle.dfuse_host.specs.declared.work.Work.{Work}
use Rattle.dfuse_host.specs.declared.work.Work.TheVariants as work
use Rattle.dfuse_host.specs.declared.seen.Seen.{Seen}
use Rattle.dfuse_host.specs.declared.session.Session.{Session}
use Rattle.dfuse_host.specs.ReadBack.{HasByte, WasReadInWork, WasReadInPhase, OnlyReadBack, AlwaysClosesAfterCompare}
use Rattle.dfuse_host.specs.Sessions.{session_after_heard}
use Rattle.dfuse_host.specs.Touching.{WorkTouchesImage, PhaseTouchesImage, WorkAlwaysTouchesImage}
use Rattle.dfuse_link.specs.Chips.{Chip, Device, DeviceAdvances}
use Rattle.dfuse_link.specs.Histories.{History, so_far, passes, turns}
use Rattle.dfuse_link.specs.Fronts.{IsFrontAddress, IsOffFrontPage}
use Rattle.dfuse_link.proofs.Blanks.{StaysBlankAt, quiet_work_writes_nothing, advance_keeps_blank, turn_keeps_blank}
use Rattle.dfuse_link.proofs.Bytes.{byte_at}
use Rattle.dfuse_link.proofs.FrontPages.{HasNoMixturePremises, byte_off_page_is_after_front}
use Rattle.dfuse_link.proofs.GroupRows.{StaysInGroup, IsWorkGroup}
use Rattle.dfuse_link.proofs.GroupTurns.{DoneStaysInGroup, turn_stays_in_group}
use Rattle.dfuse_link.proofs.GroupLaws.{front_page_works_are_group, done_command_keeps_front_page, erasing_works_are_group, done_erase_blanks_front, later_works_are_group, done_command_stays_compared}
use Rattle.dfuse_link.proofs.Groups.{WritesFrontOnItsPage, ErasesFirstPage, IsAfterComparison, FrontBlankAndQuiet}
use Rattle.dfuse_link.proofs.UntouchedBytes.{IsSafeInPhase, safe_byte_is_safe_in_phase}
use Rattle.dfuse_link.proofs.UntouchedTurns.{plan_image_is_filled}
use Rattle.dfuse_link.proofs.Rows.{turn_is_session_row}
use Rattle.dfuse_host.proofs.RunLaws.{heard_phase_keeps_plan}
use Rattle.dfuse_link.proofs.OtherPages.{IsBeforeComparison, erasing_leaves_other_page, later_work_leaves_other_page, early_deed_spares_front}
use Rattle.dfuse_link.proofs.UnchangedBytes.{HoldsInPhase, turn_keeps_byte_safe, advance_keeps_byte_safe}
use Rattle.dfuse_link.proofs.Passing.{advance_keeps_session_facts}
use Rattle.dfuse_link.proofs.SessionTurns.{SessionFactsHold, IsRightInMemory, turn_keeps_session_facts}
use Rattle.dfuse_link.proofs.Pairs.{DeviceAndSession, IsTurnOfBoth, device_with_session}

-- Each byte outside the front's page has its value in the device `first`, and is safe in phase `p`, as defined by IsSafeInPhase.
abbrev pub OtherPagesOld : Chip → Plan → Device → Phase → Device → Type 0
OtherPagesOld chip plan first p d = (a : ℕ) → IsOffFrontPage plan a → IsSafeInPhase chip a p d.device_work × (d.memory a
    ≡ first.memory a)

-- The bytes of the front are blank, and the device's work writes none of them.
abbrev pub FrontStaysBlank : Chip → Plan → Device → Type 0
FrontStaysBlank chip plan d = (a : ℕ) → IsFrontAddress plan a → StaysBlankAt chip a d

-- The memory holds each byte of the image outside the front's page, and each is safe in this phase, as defined by IsSafeInPhase.
abbrev pub OtherPagesNew : Chip → Plan → Phase → Device → Type 0
OtherPagesNew chip plan p d =
    (a : ℕ) → IsOffFrontPage plan a → HasByte a plan.image.now → IsSafeInPhase chip a p d.device_work × (d.memory a
    ≡ byte_at a plan.image.now)

-- One of three cases holds. The session erases the first page, and OtherPagesOld holds. Or the work is before the end of the comparison,
-- and the front is blank. Or the work is after the comparison, and OtherPagesNew holds.
abbrev pub OldBlankOrNew : Chip → Plan → Device → Phase → Device → Type 0
OldBlankOrNew chip plan first p d =
    (HoldsInPhase (ErasesFirstPage plan) p × OtherPagesOld chip plan first p d)
    ⊎ ((HoldsInPhase (IsBeforeComparison plan) p × FrontStaysBlank chip plan d) ⊎ (HoldsInPhase (IsAfterComparison plan) p
    × OtherPagesNew chip plan p d))

-- The facts about the session and the premises of `NoMixture` hold, the work touches the image, and OldBlankOrNew holds.
pub record NoMixtureSoFar (chip : Chip) (first : Device) (l : DeviceAndSession) : Type 0 where
  pub so : SessionFactsHold chip l
  pub mixture_facts : HasNoMixturePremises chip l.session.plan
  pub touches : PhaseTouchesImage l.session.plan l.session.phase
  pub placed : HoldsInPhase (WritesFrontOnItsPage l.session.plan) l.session.phase
  pub old_blank_or_new : OldBlankOrNew chip l.session.plan first l.session.phase l.device

module _ (one : AddressOnOnePage) (chip : Chip) (plan : Plan) (m : HasNoMixturePremises chip plan) (first : Device) where
  -- If the session has read back each byte of the image outside the front's page, the memory holds these bytes.
  read_back_pages_are_new : (p : Phase) (d : Device) → ((a : ℕ) → HasByte a plan.image.now → IsOffFrontPage plan a →
      WasReadInPhase plan p a) →
      ((a : ℕ) → HasByte a plan.image.now → WasReadInPhase plan p a → IsRightInMemory chip plan d a) → OtherPagesNew chip plan p d
  read_back_pages_are_new p d was right = λ a other has.
      let r = right a has (was a has other) in (safe_byte_is_safe_in_phase chip a p d.device_work r.1, r.0)

  -- Each work that touches the image precedes the end of the comparison of the image after the front, or follows it.
  work_before_or_after_comparison : (w : Work) → WorkTouchesImage plan w → WritesFrontOnItsPage plan w →
      IsBeforeComparison plan w ⊎ (IsAfterComparison plan w × ((a : ℕ) → HasByte a plan.image.now → IsOffFrontPage plan a →
      WasReadInWork plan w a))
  work_before_or_after_comparison (work.Erase at) touches placed = inl tt
  work_before_or_after_comparison (work.EraseAgain page end) touches placed = inl tt
  work_before_or_after_comparison (work.Write at end) touches placed = inl touches
  work_before_or_after_comparison (work.Compare at) touches placed = inl tt
  work_before_or_after_comparison (work.WriteFront at) touches placed = inr (
    placed,
    λ a has other. byte_off_page_is_after_front one chip
        plan m a has other,
  )
  work_before_or_after_comparison (work.CompareFront at) touches placed = inr (
    tt,
    λ a has other. inl (byte_off_page_is_after_front one
        chip plan m a has other),
  )
  work_before_or_after_comparison work.Leave touches placed = inr (tt, λ a has other. tt)

  no_mixture_if_front_blank : (p : Phase) (d : Device) → PhaseTouchesImage plan p → HoldsInPhase (WritesFrontOnItsPage plan) p →
      ((a : ℕ) → HasByte a plan.image.now → WasReadInPhase plan p a → IsRightInMemory chip plan d a) → FrontStaysBlank chip plan d →
      OldBlankOrNew chip plan first p d
  no_mixture_if_front_blank (On s) d touches placed right blank = elim (work_before_or_after_comparison s.work touches placed) [
    | inl b ↦ inr (inl (b, blank))
    | inr k ↦ inr (inr (k.0, read_back_pages_are_new (On s) d k.1 right))
  ]
  no_mixture_if_front_blank (Over r) d touches placed right blank = inr (inl (tt, blank))

  blank_and_quiet_is_blank : (d : Device) → FrontBlankAndQuiet chip plan d → FrontStaysBlank chip plan d
  blank_and_quiet_is_blank d b = λ a f. record { blank = b.0 a f; work_writes_nothing = quiet_work_writes_nothing chip a d.device_work b.1 }

phase_is_in_group_or_has_fact : (G : Work → Type 0) (B : Type 0) (p : Phase) → StaysInGroup G B p → HoldsInPhase G p ⊎ B
phase_is_in_group_or_has_fact G B (On s) k = k
phase_is_in_group_or_has_fact G B (Over r) k = inl tt

left_of_impossible_right : (A : Type 0) → A ⊎ ⊥ → A
left_of_impossible_right A k = elim k [ inl a ↦ a | inr b ↦ absurd b ]

module _ (one : AddressOnOnePage) (read : OnlyReadBack) (closes : AlwaysClosesAfterCompare) (always : WorkAlwaysTouchesImage) (chip : Chip)
    (first : Device) where
  module _ (l l' : DeviceAndSession) (x : Seen) (turn : IsTurnOfBoth chip l x l') (k : NoMixtureSoFar chip first l)
      (touches : PhaseTouchesImage l.session.plan l'.session.phase) (placed : HoldsInPhase (WritesFrontOnItsPage l.session.plan)
      l'.session.phase)
      (right : (a : ℕ) → HasByte a l.session.plan.image.now → WasReadInPhase l.session.plan l'.session.phase a →
      IsRightInMemory chip l.session.plan l'.device a) where
    no_mixture_from_blank : FrontStaysBlank chip l.session.plan l'.device →
        OldBlankOrNew chip l.session.plan first l'.session.phase l'.device
    no_mixture_from_blank blank =
        no_mixture_if_front_blank one chip l.session.plan k.mixture_facts first l'.session.phase l'.device touches placed right blank

    no_mixture_from_erased : FrontBlankAndQuiet chip l.session.plan l'.device →
        OldBlankOrNew chip l.session.plan first l'.session.phase l'.device
    no_mixture_from_erased b = no_mixture_from_blank (blank_and_quiet_is_blank one chip l.session.plan k.mixture_facts first l'.device b)

    -- If the session's work is in the group `G`, a turn keeps it in this group, or leaves the front blank and the device quiet.
    turn_stays_or_blanks_front : (G : Work → Type 0) → IsWorkGroup l.session.plan G (FrontBlankAndQuiet chip l.session.plan l'.device) →
        DoneStaysInGroup chip l.session.plan G (λ d. FrontBlankAndQuiet chip l.session.plan d) l'.device → HoldsInPhase G l.session.phase →
        HoldsInPhase G l'.session.phase ⊎ FrontBlankAndQuiet chip l.session.plan l'.device
    turn_stays_or_blanks_front G group done q =
        phase_is_in_group_or_has_fact G (FrontBlankAndQuiet chip l.session.plan l'.device) l'.session.phase
        (turn_stays_in_group chip l l' G (λ d. FrontBlankAndQuiet chip l.session.plan d) group done x turn q k.so.stands)

    no_mixture_from_old_pages : HoldsInPhase (ErasesFirstPage l.session.plan) l.session.phase →
        OtherPagesOld chip l.session.plan first l.session.phase l.device →
        OldBlankOrNew chip l.session.plan first l'.session.phase l'.device
    no_mixture_from_old_pages q old =
        elim (turn_stays_or_blanks_front (ErasesFirstPage l.session.plan) (erasing_works_are_group one chip l.session.plan k.mixture_facts
        l'.device)
        (done_erase_blanks_front one chip l.session.plan k.mixture_facts l'.device) q) [
          | inl now ↦ inl (
            now,
            λ a other.
                let was = old a other in
                let stays = turn_keeps_byte_safe chip a (ErasesFirstPage l.session.plan) l l'
                (λ w p at d e s. erasing_leaves_other_page one chip l.session.plan k.mixture_facts a other w p at d e s) x turn q
                k.so.stands was.0 in
                (stays.own, stays.byte ∙ was.1),
          )
          | inr b ↦ no_mixture_from_erased b
        ]

    no_mixture_from_new_pages : HoldsInPhase (IsAfterComparison l.session.plan) l.session.phase →
        OtherPagesNew chip l.session.plan l.session.phase l.device →
        OldBlankOrNew chip l.session.plan first l'.session.phase l'.device
    no_mixture_from_new_pages q new =
        elim (turn_stays_or_blanks_front (IsAfterComparison l.session.plan) (later_works_are_group one chip l.session.plan
        k.mixture_facts l'.device)
        (done_command_stays_compared one chip l.session.plan k.mixture_facts l'.device) q) [
          | inl now ↦ inr (inr (
            now,
            λ a other has.
                let was = new a other has in
                let stays = turn_keeps_byte_safe chip a (IsAfterComparison l.session.plan) l l'
                (λ w p at d e s. later_work_leaves_other_page one chip l.session.plan k.mixture_facts a other has w p at d e s) x turn q
                k.so.stands was.0 in
                (stays.own, stays.byte ∙ was.1),
          ))
          | inr b ↦ no_mixture_from_erased b
        ]

    no_mixture_from_blank_front : HoldsInPhase (IsBeforeComparison l.session.plan) l.session.phase →
        FrontStaysBlank chip l.session.plan l.device →
        OldBlankOrNew chip l.session.plan first l'.session.phase l'.device
    no_mixture_from_blank_front q blank =
        no_mixture_from_blank (λ a f. turn_keeps_blank chip a (IsBeforeComparison l.session.plan) l l'
        (λ w p at d e s. early_deed_spares_front one chip l.session.plan k.mixture_facts a f w p at d e s) x turn q k.so.stands (blank a f))

    no_mixture_in_next_phase : OldBlankOrNew chip l.session.plan first l.session.phase l.device →
        OldBlankOrNew chip l.session.plan first l'.session.phase l'.device
    no_mixture_in_next_phase old_blank_or_new = elim old_blank_or_new [
      | inl o ↦ no_mixture_from_old_pages o.0 o.1
      | inr rest ↦ elim rest [ inl b ↦ no_mixture_from_blank_front b.0 b.1 | inr n ↦ no_mixture_from_new_pages n.0 n.1 ]
    ]

  no_mixture_after_turn : (l l' : DeviceAndSession) (x : Seen) → IsTurnOfBoth chip l x l' → NoMixtureSoFar chip first l →
      NoMixtureSoFar chip first l'
  no_mixture_after_turn l l' x turn k =
      let row = turn_is_session_row chip l l' x turn in
      let plan : l'.session.plan ≡ l.session.plan =
      ap (λ (t : Session). t.plan) row.same ∙ heard_phase_keeps_plan l.session l.session.phase row.heard in
      let phase : l'.session.phase ≡ (session_after_heard l.session row.heard).phase = ap (λ (t : Session). t.phase) row.same in
      let so = turn_keeps_session_facts chip read closes l l' x turn k.so in
      let touches : PhaseTouchesImage l.session.plan l'.session.phase =
      subst (λ (p : Phase). PhaseTouchesImage l.session.plan p) (sym phase)
      (always.1 l.session row.heard (plan_image_is_filled chip l.session.plan k.so.for) k.so.closes k.touches) in
      let placed : HoldsInPhase (WritesFrontOnItsPage l.session.plan) l'.session.phase =
      left_of_impossible_right (HoldsInPhase (WritesFrontOnItsPage l.session.plan) l'.session.phase)
      (phase_is_in_group_or_has_fact (WritesFrontOnItsPage l.session.plan) ⊥ l'.session.phase
      (turn_stays_in_group chip l l' (WritesFrontOnItsPage l.session.plan) (λ d. ⊥) (front_page_works_are_group one chip l.session.plan
      k.mixture_facts l'.device)
      (done_command_keeps_front_page one chip l.session.plan k.mixture_facts l'.device) x turn k.placed k.so.stands)) in
      let right = subst (λ (q : Plan). (a : ℕ) → HasByte a q.image.now → WasReadInPhase q l'.session.phase a →
      IsRightInMemory chip q l'.device a) plan
      so.right in
      let old_blank_or_new = no_mixture_in_next_phase l l' x turn k touches placed right k.old_blank_or_new in
      record {
        so = so;
        mixture_facts = subst (λ (q : Plan). HasNoMixturePremises chip q) (sym plan) k.mixture_facts;
        touches = subst (λ (q : Plan). PhaseTouchesImage q l'.session.phase) (sym plan) touches;
        placed = subst (λ (q : Plan). HoldsInPhase (WritesFrontOnItsPage q) l'.session.phase) (sym plan) placed;
        old_blank_or_new = subst (λ (q : Plan). OldBlankOrNew chip q first l'.session.phase l'.device) (sym plan) old_blank_or_new;
      }

  no_mixture_as_device_advances : (l : DeviceAndSession) (d : Device) → DeviceAdvances chip l.device d →
      OldBlankOrNew chip l.session.plan first l.session.phase l.device →
      OldBlankOrNew chip l.session.plan first l.session.phase d
  no_mixture_as_device_advances l d more old_blank_or_new = elim old_blank_or_new [
    | inl o ↦ inl (
      o.0,
      λ a other.
          let was = o.1 a other in
          let stays = advance_keeps_byte_safe chip a l d more was.0 in (stays.own, stays.byte ∙ was.1),
    )
    | inr rest ↦ elim rest [
      | inl b ↦ inr (inl (b.0, λ a f. advance_keeps_blank chip a l.device d more (b.1 a f)))
      | inr n ↦ inr (inr (
        n.0,
        λ a other has.
            let was = n.1 a other has in
            let stays = advance_keeps_byte_safe chip a l d more was.0 in (stays.own, stays.byte ∙ was.1),
      ))
    ]
  ]

  pub no_mixture_in_history : (d d' : Device) (s s' : Session) (seens : List Seen) → History chip d s seens d' s' →
      NoMixtureSoFar chip first (device_with_session d s) →
      NoMixtureSoFar chip first (device_with_session d' s')
  no_mixture_in_history d _ s _ _ so_far k = k
  no_mixture_in_history d d' s s' seens (passes mid more rest) k = no_mixture_in_history mid d' s s' seens rest (record {
    so = advance_keeps_session_facts chip (device_with_session d s) mid more k.so;
    mixture_facts = k.mixture_facts;
    touches = k.touches;
    placed = k.placed;
    old_blank_or_new = no_mixture_as_device_advances (device_with_session d s) mid more k.old_blank_or_new;
  })
  no_mixture_in_history d d' s s' (x ∷ seens) (turns {mid = mid} {at = at} turn rest) k =
      no_mixture_in_history mid d' at s' seens rest (no_mixture_after_turn (device_with_session d s) (device_with_session mid at) x turn k)
