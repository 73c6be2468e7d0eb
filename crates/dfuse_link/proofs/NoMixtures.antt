-- Proofs of the laws NoMixture and NoneButErasing from the facts that hold in each history.
use Rattle.std.proofs.Common.{◌≡◌, ℕ, ◌≤◌, ◌⊎◌, inl, inr, refl, sym, ap, ◌∙◌, subst}
use Rattle.dfu_formats.specs.memory.Lookups.{AddressOnOnePage}
use Rattle.dfuse_host.specs.declared.plan.Plan.{Plan}
use Rattle.dfuse_host.specs.declared.phase.Phase.{Phase}
use Rattle.dfuse_host.specs.declared.phase.Phase.TheVariants.{On}
use Rattle.dfuse_host.specs.declared.work.Work.{Work}
use Rattle.dfuse_host.specs.declared.work.Work.TheVariants as work
use Rattle.dfuse_host.specs.declared.limits.Limits.{Limits}
use Rattle.dfuse_host.specs.ReadBack.{HasByte, WasReadInWork, WasReadInPhase, OnlyReadBack, AlwaysClosesAfterCompare}
use Rattle.dfuse_host.specs.Touching.{WorkAlwaysTouchesImage}
use Rattle.dfuse_host.specs.Sessions.{initial_dfuse_session}
use Rattle.dfuse_link.specs.Chips.{Chip, Device}
use Rattle.dfuse_link.specs.Fronts.{FrontIsBlank, ImageInMemory, NoMixture, NoneButErasing}
use Rattle.dfuse_link.specs.Touched.{CarriesNoOrder}
use Rattle.dfuse_host.specs.declared.phase.Standing.{Standing}
use Rattle.dfuse_host.specs.Plans.{front_end}
use Rattle.dfuse_link.proofs.Bytes.{byte_of_element_at}
use Rattle.dfuse_link.proofs.FrontLast.{found_element_has_byte}
use Rattle.dfuse_link.proofs.FrontPages.{HasNoMixturePremises}
use Rattle.dfuse_link.proofs.Groups.{ErasesFirstPage, IsAfterComparison}
use Rattle.dfuse_link.proofs.UntouchedTurns.{plan_image_is_filled, idle_work_is_safe_before_start}
use Rattle.dfuse_link.proofs.SessionTurns.{IsRightInMemory}
use Rattle.dfuse_link.proofs.Verified.{begun_session_has_facts, history_keeps_plan}
use Rattle.dfuse_link.proofs.Mixtures.{OldBlankOrNew, NoMixtureSoFar, no_mixture_in_history}
use Rattle.dfuse_link.proofs.Pairs.{session_begun_with}

-- When a session begins, NoMixtureSoFar holds, because the session erases the first page and no byte has changed.
no_mixture_at_begin : (always : WorkAlwaysTouchesImage) (chip : Chip) (plan : Plan) (limits : Limits) (d : Device) →
    HasNoMixturePremises chip plan → CarriesNoOrder d →
    NoMixtureSoFar chip d (session_begun_with d plan limits)
no_mixture_at_begin always chip plan limits d m idle = record {
  so = begun_session_has_facts chip plan limits d m.for;
  mixture_facts = m;
  touches = always.0 plan limits (plan_image_is_filled chip plan m.for);
  placed = tt;
  old_blank_or_new = inl (refl, λ a other. (idle_work_is_safe_before_start chip a d.device_work idle, refl));
}

pub no_mixture : AddressOnOnePage → OnlyReadBack → AlwaysClosesAfterCompare → WorkAlwaysTouchesImage → NoMixture
no_mixture one read closes always chip plan limits d d' s seens for apart map erases idle history =
    let m : HasNoMixturePremises chip plan = record { for = for; apart = apart; map = map; erases = erases } in
    let k = no_mixture_in_history one read closes always chip d d d' (initial_dfuse_session plan limits) s seens history
    (no_mixture_at_begin always chip plan limits d m idle) in
    let old_blank_or_new : OldBlankOrNew chip plan d s.phase d' =
    subst (λ (q : Plan). OldBlankOrNew chip q d s.phase d') (history_keeps_plan chip d d' (initial_dfuse_session plan limits) s seens
    history) k.old_blank_or_new in
    elim old_blank_or_new [
      | inl o ↦ inl (λ a other. (o.1 a other).1)
      | inr rest ↦ elim rest [
        | inl b ↦ inr (inl (λ a f. (b.1 a f).blank))
        | inr n ↦ inr (inr (λ a e other is. (n.1 a other (found_element_has_byte a e plan.image.now is)).1 ∙ ap (byte_of_element_at a) is))
      ]
    ]

-- The work is to erase a page, for the first time or again.
abbrev pub IsToErase : Work → Type 0
IsToErase (work.Erase at) = Unit {0}
IsToErase (work.EraseAgain page end) = Unit {0}
IsToErase w = ⊥

other_work_erases_nothing : (w : Work) → ((at : ℕ) → w ≡ work.Erase at → ⊥) → ((page end : ℕ) → w ≡ work.EraseAgain page end → ⊥) →
    IsToErase w → ⊥
other_work_erases_nothing (work.Erase at) first again is = first at refl
other_work_erases_nothing (work.EraseAgain page end) first again is = again page end refl
other_work_erases_nothing w first again is = is

-- After the comparison, the session has read back each byte of the image after the front, unless it erases the front's page again.
rest_was_read_after_comparison : (plan : Plan) (w : Work) (a : ℕ) → IsAfterComparison plan w → (IsToErase w → ⊥) → front_end plan ≤ a →
    WasReadInWork plan w a
rest_was_read_after_comparison plan (work.EraseAgain page end) a b no_erase low = absurd (no_erase tt)
rest_was_read_after_comparison plan (work.WriteFront at) a b no_erase low = low
rest_was_read_after_comparison plan (work.CompareFront at) a b no_erase low = inl low
rest_was_read_after_comparison plan work.Leave a b no_erase low = tt
rest_was_read_after_comparison plan w a b no_erase low = absurd b

first_page_work_erases : (plan : Plan) (w : Work) → ErasesFirstPage plan w → IsToErase w
first_page_work_erases plan w e = subst IsToErase (sym e) tt

no_mixture_unless_erasing : (chip : Chip) (plan : Plan) (first : Device) (s : Standing) (d : Device) → (IsToErase s.work → ⊥) →
    ((a : ℕ) → HasByte a plan.image.now → WasReadInPhase plan (On s) a → IsRightInMemory chip plan d a) →
    OldBlankOrNew chip plan first (On s) d →
    FrontIsBlank chip plan d.memory ⊎ ImageInMemory plan (λ (a : ℕ). front_end plan ≤ a) d.memory
no_mixture_unless_erasing chip plan first s d no_erase right old_blank_or_new = elim old_blank_or_new [
  | inl o ↦ absurd (no_erase (first_page_work_erases plan s.work o.0))
  | inr rest ↦ elim rest [
    | inl b ↦ inl (λ a f. (b.1 a f).blank)
    | inr n ↦ inr (λ a e low is.
        (right a (found_element_has_byte a e plan.image.now is) (rest_was_read_after_comparison plan s.work a n.0 no_erase low)).0
        ∙ ap (byte_of_element_at a) is)
  ]
]

pub none_but_erasing : AddressOnOnePage → OnlyReadBack → AlwaysClosesAfterCompare → WorkAlwaysTouchesImage → NoneButErasing
none_but_erasing one read closes always chip plan limits d d' s seens here for apart map erases idle history phase first again =
    let m : HasNoMixturePremises chip plan = record { for = for; apart = apart; map = map; erases = erases } in
    let k = no_mixture_in_history one read closes always chip d d d' (initial_dfuse_session plan limits) s seens history
    (no_mixture_at_begin always chip plan limits d m idle) in
    let same = history_keeps_plan chip d d' (initial_dfuse_session plan limits) s seens history in
    let old_blank_or_new : OldBlankOrNew chip plan d (On here) d' =
    subst (λ (p : Phase). OldBlankOrNew chip plan d p d') phase
    (subst (λ (q : Plan). OldBlankOrNew chip q d s.phase d') same k.old_blank_or_new) in
    let right : (a : ℕ) → HasByte a plan.image.now → WasReadInPhase plan (On here) a → IsRightInMemory chip plan d' a =
    subst (λ (p : Phase). (a : ℕ) → HasByte a plan.image.now → WasReadInPhase plan p a → IsRightInMemory chip plan d' a) phase
    (subst (λ (q : Plan). (a : ℕ) → HasByte a q.image.now → WasReadInPhase q s.phase a → IsRightInMemory chip q d' a) same k.so.right) in
    no_mixture_unless_erasing chip plan d here d' (other_work_erases_nothing here.work first again) right old_blank_or_new
