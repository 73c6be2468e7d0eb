-- While a session writes the front, the memory holds the rest of the image.
use Rattle.std.proofs.Common.{◌≡◌, ℕ, ◌≤◌, inl, inr, List, [], ◌∷◌, Some, sym, ap, ◌∙◌, subst}
use Rattle.dfu_formats.specs.declared.dfuse.element.Element.{Element}
use Rattle.dfuse_host.specs.declared.plan.Plan.{Plan}
use Rattle.dfuse_host.specs.declared.phase.Phase.{Phase}
use Rattle.dfuse_host.specs.declared.work.Work.{Work}
use Rattle.dfuse_host.specs.Images.{element_at}
use Rattle.dfuse_host.specs.Plans.{front_end}
use Rattle.dfuse_host.specs.Sessions.{initial_dfuse_session}
use Rattle.dfuse_host.specs.ReadBack.{HasByte, WasReadInWork, WasReadInPhase, OnlyReadBack, AlwaysClosesAfterCompare}
use Rattle.dfuse_link.specs.Fronts.{RestInMemory}
use Rattle.dfuse_link.proofs.Bytes.{byte_of_element_at, byte_at, element_first_or_among_rest, held_address_is_within, no_element_in_empty_image}
use Rattle.dfuse_link.proofs.Verified.{begun_session_has_facts, history_has_session_facts, history_keeps_plan}

-- If an element is found at an address, the image has a byte at this address.
pub found_element_has_byte : (a : ℕ) (e : Element) (es : List Element) → element_at a es ≡ Some e → HasByte a es
found_element_has_byte a e [] h = absurd (no_element_in_empty_image a e h)
found_element_has_byte a e (x ∷ xs) h =
    elim (element_first_or_among_rest a x e xs h) [
      | inl w ↦ inl (held_address_is_within a x w.1)
      | inr w ↦ inr (found_element_has_byte a e
          xs w)
    ]

pub rest_stands : OnlyReadBack → AlwaysClosesAfterCompare → RestInMemory
rest_stands only always chip plan limits d d' s seens here at for history phase work a e behind is =
    let so = history_has_session_facts chip only always d d' (initial_dfuse_session plan limits) s seens history (begun_session_has_facts
    chip plan limits d for) in
    let same : plan ≡ s.plan = sym (history_keeps_plan chip d d' (initial_dfuse_session plan limits) s seens history) in
    let has : HasByte a s.plan.image.now = subst (λ (q : Plan). HasByte a q.image.now) same
    (found_element_has_byte a e plan.image.now is) in
    let low : front_end s.plan ≤ a = subst (λ (q : Plan). front_end q ≤ a) same behind in
    let was : WasReadInPhase s.plan s.phase a =
    subst (λ (p : Phase). WasReadInPhase s.plan p a) (sym phase) (subst (λ (w : Work). WasReadInWork s.plan w a) (sym work) low) in
    let right : d'.memory a ≡ byte_at a s.plan.image.now = (so.right a has was).0 in
    right ∙ ap (λ (q : Plan). byte_at a q.image.now) (sym same) ∙ ap (byte_of_element_at a) is
