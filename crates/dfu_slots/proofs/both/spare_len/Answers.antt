use Rattle.std.proofs.Common.{◌≡◌, ◌⊎◌, inl, inr, ⊎_elim, Bool, ℕ, sym, ◌∙◌, ap}
use Rattle.dfu_slots.specs.Medium.{MediumState}
use Rattle.dfu_slots.specs.Layout.{slot_size}
use Rattle.dfu_slots.specs.Image.{gate_of, slot_of, slot_counts, spare_at}
use Rattle.dfu_slots.proofs.Counting.{passing_slot_counts, failing_slot_does_not_count}
use Rattle.dfu_slots.proofs.Newest.{tested_places_are_slots}
use Rattle.dfu_slots.proofs.both.spare_len.Goals.{then-spare-eq0, else-spare-eq0}
use Rattle.dfu_slots.proofs.both.spare_len.Goals as goal

-- If `counted` is slot_counts of the first slot for a spare at offset 0, and of the second slot for any other spare, it is slot_counts of
-- the spare.
spare_test_of_its_slot : (m : MediumState) (spare : ℕ) (counted : Bool) → spare ≡ spare_at (gate_of m) m.bytes
    → ((spare ≡ 0) × (counted ≡ slot_counts (slot_of m 0))) ⊎ ((¬ (spare ≡ 0)) × (counted ≡ slot_counts (slot_of m (slot_size m.bytes))))
    → counted ≡ slot_counts (slot_of m spare)
spare_test_of_its_slot m spare counted is there =
    ⊎_elim
    (λ first. first.1 ∙ ap (λ (x : ℕ). slot_counts (slot_of m x)) (sym first.0))
    (λ second. second.1 ∙ ap (λ (x : ℕ). slot_counts (slot_of m x)) (sym (⊎_elim
    (λ p. is ∙ p.1)
    (λ p. absurd (second.0 (is ∙ p.1)))
    (tested_places_are_slots (gate_of m) m.bytes))))
    there

pub returns-then-not-counts-clause-none : goal.returns-then-not-counts-clause-none
returns-then-not-counts-clause-none g c =
    let m = g.M.Medium.state c.args.medium.now in
    let told = spare_test_of_its_slot m c.args.spare c.if-spare-eq0.counts c.requires.spare (elim c.if-spare-eq0.branch [
      | then-spare-eq0 w ↦ inl (w.if-spare-eq0.true, w.counts-is ∙ c.requires.first)
      | else-spare-eq0 w ↦ inr (w.if-spare-eq0.false, w.counts-is ∙ c.requires.second)
    ]) in
    λ full len has. failing_slot_does_not_count (slot_of m c.args.spare) (sym told ∙ c.if-not-counts.true) full

pub header_len-requires-clause-counts : goal.header_len-requires-clause-counts
header_len-requires-clause-counts g c =
    let m = g.M.Medium.state c.args.medium.now in
    let told = spare_test_of_its_slot m c.args.spare c.if-spare-eq0.counts c.requires.spare (elim c.if-spare-eq0.branch [
      | then-spare-eq0 w ↦ inl (w.if-spare-eq0.true, w.counts-is ∙ c.requires.first)
      | else-spare-eq0 w ↦ inr (w.if-spare-eq0.false, w.counts-is ∙ c.requires.second)
    ]) in
    passing_slot_counts (slot_of m c.args.spare) (sym told ∙ c.if-not-counts.false)
