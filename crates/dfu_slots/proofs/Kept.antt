-- The active image stays active while the spare slot changes.
use Rattle.std.proofs.Common.{◌≡◌, ◌⊎◌, inl, inr, ⊎_elim, ℕ, ◌+◌, ◌≤◌, ◌<◌, List, length, take, slice_index, sym, ◌∙◌, ap, subst, arith}
use Rattle.dfu_slots.specs.Medium.{ChangedWithin}
use Rattle.dfu_slots.specs.Layout.{slot_size, Slot, slot, HasOpenGate, generation, next_generation, HasHeader}
use Rattle.dfu_slots.specs.Image.{SlotCounts, IsNewest}
use Rattle.dfu_slots.proofs.Stands.{ActiveAt}
use Rattle.dfu_slots.proofs.Counting.{equal_open_slot_counts}
use Rattle.dfu_slots.proofs.Parts.{gate_kept_outside_change, header_kept_outside_change, data_kept_outside_change, slot_kept_outside_change, slot_size_kept_by_change, same_length_has_two_slots}

-- The slot now at `other` doesn't count, or it is one generation older than the slot at `mine` was.
abbrev pub StaysNewest : ℕ → List ℕ → List ℕ → ℕ → ℕ → Type 0
StaysNewest g old now mine other = (¬ SlotCounts (slot g now other))
    ⊎ (generation (slot g old mine) ≡ next_generation (generation (slot g now other)))

-- A change within the spare slot keeps the active slot.
pub active_slot_kept : (g : ℕ) → 16 ≤ g → (old now : List ℕ) (mine other : ℕ) (image : List ℕ) (from to : ℕ)
    → ActiveAt g old mine other image → ChangedWithin from to old now → other ≤ from → to ≤ other + slot_size old
    → ◌≡◌ {A = Slot} (slot g now mine) (slot g old mine)
active_slot_kept g wide old now mine other image from to a keeps above below =
    slot_kept_outside_change g from to old now mine keeps wide (omega (arith, a.sized.room))
    (⊎_elim (λ p. inl (omega (arith, p.0, p.1))) (λ p. inr (omega (arith, p.0, p.1))) a.places)

-- A change of the spare slot keeps the active image if the spare then doesn't count or is one generation older.
pub active_image_kept : (g : ℕ) → 16 ≤ g → (old now : List ℕ) (mine other : ℕ) (image : List ℕ) (from to : ℕ)
    → ActiveAt g old mine other image → ChangedWithin from to old now → other ≤ from → to ≤ other + slot_size old
    → StaysNewest g old now mine other
    → ActiveAt g now mine other image
active_image_kept g wide old now mine other image from to a keeps above below other_is_older =
    let same = active_slot_kept g wide old now mine other image from to a keeps above below in
    let size = slot_size_kept_by_change from to old now keeps in
    record {
      sized = same_length_has_two_slots g old now keeps.size a.sized;
      places = ⊎_elim (λ p. inl (p.0, p.1 ∙ sym size)) (λ p. inr (p.0 ∙ sym size, p.1)) a.places;
      newest = subst (λ (s : Slot). IsNewest s (slot g now other)) (sym same) (record {
        counts = a.newest.counts;
        other_is_older =
            other_is_older;
      });
      header_is = subst (λ (s : Slot). HasHeader s (length image)) (sym same) a.header_is;
      image_is = subst (λ (s : Slot). image ≡ take (length image) s.data_bytes) (sym same) a.image_is;
    }

module _ (g : ℕ) (wide : 16 ≤ g) (old now : List ℕ) (mine other : ℕ) (image : List ℕ) (from to : ℕ) (a : ActiveAt g old mine other image)
    (keeps : ChangedWithin from to old now) where
  -- A change within the open gate of the spare keeps the active image, because it can't make the spare newer.
  pub open_gate_change_keeps_image : HasOpenGate (slot g old other) → other ≤ from → to ≤ other + g → ActiveAt g now mine other image
  open_gate_change_keeps_image was_open above below =
      let head = header_kept_outside_change g from to old now other keeps (inr below) in
      let body = data_kept_outside_change g from to old now other keeps (inr (omega arith)) in
      active_image_kept g wide old now mine other image from to a keeps above (omega (arith, a.sized.room))
      (⊎_elim (λ off. inl (λ c. off (equal_open_slot_counts (slot g now other) (slot g old other) head body was_open c)))
      (λ other_is_older. inr (other_is_older ∙ ap (λ (h : List ℕ). next_generation (slice_index h 0)) (sym head)))
      a.newest.other_is_older)

  -- If the spare's gate is closed, a change of the spare after the gate's first byte keeps the active image, because the spare doesn't
  -- count.
  pub closed_slot_change_keeps_image : ¬ HasOpenGate (slot g old other) → other < from → to ≤ other + slot_size old →
      ActiveAt g now mine other image
  closed_slot_change_keeps_image shut above below =
      let gate = gate_kept_outside_change g from to old now other keeps (inl above) in
      active_image_kept g wide old now mine other image from to a keeps (omega arith) below (inl (λ c. shut (sym gate ∙ c.is_open)))
