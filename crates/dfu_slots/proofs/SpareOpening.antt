-- Lemmas about `open_spare`, which writes the held bytes, then the header, and then the gate.
use Rattle.std.proofs.Common.{◌≡◌, ℕ, ◌+◌, ◌-◌, ◌≤◌, List, ◌++◌, length, take, Result, sym, ◌∙◌, ap, subst}
use Rattle.dfu_suffix.specs.Register.{register}
use Rattle.dfu_slots.specs.declared.fault.WriteFault.{WriteFault}
use Rattle.dfu_slots.specs.Units.{filled_units}
use Rattle.dfu_slots.specs.Medium.{MediumState, Write, written}
use Rattle.dfu_slots.specs.Layout.{generation, next_generation}
use Rattle.dfu_slots.specs.Image.{gate_of, slot_of, IsSizedMedium, active_at, spare_at}
use Rattle.dfu_slots.specs.Writes.{held_writes, open_writes}
use Rattle.dfu_slots.specs.Operations.{held_from}
use Rattle.dfu_slots.specs.StoreView.{SlotsState, store_of, spare_of, writes_of, Commit}
use Rattle.dfu_slots.specs.inside.Series.{Series}
use Rattle.dfu_slots.specs.Store.{HasPutBytes}
use Rattle.dfu_slots.proofs.Multiples.{filled_held_fits_medium}
use Rattle.dfu_slots.proofs.VisibleStores.{spare_is_data_with_held}

module _ (m : MediumState) (held : List ℕ) (end : ℕ) {place : ℕ} {shown : List ℕ} (sized : IsSizedMedium m)
    (puts : HasPutBytes (store_of m held end)) (here : place ≡ spare_at (gate_of m) m.bytes) (shown_is : shown ≡ held) where
  abbrev s : SlotsState
  s = store_of m held end

  -- The held bytes, filled up with zeros, lie within the medium.
  pub held_bytes_within_medium : held_from m.grain place end (length shown) + length (filled_units m.grain.unit shown) ≤ length m.bytes
  held_bytes_within_medium =
      subst (λ (p : ℕ). held_from m.grain p end (length shown) + length (filled_units m.grain.unit shown) ≤ length m.bytes) (sym here)
      (subst (λ (l : List ℕ). held_from m.grain (spare_at (gate_of m) m.bytes) end (length l) + length (filled_units m.grain.unit l)
      ≤ length m.bytes) (sym shown_is) (filled_held_fits_medium s puts sized))

  -- The writes of `open_spare` are those of a `commit`.
  pub spare_opened_by_commit : {T : Type 0} (now : MediumState) (r : Result T WriteFault) (first gen len crc : ℕ)
      → first ≡ active_at (gate_of m) m.bytes → gen ≡ generation (slot_of m first)
      → crc ≡ register (take len (written (slot_of m place).data_bytes (end - length shown) shown))
      → Series m (held_writes m.grain (held_from m.grain place end (length shown)) shown
      ++ open_writes m.grain place (next_generation gen) len crc) r now
      → Series m (writes_of s (Commit len)) r now
  spare_opened_by_commit now r first gen len crc active gen_is crc_is series =
      let next : gen ≡ generation (slot_of m (active_at (gate_of m) m.bytes)) = gen_is
      ∙ ap (λ (p : ℕ). generation (slot_of m p)) active in
      let same : crc ≡ register (take len (spare_of s)) = crc_is
      ∙ (λ i. register (take len (written (slot_of m (here i)).data_bytes (end - length (shown_is i)) (shown_is i))))
      ∙ ap (λ (l : List ℕ). register (take len l)) (sym (spare_is_data_with_held s)) in
      subst (λ (ws : List Write). Series m ws r now)
      (λ i. held_writes m.grain (held_from m.grain (here i) end (length (shown_is i))) (shown_is i)
      ++ open_writes m.grain (here i) (next_generation (next i)) len (same i)) series
