-- One write is deterministic: if the fuse of a medium is known, its bytes, fuse and grain determine what the write leaves.
use Rattle.std.specs.Prelude.{◌≡◌, ℕ, ◌+◌, true, false, List}
use Rattle.std.proofs.Common.{inl, inr, refl, sym, ap, ◌∙◌, subst, arith}
use Rattle.dfu_slots.specs.declared.fault.WriteFault.{WriteFault}
use Rattle.dfu_slots.specs.declared.fault.WriteFault.TheVariants.{Failed, NotVerified}
use Rattle.dfu_slots.specs.Medium.{MediumState, Fuse, WriteMayWork, WriteMayFail, written, Write, WroteBytes, FailedWrite}
use Rattle.dfu_slots.specs.Medium.Fuse.{Unknown, Whole, Armed, Lying, Stopped}

-- A fuse is known if it determines what the next writes do.
abbrev pub IsKnownFuse : Fuse → Type 0
IsKnownFuse Unknown = ⊥
IsKnownFuse fuse = Unit {0}

-- Two media are equal: they have the same bytes, fuse and grain. Their counts of failures may differ.
pub record SameMedium (a b : MediumState) : Type 0 where
  pub bytes : a.bytes ≡ b.bytes
  pub fuse : a.fuse ≡ b.fuse
  pub grain : a.grain ≡ b.grain

-- Two fuses of one kind are equal if their remaining counts of writes are equal.
equal_counts_equal_fuses : {more less : ℕ} (fuse : ℕ → Fuse) → more + 1 ≡ less + 1 → fuse more ≡ fuse less
equal_counts_equal_fuses fuse e = ap fuse (omega (arith, e))

module _ (old : List ℕ) (at : ℕ) (new : List ℕ) where
  -- The fuse before a write that works determines the fuse after it.
  worked_write_fixes_fuse : (f g h : Fuse) → WriteMayWork f old at new g → WriteMayWork f old at new h → g ≡ h
  worked_write_fixes_fuse Unknown g h a b = a ∙ sym b
  worked_write_fixes_fuse Whole g h a b = a ∙ sym b
  worked_write_fixes_fuse (Armed n tear stop) g h (m, e, a) (k, f, b) = a ∙ equal_counts_equal_fuses (λ x. Armed x tear stop) (sym e
      ∙ f) ∙ sym b
  worked_write_fixes_fuse (Lying n tear) g h (inl (m, e, a)) (inl (k, f, b)) = a ∙ equal_counts_equal_fuses (λ x. Lying x tear) (sym e
      ∙ f) ∙ sym b
  worked_write_fixes_fuse (Lying n tear) g h (inl (m, e, a)) (inr (f, same, b)) = absurd (omega (arith, e, f))
  worked_write_fixes_fuse (Lying n tear) g h (inr (e, same, a)) (inl (k, f, b)) = absurd (omega (arith, e, f))
  worked_write_fixes_fuse (Lying n tear) g h (inr (e, same, a)) (inr (f, too, b)) = a ∙ sym b
  worked_write_fixes_fuse Stopped g h a b = absurd a

  -- If the fuse is known before a write that works, it is known after the write.
  worked_write_keeps_known : (f g : Fuse) → IsKnownFuse f → WriteMayWork f old at new g → IsKnownFuse g
  worked_write_keeps_known Unknown g k a = absurd k
  worked_write_keeps_known Whole g k a = subst IsKnownFuse (sym a) tt
  worked_write_keeps_known (Armed n tear stop) g k (m, e, a) = subst IsKnownFuse (sym a) tt
  worked_write_keeps_known (Lying n tear) g k (inl (m, e, a)) = subst IsKnownFuse (sym a) tt
  worked_write_keeps_known (Lying n tear) g k (inr (e, same, a)) = subst IsKnownFuse (sym a) tt
  worked_write_keeps_known Stopped g k a = absurd a

  -- A known fuse determines which bytes and which fuse a write with a given fault leaves.
  fault_fixes_bytes_and_fuse : (f : Fuse) (w : WriteFault) (l r : List ℕ) (g h : Fuse) → IsKnownFuse f → WriteMayFail f w old at new l g
      → WriteMayFail f w old at new r h → (l ≡ r) × (g ≡ h)
  fault_fixes_bytes_and_fuse Unknown w l r g h k a b = absurd k
  fault_fixes_bytes_and_fuse Whole w l r g h k a b = absurd a
  fault_fixes_bytes_and_fuse (Armed n tear true) Failed l r g h k a b = (a.1 ∙ sym b.1, a.2 ∙ sym b.2)
  fault_fixes_bytes_and_fuse (Armed n tear false) Failed l r g h k a b = (a.1 ∙ sym b.1, a.2 ∙ sym b.2)
  fault_fixes_bytes_and_fuse (Armed n tear stop) NotVerified l r g h k a b = absurd a
  fault_fixes_bytes_and_fuse (Lying n tear) Failed l r g h k a b = absurd a
  fault_fixes_bytes_and_fuse (Lying n tear) NotVerified l r g h k a b = (a.1 ∙ sym b.1, a.3 ∙ sym b.3)
  fault_fixes_bytes_and_fuse Stopped Failed l r g h k a b = (a.0 ∙ sym b.0, a.1 ∙ sym b.1)
  fault_fixes_bytes_and_fuse Stopped NotVerified l r g h k a b = absurd a

  -- A known fuse determines the fault with which a write fails.
  fuse_fixes_fault : (f : Fuse) (w v : WriteFault) (l r : List ℕ) (g h : Fuse) → IsKnownFuse f → WriteMayFail f w old at new l g
      → WriteMayFail f v old at new r h → w ≡ v
  fuse_fixes_fault f Failed Failed l r g h k a b = refl
  fuse_fixes_fault f NotVerified NotVerified l r g h k a b = refl
  fuse_fixes_fault Unknown w v l r g h k a b = absurd k
  fuse_fixes_fault Whole w v l r g h k a b = absurd a
  fuse_fixes_fault (Armed n tear stop) Failed NotVerified l r g h k a b = absurd b
  fuse_fixes_fault (Armed n tear stop) NotVerified Failed l r g h k a b = absurd a
  fuse_fixes_fault (Lying n tear) Failed NotVerified l r g h k a b = absurd a
  fuse_fixes_fault (Lying n tear) NotVerified Failed l r g h k a b = absurd b
  fuse_fixes_fault Stopped Failed NotVerified l r g h k a b = absurd b
  fuse_fixes_fault Stopped NotVerified Failed l r g h k a b = absurd a

  -- With a known fuse a write can't both work and fail.
  write_works_or_fails_only : (f g h : Fuse) (w : WriteFault) (l : List ℕ) → IsKnownFuse f → WriteMayWork f old at new g →
      WriteMayFail f w old at new l h → ⊥
  write_works_or_fails_only Unknown g h w l k a b = k
  write_works_or_fails_only Whole g h w l k a b = b
  write_works_or_fails_only (Armed n tear true) g h Failed l k (m, e, a) b = omega (arith, e, b.0)
  write_works_or_fails_only (Armed n tear false) g h Failed l k (m, e, a) b = omega (arith, e, b.0)
  write_works_or_fails_only (Armed n tear stop) g h NotVerified l k a b = b
  write_works_or_fails_only (Lying n tear) g h Failed l k a b = b
  write_works_or_fails_only (Lying n tear) g h NotVerified l k (inl (m, e, a)) b = omega (arith, e, b.0)
  write_works_or_fails_only (Lying n tear) g h NotVerified l k (inr (e, same, a)) b = b.2 (b.1 ∙ same)
  write_works_or_fails_only Stopped g h w l k a b = a

module _ (w : Write) (s t x y : MediumState) (same : SameMedium s t) where
  -- If the fuse of a medium is known, the fuse of an equal medium is known too.
  fuse_known_on_same_medium : IsKnownFuse s.fuse → IsKnownFuse t.fuse
  fuse_known_on_same_medium k = subst IsKnownFuse same.fuse k

  -- A write that may work on a medium may work on an equal medium.
  may_work_on_same_medium : (next : Fuse) → WriteMayWork s.fuse s.bytes w.at w.bytes next → WriteMayWork t.fuse t.bytes w.at w.bytes next
  may_work_on_same_medium next a = subst (λ (f : Fuse). WriteMayWork f t.bytes w.at w.bytes next) same.fuse
      (subst (λ (l : List ℕ). WriteMayWork s.fuse l w.at w.bytes next) same.bytes a)

  -- A write that may fail on a medium may fail with the same fault on an equal medium.
  may_fail_on_same_medium : (fault : WriteFault) (left : List ℕ) (next : Fuse) → WriteMayFail s.fuse fault s.bytes w.at w.bytes left next
      → WriteMayFail t.fuse fault t.bytes w.at w.bytes left next
  may_fail_on_same_medium fault left next a = subst (λ (f : Fuse). WriteMayFail f fault t.bytes w.at w.bytes left next) same.fuse
      (subst (λ (l : List ℕ). WriteMayFail s.fuse fault l w.at w.bytes left next) same.bytes a)

  -- A write that works on two equal media leaves equal media.
  pub worked_writes_same_medium : WroteBytes s w.at w.bytes x → WroteBytes t w.at w.bytes y → SameMedium x y
  worked_writes_same_medium a b = record {
    bytes = a.bytes ∙ ap (λ (l : List ℕ). written l w.at w.bytes) same.bytes ∙ sym b.bytes;
    fuse = worked_write_fixes_fuse t.bytes w.at w.bytes t.fuse x.fuse y.fuse (may_work_on_same_medium x.fuse a.fuse) b.fuse;
    grain = a.grain ∙ same.grain ∙ sym b.grain;
  }

  -- If the fuse is known, a write that fails on two equal media has the same fault on both.
  pub failed_writes_same_fault : (f g : WriteFault) → IsKnownFuse s.fuse → FailedWrite f s w.at w.bytes x →
      FailedWrite g t w.at w.bytes y → f ≡ g
  failed_writes_same_fault f g k a b = fuse_fixes_fault t.bytes w.at w.bytes t.fuse f g x.bytes y.bytes x.fuse y.fuse
      (fuse_known_on_same_medium k)
      (may_fail_on_same_medium f x.bytes x.fuse a.fuse) b.fuse

  -- If the fuse is known, a write that fails with the same fault on two equal media leaves equal media.
  pub failed_writes_same_medium : (f : WriteFault) → IsKnownFuse s.fuse → FailedWrite f s w.at w.bytes x →
      FailedWrite f t w.at w.bytes y → SameMedium x y
  failed_writes_same_medium f k a b =
      let both = fault_fixes_bytes_and_fuse t.bytes w.at w.bytes t.fuse f x.bytes y.bytes x.fuse y.fuse (fuse_known_on_same_medium k)
      (may_fail_on_same_medium f x.bytes x.fuse a.fuse)
      b.fuse in
      record { bytes = both.0; fuse = both.1; grain = a.grain ∙ same.grain ∙ sym b.grain }

  -- If the fuse is known, a write can't work on one of two equal media and fail on the other.
  pub write_works_or_fails : (f : WriteFault) → IsKnownFuse s.fuse → WroteBytes s w.at w.bytes x → FailedWrite f t w.at w.bytes y → ⊥
  write_works_or_fails f k a b = write_works_or_fails_only t.bytes w.at w.bytes t.fuse x.fuse y.fuse f y.bytes (fuse_known_on_same_medium k)
      (may_work_on_same_medium x.fuse a.fuse) b.fuse

-- If the fuse is known before a write that works, it is known after the write.
pub fuse_known_after_write : (w : Write) (s x : MediumState) → IsKnownFuse s.fuse → WroteBytes s w.at w.bytes x → IsKnownFuse x.fuse
fuse_known_after_write w s x k a = worked_write_keeps_known s.bytes w.at w.bytes s.fuse x.fuse k a.fuse

pub same_medium_symmetric : (s t : MediumState) → SameMedium s t → SameMedium t s
same_medium_symmetric s t same = record { bytes = sym same.bytes; fuse = sym same.fuse; grain = sym same.grain }
