-- Lists of writes are deterministic: if the fuse of a medium is known, its bytes, fuse and grain determine what the writes leave.
use Rattle.std.specs.Prelude.{◌≡◌, ◌+◌, ◌-◌, ◌*◌, List, [], ◌∷◌, ◌++◌, length, take}
use Rattle.std.proofs.Common.{inl, inr, refl, sym, ap, ◌∙◌, subst}
use Rattle.dfu_suffix.specs.Register.{register}
use Rattle.dfu_slots.specs.Units.{gate_room}
use Rattle.dfu_slots.specs.declared.fault.WriteFault.{WriteFault}
use Rattle.dfu_slots.specs.Medium.{MediumState, written, Write, AllWrites, BrokenWrites}
use Rattle.dfu_slots.specs.OneWrite.{IsKnownFuse, SameMedium, worked_writes_same_medium, failed_writes_same_fault, failed_writes_same_medium, write_works_or_fails, fuse_known_after_write, same_medium_symmetric}
use Rattle.dfu_slots.specs.Image.{spare_at, spare}
use Rattle.dfu_slots.specs.Writes.{begin_writes, put_writes, put_rest, held_writes, commit_writes}
use Rattle.dfu_slots.specs.StoreView.{SlotsState, spare_of, StoreCall, Begin, Put, Commit, writes_of, held_after_call, CallWorked, CallFailed, Ending, AllWorked, BrokenBy, CallsEnd}

-- Lemmas about lists of writes on two equal media.

-- If all writes of a list work, a known fuse stays known.
pub fuse_known_after_writes : (ws : List Write) (s x : MediumState) → IsKnownFuse s.fuse → AllWrites s ws x → IsKnownFuse x.fuse
fuse_known_after_writes [] s x k same = subst IsKnownFuse (sym (ap (λ (m : MediumState). m.fuse) same)) k
fuse_known_after_writes (w ∷ ws) s x k (p, a, more) = fuse_known_after_writes ws p x (fuse_known_after_write w s p k a) more

-- If the same writes all work on two equal media, they leave equal media.
pub same_writes_same_end : (ws : List Write) (s t x y : MediumState) → SameMedium s t → AllWrites s ws x → AllWrites t ws y → SameMedium x y
same_writes_same_end [] s t x y same a b = record {
  bytes = ap (λ (m : MediumState). m.bytes) a ∙ same.bytes ∙ sym (ap (λ (m : MediumState). m.bytes) b);
  fuse = ap (λ (m : MediumState). m.fuse) a ∙ same.fuse ∙ sym (ap (λ (m : MediumState). m.fuse) b);
  grain = ap (λ (m : MediumState). m.grain) a ∙ same.grain ∙ sym (ap (λ (m : MediumState). m.grain) b);
}
same_writes_same_end (w ∷ ws) s t x y same (p, a, more) (q, b, rest) = same_writes_same_end ws p q x y (worked_writes_same_medium w s t p q
    same a b) more rest

-- If the fuse is known, the same writes can't all work on one of two equal media and fail on the other.
pub writes_work_or_break : (f : WriteFault) (ws : List Write) (s t x y : MediumState) → SameMedium s t → IsKnownFuse s.fuse →
    AllWrites s ws x
    → BrokenWrites f t ws y → ⊥
writes_work_or_break f [] s t x y same k a b = b
writes_work_or_break f (w ∷ ws) s t x y same k (p, a, more) (inl failed) = write_works_or_fails w s t p y same f k a failed
writes_work_or_break f (w ∷ ws) s t x y same k (p, a, more) (inr (q, b, rest)) = writes_work_or_break f ws p q x y
    (worked_writes_same_medium w s t p q same a b)
    (fuse_known_after_write w s p k a) more rest

-- If the fuse is known, and the same writes fail on two equal media, they fail with the same fault.
pub broken_writes_same_fault : (f g : WriteFault) (ws : List Write) (s t x y : MediumState) → SameMedium s t → IsKnownFuse s.fuse →
    BrokenWrites f s ws x
    → BrokenWrites g t ws y → f ≡ g
broken_writes_same_fault f g [] s t x y same k a b = absurd a
broken_writes_same_fault f g (w ∷ ws) s t x y same k (inl a) (inl b) = failed_writes_same_fault w s t x y same f g k a b
broken_writes_same_fault f g (w ∷ ws) s t x y same k (inl a) (inr (q, b, rest)) =
    absurd (write_works_or_fails w t s q x (same_medium_symmetric s t same) f (subst IsKnownFuse same.fuse k) b a)
broken_writes_same_fault f g (w ∷ ws) s t x y same k (inr (p, a, more)) (inl b) = absurd (write_works_or_fails w s t p y same g k a b)
broken_writes_same_fault f g (w ∷ ws) s t x y same k (inr (p, a, more)) (inr (q, b, rest)) = broken_writes_same_fault f g ws p q x y
    (worked_writes_same_medium w s t p q same a b)
    (fuse_known_after_write w s p k a) more rest

-- If the fuse is known, and the same writes fail on two equal media with the same fault, they leave equal media.
pub broken_writes_same_end : (f : WriteFault) (ws : List Write) (s t x y : MediumState) → SameMedium s t → IsKnownFuse s.fuse
    → BrokenWrites f s ws x
    → BrokenWrites f t ws y → SameMedium x y
broken_writes_same_end f [] s t x y same k a b = absurd a
broken_writes_same_end f (w ∷ ws) s t x y same k (inl a) (inl b) = failed_writes_same_medium w s t x y same f k a b
broken_writes_same_end f (w ∷ ws) s t x y same k (inl a) (inr (q, b, rest)) =
    absurd (write_works_or_fails w t s q x (same_medium_symmetric s t same) f (subst IsKnownFuse same.fuse k) b a)
broken_writes_same_end f (w ∷ ws) s t x y same k (inr (p, a, more)) (inl b) = absurd (write_works_or_fails w s t p y same f k a b)
broken_writes_same_end f (w ∷ ws) s t x y same k (inr (p, a, more)) (inr (q, b, rest)) =
    broken_writes_same_end f ws p q x y (worked_writes_same_medium w s t p q same a b) (fuse_known_after_write w s p k a) more rest

-- Lemmas about one call on two equal stores.

-- Two stores are equal if their media are equal, they hold back the same bytes, and their put_end is the same.
pub record SameStore (a b : SlotsState) : Type 0 where
  pub medium : SameMedium a.medium b.medium
  pub held : a.held ≡ b.held
  pub put_end : a.put_end ≡ b.put_end

same_store_symmetric : (s t : SlotsState) → SameStore s t → SameStore t s
same_store_symmetric s t same = record {
  medium = same_medium_symmetric s.medium t.medium same.medium;
  held = sym same.held;
  put_end = sym
      same.put_end;
}

-- Equal stores show the same spare data.
same_stores_same_spare : (s t : SlotsState) → SameStore s t → spare_of s ≡ spare_of t
unfolding spare_of
same_stores_same_spare s t same =
    λ i.
    written (spare (gate_room (same.medium.grain i)) (same.medium.bytes i)).data_bytes
    (same.put_end i - length (same.held i)) (same.held i)

-- A call has the same writes on equal stores.
same_stores_same_writes : (s t : SlotsState) (call : StoreCall) → SameStore s t → writes_of s call ≡ writes_of t call
same_stores_same_writes s t Begin same = λ i. begin_writes (same.medium.grain i) (same.medium.bytes i)
same_stores_same_writes s t (Put at bytes) same =
    λ i.
    put_writes (same.medium.grain i)
    (spare_at (gate_room (same.medium.grain i)) (same.medium.bytes i) + 2 * gate_room (same.medium.grain i) + (at - length (same.held i)))
    (same.held i) bytes
same_stores_same_writes s t (Commit len) same =
    λ i.
    held_writes (same.medium.grain i)
    (spare_at (gate_room (same.medium.grain i)) (same.medium.bytes i) + 2 * gate_room (same.medium.grain i) +
    (same.put_end i - length (same.held i)))
    (same.held i)
    ++ commit_writes (same.medium.grain i) (same.medium.bytes i) len (register (take len (same_stores_same_spare s t same i)))

-- After a call that works, equal stores hold back the same bytes.
same_stores_hold_back_same : (s t : SlotsState) (call : StoreCall) → SameStore s t → held_after_call s call ≡ held_after_call t call
same_stores_hold_back_same s t Begin same = refl
same_stores_hold_back_same s t (Put at bytes) same = λ i. put_rest (same.medium.grain i).unit (same.held i) bytes
same_stores_hold_back_same s t (Commit len) same = refl

module _ (s t x y : SlotsState) (call : StoreCall) (same : SameStore s t) where
  -- If a call worked on the store t, its writes on t are those of the same call on the equal store s.
  call_writes_on_other_store : CallWorked t call y → AllWrites t.medium (writes_of s call) y.medium
  call_writes_on_other_store b = subst (λ (ws : List Write). AllWrites t.medium ws y.medium) (sym (same_stores_same_writes s t call same))
      b.writes

  -- If a fault interrupted a call on the store t, its writes up to the fault are those of the same call on the equal store s.
  broken_call_on_other_store : (f : WriteFault) → CallFailed f t call y → BrokenWrites f t.medium (writes_of s call) y.medium
  broken_call_on_other_store f b = subst (λ (ws : List Write). BrokenWrites f t.medium ws y.medium) (sym (same_stores_same_writes s t call
      same)) b.writes

  -- If a call works on both stores, it leaves equal stores.
  worked_calls_same_store : CallWorked s call x → CallWorked t call y → SameStore x y
  worked_calls_same_store a b = record {
    medium = same_writes_same_end (writes_of s call) s.medium t.medium x.medium y.medium same.medium a.writes (call_writes_on_other_store
        b);
    held = a.held_is ∙ same_stores_hold_back_same s t call same ∙ sym b.held_is;
    put_end = a.end_is ∙ sym b.end_is;
  }

  -- If the fuse is known, a call that fails on both stores fails with the same fault.
  broken_calls_same_fault : (f g : WriteFault) → IsKnownFuse s.medium.fuse → CallFailed f s call x → CallFailed g t call y → f ≡ g
  broken_calls_same_fault f g k a b = broken_writes_same_fault f g (writes_of s call) s.medium t.medium x.medium y.medium same.medium k
      a.writes (broken_call_on_other_store g b)

  -- If the fuse is known, a call that fails with the same fault on both stores leaves equal stores.
  broken_calls_same_store : (f : WriteFault) → IsKnownFuse s.medium.fuse → CallFailed f s call x → CallFailed f t call y → SameStore x y
  broken_calls_same_store f k a b = record {
    medium = broken_writes_same_end f (writes_of s call) s.medium t.medium x.medium y.medium same.medium k a.writes
        (broken_call_on_other_store f b);
    held = a.held_is ∙ sym b.held_is;
    put_end = a.end_is ∙ sym b.end_is;
  }

  -- If the fuse is known, a call can't work on one store and fail on the other.
  call_works_or_breaks : (f : WriteFault) → IsKnownFuse s.medium.fuse → CallWorked s call x → CallFailed f t call y → ⊥
  call_works_or_breaks f k a b = writes_work_or_break f (writes_of s call) s.medium t.medium x.medium y.medium same.medium k a.writes
      (broken_call_on_other_store f b)

-- If the fuse is known before a call that works, it is known after the call.
fuse_known_after_call : (s x : SlotsState) (call : StoreCall) → IsKnownFuse s.medium.fuse → CallWorked s call x → IsKnownFuse x.medium.fuse
fuse_known_after_call s x call k a = fuse_known_after_writes (writes_of s call) s.medium x.medium k a.writes

-- Lemmas about lists of calls on two equal stores.

-- If the fuse is known, the same calls can't all work on one of two equal stores and fail on the other.
calls_work_or_break : (f : WriteFault) (calls : List StoreCall) (s t x y : SlotsState) → SameStore s t → IsKnownFuse s.medium.fuse
    → CallsEnd s calls AllWorked x
    → CallsEnd t calls (BrokenBy f) y → ⊥
calls_work_or_break f [] s t x y same k a b = b
calls_work_or_break f (call ∷ calls) s t x y same k (p, a, more) (inl b) = call_works_or_breaks s t p y call same f k a b
calls_work_or_break f (call ∷ calls) s t x y same k (p, a, more) (inr (q, b, rest)) =
    calls_work_or_break f calls p q x y (worked_calls_same_store s t p q call same a b) (fuse_known_after_call s p call k a) more rest

-- If the fuse is known, and the same calls fail on two equal stores, they fail with the same fault.
broken_call_lists_same_fault : (f g : WriteFault) (calls : List StoreCall) (s t x y : SlotsState) → SameStore s t →
    IsKnownFuse s.medium.fuse
    → CallsEnd s calls (BrokenBy f) x → CallsEnd t calls (BrokenBy g) y → f ≡ g
broken_call_lists_same_fault f g [] s t x y same k a b = absurd a
broken_call_lists_same_fault f g (call ∷ calls) s t x y same k (inl a) (inl b) = broken_calls_same_fault s t x y call same f g k a b
broken_call_lists_same_fault f g (call ∷ calls) s t x y same k (inl a) (inr (q, b, rest)) =
    absurd (call_works_or_breaks t s q x call (same_store_symmetric s t same) f (subst IsKnownFuse same.medium.fuse k) b a)
broken_call_lists_same_fault f g (call ∷ calls) s t x y same k (inr (p, a, more)) (inl b) = absurd (call_works_or_breaks s t p y call same
    g k a b)
broken_call_lists_same_fault f g (call ∷ calls) s t x y same k (inr (p, a, more)) (inr (q, b, rest)) =
    broken_call_lists_same_fault f g calls p q x y (worked_calls_same_store s t p q call same a b) (fuse_known_after_call s p call k a)
    more rest

-- If the fuse is known, the same calls have the same ending on equal stores.
pub same_calls_same_ending : (calls : List StoreCall) (e d : Ending) (s t x y : SlotsState) → SameStore s t → IsKnownFuse s.medium.fuse
    → CallsEnd s calls e x
    → CallsEnd t calls d y → e ≡ d
same_calls_same_ending calls AllWorked AllWorked s t x y same k a b = refl
same_calls_same_ending calls AllWorked (BrokenBy g) s t x y same k a b = absurd (calls_work_or_break g calls s t x y same k a b)
same_calls_same_ending calls (BrokenBy f) AllWorked s t x y same k a b =
    absurd (calls_work_or_break f calls t s y x (same_store_symmetric s t same) (subst IsKnownFuse same.medium.fuse k) b a)
same_calls_same_ending calls (BrokenBy f) (BrokenBy g) s t x y same k a b = ap BrokenBy (broken_call_lists_same_fault f g calls s t x y
    same k a b)

-- If the fuse is known, and the same calls have the same ending on two equal stores, they leave equal stores.
pub same_calls_same_store : (calls : List StoreCall) (e : Ending) (s t x y : SlotsState) → SameStore s t → IsKnownFuse s.medium.fuse
    → CallsEnd s calls e x
    → CallsEnd t calls e y → SameStore x y
same_calls_same_store [] AllWorked s t x y same k a b = subst (λ (z : SlotsState). SameStore z y) (sym a)
    (subst (λ (z : SlotsState). SameStore s z) (sym b) same)
same_calls_same_store [] (BrokenBy f) s t x y same k a b = absurd a
same_calls_same_store (call ∷ calls) AllWorked s t x y same k (p, a, more) (q, b, rest) =
    same_calls_same_store calls AllWorked p q x y (worked_calls_same_store s t p q call same a b) (fuse_known_after_call s p call k a) more
    rest
same_calls_same_store (call ∷ calls) (BrokenBy f) s t x y same k (inl a) (inl b) = broken_calls_same_store s t x y call same f k a b
same_calls_same_store (call ∷ calls) (BrokenBy f) s t x y same k (inl a) (inr (q, b, rest)) =
    absurd (call_works_or_breaks t s q x call (same_store_symmetric s t same) f (subst IsKnownFuse same.medium.fuse k) b a)
same_calls_same_store (call ∷ calls) (BrokenBy f) s t x y same k (inr (p, a, more)) (inl b) = absurd (call_works_or_breaks s t p y call
    same f k a b)
same_calls_same_store (call ∷ calls) (BrokenBy f) s t x y same k (inr (p, a, more)) (inr (q, b, rest)) =
    same_calls_same_store calls (BrokenBy f) p q x y (worked_calls_same_store s t p q call same a b) (fuse_known_after_call s p call k a)
    more rest
