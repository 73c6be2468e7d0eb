-- If the fuse of a medium is `Whole`, no write fails, and the fuse stays `Whole`.
use Rattle.std.specs.Prelude.{◌≡◌, List, [], ◌∷◌}
use Rattle.std.proofs.Common.{inl, inr, ap, ◌∙◌, subst}
use Rattle.dfu_slots.specs.declared.fault.WriteFault.{WriteFault}
use Rattle.dfu_slots.specs.Medium.{MediumState, Fuse, WriteMayWork, WriteMayFail, Write, WroteBytes, AllWrites, BrokenWrites}
use Rattle.dfu_slots.specs.Medium.Fuse.{Whole}
use Rattle.dfu_slots.specs.StoreView.{SlotsState, StoreCall, AllWorked, BrokenBy, writes_of, CallsEnd}

-- If the fuse is `Whole` before a write that works, it is `Whole` afterwards.
whole_fuse_after_write : (s next : MediumState) (w : Write) → s.fuse ≡ Whole → WroteBytes s w.at w.bytes next → next.fuse ≡ Whole
whole_fuse_after_write s next w e wrote = subst (λ (f : Fuse). WriteMayWork f s.bytes w.at w.bytes next.fuse) e wrote.fuse

-- If the fuse is `Whole` before writes that all work, it is `Whole` afterwards.
pub whole_fuse_after_writes : (s now : MediumState) (ws : List Write) → s.fuse ≡ Whole → AllWrites s ws now → now.fuse ≡ Whole
whole_fuse_after_writes s now [] e same = ap (λ (m : MediumState). m.fuse) same ∙ e
whole_fuse_after_writes s now (w ∷ ws) e (next, wrote, more) = whole_fuse_after_writes next now ws (whole_fuse_after_write s next w e
    wrote) more

-- If the fuse is `Whole`, no write of a list fails.
pub whole_fuse_fails_no_write : (fault : WriteFault) (s now : MediumState) (ws : List Write) → s.fuse ≡ Whole →
    BrokenWrites fault s ws now → ⊥
whole_fuse_fails_no_write fault s now [] e none = none
whole_fuse_fails_no_write fault s now (w ∷ ws) e (inl failed) =
    subst (λ (f : Fuse). WriteMayFail f fault s.bytes w.at w.bytes now.bytes now.fuse) e failed.fuse
whole_fuse_fails_no_write fault s now (w ∷ ws) e (inr (next, wrote, more)) = whole_fuse_fails_no_write fault next now ws
    (whole_fuse_after_write s next w e wrote) more

-- If the fuse is `Whole` before calls that all work, it is `Whole` afterwards.
pub whole_fuse_after_calls : (s now : SlotsState) (calls : List StoreCall) → s.medium.fuse ≡ Whole → CallsEnd s calls AllWorked now
    → now.medium.fuse ≡ Whole
whole_fuse_after_calls s now [] e same = ap (λ (x : SlotsState). x.medium.fuse) same ∙ e
whole_fuse_after_calls s now (call ∷ calls) e (mid, first, more) =
    whole_fuse_after_calls mid now calls (whole_fuse_after_writes s.medium mid.medium (writes_of s call) e first.writes) more

-- If the fuse is `Whole`, no call of a list fails.
pub whole_fuse_fails_no_call : (fault : WriteFault) (s now : SlotsState) (calls : List StoreCall) → s.medium.fuse ≡ Whole
    → CallsEnd s calls (BrokenBy fault) now → ⊥
whole_fuse_fails_no_call fault s now [] e none = none
whole_fuse_fails_no_call fault s now (call ∷ calls) e (inl failed) = whole_fuse_fails_no_write fault s.medium now.medium (writes_of s call)
    e failed.writes
whole_fuse_fails_no_call fault s now (call ∷ calls) e (inr (mid, first, more)) =
    whole_fuse_fails_no_call fault mid now calls (whole_fuse_after_writes s.medium mid.medium (writes_of s call) e first.writes) more
