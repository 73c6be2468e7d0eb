-- Lemmas about the effect of a write that returned Ok, which the bytes read back determine.
use Rattle.std.proofs.Common.{◌≡◌, inl, inr, ℕ, ◌+◌, ◌-◌, ◌≤◌, List, ◌++◌, length, take, drop, slice_range, sym, ◌∙◌, ap, arith}
use Rattle.std.proofs.lemmas.List.{take-append-drop, drop-drop, append_assoc}
use Rattle.dfu_slots.specs.declared.fault.WriteFault.TheVariants.{NotVerified}
use Rattle.dfu_slots.specs.Medium.{MediumState, Fuse, Torn, WriteMayWork, WriteMayFail, WroteBytes, FailedWrite, WroteOrLied, written}
use Rattle.dfu_slots.specs.Medium.Fuse.{Unknown, Whole, Armed, Lying, Stopped}
use Rattle.dfu_slots.proofs.BytesOutsideWrite.{written_bytes_in_range}
use Rattle.dfu_slots.proofs.ReadBack.{HasBytesAt}

-- A torn write whose range holds all its bytes worked.
torn_write_with_bytes_worked : (old : List ℕ) (at : ℕ) (new left : List ℕ) → at + length new ≤ length old → Torn old at new left →
    HasBytesAt left at new
    → left ≡ written old at new
torn_write_with_bytes_worked old at new left fits torn stands =
    sym (take-append-drop at left)
    ∙ ap (λ (l : List ℕ). take at left ++ l) (sym (take-append-drop (length new) (drop at left)))
    ∙ ap (λ (l : List ℕ). take at left ++ (take (length new) (drop at left) ++ l)) (drop-drop (length new) at left)
    ∙ (λ i. torn.before i ++ (range i ++ torn.after i))
    ∙ sym (append_assoc (take at old) new (drop (at + length new) old))
  where
    range : take (length new) (drop at left) ≡ new
    range = let e : length new ≡ at + length new - at = omega arith in ap (λ (k : ℕ). take k (drop at left)) e ∙ stands

-- If a lying write stored exactly its bytes, the same fuse also allows a write that works and leaves the same next fuse.
true_lie_may_work : (f : Fuse) (old : List ℕ) (at : ℕ) (new left : List ℕ) (next : Fuse) → WriteMayFail f NotVerified old at new left next
    → left ≡ written old at new → WriteMayWork f old at new next
true_lie_may_work Unknown old at new left next lied right = lied
true_lie_may_work Whole old at new left next lied right = absurd lied
true_lie_may_work (Armed writes tear stop) old at new left next lied right = absurd lied
true_lie_may_work (Lying writes tear) old at new left next lied right = absurd (lied.2 right)
true_lie_may_work Stopped old at new left next lied right = absurd lied

-- A write that returned Ok worked if its bytes are on the medium.
pub write_worked : {old : MediumState} {at : ℕ} {new : List ℕ} {now : MediumState} → at + length new ≤ length old.bytes
    → WroteOrLied old at new now → HasBytesAt now.bytes at new → WroteBytes old at new now
write_worked fits (inl wrote) stands = wrote
write_worked {old} {at} {new} {now} fits (inr lied) stands =
    let right = torn_write_with_bytes_worked old.bytes at new now.bytes fits lied.bytes stands in
    record {
      bytes = right;
      failures = omega (arith, lied.failures);
      fuse = true_lie_may_work old.fuse old.bytes at new now.bytes now.fuse lied.fuse right;
      grain = lied.grain;
      tag = lied.tag;
    }

-- A write that returned Ok lied if its bytes are not on the medium.
pub write_lied : {old : MediumState} {at : ℕ} {new : List ℕ} {now : MediumState} → at + length new ≤ length old.bytes
    → WroteOrLied old at new now → ¬ HasBytesAt now.bytes at new → FailedWrite NotVerified old at new now
write_lied {old} {at} {new} fits (inl wrote) missing =
    absurd (missing (ap (λ (l : List ℕ). slice_range l at (at + length new)) wrote.bytes ∙ written_bytes_in_range old.bytes at new fits))
write_lied fits (inr lied) missing = lied
