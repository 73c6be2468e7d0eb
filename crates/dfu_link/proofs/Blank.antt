-- The blank medium on which a script's device starts.
use Rattle.std.proofs.Common.{◌≡◌, ◌≤◌, ◌+◌, ◌*◌, ℕ, length, arith, sym, subst}
use Rattle.std.proofs.Math.ListN.{length-replicate}
use Rattle.dfu_slots.specs.Medium.{blank_medium}
use Rattle.dfu_slots.specs.Units.{Grain, gate_room, IsWhole}
use Rattle.dfu_slots.specs.Image.{capacity_of, IsSizedMedium}
use Rattle.dfu_link.specs.ScriptRun.{blank_slots}

-- A blank medium in memory with the length of two slots equals `blank_slots`.
pub blank_medium_is_blank_slots : (w : Grain) (n len : ℕ) → len ≡ 2 * (2 * gate_room w + n) → blank_medium w len ≡ blank_slots w n
blank_medium_is_blank_slots w n len is = λ i. blank_medium w (is i)

-- A blank medium has the length of two slots, each with a gate and a header of `gate_room` bytes and the room for an image.
blank_slots_have_length : (w : Grain) (n : ℕ) → length (blank_slots w n).bytes ≡ 2 * (2 * gate_room w + n)
blank_slots_have_length w n = length-replicate {A = ℕ} (2 * (2 * gate_room w + n)) 255

-- Each slot of a blank medium has room for n bytes.
pub blank_slots_have_capacity : (w : Grain) (n : ℕ) → capacity_of (blank_slots w n) ≡ n
blank_slots_have_capacity w n = omega (arith, blank_slots_have_length w n)

-- If n is 1 to 1,048,576, and a whole number of units and of sectors, a blank medium with room for images of n bytes has room for two
-- slots.
pub blank_slots_are_sized : (w : Grain) (n : ℕ) → 1 ≤ n → n ≤ 1048576 → IsWhole w n → IsSizedMedium (blank_slots w n)
blank_slots_are_sized w n some most whole = record {
  even = omega (arith, blank_slots_have_length w n);
  room = omega (arith, blank_slots_have_length w n, some);
  bound = omega (arith, blank_slots_have_length w n, most);
  whole = subst (λ (k : ℕ). IsWhole w k) (sym (blank_slots_have_capacity w n)) whole;
}
