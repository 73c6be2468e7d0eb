-- The next operation of a copy is the operation that is due next.
use Rattle.std.proofs.Common.{◌≡◌, inr, Bool, false, not, IsTrue, arith}
use Rattle.std.proofs.lemmas.Grind.{common_steps}
use Rattle.dfu_slots.specs.Medium.{MediumState}
use Rattle.dfu_home.specs.declared.due.Due.{Due}
use Rattle.dfu_home.specs.declared.due.Due.TheVariants.{Refuse, Home, Erase, Program}
use Rattle.dfu_home.specs.declared.due.Progress.{Progress}
use Rattle.dfu_home.specs.Places.{IsActiveAway}
use Rattle.dfu_home.specs.Next.{IsCopying, HasOperationLeft, IsCopyDue, IsNextDue}

-- If the result of `is_home` is false, the active image is in the second slot.
pub image_not_first_is_second : (m : MediumState) (home : Bool) → home ≡ false → (IsTrue (not home) → IsActiveAway m) → IsActiveAway m
image_not_first_is_second m home is away = away (there home is)
  where
    there : (b : Bool) → b ≡ false → IsTrue (not b)
    there b e = grind (arith, common_steps)

pub copy_due_is_next_due : (m : MediumState) (p : Progress) (due : Due) → HasOperationLeft m p → IsCopying m → IsCopyDue m p.last due
    → IsNextDue m p due
copy_due_is_next_due m p (Refuse refusal) may c due = absurd due
copy_due_is_next_due m p Home may c due = absurd due
copy_due_is_next_due m p (Erase at) may c due = (may, inr (c, due))
copy_due_is_next_due m p (Program at len) may c due = (may, c, due)
