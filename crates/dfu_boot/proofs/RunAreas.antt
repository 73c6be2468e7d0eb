-- Run areas that hold the whole image.
use Rattle.std.proofs.Common.{◌≡◌, ◌<◌, ℕ, List, Option, length, slice_index, sym, ◌∙◌, ap, refl, arith}
use Rattle.std.proofs.lemmas.List.{get_or-take}
use Rattle.dfu_boot.specs.install.Area.{AreaStores}
use Rattle.dfu_boot.specs.install.Next.{IsNextDifference, search_start}
use Rattle.dfu_boot.specs.install.Working.{FilledAreaStarts}
use Rattle.dfu_boot.specs.declared.install.due.Due.TheVariants.{Refuse, Erase, Program, Start}
use Rattle.dfu_boot.specs.declared.install.due.InstallRefusal.TheVariants.{WrongSize, NoImage, TooLarge}
use Rattle.dfu_boot.proofs.NextDifference.{next_byte_in_image, next_difference_differs}

-- If the run area holds the image, each byte of the image equals the byte of the run area at the same offset.
pub stored_image_reads_same : (image run : List ℕ) → AreaStores run image → (i : ℕ) → i < length image → slice_index run i
    ≡ slice_index image i
stored_image_reads_same image run held i lt = sym (get_or-take (length image) run i 0 lt) ∙ ap (λ (l : List ℕ). slice_index l i) held

-- If the run area holds the image, there is no next differing byte.
stored_image_has_no_difference : (image run : List ℕ) (last : Option ℕ) (at : ℕ) → AreaStores run image
    → IsNextDifference image run (search_start image last) at → ⊥
stored_image_has_no_difference image run last at held next =
    next_difference_differs image run (search_start image last) at next (stored_image_reads_same image run held at (next_byte_in_image
    image run last at next))

pub held_is_started : FilledAreaStarts
held_is_started image run sector last (Refuse WrongSize) ready held does = absurd (does ready.area)
held_is_started image run sector last (Refuse NoImage) ready held does = absurd (omega (arith, does.1, ready.some))
held_is_started image run sector last (Refuse TooLarge) ready held does = absurd (omega (arith, does.2, ready.fits))
held_is_started image run sector last (Erase at) ready held (is_ready, (d, e)) = absurd (stored_image_has_no_difference image run last d
    held e.next)
held_is_started image run sector last (Program at) ready held (is_ready, (d, e)) = absurd (stored_image_has_no_difference image run last d
    held e.next)
held_is_started image run sector last Start ready held does = refl
