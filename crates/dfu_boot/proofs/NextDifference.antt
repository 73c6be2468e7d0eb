-- Next differing byte of a run area.
use Rattle.std.proofs.Common.{◌≢◌, inl, inr, ℕ, ◌≤◌, ◌<◌, List, length, slice_index, Option, Some, None, arith}
use Rattle.dfu_boot.specs.install.Next.{IsNextDifference, search_start}

-- The search begins at an offset within the image, or at its end.
pub search_starts_in_image : (image : List ℕ) (last : Option ℕ) → search_start image last ≤ length image
search_starts_in_image image None = omega arith
search_starts_in_image image (Some at) = omega arith

-- The next differing byte lies within the image.
pub next_byte_in_image : (image run : List ℕ) (last : Option ℕ) (at : ℕ) → IsNextDifference image run (search_start image last) at
    → at < length image
next_byte_in_image image run last at (inl d) = d.within
next_byte_in_image image run last at (inr (same, d)) = omega (arith, d.within, search_starts_in_image image last)

-- The next differing byte of the run area differs from the byte of the image at the same offset.
pub next_difference_differs : (image run : List ℕ) (from at : ℕ) → IsNextDifference image run from at →
    slice_index run at ≢ slice_index image at
next_difference_differs image run from at (inl d) = d.differs
next_difference_differs image run from at (inr (same, d)) = d.differs
