-- Offset and length of the active image, which a program runs.
use Rattle.std.specs.Prelude.{◌≡◌, ◌+◌, ◌*◌, ◌≤◌, ℕ, List, length, slice_range}
use Rattle.dfu_slots.specs.Units.{Grain}
use Rattle.dfu_slots.specs.Image.{Active, active_at, gate_of}
use Rattle.dfu_asks.specs.declared.image.ImagePlace.{ImagePlace}
use Rattle.dfu_asks.specs.Mapped.{mapped_medium}

-- The active image of a flash begins at `place.at`, after the gate and the header of its slot, and has `place.len` bytes.
pub record ImageIsAt (grain : Grain) (flash : List ℕ) (place : ImagePlace) : Type 0 where
  pub image : List ℕ
  pub active : Active (mapped_medium grain flash) image
  pub size : length image ≡ place.len
  pub behind : place.at ≡ active_at (gate_of (mapped_medium grain flash)) flash + 2 * gate_of (mapped_medium grain flash)
  pub within : place.at + place.len ≤ length flash
  pub there : slice_range flash place.at (place.at + place.len) ≡ image
