-- The elements of an image, as a list for a session.
use Rattle.std.specs.Prelude.{◌≡◌, ℕ, ◌+◌, ◌<◌, ◌≤◌, ◌==◌, ◌&&◌, ◌||◌, not, nat_lt, nat_le, Bool, true, false, if◌then◌else◌, List, [], ◌∷◌, ◌++◌, length, take, map, Option, Some, None}
use Rattle.std.specs.List.Sorted.{IsPermutation}
use Rattle.dfu_formats.specs.images.Elements.{Piece}
use Rattle.dfu_formats.specs.declared.dfuse.element.Element.{Element}
use Rattle.dfu_formats.specs.declared.dfuse.targets.Target as made
use Rattle.dfu_formats.specs.declared.dfuse.image.ImageFault.{ImageFault}
use Rattle.dfu_formats.specs.declared.dfuse.image.ImageFault.TheVariants.{NoSuchSetting, TooManyElements}
use Rattle.dfu_formats.specs.dfuse.Reading.{Target}
use Rattle.dfu_formats.specs.dfuse.Found.{piece_of}

-- Content of a target that `next_target` returns, as a value of the specification.
abbrev pub handed_out_target : made.Target → Target
handed_out_target t = record { setting = t.setting; named = t.named; name = t.name.now; elements = t.elements }

-- All targets are for alternate setting `setting`.
unfoldable pub all_targets_for : (setting : ℕ) → List Target → Bool
all_targets_for setting [] = true
all_targets_for setting (t ∷ ts) = (t.setting == setting) && all_targets_for setting ts

-- The alternate setting that all targets are for, or None if they are for different ones or there are no targets.
abbrev pub one_setting : List Target → Option ℕ
one_setting [] = None
one_setting (t ∷ ts) = if all_targets_for t.setting ts then Some t.setting else None

-- At least one target is for alternate setting `setting`.
unfoldable pub has_setting : (setting : ℕ) → List Target → Bool
has_setting setting [] = false
has_setting setting (t ∷ ts) = (t.setting == setting) || has_setting setting ts

-- The elements of all targets of a setting, in the order of the file.
unfoldable pub elements_for : (setting : ℕ) → List Target → List Piece
elements_for setting [] = []
elements_for setting (t ∷ ts) = if t.setting == setting then t.elements ++ elements_for setting ts else elements_for setting ts

-- Fault of writing the elements of a setting to `room` slots: no target is for the setting, or there are too many elements. None if neither
-- applies.
unfoldable pub image_fault : (room : ℕ) → (setting : ℕ) → List Target → Option ImageFault
image_fault room setting targets =
    if not (has_setting setting targets) then Some NoSuchSetting
    else if nat_lt room (length (elements_for setting targets)) then Some TooManyElements
    else None

-- The addresses of the elements never decrease, and none is below `start`.
abbrev pub ascends_from : ℕ → List Element → Bool
ascends_from start [] = true
ascends_from start (e ∷ es) = nat_le start e.address && ascends_from e.address es

-- The first `count` slots of `room` contain the wanted elements, sorted by address.
pub record IsImage (wanted : List Piece) (count : ℕ) (room : List Element) : Type 0 where
  pub number : count ≡ length wanted
  pub within : count ≤ length room
  pub same : IsPermutation wanted (map piece_of (take count room))
  pub sorted : ascends_from 0 (take count room) ≡ true

-- The first `count` slots of `new` contain the first `from` elements of `old`, followed by the wanted ones. If the count is None, the
-- wanted elements don't fit.
abbrev pub ElementsListedBehind : (from : ℕ) → List Piece → (old : List Element) → Option ℕ → (new : List Element) → Type 0
ElementsListedBehind from wanted old (Some count) new =
    (count ≡ from + length wanted) × (count ≤ length new) × (map piece_of (take count new) ≡ map piece_of (take from old) ++ wanted)
ElementsListedBehind from wanted old None new = length old < from + length wanted
