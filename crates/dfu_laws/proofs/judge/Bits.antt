-- Rows of the judge's table that apply to a device, by the bits of its bmAttributes.
use Rattle.std.specs.Prelude.{◌≡◌, Bool, true, false, not}
use Rattle.std.proofs.Common.{refl}
use Rattle.dfu_conformance.specs.declared.row.When.TheVariants.{CanDownload, CanUpload, Tolerant, NotTolerant, WillDetach}
use Rattle.dfu_conformance.specs.Candidates.{applies_to}
use Rattle.dfu_laws.specs.judge.Conformity.{attributes}

-- A row for an attribute applies to a device exactly if the device has the bit of that attribute. A row for NotTolerant applies exactly if
-- the device lacks the bit of Tolerant.
pub attribute_bits_select_rows : (d u t w : Bool)
    → (applies_to CanDownload (attributes d u t w) 0 ≡ d) × (applies_to CanUpload (attributes d u t w) 0 ≡ u)
    × (applies_to Tolerant (attributes d u t w) 0 ≡ t)
    × (applies_to NotTolerant (attributes d u t w) 0 ≡ not t) × (applies_to WillDetach (attributes d u t w) 0 ≡ w)
attribute_bits_select_rows false false false false = (refl, refl, refl, refl, refl)
attribute_bits_select_rows true false false false = (refl, refl, refl, refl, refl)
attribute_bits_select_rows false true false false = (refl, refl, refl, refl, refl)
attribute_bits_select_rows true true false false = (refl, refl, refl, refl, refl)
attribute_bits_select_rows false false true false = (refl, refl, refl, refl, refl)
attribute_bits_select_rows true false true false = (refl, refl, refl, refl, refl)
attribute_bits_select_rows false true true false = (refl, refl, refl, refl, refl)
attribute_bits_select_rows true true true false = (refl, refl, refl, refl, refl)
attribute_bits_select_rows false false false true = (refl, refl, refl, refl, refl)
attribute_bits_select_rows true false false true = (refl, refl, refl, refl, refl)
attribute_bits_select_rows false true false true = (refl, refl, refl, refl, refl)
attribute_bits_select_rows true true false true = (refl, refl, refl, refl, refl)
attribute_bits_select_rows false false true true = (refl, refl, refl, refl, refl)
attribute_bits_select_rows true false true true = (refl, refl, refl, refl, refl)
attribute_bits_select_rows false true true true = (refl, refl, refl, refl, refl)
attribute_bits_select_rows true true true true = (refl, refl, refl, refl, refl)
