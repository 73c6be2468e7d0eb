-- The identifiers that the options of `dfu add` and `dfu set` specify.
use Rattle.std.specs.Prelude.{ℕ, List, Option, Some, None, codes, if◌then◌else◌, is_some, option_and_then}
use Rattle.dfu_fs.specs.declared.changing.Change.{Change}
use Rattle.dfu_wire.specs.declared.ids.Ids.{Ids}
use Rattle.dfu_wire.specs.Identifier.{identifier_in}

-- The three numbers as identifiers, or None if a number is missing.
abbrev pub ids_of_numbers : (vendor product device : Option ℕ) → Option Ids
ids_of_numbers (Some vendor) (Some product) (Some device) = Some (record { device = device; product = product; vendor = vendor })
ids_of_numbers vendor product device = None

-- The identifiers in three texts, or None if a text doesn't have four hexadecimal digits.
abbrev pub ids_in_texts : (vendor product device : List ℕ) → Option Ids
ids_in_texts vendor product device = ids_of_numbers (identifier_in vendor) (identifier_in product) (identifier_in device)

-- The label and text of the first option whose text isn't an identifier, or None if all three texts are identifiers.
abbrev pub wrong_option : (vendor product device : List ℕ) → Option (List ℕ × List ℕ)
wrong_option vendor product device =
    if is_some (identifier_in vendor) then (if is_some (identifier_in product) then (if is_some (identifier_in device) then None
    else Some (codes "--did ", device)) else Some (codes "--pid ", product)) else Some (codes "--vid ", vendor)

-- Change of identifiers. An option whose text has four hexadecimal digits sets its identifier, and the other identifiers stay unchanged.
abbrev pub change_in_texts : (vendor product device : Option (List ℕ)) → Change
change_in_texts vendor product device = record {
  vendor = option_and_then identifier_in vendor;
  product = option_and_then identifier_in product;
  device = option_and_then identifier_in device;
}
