-- Meanings of the numbers in the calls for a run area.
use Rattle.std.specs.Prelude.{ℕ, ℤ, negsuc, ◌==◌, if◌then◌else◌, Option, Some, None}
use Rattle.dfu_boot.specs.declared.install.due.Due.{Due}
use Rattle.dfu_boot.specs.declared.install.due.Due.TheVariants.{Erase, Program, Start}
use Rattle.dfu_boot.specs.declared.install.due.InstallRefusal.{InstallRefusal}
use Rattle.dfu_boot.specs.declared.install.due.InstallRefusal.TheVariants.{WrongSize, NoImage, TooLarge}

-- Offset that a number of the record encodes; None for DFU_NOWHERE.
abbrev pub last_of : ℕ → Option ℕ
last_of number = if number == 4294967295 then None else Some number

-- Number that encodes an offset in the record; DFU_NOWHERE for None.
abbrev pub number_of_place : Option ℕ → ℕ
number_of_place None = 4294967295
number_of_place (Some at) = at

-- Operation of a kind at an offset: an erase for kind 1, a program for kind 2, and the start, which is not an operation, for any other
-- kind.
abbrev pub due_of_kind : ℕ → ℕ → Due
due_of_kind kind at = if kind == 1 then Erase at else if kind == 2 then Program at else Start

-- Number of a refusal: DFU_WRONG_SIZE, DFU_NO_IMAGE or DFU_TOO_LARGE.
abbrev pub install_refusal_number : InstallRefusal → ℤ
install_refusal_number WrongSize = negsuc 5
install_refusal_number NoImage = negsuc 14
install_refusal_number TooLarge = negsuc 6
