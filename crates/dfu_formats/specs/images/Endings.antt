-- The format of a file according to the ending of its name.
use Rattle.std.specs.Prelude.{ℕ, ◌-◌, ◌||◌, Bool, if◌then◌else◌, List, length, drop, codes, Option, Some, None}
use Rattle.std.specs.Str.{str_eq_ignore_ascii_case}
use Rattle.dfu_formats.specs.declared.images.format.Format.TheVariants.{IntelHex, SRecord, Uf2, Elf}
use Rattle.dfu_formats.specs.declared.images.endings.Ending.{Ending}
use Rattle.dfu_formats.specs.declared.images.endings.Ending.TheVariants.{Of, Dfu}

-- The name ends in `ending`, in upper or lower case. The name may consist of the ending alone.
unfoldable pub name_ends_in : (ending name : List ℕ) → Bool
name_ends_in ending name = str_eq_ignore_ascii_case (drop (length name - length ending) name) ending

-- The kind of file for the ending of a name, or None if no kind has this ending.
abbrev pub name_ending : List ℕ → Option Ending
name_ending name =
    if name_ends_in (codes ".dfu") name then Some Dfu
    else if name_ends_in (codes ".hex") name || (name_ends_in (codes ".ihex") name || (name_ends_in (codes ".ihx") name
    || name_ends_in (codes ".mcs") name)) then Some (Of IntelHex)
    else if name_ends_in (codes ".s19") name || (name_ends_in (codes ".s28") name || (name_ends_in (codes ".s37") name
    || (name_ends_in (codes ".srec") name || name_ends_in (codes ".mot") name))) then Some (Of SRecord)
    else if name_ends_in (codes ".uf2") name then Some (Of Uf2)
    else if name_ends_in (codes ".elf") name || name_ends_in (codes ".axf") name then Some (Of Elf)
    else None
