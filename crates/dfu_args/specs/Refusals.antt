-- Refusals of a command line.
use Rattle.std.specs.Prelude.{◌≡◌, ⊤, List, [], Result, Ok, Err}
use Rattle.clap.specs.Words.{IsAmong, Kinds, Text, fault_of, kind_of}
use Rattle.dfu_args.specs.declared.subcommand.ArgsFault.{ArgsFault}
use Rattle.dfu_args.specs.declared.subcommand.ArgsFault.TheVariants.{Words, NoMemory}
use Rattle.dfu_args.specs.CommandLine.{dfu_app}

-- Kinds of error that clap's specification allows for parsing the words; empty if parsing must succeed.
unfoldable pub parse_fault_kinds : List Text → Kinds
parse_fault_kinds words = fault_of dfu_app words

-- The fault is an error of one of these kinds, or NoMemory.
abbrev pub IsFaultOfKinds : Kinds → ArgsFault → Type 0
IsFaultOfKinds kinds (Words error) = IsAmong (kind_of error) kinds
IsFaultOfKinds kinds NoMemory = ⊤

-- The result is Ok and there are no kinds, or it is an error of one of the kinds, or NoMemory.
abbrev pub IsResultOfKinds : {T : Type 0} → Kinds → Result T ArgsFault → Type 0
IsResultOfKinds kinds (Ok x) = kinds ≡ []
IsResultOfKinds kinds (Err fault) = IsFaultOfKinds kinds fault
