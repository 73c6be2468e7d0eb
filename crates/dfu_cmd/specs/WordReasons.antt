-- Reasons for refusing arguments of the command line.
use Rattle.std.specs.Prelude.{ℕ, List, codes}
use Rattle.dfu_cmd.specs.declared.words.WordFault.{WordFault}
use Rattle.dfu_cmd.specs.declared.words.WordFault.TheVariants.{Kind, Out, Place, Format, Fill, LoneFill, NoChange, File, Interface, Device, Boot, Areas}

-- Label for an argument with this fault, and the reason for refusing it.
abbrev pub label_and_why : WordFault → List ℕ × List ℕ
label_and_why Kind = (codes "KIND ", codes "it has to be functional, status, state, setup or configuration")
label_and_why Out = (codes "OUT ", codes "it has to be a file, as ./- for one with this name")
label_and_why Place = (codes "FILE ", codes "it has to be a file, as ./- for one with this name")
label_and_why Format = (codes "--format ", codes "it has to be raw, auto, ihex, srec, uf2 or elf")
label_and_why Fill = (codes "--fill ", codes "it has to be two hexadecimal digits, as ff")
label_and_why LoneFill = (codes "--fill ", codes "a raw image has no gaps; it goes with --format")
label_and_why NoChange = (codes "FILE ", codes "nothing is to change: give --vid, --pid or --did")
label_and_why File = (codes "--file ", codes "the script is standard input already")
label_and_why Interface = (codes "--interface ", codes "it has to be a number from 0 to 255")
label_and_why Device = (codes "--device ", codes "it has to be only, or a bus and a device, as 1.7")
label_and_why Boot = (codes "--boot ", codes "it has to be a size of at most 4,294,967,295 bytes, as 32k, 0x8000 or 32768")
label_and_why Areas = (codes "--areas ", codes "it has to be 2 or 3")
