-- Lists, faults and elements in the results of calls on a DfuSe file.
use Rattle.std.specs.Prelude.{List, [], Result, Ok, Err}
use Rattle.dfu_formats.specs.images.Elements.{Piece}
use Rattle.dfu_formats.specs.declared.dfuse.element.Element.{Element}
use Rattle.dfu_formats.specs.declared.dfuse.fault.FileFault.{FileFault}

-- The list that was read, or the empty list after a fault.
abbrev pub list_or_empty : {A : Type 0} → Result (List A) FileFault → List A
list_or_empty (Ok xs) = xs
list_or_empty (Err fault) = []

-- The result with its value removed: Ok, or the fault.
abbrev pub fault_of_result : {A : Type 0} → Result A FileFault → Result Unit FileFault
fault_of_result (Ok x) = Ok tt
fault_of_result (Err fault) = Err fault

-- Address and bytes of an element, as a value of the specification.
abbrev pub piece_of : Element → Piece
piece_of e = record { address = e.address; bytes = e.bytes.now }
