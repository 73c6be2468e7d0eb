-- Tests that two packets belong to one transfer.
use Rattle.std.specs.Prelude.{◌≡◌}
use Rattle.dfu_conformance.specs.declared.captures.event.UsbEvent.{UsbEvent}

-- Two events have the same id on the same bus. Pending transfers have different ids. The id is the address of a kernel object, which a
-- later transfer of any device may reuse.
abbrev pub HasSameId : UsbEvent → UsbEvent → Type 0
HasSameId one other = (one.id ≡ other.id) × (one.address.bus ≡ other.address.bus)

-- Two events may belong to one transfer: they have the same id, bus, device and direction.
abbrev pub IsSameTransfer : UsbEvent → UsbEvent → Type 0
IsSameTransfer one other = (one.id ≡ other.id) × ((one.address ≡ other.address) × (one.is_in ≡ other.is_in))
