-- The bytes of a setup (USB DFU 1.1, section 3).
use Rattle.std.specs.Prelude.{◌≡◌, ℕ, ◌+◌, ◌*◌, List, length, slice_index}
use Rattle.dfu_wire.specs.declared.setups.Setup.{Setup}

-- The eight bytes `b` encode the setup `s`. Two-byte numbers have their low byte first.
pub record IsSetup (s : Setup) (b : List ℕ) : Type 0 where
  -- There are eight bytes.
  pub length : length b ≡ 8
  -- bmRequestType is byte 0.
  pub kind : s.kind ≡ slice_index b 0
  -- bRequest is byte 1.
  pub request : s.request ≡ slice_index b 1
  -- wValue is in bytes 2 and 3.
  pub value : s.value ≡ slice_index b 2 + 256 * slice_index b 3
  -- wIndex is in bytes 4 and 5.
  pub index : s.index ≡ slice_index b 4 + 256 * slice_index b 5
  -- wLength is in bytes 6 and 7.
  pub size : s.length ≡ slice_index b 6 + 256 * slice_index b 7
