-- The event of a setup: its kind in the tables, and the test for a well-formed request (USB DFU 1.1, section 3).
use Rattle.std.specs.Prelude.{ℕ, ◌==◌, ◌&&◌, Bool, true, not, if◌then◌else◌}
use Rattle.dfu_wire.specs.declared.setups.Setup.{Setup}
use Rattle.dfu_wire.specs.declared.requests.Request.{Request}
use Rattle.dfu_wire.specs.declared.requests.Request.TheVariants as request
use Rattle.dfu_conformance.specs.declared.row.EventKind.{EventKind}
use Rattle.dfu_conformance.specs.declared.row.EventKind.TheVariants.{Detach, Block, Close, Upload, GetStatus, ClrStatus, GetState, Abort, Other, Reset, Power}
use Rattle.dfu_conformance.specs.declared.event.LogEvent.{LogEvent}
use Rattle.dfu_conformance.specs.declared.event.Response.{Response}
use Rattle.dfu_conformance.specs.declared.event.Response.TheVariants as answer

-- Kind of a request's event in the tables. A DNLOAD without bytes has a kind of its own, `Close`.
abbrev pub kind_of_request : Request → EventKind
kind_of_request (request.Detach timeout) = Detach
kind_of_request (request.Dnload block len) = if len == 0 then Close else Block
kind_of_request (request.Upload block len) = Upload
kind_of_request (request.GetStatus len) = GetStatus
kind_of_request request.ClrStatus = ClrStatus
kind_of_request (request.GetState len) = GetState
kind_of_request request.Abort = Abort
kind_of_request request.OtherClass = Other
kind_of_request request.NotDfu = Other

-- wValue and wLength are those of section 3. DETACH, DNLOAD and requests other than the seven of DFU may have any values.
abbrev pub has_section_3_numbers : Request → (value : ℕ) → Bool
has_section_3_numbers (request.Upload block len) value = not (len == 0)
has_section_3_numbers (request.GetStatus len) value = (len == 6) && (value == 0)
has_section_3_numbers request.ClrStatus value = value == 0
has_section_3_numbers (request.GetState len) value = (len == 1) && (value == 0)
has_section_3_numbers request.Abort value = value == 0
has_section_3_numbers q value = true

-- The request is well-formed: wValue and wLength are those of section 3, and its body has wLength bytes if the host sends data, and none
-- otherwise.
abbrev pub is_plain : Setup → Request → (body : ℕ) → Bool
is_plain s q body = (body == (if s.kind == 0x21 then s.length else 0)) && has_section_3_numbers q s.value

-- Event of a setup with this request, this number of bytes in its body, and this logged answer.
abbrev pub event_of : Setup → Request → (body : ℕ) → Response → LogEvent
event_of s q body a = record { asked = kind_of_request q; is_plain = is_plain s q body; length = s.length; answer = a }

-- Event of a bus reset, which has no answer.
abbrev pub reset_event : LogEvent
reset_event = record { asked = Reset; is_plain = true; length = 0; answer = answer.Bytes 0 0 0 }

-- Event of a return of power, which has no answer.
abbrev pub power_event : LogEvent
power_event = record { asked = Power; is_plain = true; length = 0; answer = answer.Bytes 0 0 0 }
