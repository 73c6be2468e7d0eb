-- Requests and their setups (USB DFU 1.1, section 3).
use Rattle.std.specs.Prelude.{◌≡◌, ℕ, ◌⊎◌, List, codes}
use Rattle.dfu_wire.specs.declared.setups.Setup.{Setup}
use Rattle.dfu_wire.specs.declared.requests.Request.{Request}
use Rattle.dfu_wire.specs.declared.requests.Request.TheVariants as request

-- The setup has this bmRequestType and this bRequest, and addresses interface 0.
pub record IsClassRequestSetup (s : Setup) (kind_byte number : ℕ) : Type 0 where
  -- bmRequestType is `kind_byte`.
  pub kind : s.kind ≡ kind_byte
  -- bRequest is `number`.
  pub request : s.request ≡ number
  -- wIndex, the interface, is 0.
  pub index : s.index ≡ 0

-- The setup encodes the request, which is one of the seven. It addresses interface 0. Its bmRequestType is 21h for a request that sends
-- data to the device or has none, and A1h for a request that reads data. wLength is 0 for DETACH, CLRSTATUS and ABORT.
abbrev pub EncodesNamedRequest : Setup → Request → Type 0
EncodesNamedRequest s (request.Detach timeout) = IsClassRequestSetup s 0x21 0 × (s.length ≡ 0) × (timeout ≡ s.value)
EncodesNamedRequest s (request.Dnload block len) = IsClassRequestSetup s 0x21 1 × (block ≡ s.value) × (len ≡ s.length)
EncodesNamedRequest s (request.Upload block len) = IsClassRequestSetup s 0xa1 2 × (block ≡ s.value) × (len ≡ s.length)
EncodesNamedRequest s (request.GetStatus len) = IsClassRequestSetup s 0xa1 3 × (len ≡ s.length)
EncodesNamedRequest s request.ClrStatus = IsClassRequestSetup s 0x21 4 × (s.length ≡ 0)
EncodesNamedRequest s (request.GetState len) = IsClassRequestSetup s 0xa1 5 × (len ≡ s.length)
EncodesNamedRequest s request.Abort = IsClassRequestSetup s 0x21 6 × (s.length ≡ 0)
EncodesNamedRequest s request.OtherClass = ⊥
EncodesNamedRequest s request.NotDfu = ⊥

-- The setup is a class request to interface 0: bmRequestType is 21h or A1h, and wIndex is 0.
abbrev pub IsInterface0ClassRequest : Setup → Type 0
IsInterface0ClassRequest s = ((s.kind ≡ 0x21) ⊎ (s.kind ≡ 0xa1)) × (s.index ≡ 0)

-- The setup encodes the request: one of the seven, another class request to interface 0 (`OtherClass`), or any other request (`NotDfu`).
abbrev pub SetupAsksFor : Setup → Request → Type 0
SetupAsksFor s request.OtherClass = IsInterface0ClassRequest s × ((r : Request) → EncodesNamedRequest s r → ⊥)
SetupAsksFor s request.NotDfu = IsInterface0ClassRequest s → ⊥
SetupAsksFor s r = EncodesNamedRequest s r

-- The request isn't one of the seven; it is `OtherClass` or `NotDfu`.
abbrev pub IsUnnamedRequest : Request → Type 0
IsUnnamedRequest r = (r ≡ request.OtherClass) ⊎ (r ≡ request.NotDfu)

-- Name of a request in the standard; `other-class` or `not-dfu` for a request that the standard doesn't name.
abbrev pub request_name : Request → List ℕ
request_name (request.Detach timeout) = codes "DETACH"
request_name (request.Dnload block len) = codes "DNLOAD"
request_name (request.Upload block len) = codes "UPLOAD"
request_name (request.GetStatus len) = codes "GETSTATUS"
request_name request.ClrStatus = codes "CLRSTATUS"
request_name (request.GetState len) = codes "GETSTATE"
request_name request.Abort = codes "ABORT"
request_name request.OtherClass = codes "other-class"
request_name request.NotDfu = codes "not-dfu"

-- If the request is GETSTATUS, CLRSTATUS, GETSTATE or ABORT, none of which uses wValue, the setup's wValue is 0.
abbrev pub UnusedValueIsZero : Setup → Request → Type 0
UnusedValueIsZero s (request.GetStatus len) = s.value ≡ 0
UnusedValueIsZero s request.ClrStatus = s.value ≡ 0
UnusedValueIsZero s (request.GetState len) = s.value ≡ 0
UnusedValueIsZero s request.Abort = s.value ≡ 0
UnusedValueIsZero s r = Unit {0}
