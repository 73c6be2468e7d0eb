-- Lemmas about class requests, recognised by the first two bytes of a setup packet.
use Rattle.std.specs.Prelude.{◌≡◌, ℕ, ◌==◌, ◌&&◌, Bool, true, false, List, slice_index}
use Rattle.std.proofs.Common.{sym, ap, ◌∙◌}
use Rattle.std.proofs.lemmas.Bool.{eqb-true, false≢true, and_parts}
use Rattle.dfu_wire.specs.declared.setups.Setup.{Setup}
use Rattle.dfu_wire.specs.declared.requests.Request.{Request as Asked}
use Rattle.dfu_wire.specs.declared.requests.Request.TheVariants as asked
use Rattle.dfu_wire.specs.Setup.{IsSetup}
use Rattle.dfu_wire.specs.Request.{IsClassRequestSetup, SetupAsksFor}
use Rattle.dfu_device.specs.Rows.{is_served}
use Rattle.dfu_device.proofs.Cases.{bool_has_two_cases}

-- True if the setup packet begins with these two bytes: bmRequestType and bRequest.
abbrev pub begins : ℕ → ℕ → List ℕ → Bool
begins kind number setup = (slice_index setup 0 == kind) && (slice_index setup 1 == number)

-- True if the request is the one of the seven DFU requests with this bmRequestType and bRequest.
abbrev pub is_request_with_first_bytes : ℕ → ℕ → Asked → Bool
is_request_with_first_bytes kind number (asked.Detach timeout) = (0x21 == kind) && (0 == number)
is_request_with_first_bytes kind number (asked.Dnload block len) = (0x21 == kind) && (1 == number)
is_request_with_first_bytes kind number (asked.Upload block len) = (0xa1 == kind) && (2 == number)
is_request_with_first_bytes kind number (asked.GetStatus len) = (0xa1 == kind) && (3 == number)
is_request_with_first_bytes kind number asked.ClrStatus = (0x21 == kind) && (4 == number)
is_request_with_first_bytes kind number (asked.GetState len) = (0xa1 == kind) && (5 == number)
is_request_with_first_bytes kind number asked.Abort = (0x21 == kind) && (6 == number)
is_request_with_first_bytes kind number asked.OtherClass = false
is_request_with_first_bytes kind number asked.NotDfu = false

module _ (kind number : ℕ) (p : Setup) (setup : List ℕ) (reads : IsSetup p setup) where
  -- A class request with bmRequestType k and bRequest n begins with the bytes `kind` and `number` exactly if k is `kind` and n is `number`.
  class_setup_begins_with_bytes : (k n : ℕ) → IsClassRequestSetup p k n → begins kind number setup ≡ (k == kind) && (n == number)
  class_setup_begins_with_bytes k n class = ap (λ (x : ℕ). (x == kind) && (slice_index setup 1 == number)) (sym reads.kind ∙ class.kind)
      ∙ ap (λ (x : ℕ). (k == kind) && (x == number)) (sym reads.request ∙ class.request)

  -- If a setup packet for interface 0 begins with the bytes `kind` and `number`, it is the class request with these numbers.
  first_bytes_give_class_request : p.index ≡ 0 → begins kind number setup ≡ true → IsClassRequestSetup p kind number
  first_bytes_give_class_request index starts =
      let both : ((slice_index setup 0 == kind) ≡ true) × ((slice_index setup 1 == number) ≡ true) =
      and_parts (slice_index setup 0 == kind) (slice_index setup 1 == number) starts in
      record {
        kind = reads.kind ∙ eqb-true (slice_index setup 0) kind both.0;
        request = reads.request ∙ eqb-true (slice_index setup 1) number both.1;
        index = index;
      }

  -- If no other class request begins with the bytes `kind` and `number`, a setup packet that has a row in the table begins with them
  -- exactly if its request is the one of the seven with these two bytes.
  pub setup_begins_as_request : (q : Asked) (body : List ℕ) → (IsClassRequestSetup p kind number → SetupAsksFor p asked.OtherClass → ⊥) →
      SetupAsksFor p q
      → is_served p q body ≡ true → begins kind number setup ≡ is_request_with_first_bytes kind number q
  setup_begins_as_request (asked.Detach timeout) body own asks on = class_setup_begins_with_bytes 0x21 0 asks.0
  setup_begins_as_request (asked.Dnload block len) body own asks on = class_setup_begins_with_bytes 0x21 1 asks.0
  setup_begins_as_request (asked.Upload block len) body own asks on = class_setup_begins_with_bytes 0xa1 2 asks.0
  setup_begins_as_request (asked.GetStatus len) body own asks on = class_setup_begins_with_bytes 0xa1 3 asks.0
  setup_begins_as_request asked.ClrStatus body own asks on = class_setup_begins_with_bytes 0x21 4 asks.0
  setup_begins_as_request (asked.GetState len) body own asks on = class_setup_begins_with_bytes 0xa1 5 asks.0
  setup_begins_as_request asked.Abort body own asks on = class_setup_begins_with_bytes 0x21 6 asks.0
  setup_begins_as_request asked.OtherClass body own asks on =
      bool_has_two_cases (begins kind number setup) (λ on. absurd (own (first_bytes_give_class_request asks.0.1 on) asks)) (λ off. off)
  setup_begins_as_request asked.NotDfu body own asks on = absurd (false≢true on)
