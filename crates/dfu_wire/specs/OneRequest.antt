-- A setup encodes at most one request.
use Rattle.std.specs.Prelude.{◌≡◌, refl}
use Rattle.std.proofs.Common.{arith, inl, inr}
use Rattle.dfu_wire.specs.declared.setups.Setup.{Setup}
use Rattle.dfu_wire.specs.declared.requests.Request.{Request}
use Rattle.dfu_wire.specs.declared.requests.Request.TheVariants as request
use Rattle.dfu_wire.specs.Request.{EncodesNamedRequest, IsInterface0ClassRequest, SetupAsksFor}

-- A setup encodes at most one of the seven requests.
setup_encodes_one_request : (s : Setup) (q r : Request) → EncodesNamedRequest s q → EncodesNamedRequest s r → q ≡ r
setup_encodes_one_request s request.OtherClass r a b = absurd a
setup_encodes_one_request s request.NotDfu r a b = absurd a
setup_encodes_one_request s q request.OtherClass a b = absurd b
setup_encodes_one_request s q request.NotDfu a b = absurd b
setup_encodes_one_request s (request.Detach t) (request.Detach u) a b = cc
setup_encodes_one_request s (request.Dnload n l) (request.Dnload m k) a b = cc
setup_encodes_one_request s (request.Upload n l) (request.Upload m k) a b = cc
setup_encodes_one_request s (request.GetStatus l) (request.GetStatus k) a b = cc
setup_encodes_one_request s request.ClrStatus request.ClrStatus a b = refl
setup_encodes_one_request s (request.GetState l) (request.GetState k) a b = cc
setup_encodes_one_request s request.Abort request.Abort a b = refl
setup_encodes_one_request s q r a b = absurd (omega arith)

-- A setup that encodes one of the seven requests is a class request to interface 0.
named_setup_is_class_request : (s : Setup) (q : Request) → EncodesNamedRequest s q → IsInterface0ClassRequest s
named_setup_is_class_request s (request.Detach t) a = (inl a.0.kind, a.0.index)
named_setup_is_class_request s (request.Dnload n l) a = (inl a.0.kind, a.0.index)
named_setup_is_class_request s (request.Upload n l) a = (inr a.0.kind, a.0.index)
named_setup_is_class_request s (request.GetStatus l) a = (inr a.0.kind, a.0.index)
named_setup_is_class_request s request.ClrStatus a = (inl a.0.kind, a.0.index)
named_setup_is_class_request s (request.GetState l) a = (inr a.0.kind, a.0.index)
named_setup_is_class_request s request.Abort a = (inl a.0.kind, a.0.index)
named_setup_is_class_request s request.OtherClass a = absurd a
named_setup_is_class_request s request.NotDfu a = absurd a

-- Each setup encodes at most one request.
abbrev pub OneRequest : Type 0
OneRequest = (s : Setup) (q r : Request) → SetupAsksFor s q → SetupAsksFor s r → q ≡ r

-- No setup encodes two different requests, including `OtherClass` and `NotDfu`.
pub setup_asks_for_one_request : OneRequest
setup_asks_for_one_request s request.OtherClass request.OtherClass a b = refl
setup_asks_for_one_request s request.NotDfu request.NotDfu a b = refl
setup_asks_for_one_request s request.OtherClass request.NotDfu a b = absurd (b a.0)
setup_asks_for_one_request s request.NotDfu request.OtherClass a b = absurd (a b.0)
setup_asks_for_one_request s request.OtherClass r a b = absurd (a.1 r b)
setup_asks_for_one_request s q request.OtherClass a b = absurd (b.1 q a)
setup_asks_for_one_request s request.NotDfu r a b = absurd (a (named_setup_is_class_request s r b))
setup_asks_for_one_request s q request.NotDfu a b = absurd (b (named_setup_is_class_request s q a))
setup_asks_for_one_request s q r a b = setup_encodes_one_request s q r a b
