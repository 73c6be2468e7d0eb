-- Numbers that a refused call on a session returns.
use Rattle.std.specs.Prelude.{ℤ, negsuc}

-- Number of the refusal if the record holds no session.
abbrev pub no_session : ℤ
no_session = negsuc 40

-- Number of the refusal if no result of an action has the number that was passed to the call.
abbrev pub no_seen : ℤ
no_seen = negsuc 41
