-- A session's knowledge of the address pointer after the device restarted.
use Rattle.std.specs.Prelude.{◌≡◌}
use Rattle.dfuse_host.specs.declared.phase.Phase.{Phase}
use Rattle.dfuse_host.specs.declared.phase.Phase.TheVariants.{On, Over}
use Rattle.dfuse_host.specs.declared.place.Place.TheVariants as place
use Rattle.dfuse_host.specs.declared.heard.Heard.TheVariants as heard
use Rattle.dfuse_host.specs.declared.session.Session.{Session}
use Rattle.dfuse_host.specs.Sessions.{session_after_heard}

-- The session knows nothing about the address pointer, or is over.
abbrev pub IsPointerLost : Phase → Type 0
IsPointerLost (On s) = s.place ≡ place.Lost
IsPointerLost (Over r) = Unit {0}

-- After a restart, a session knows nothing about the address pointer or is over.
abbrev pub RestartForgetsPointer : Type 0
RestartForgetsPointer = (s : Session) → IsPointerLost (session_after_heard s heard.Restarted).phase
