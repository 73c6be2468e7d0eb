-- Limit of actions: each session ends within its limit and doesn't change afterwards.
use Rattle.std.specs.Prelude.{◌≡◌, ◌≤◌, max, List, length}
use Rattle.dfuse_host.specs.declared.seen.Seen.{Seen}
use Rattle.dfuse_host.specs.declared.session.Session.{Session}
use Rattle.dfuse_host.specs.Sessions.{DfuseIsOver, SessionRows}

-- A session is over after as many calls of `take` as it has actions, no matter which results it gets. A session without actions is over
-- after one call.
abbrev pub OverInTime : Type 0
OverInTime = (s s' : Session) (seens : List Seen) → SessionRows s seens s' → max 1 s.actions ≤ length seens → DfuseIsOver s'.phase

-- No result changes a session that is over.
abbrev pub OverSessionIsStable : Type 0
OverSessionIsStable = (s s' : Session) (seens : List Seen) → SessionRows s seens s' → DfuseIsOver s.phase → s' ≡ s
