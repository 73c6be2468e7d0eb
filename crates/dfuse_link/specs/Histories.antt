-- A session with a device over a link. Requests may be lost or repeated, answers may be lost, and the device may restart.
use Rattle.std.specs.Prelude.{◌≡◌, ℕ, List, [], ◌∷◌, Option, Some, None}
use Rattle.dfu_wire.specs.declared.states.State.{State}
use Rattle.dfu_wire.specs.declared.requests.Request.{Request}
use Rattle.dfuse_host.specs.declared.seen.Seen.{Seen}
use Rattle.dfuse_host.specs.declared.seen.Seen.TheVariants as seen
use Rattle.dfuse_host.specs.declared.session.Session.{Session}
use Rattle.dfuse_host.specs.Deeds.{Send, Wait, dfuse_deed}
use Rattle.dfuse_host.specs.Sessions.{SessionRow}
use Rattle.dfuse_link.specs.Chips.{Chip, RestsInState, Device, ChangedBy, DeviceAdvances}
use Rattle.dfuse_link.specs.Reactions.{Reaction, Acks, Data, Stalls, Reacts}

-- A request reaches a device any number of times: never if it is lost, once, or several times. The session can see only the last reaction.
pub data RequestArrives (chip : Chip) (q : Request) (body : List ℕ) (d : Device) : Option Reaction → Device → Type 0 where
  -- The request is lost.
  never : RequestArrives chip q body d None d
  -- The device receives the request once more and reacts to it.
  again : {before : Option Reaction} {mid d' : Device} {reaction : Reaction} → RequestArrives chip q body d before mid
      → Reacts chip mid q body reaction d' → RequestArrives chip q body d (Some reaction) d'

-- The session sees the last reaction, or nothing if that reaction is lost.
abbrev pub SeenOfReaction : Option Reaction → Seen → Type 0
SeenOfReaction reaction seen.Nothing = Unit {0}
SeenOfReaction (Some Acks) seen.Ack = Unit {0}
SeenOfReaction (Some (Data bytes)) (seen.Bytes given) = given.now ≡ bytes
SeenOfReaction (Some Stalls) seen.Stall = Unit {0}
SeenOfReaction reaction s = ⊥

-- Before a restart the device received nothing, or the request that the session sent.
pub data RequestUnderWay (chip : Chip) (s : Session) (d : Device) : Device → Type 0 where
  -- The device received no request before it restarted.
  none : RequestUnderWay chip s d d
  -- The session had sent a request, which reached the device or was lost.
  request : {mid : Device} {reaction : Option Reaction} (q : Request) (body : List ℕ) → dfuse_deed s.plan s.phase ≡ Send q body
      → RequestArrives chip q body d reaction mid → RequestUnderWay chip s d mid

-- The session does its action and sees its result: it sends a request, its wait ends, or the device restarts. After a restart the device
-- may be in any state, and its pointer may hold any address. An order that isn't started is dropped, and an order that is carried out is
-- interrupted.
pub data SessionTurn (chip : Chip) (d : Device) (s : Session) (x : Seen) (d' : Device) (s' : Session) : Type 0 where
  -- The session sends a request, and sees the last reaction or nothing.
  sent : (q : Request) (body : List ℕ) (reaction : Option Reaction) → dfuse_deed s.plan s.phase ≡ Send q body
      → RequestArrives chip q body d reaction d' → SeenOfReaction reaction x → SessionRow s x s' → SessionTurn chip d s x d' s'
  -- A wait ends, during which the device stays unchanged.
  waited : (ms : ℕ) → dfuse_deed s.plan s.phase ≡ Wait ms → d' ≡ d → x ≡ seen.Waited → SessionRow s x s' → SessionTurn chip d s x d' s'
  -- The device restarts, perhaps after it received the request.
  restarted : (mid : Device) (any : State) → RequestUnderWay chip s d mid → d'.device_work ≡ RestsInState any
      → ChangedBy chip mid.device_work mid.memory d'.memory → x ≡ seen.Restarted → SessionRow s x s' → SessionTurn chip d s x d' s'

-- A history leads from a device and a session to both at a later time, through the results that the session sees in order. Between two
-- results the device may continue its order by itself.
pub data History (chip : Chip) : Device → Session → List Seen → Device → Session → Type 0 where
  -- The history is empty: device and session are unchanged.
  so_far : {d : Device} {s : Session} → History chip d s [] d s
  -- The device continues its order by itself, and the history continues.
  passes : {d d' : Device} {s s' : Session} {seens : List Seen} (mid : Device) → DeviceAdvances chip d mid → History chip mid s seens d' s'
      → History chip d s seens d' s'
  -- The session does its action and sees the result, and the history continues.
  turns : {d mid d' : Device} {s at s' : Session} {x : Seen} {seens : List Seen} → SessionTurn chip d s x mid at
      → History chip mid at seens d' s' → History chip d s (x ∷ seens) d' s'
