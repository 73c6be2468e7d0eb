-- Lists of calls on a session in C, and their effect on the session's host.
use Rattle.std.specs.Prelude.{◌≡◌, ◌⊎◌, ℕ, ℤ, pos, List, [], ◌∷◌, Some, None}
use Rattle.std.specs.Borrow.{Bor}
use Rattle.dfu_host.specs.declared.parts.Parts.{Parts}
use Rattle.dfu_host.specs.declared.report.Report.{Report}
use Rattle.dfu_host.specs.declared.seen.Seen.{Seen}
use Rattle.dfu_host.specs.Phases.{Goal, LoadGoal, FetchGoal, VerifyGoal, CompareGoal, Done}
use Rattle.dfu_host.specs.Table.{deed}
use Rattle.dfu_host.specs.Host.{HostState, HostRow, aborted_host}
use Rattle.dfu_host_core.specs.ReportNumbers.{report_at}
use Rattle.dfu_host_core.specs.Actions.{ActionRecord}
use Rattle.dfu_host_core.specs.Numbers.{no_seen}
use Rattle.dfu_host_core.specs.SeenNumbers.{seen_at}
use Rattle.dfu_host_core.specs.Sessions.{IsRecordAndBuffer, host_in}
use Rattle.dfu_host_core.specs.BeginCalls.{IsInitialRecord}
use Rattle.dfu_host_core.specs.Calls.{HostTakeResult, HostAbortResult, HostNextResult}
use Rattle.dfu_host_core.specs.declared.action.DfuAction.{DfuAction}
use Rattle.dfu_host_core.specs.declared.session.DfuSession.{DfuSession}

-- A session in C: its record, and the bytes of its buffer.
pub record CoreHost : Type 0 where
  pub kept : DfuSession
  pub buffer : List ℕ

-- The session in C matches the host h, with a payload of these bytes at some address in memory.
pub record CoreHostMatches (payload : List ℕ) (x : CoreHost) (h : HostState) : Type 0 where
  pub slice : Bor (List ℕ)
  pub same : slice.now ≡ payload
  pub parts : Parts
  pub held : IsRecordAndBuffer x.kept slice x.buffer parts
  pub is : host_in x.kept x.buffer parts ≡ h

-- A call that changes a session: dfu_host_take with the number of a result and its bytes, or dfu_host_abort.
pub data HostCall : Type 0 where
  CoreTakeCall : (seen : ℕ) (bytes : List ℕ) → HostCall
  CoreAbortCall : HostCall

-- A step: a call, the number that it returned, and the session before and after it.
pub record HostStep : Type 0 where
  pub before : CoreHost
  pub call : HostCall
  pub number : ℤ
  pub after : CoreHost

-- A call returned as its contract requires, with the payload and the given bytes at some address in memory.
abbrev pub HostCallResult : (payload : List ℕ) → CoreHost → HostCall → ℤ → CoreHost → Type 0
HostCallResult payload x (CoreTakeCall seen bytes) n x' = (slice : Bor (List ℕ)) × (given : Bor (List ℕ)) × (slice.now ≡ payload)
    × (given.now ≡ bytes) × HostTakeResult x.kept slice x.buffer seen given n x'.kept x'.buffer
HostCallResult payload x CoreAbortCall n x' = (slice : Bor (List ℕ)) × (slice.now ≡ payload) × (x'.buffer ≡ x.buffer)
    × HostAbortResult x.kept slice n x'.kept

-- The steps are calls from x to x', each on the session that the previous call left. Each call returned as its contract requires.
abbrev pub IsHostRun : (payload : List ℕ) → CoreHost → List HostStep → CoreHost → Type 0
IsHostRun payload x [] x' = x' ≡ x
IsHostRun payload x (s ∷ rest) x' =
    (s.before ≡ x) × HostCallResult payload s.before s.call s.number s.after × IsHostRun payload s.after rest x'

-- The host takes the result with this number and these bytes as a row of its table allows.
pub record HostTakesSeenNumber (seen : ℕ) (bytes : List ℕ) (h h' : HostState) : Type 0 where
  pub slice : Bor (List ℕ)
  pub same : slice.now ≡ bytes
  pub word : Seen
  pub is : seen_at seen slice ≡ Some word
  pub row : HostRow h word h'

-- No result of an action has the number `seen`, with these bytes at some address.
abbrev pub SeenNumberUnknown : (seen : ℕ) → (bytes : List ℕ) → Type 0
SeenNumberUnknown seen bytes = (slice : Bor (List ℕ)) × (slice.now ≡ bytes) × (seen_at seen slice ≡ None)

-- A call had this effect on the host. dfu_host_take moved the host as a row of its table allows and returned 0, or changed nothing because
-- no result has the number. dfu_host_abort aborted the host and returned 0.
abbrev pub HostMovesByCall : HostState → HostCall → ℤ → HostState → Type 0
HostMovesByCall h (CoreTakeCall seen bytes) n h' = ((n ≡ pos 0) × HostTakesSeenNumber seen bytes h h') ⊎ ((n ≡ no_seen) × SeenNumberUnknown seen bytes × (h' ≡ h))
HostMovesByCall h CoreAbortCall n h' = (n ≡ pos 0) × (h' ≡ aborted_host h)

-- The calls of the steps move the host h to h', each from the host that the previous call left.
pub data HostMoves : HostState → List HostStep → HostState → Type 0 where
  stays : {h : HostState} → HostMoves h [] h
  moves : {h mid h' : HostState} {s : HostStep} {rest : List HostStep} → HostMovesByCall h s.call s.number mid → HostMoves mid rest h'
      → HostMoves h (s ∷ rest) h'

-- After the steps, the session in C matches a host to which the calls of these steps lead from h.
pub record SessionMatchesHostAfterSteps (payload : List ℕ) (h : HostState) (steps : List HostStep) (x' : CoreHost) : Type 0 where
  pub now : HostState
  pub is : CoreHostMatches payload x' now
  pub goes : HostMoves h steps now

-- If a session in C matches a host, then after any list of calls it matches a host that these calls lead to.
abbrev pub CoreSessionsRefineHosts : Type 0
CoreSessionsRefineHosts = (payload : List ℕ) (x x' : CoreHost) (h : HostState) (steps : List HostStep) → CoreHostMatches payload x h
    → IsHostRun payload x steps x' → SessionMatchesHostAfterSteps payload h steps x'

-- The payload of the goal has the given bytes, or the goal has no payload.
abbrev pub HasPayload : Goal → (payload : List ℕ) → Type 0
HasPayload (LoadGoal p) payload = p ≡ payload
HasPayload FetchGoal payload = Unit {0}
HasPayload (VerifyGoal p) payload = p ≡ payload
HasPayload (CompareGoal p) payload = p ≡ payload

-- A session that a call began matches its initial host, with any buffer, if its goal has these bytes as its payload or has no payload.
abbrev pub BegunSessionIsInitialHost : Type 0
BegunSessionIsInitialHost = (payload buffer : List ℕ) (r : DfuSession) (start : HostState) → IsInitialRecord r start
    → HasPayload start.task.goal payload
    → CoreHostMatches payload (record { kept = r; buffer = buffer }) start

-- A session in C matches only one host.
abbrev pub CoreSessionIsOneHost : Type 0
CoreSessionIsOneHost = (payload : List ℕ) (x : CoreHost) (h h' : HostState) → CoreHostMatches payload x h →
    CoreHostMatches payload x h' → h' ≡ h

-- dfu_host_next isn't refused, and the record of the action is the host's next action, with a body from the payload. If the record contains
-- the end of the session and a report, the host is done with that report.
pub record IsNextActionOfHost (payload : List ℕ) (h : HostState) (n : ℤ) (a : DfuAction) : Type 0 where
  pub number : n ≡ pos 0
  pub from : ℕ
  pub tells : ActionRecord payload from (deed h.task h.phase) a
  pub report : (report : Report) → a.what ≡ 3 → report_at a.value a.code ≡ Some report → deed h.task h.phase ≡ Done report

-- For every session in C that matches a host, dfu_host_next returns the host's next action, wherever the payload is in memory.
abbrev pub NextIsHostAction : Type 0
NextIsHostAction = (payload : List ℕ) (x : CoreHost) (h : HostState) (slice : Bor (List ℕ)) (n : ℤ) (a a' : DfuAction) →
    CoreHostMatches payload x h
    → slice.now ≡ payload → HostNextResult x.kept slice n a a' → IsNextActionOfHost payload h n a'
