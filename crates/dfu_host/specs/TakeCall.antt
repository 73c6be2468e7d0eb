-- Effect of a call of `take` on a session or a host, whichever way the bytes of an upload are kept.
use Rattle.std.specs.Prelude.{◌≡◌, ◌-◌, ◌≤◌}
use Rattle.dfu_host.specs.declared.seen.Seen.{Seen}
use Rattle.dfu_host.specs.Host.{HostState, HostRow, IsOverPhase}
use Rattle.dfu_host.specs.Budget.{remaining_results}
use Rattle.dfu_host.specs.Uploading.{FetchResult}

-- A host takes a result as a row of the table allows, within its budget. A host that is done is unchanged. Bytes that answer the UPLOAD of
-- a part are taken as that part.
pub record TakeResult (h : HostState) (seen : Seen) (h' : HostState) : Type 0 where
  pub row : HostRow h seen h'
  pub budget : remaining_results h' ≤ remaining_results h - 1
  pub over : IsOverPhase h.phase → h' ≡ h
  pub part : FetchResult h h.phase seen h'
