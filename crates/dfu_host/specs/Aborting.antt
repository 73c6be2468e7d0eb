-- Laws of a session that its caller aborts.
use Rattle.std.specs.Prelude.{◌≡◌}
use Rattle.dfu_host.specs.declared.report.Report.TheVariants as report
use Rattle.dfu_host.specs.declared.seen.Seen.{Seen}
use Rattle.dfu_host.specs.Phases.{Over}
use Rattle.dfu_host.specs.Host.{HostState, IsLivePhase, aborted_host, HostRow}
use Rattle.dfu_host.specs.Budget.{remaining_results}

-- After an abort of a session that is not done, the next `take` ends it as Aborted, for every result.
abbrev pub AbortIsFinal : Type 0
AbortIsFinal = (h h' : HostState) (seen : Seen) → IsLivePhase h.phase → HostRow (aborted_host h) seen h' → h'.phase ≡ Over report.Aborted

-- An abort spends no action.
abbrev pub AbortSpendsNoAction : Type 0
AbortSpendsNoAction = (h : HostState) → remaining_results (aborted_host h) ≡ remaining_results h
