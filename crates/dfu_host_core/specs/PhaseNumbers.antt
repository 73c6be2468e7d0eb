-- Phases of sessions as numbers.
use Rattle.std.specs.Prelude.{ℕ, ◌==◌, nat_lt, if◌then◌else◌, Option, Some, None, option_map}
use Rattle.dfu_host.specs.declared.phase.Phase.{Phase}
use Rattle.dfu_host.specs.declared.phase.Phase.TheVariants as phase
use Rattle.dfu_host_core.specs.ReportNumbers.{report_at}

-- The part with this number; None for a number over 65,535.
abbrev pub part_at : ℕ → Option ℕ
part_at number = if nat_lt number 65536 then Some number else None

-- The phase with number `which`, 0 to 24. `number` is its block, part or report; `more` is its poll time or status code. None if no phase
-- has these numbers.
abbrev pub phase_at : (which number more : ℕ) → Option Phase
phase_at which number more =
    if which == 0 then Some phase.Find
    else if which == 1 then Some phase.FindAgain
    else if which == 2 then Some phase.Detach
    else if which == 3 then Some phase.Enter
    else if which == 4 then Some phase.Clear
    else if which == 5 then Some phase.Quit
    else if which == 6 then Some (phase.WaitFind more)
    else if which == 7 then Some phase.ResetFind
    else if which == 8 then Some (phase.Block number)
    else if which == 9 then Some (phase.Ask number)
    else if which == 10 then Some (phase.Poll number)
    else if which == 11 then Some (phase.WaitPoll number more)
    else if which == 12 then Some phase.Close
    else if which == 13 then Some phase.AskLast
    else if which == 14 then Some phase.Manifest
    else if which == 15 then Some (phase.WaitManifest more)
    else if which == 16 then Some (phase.WaitLast more)
    else if which == 17 then Some phase.Trouble
    else if which == 18 then option_map phase.Fetch (part_at number)
    else if which == 19 then option_map phase.Compare (part_at number)
    else if which == 20 then option_map phase.Last (report_at number more)
    else if which == 21 then Some phase.LastUploaded
    else if which == 22 then Some phase.GiveUp
    else if which == 23 then option_map phase.Over (report_at number more)
    else if which == 24 then Some phase.OverUploaded
    else None
