use Rattle.std.proofs.Common.{sym, subst}
use Rattle.dfu_slots.specs.Medium.{MediumState}
use Rattle.dfu_asks.specs.Mapped.{grain_of as mapped_grain, mapped_medium}
use Rattle.dfu_boot.specs.trial.Again.{MatchesMedium}
use Rattle.dfu_boot.specs.declared.trial.starting.Starting.{Starting}
use Rattle.dfu_boot_c.proofs.TrialSlots.{StartSlotsInMedium, start_slots_end_in_medium}
use Rattle.dfu_boot_c.proofs.trial.again.start_from.Goals.{After-start-starts}
use Rattle.dfu_boot_c.proofs.trial.again.start_from.Goals as goal

-- The slot to run, and the slot to run if the mark does not read as set, end within the flash.
start_slots_end_within_flash : (c : After-start-starts) → let medium = c.in-Ok.looked.medium in
    StartSlotsInMedium (mapped_medium (mapped_grain medium.unit medium.sector) medium.bytes.now) c.start-starts.result
start_slots_end_within_flash c =
    let l = c.in-Ok.looked in
    let t = c.args.tries.now in
    let m : MediumState = mapped_medium (mapped_grain l.medium.unit l.medium.sector) l.medium.bytes.now in
    let fits = subst (λ (x : MediumState). MatchesMedium x t.tries l.standing) (sym c.in-Ok.ensures.state) c.in-Ok.ensures.matches_medium in
    subst (λ (s : Starting). StartSlotsInMedium m s) (sym c.start-starts.ensures.value) (start_slots_end_in_medium m t.tries l.standing
    fits)

pub starting_told-requires-clause-run : goal.starting_told-requires-clause-run
starting_told-requires-clause-run c = (start_slots_end_within_flash (goal.at.starting_told-requires-clause-run c).After-start-starts).0

pub starting_told-requires-clause-otherwise : goal.starting_told-requires-clause-otherwise
starting_told-requires-clause-otherwise c = (start_slots_end_within_flash (goal.at.starting_told-requires-clause-otherwise
    c).After-start-starts).1
