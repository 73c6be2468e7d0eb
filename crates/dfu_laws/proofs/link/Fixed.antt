-- The profile of a device, which no row changes.
use Rattle.std.specs.Prelude.{◌≡◌, ℕ, List, [], ◌∷◌}
use Rattle.std.proofs.Common.{ap, ◌∙◌}
use Rattle.dfu_slots.specs.StoreView.{fuse_changes_nothing_visible}
use Rattle.dfu_device.specs.declared.answer.Answer.{Answer}
use Rattle.dfu_device.specs.DeviceView.{DeviceView, profile, profile_of}
use Rattle.dfu_device.specs.Rows.{Cause, Transfer, Passing, BusReset, RefusingClose, Refusing, PowerOn, Row, Handles, handled_by_reading, setup_plan, asked_length}
use Rattle.dfu_device.specs.PlanOutcomes.{came, times_have_outcomes}
use Rattle.dfu_device.specs.History.{IsHistory, HistoryStep as TableRow}

handled_setup_keeps_profile : (setup body : List ℕ) (d d' : DeviceView) (a : Answer) (out : List ℕ) → Handles setup body d a out d'
    → profile d' ≡ profile d
handled_setup_keeps_profile setup body d d' a out (handled_by_reading p q reads asks done) =
    (came (setup_plan d p q body) (asked_length q) d a out d' done).fixed

-- A row does not change the profile of the device.
pub row_keeps_profile : (d d' : DeviceView) (cause : Cause) (a : Answer) (out : List ℕ) → Row d cause a out d' → profile d' ≡ profile d
row_keeps_profile d d' (Transfer setup body) a out h = handled_setup_keeps_profile setup body d d' a out h
row_keeps_profile d d' (Passing ms) a out h = (times_have_outcomes ms d d' h.2).fixed
row_keeps_profile d d' BusReset a out h = ap profile h.2
row_keeps_profile d d' (RefusingClose setup why) a out (is, none, closes, same) = ap profile same
row_keeps_profile d d' (Refusing why) a out h = ap profile h.2
row_keeps_profile d d' PowerOn a out h =
    ap profile h.2 ∙ (λ k. profile_of d.config ((fuse_changes_nothing_visible d.slots d.slots.medium.fuse [] 0).room k))

-- A history does not change the profile of the device.
pub history_keeps_profile : (d d' : DeviceView) (rows : List TableRow) → IsHistory d rows d' → profile d' ≡ profile d
history_keeps_profile d d' [] h = ap profile h
history_keeps_profile d d' (r ∷ rest) h =
    history_keeps_profile r.after d' rest h.2 ∙ row_keeps_profile r.before r.after r.cause r.answer r.out h.1 ∙ ap profile h.0
