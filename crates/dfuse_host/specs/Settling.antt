-- Order of the works: the next phase when the device is ready for a command.
use Rattle.std.specs.Prelude.{ℕ, ◌-◌, ◌/◌, ◌%◌, ◌==◌, ◌&&◌, nat_lt, nat_le, Bool, false, Option, Some, None, if◌then◌else◌}
use Rattle.dfuse_host.specs.declared.plan.Plan.{Plan}
use Rattle.dfuse_host.specs.declared.phase.Phase.{Phase}
use Rattle.dfuse_host.specs.declared.phase.Phase.TheVariants.{On, Over}
use Rattle.dfuse_host.specs.declared.work.Work.{Work}
use Rattle.dfuse_host.specs.declared.work.Work.TheVariants as work
use Rattle.dfuse_host.specs.declared.place.Place.{Place}
use Rattle.dfuse_host.specs.declared.place.Place.TheVariants as place
use Rattle.dfuse_host.specs.declared.step.Step.{Step}
use Rattle.dfuse_host.specs.declared.step.Step.TheVariants as step
use Rattle.dfuse_host.specs.declared.report.Report.TheVariants as report
use Rattle.dfuse_host.specs.declared.report.Leaving.TheVariants as leaving
use Rattle.dfuse_host.specs.Images.{next_byte, image_start, image_end, element_at}
use Rattle.dfuse_host.specs.Plans.{front_end, block_size}

-- Phase with this work, place and step.
abbrev pub phase_with_step : Work → Place → Step → Phase
phase_with_step w p s = On (record { work = w; place = p; step = s })

-- The address, or None if it isn't below `end`.
abbrev pub address_if_before : (end : ℕ) → Option ℕ → Option ℕ
address_if_before end None = None
address_if_before end (Some at) = if nat_lt at end then Some at else None

-- Address of the image's next byte from `at` on, or None if it isn't below `end`.
unfoldable pub byte_in : Plan → (at end : ℕ) → Option ℕ
byte_in plan at end = address_if_before end (next_byte at plan.image.now)

-- Next step before a command is sent. If the session is reading, the device must leave dfuUPLOAD-IDLE first.
abbrev pub sending_step : Place → Step
sending_step place.Lost = step.Send
sending_step (place.At p) = step.Send
sending_step (place.Reading p) = step.EndReading

-- True if an UPLOAD block with a number of at most 65,535 begins at `at` when the pointer is set to `base`, and both addresses are in the
-- same element.
unfoldable pub can_read : Plan → (base at : ℕ) → Bool
can_read plan base at =
    nat_le base at
    && (((at - base) % block_size plan == 0)
    && (nat_le ((at - base) / block_size plan) 65533
    && elim (element_at at plan.image.now) [ None ↦ false | Some e ↦ nat_le e.address base ]))

-- Next step before bytes are read back. The session sets the pointer, brings the device to dfuIDLE, and then requests the bytes. If it is
-- reading and no block begins at `at`, it ends the reading first.
abbrev pub comparing_step : Plan → (at : ℕ) → Place → Step
comparing_step plan at place.Lost = step.Send
comparing_step plan at (place.At p) = if p == at then step.BeginReading else step.Send
comparing_step plan at (place.Reading base) = if can_read plan base at then step.Read else step.EndReading

-- Phase for leaving. The session ends the reading, sets the pointer to the application's start address, and then sends the leave request, a
-- DNLOAD without bytes.
abbrev pub phase_to_set_start : Plan → Place → Phase
phase_to_set_start plan place.Lost = phase_with_step work.Leave place.Lost step.Send
phase_to_set_start plan (place.At p) =
    if p == plan.start then phase_with_step work.Leave (place.At p) step.Close else phase_with_step work.Leave (place.At p) step.Send
phase_to_set_start plan (place.Reading p) = phase_with_step work.Leave (place.Reading p) step.EndReading

-- Phase after the comparison if the device stays in upgrade mode: over as Verified. A device in dfuUPLOAD-IDLE must leave this state first.
abbrev pub phase_when_compared : Place → Phase
phase_when_compared place.Lost = Over (report.Verified leaving.Stayed)
phase_when_compared (place.At p) = Over (report.Verified leaving.Stayed)
phase_when_compared (place.Reading p) = phase_with_step work.Leave (place.Reading p) step.EndReading

-- Phase after the comparison. The session goes on to the leave request if the plan lets the device leave.
unfoldable pub to_leave : Plan → Place → Phase
to_leave plan p = if plan.leaves then phase_to_set_start plan p else phase_when_compared p

-- Phase that compares the front from the next byte on. If no byte is left, the session goes on to leave or ends.
abbrev pub compare_front_phase_for : Plan → Place → Option ℕ → Phase
compare_front_phase_for plan p None = to_leave plan p
compare_front_phase_for plan p (Some at) = phase_with_step (work.CompareFront at) p (comparing_step plan at p)

-- Phase that compares the front from `at` on.
unfoldable pub to_compare_front : Plan → Place → (at : ℕ) → Phase
to_compare_front plan p at = compare_front_phase_for plan p (byte_in plan at (front_end plan))

-- Phase that writes the front from the next byte on. If no byte is left, the session compares the front.
abbrev pub write_front_phase_for : Plan → Place → Option ℕ → Phase
write_front_phase_for plan p None = to_compare_front plan p (image_start plan.image.now)
write_front_phase_for plan p (Some at) = phase_with_step (work.WriteFront at) p (sending_step p)

-- Phase that writes the front from `at` on.
unfoldable pub to_write_front : Plan → Place → (at : ℕ) → Phase
to_write_front plan p at = write_front_phase_for plan p (byte_in plan at (front_end plan))

-- Phase that compares the image after the front from the next byte on. If no byte is left, the session writes the front.
abbrev pub compare_phase_for : Plan → Place → Option ℕ → Phase
compare_phase_for plan p None = to_write_front plan p (image_start plan.image.now)
compare_phase_for plan p (Some at) = phase_with_step (work.Compare at) p (comparing_step plan at p)

-- Phase that compares the image after the front, from `at` on.
unfoldable pub to_compare : Plan → Place → (at : ℕ) → Phase
to_compare plan p at = compare_phase_for plan p (byte_in plan at (image_end plan.image.now))

-- Phase that writes the image from the next byte up to `end`. If no byte is left, the session compares the image after the front.
abbrev pub write_phase_for : Plan → Place → (end : ℕ) → Option ℕ → Phase
write_phase_for plan p end None = to_compare plan p (front_end plan)
write_phase_for plan p end (Some at) = phase_with_step (work.Write at end) p (sending_step p)

-- Phase that writes the image from `at` up to `end`.
unfoldable pub to_write : Plan → Place → (at end : ℕ) → Phase
to_write plan p at end = write_phase_for plan p end (byte_in plan at end)

-- Phase that erases the page of the next byte. If no byte is left, the session writes the image after the front.
abbrev pub erase_phase_for : Plan → Place → Option ℕ → Phase
erase_phase_for plan p None = to_write plan p (front_end plan) (image_end plan.image.now)
erase_phase_for plan p (Some at) = phase_with_step (work.Erase at) p (sending_step p)

-- Phase that erases the pages of the image from `at` on.
unfoldable pub to_erase : Plan → Place → (at : ℕ) → Phase
to_erase plan p at = erase_phase_for plan p (byte_in plan at (image_end plan.image.now))

-- Next phase of a work when the device is ready for a command.
unfoldable pub settled_phase : Plan → Work → Place → Phase
settled_phase plan (work.Erase at) p = to_erase plan p at
settled_phase plan (work.EraseAgain page end) p = phase_with_step (work.EraseAgain page end) p (sending_step p)
settled_phase plan (work.Write at end) p = to_write plan p at end
settled_phase plan (work.Compare at) p = to_compare plan p at
settled_phase plan (work.WriteFront at) p = to_write_front plan p at
settled_phase plan (work.CompareFront at) p = to_compare_front plan p at
settled_phase plan work.Leave p = to_leave plan p
