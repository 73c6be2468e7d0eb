-- The DfuSe commands that the works of a session send, and the phases that follow them.
use Rattle.std.specs.Prelude.{ℕ, ◌-◌, ◌==◌, max, min, List, [], take, drop, Some, None, if◌then◌else◌}
use Rattle.dfuse_host.specs.declared.plan.Plan.{Plan}
use Rattle.dfuse_host.specs.declared.phase.Phase.{Phase}
use Rattle.dfuse_host.specs.declared.work.Work.{Work}
use Rattle.dfuse_host.specs.declared.work.Work.TheVariants as work
use Rattle.dfuse_host.specs.declared.place.Place.{Place}
use Rattle.dfuse_host.specs.declared.place.Place.TheVariants as place
use Rattle.dfuse_host.specs.declared.step.Step.TheVariants as step
use Rattle.dfuse_host.specs.declared.command.Command.{Command}
use Rattle.dfuse_host.specs.declared.command.Command.TheVariants as command
use Rattle.dfuse_host.specs.Images.{element_at, image_end}
use Rattle.dfuse_host.specs.Plans.{page_start, page_end, front_end, write_end}
use Rattle.dfuse_host.specs.Settling.{phase_with_step, settled_phase, to_erase, to_write, to_write_front}

-- Next command for writing the bytes at `at`: Write if the pointer was set to this address, and SetAddress otherwise.
abbrev pub write_command : Place → (at : ℕ) → Command
write_command place.Lost at = command.SetAddress at
write_command (place.At p) at = if p == at then command.Write at else command.SetAddress at
write_command (place.Reading p) at = command.SetAddress at

-- Command of a work: it erases a page, writes bytes, or sets the pointer for writing, reading or leaving.
abbrev pub command_of : Plan → Work → Place → Command
command_of plan (work.Erase at) p = command.ErasePage (page_start plan at)
command_of plan (work.EraseAgain page end) p = command.ErasePage page
command_of plan (work.Write at end) p = write_command p at
command_of plan (work.Compare at) p = command.SetAddress at
command_of plan (work.WriteFront at) p = write_command p at
command_of plan (work.CompareFront at) p = command.SetAddress at
command_of plan work.Leave p = command.SetAddress plan.start

-- Address at which a work ends; 0 for Leave.
abbrev pub end_of_work : Plan → Work → ℕ
end_of_work plan (work.Erase at) = image_end plan.image.now
end_of_work plan (work.EraseAgain page end) = end
end_of_work plan (work.Write at end) = end
end_of_work plan (work.Compare at) = image_end plan.image.now
end_of_work plan (work.WriteFront at) = front_end plan
end_of_work plan (work.CompareFront at) = front_end plan
end_of_work plan work.Leave = 0

-- Bytes of the image from `at` up to `end`, but not beyond the end of the element that contains `at`. The list is empty if no element
-- contains `at`.
abbrev pub bytes_in : Plan → (at end : ℕ) → List ℕ
bytes_in plan at end = elim (element_at at plan.image.now) [ None ↦ [] | Some e ↦ take (end - at) (drop (at - e.address) e.bytes.now) ]

-- Phase after a page is erased. After EraseAgain the session writes the image again from this page up to the work's end, but not the front.
-- After other works it goes on to the next page. The pointer is no longer known.
abbrev pub phase_after_erase : Plan → Work → (page : ℕ) → Phase
phase_after_erase plan (work.EraseAgain page end) at = to_write plan place.Lost (max page (front_end plan)) end
phase_after_erase plan w at = to_erase plan place.Lost (page_end plan at)

-- Phase after bytes are written: the session writes the next bytes or goes on to the next work. The pointer is no longer known.
abbrev pub phase_after_write : Plan → Work → (at : ℕ) → Phase
phase_after_write plan (work.Write from end) at = to_write plan place.Lost (max from (write_end plan at end)) end
phase_after_write plan w at = to_write_front plan place.Lost (write_end plan at (front_end plan))

-- Phase after a command is done.
abbrev pub phase_after_command : Plan → Work → Command → Phase
phase_after_command plan w (command.SetAddress at) = settled_phase plan w (place.At at)
phase_after_command plan w (command.ErasePage at) = phase_after_erase plan w at
phase_after_command plan w (command.Write at) = phase_after_write plan w at

-- Phase that clears the device before the work goes on. The pointer is no longer known.
abbrev pub phase_to_clear : Work → Phase
phase_to_clear w = phase_with_step w place.Lost step.Abort

-- Work that repeats a write that may have stopped halfway. It erases the page, and writes the image after the front again, from this page
-- to the end of the work. For a write of the front it writes only to the end of the page. Other works stay unchanged.
abbrev pub work_after_unsure_write : Plan → Work → Work
work_after_unsure_write plan (work.Write at end) = work.EraseAgain (page_start plan at) end
work_after_unsure_write plan (work.WriteFront at) = work.EraseAgain (page_start plan at) (min (page_end plan at) (image_end plan.image.now))
work_after_unsure_write plan w = w

-- Phase after a command that may have been started and has an unknown outcome. The session clears the device, and repeats a write by
-- erasing its page first.
abbrev pub phase_if_unsure : Plan → Work → Command → Phase
phase_if_unsure plan w (command.SetAddress at) = phase_to_clear w
phase_if_unsure plan w (command.ErasePage at) = phase_to_clear w
phase_if_unsure plan w (command.Write at) = phase_to_clear (work_after_unsure_write plan w)
