-- The law that relates the DfuSe table to the table of the standard.
use Rattle.std.specs.Prelude.{List}
use Rattle.dfu_conformance.specs.declared.row.StandardState.{StandardState}
use Rattle.dfu_conformance.specs.declared.event.LogEvent.{LogEvent}
use Rattle.dfu_conformance.specs.MayAnswer.{Run as StandardRun}
use Rattle.dfu_conformance.specs.dfuse.Runs.{dfuse_attributes, dfuse_habits, DfuseRun}

-- Each run of a USB DFU 1.1 device with the bmAttributes and habits of a DfuSe device is also a run of a DfuSe device.
abbrev pub StandardIsIncluded : Type 0
StandardIsIncluded =
    (events : List LogEvent) (from last : StandardState) → StandardRun dfuse_attributes dfuse_habits from events last
    → DfuseRun from events last
