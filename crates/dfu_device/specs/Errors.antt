-- The medium errors errWRITE, errPROG and errVERIFY, and their causes.
use Rattle.std.specs.Prelude.{◌⊎◌, ℕ, List}
use Rattle.dfu_wire.specs.declared.codes.Code.TheVariants.{Write as ErrWrite, Prog as ErrProg, Verify as ErrVerify}
use Rattle.dfu_device.specs.declared.answer.Answer.{Answer}
use Rattle.dfu_slots.specs.Medium.{CountRose}
use Rattle.dfu_device.specs.Stage.{Stage, InError}
use Rattle.dfu_device.specs.DeviceView.{DeviceView}
use Rattle.dfu_device.specs.Rows.{Cause, Row}

-- The stage is dfuERROR with errWRITE, errPROG or errVERIFY.
abbrev pub IsMediumError : Stage → Type 0
IsMediumError (InError ErrWrite) = Unit {0}
IsMediumError (InError ErrProg) = Unit {0}
IsMediumError (InError ErrVerify) = Unit {0}
IsMediumError stage = ⊥

-- The medium's count of failures rose, or it is at its maximum.
abbrev pub MediumFailed : DeviceView → DeviceView → Type 0
MediumFailed w w' = CountRose w.slots.medium.failures w'.slots.medium.failures

-- A row ends in errWRITE, errPROG or errVERIFY only if it began in one of them or the medium failed during the row.
abbrev pub MediumErrorsHaveCause : Type 0
MediumErrorsHaveCause = (w : DeviceView) (cause : Cause) (a : Answer) (out : List ℕ) (w' : DeviceView) → Row w cause a out w'
    → IsMediumError w'.stage
    → IsMediumError w.stage ⊎ MediumFailed w w'
