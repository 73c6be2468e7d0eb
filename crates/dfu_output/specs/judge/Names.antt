-- Names in the lines of `dfu judge`.
use Rattle.std.specs.Prelude.{ℕ, List, [], codes}
use Rattle.dfu_conformance.specs.declared.row.StandardState.{StandardState}
use Rattle.dfu_conformance.specs.declared.row.StandardState.TheVariants as place
use Rattle.dfu_conformance.specs.declared.row.EventKind.{EventKind}
use Rattle.dfu_conformance.specs.declared.row.EventKind.TheVariants as asked
use Rattle.dfu_conformance.specs.declared.row.Gives.{Gives}
use Rattle.dfu_conformance.specs.declared.row.Gives.TheVariants as answer
use Rattle.dfu_conformance.specs.declared.row.RuleSource.{RuleSource}
use Rattle.dfu_conformance.specs.declared.row.RuleSource.TheVariants as source
use Rattle.dfu_conformance.specs.declared.row.Reading.{Reading}
use Rattle.dfu_conformance.specs.declared.row.Reading.TheVariants as reading
use Rattle.dfu_conformance.specs.declared.row.When.{When}
use Rattle.dfu_conformance.specs.declared.row.When.TheVariants.{Always, CanDownload, CanUpload, Tolerant, NotTolerant, WillDetach, By}

-- Name that the standard gives to this state. DfuIdle and Fresh are both the standard's state dfuIDLE.
abbrev pub place_name : StandardState → List ℕ
place_name place.AppIdle = codes "appIDLE"
place_name place.AppDetach = codes "appDETACH"
place_name place.DfuIdle = codes "dfuIDLE"
place_name place.DownloadSync = codes "dfuDNLOAD-SYNC"
place_name place.DownloadBusy = codes "dfuDNBUSY"
place_name place.DownloadIdle = codes "dfuDNLOAD-IDLE"
place_name place.ManifestSync = codes "dfuMANIFEST-SYNC"
place_name place.Manifest = codes "dfuMANIFEST"
place_name place.ManifestWaitReset = codes "dfuMANIFEST-WAIT-RESET"
place_name place.UploadIdle = codes "dfuUPLOAD-IDLE"
place_name place.Error = codes "dfuERROR"
place_name place.Fresh = codes "dfuIDLE"

-- Name of an event's kind: a request, `reset` or `power`.
abbrev pub event_kind_name : EventKind → List ℕ
event_kind_name asked.Detach = codes "DETACH"
event_kind_name asked.Block = codes "DNLOAD"
event_kind_name asked.Close = codes "DNLOAD-0"
event_kind_name asked.Upload = codes "UPLOAD"
event_kind_name asked.GetStatus = codes "GETSTATUS"
event_kind_name asked.ClrStatus = codes "CLRSTATUS"
event_kind_name asked.GetState = codes "GETSTATE"
event_kind_name asked.Abort = codes "ABORT"
event_kind_name asked.Other = codes "other"
event_kind_name asked.Reset = codes "reset"
event_kind_name asked.Power = codes "power"

-- Name of an answer that a row allows.
abbrev pub answer_name : Gives → List ℕ
answer_name answer.Ack = codes "ack"
answer_name answer.Stall = codes "stall"
answer_name answer.Status = codes "status"
answer_name answer.NoCode = codes "status-OK"
answer_name answer.State = codes "state"
answer_name answer.Full = codes "full"
answer_name answer.Short = codes "short"
answer_name answer.Silent = codes "nothing"

-- Name of the source of a row: appendix A, a reading of an open question (`open`), or a habit.
abbrev pub source_name : RuleSource → List ℕ
source_name source.A = codes "appendix-A"
source_name source.Open = codes "open"
source_name source.Habit = codes "habit"

-- Name of a habit.
abbrev pub reading_name : Reading → List ℕ
reading_name reading.Bootloader = codes "bootloader"
reading_name reading.RuntimeMute = codes "runtime-mute"
reading_name reading.SelfReset = codes "self-reset"
reading_name reading.DetachAtOnce = codes "detach-at-once"
reading_name reading.DetachLeaves = codes "detach-leaves"
reading_name reading.ErrorWithoutCode = codes "error-without-code"

-- Name of the devices to which a row applies, with a space before it; empty if it applies to every device.
abbrev pub when_name : When → List ℕ
when_name Always = []
when_name CanDownload = codes " download"
when_name CanUpload = codes " upload"
when_name Tolerant = codes " tolerant"
when_name NotTolerant = codes " not-tolerant"
when_name WillDetach = codes " will-detach"
when_name (By reading) = codes " habit"
