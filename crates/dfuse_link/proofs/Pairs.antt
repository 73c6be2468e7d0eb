-- A device and the session with it, as one value.
use Rattle.dfuse_host.specs.declared.plan.Plan.{Plan}
use Rattle.dfuse_host.specs.declared.limits.Limits.{Limits}
use Rattle.dfuse_host.specs.declared.session.Session.{Session}
use Rattle.dfuse_host.specs.declared.seen.Seen.{Seen}
use Rattle.dfuse_host.specs.Sessions.{initial_dfuse_session}
use Rattle.dfuse_link.specs.Chips.{Chip, Device}
use Rattle.dfuse_link.specs.Histories.{SessionTurn}

-- A device and the session with it.
pub record DeviceAndSession : Type 0 where
  pub device : Device
  pub session : Session

-- Pairs a device with its session.
abbrev pub device_with_session : Device → Session → DeviceAndSession
device_with_session d s = record { device = d; session = s }

-- Pairs a device with a session that has just begun.
abbrev pub session_begun_with : Device → Plan → Limits → DeviceAndSession
session_begun_with d plan limits = device_with_session d (initial_dfuse_session plan limits)

-- A turn leads from the device and session `l` to `l'`: the session does its action and sees the result.
abbrev pub IsTurnOfBoth : Chip → DeviceAndSession → Seen → DeviceAndSession → Type 0
IsTurnOfBoth chip l x l' = SessionTurn chip l.device l.session x l'.device l'.session
