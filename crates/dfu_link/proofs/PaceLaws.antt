-- A change of pace leaves an allowed setting allowed, and does not change the first fault of any other setting.
use Rattle.dfu_device.specs.declared.config.Pace.{Pace}
use Rattle.dfu_device.specs.declared.config.ConfigFault.{ConfigFault}
use Rattle.dfu_device.specs.declared.config.ConfigFault.TheVariants as fault
use Rattle.dfu_device.specs.Setting.{Setting, HasTransferSize, HasPollTimes, HasLeastLength, IsAllowedSetting, IsFirstFault}

-- A change of pace keeps the transfer size within its bounds.
pace_keeps_transfer_size : (s : Setting) (p : Pace) → HasTransferSize s → HasTransferSize (record s { pace = p })
pace_keeps_transfer_size s p h = record { some = h.some; most = h.most }

-- A change of pace keeps the poll times within their bounds.
pace_keeps_poll_times : (s : Setting) (p : Pace) → HasPollTimes s → HasPollTimes (record s { pace = p })
pace_keeps_poll_times s p h = record { busy = h.busy; manifest = h.manifest; manifest_takes_time = h.manifest_takes_time }

-- A change of pace keeps the least length within its bounds.
pace_keeps_least_length : (s : Setting) (p : Pace) → HasLeastLength s → HasLeastLength (record s { pace = p })
pace_keeps_least_length s p h = record { some = h.some; most = h.most }

-- An allowed setting is still allowed after a change of pace.
pub pace_keeps_allowed : (s : Setting) (p : Pace) → IsAllowedSetting s → IsAllowedSetting (record s { pace = p })
pace_keeps_allowed s p h = record {
  transfer = pace_keeps_transfer_size s p h.transfer;
  poll = pace_keeps_poll_times s p h.poll;
  least = pace_keeps_least_length s p h.least;
}

-- A change of pace doesn't change the first fault of a setting.
pub pace_keeps_fault : (e : ConfigFault) (s : Setting) (p : Pace) → IsFirstFault e s → IsFirstFault e (record s { pace = p })
pace_keeps_fault fault.BadTransfer s p h = h
pace_keeps_fault fault.BadPoll s p (transfer, h) = (pace_keeps_transfer_size s p transfer, h)
pace_keeps_fault fault.BadLeast s p (transfer, poll, h) = (pace_keeps_transfer_size s p transfer, pace_keeps_poll_times s p poll, h)
