use Rattle.dfu_link.proofs.scripting.reading.by_keyword.Goals as goal

pub returns-in-Ids : goal.returns-in-Ids
returns-in-Ids c = rw c.in-Ids.is c.ids.ensures

pub returns-in-Device : goal.returns-in-Device
returns-in-Device c = rw c.in-Device.is c.device.ensures

pub returns-in-Unit : goal.returns-in-Unit
returns-in-Unit c = rw c.in-Unit.is c.unit.ensures

pub returns-in-Erase : goal.returns-in-Erase
returns-in-Erase c = rw c.in-Erase.is c.erase.ensures

pub returns-in-Pace : goal.returns-in-Pace
returns-in-Pace c = rw c.in-Pace.is c.pace.ensures

pub returns-in-Capacity : goal.returns-in-Capacity
returns-in-Capacity c = rw c.in-Capacity.is c.capacity.ensures

pub returns-in-Image : goal.returns-in-Image
returns-in-Image c = rw c.in-Image.is c.image.ensures

pub returns-in-Limits : goal.returns-in-Limits
returns-in-Limits c = rw c.in-Limits.is c.limits.ensures

pub returns-in-Offer : goal.returns-in-Offer
returns-in-Offer c = rw c.in-Offer.is c.offer.ensures

pub returns-in-Verify : goal.returns-in-Verify
returns-in-Verify c = rw c.in-Verify.is c.offer-in-Verify.ensures

pub returns-in-Upload : goal.returns-in-Upload
returns-in-Upload c = rw c.in-Upload.is c.ended.ensures

pub returns-in-Abort : goal.returns-in-Abort
returns-in-Abort c = rw c.in-Abort.is c.ended-in-Abort.ensures

pub returns-in-Go : goal.returns-in-Go
returns-in-Go c = rw c.in-Go.is c.go.ensures

pub returns-in-Time : goal.returns-in-Time
returns-in-Time c = rw c.in-Time.is c.time.ensures

pub returns-in-Reset : goal.returns-in-Reset
returns-in-Reset c = rw c.in-Reset.is c.ended-in-Reset.ensures

pub returns-in-Cut : goal.returns-in-Cut
returns-in-Cut c = rw c.in-Cut.is c.ended-in-Cut.ensures

pub returns-in-Show : goal.returns-in-Show
returns-in-Show c = rw c.in-Show.is c.ended-in-Show.ensures

pub returns-in-Expect : goal.returns-in-Expect
returns-in-Expect c = rw c.in-Expect.is c.expect.ensures

pub returns-in-Check : goal.returns-in-Check
returns-in-Check c = rw c.in-Check.is c.check.ensures

pub returns-in-Refuse : goal.returns-in-Refuse
returns-in-Refuse c = rw c.in-Refuse.is c.refuse.ensures
