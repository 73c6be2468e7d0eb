use Rattle.dfu_slots.proofs.Refused.{faulty_medium_has_no_image}
use Rattle.dfu_slots.proofs.VisibleStores.{seen_image_is_active, image_is}
use Rattle.dfu_slots.proofs.Unique.{active_image_is_unique}
use Rattle.dfu_slots.proofs.laws.active_image_is_one.Goals as goal

pub returns-clause-one : goal.returns-clause-one
returns-clause-one c m a b first second = active_image_is_unique m a b first second

pub returns-clause-shown : goal.returns-clause-shown
returns-clause-shown c s has = seen_image_is_active s has

pub returns-clause-only : goal.returns-clause-only
returns-clause-only c s image a = image_is s image a

pub returns-clause-refused : goal.returns-clause-refused
returns-clause-refused c fault m bad has = faulty_medium_has_no_image fault m bad has
