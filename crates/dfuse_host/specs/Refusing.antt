-- Faults because of which a session refuses a plan.
use Rattle.std.specs.Prelude.{◌≡◌, ℕ, ◌==◌, ◌&&◌, ◌||◌, nat_le, Bool, true, false, List, [], ◌∷◌, length}
use Rattle.dfu_formats.specs.declared.memory.pages.Access.{Access}
use Rattle.dfu_formats.specs.declared.memory.pages.Pages.{Pages}
use Rattle.dfu_formats.specs.memory.Lookups.{AllGranted}
use Rattle.dfu_formats.specs.declared.dfuse.element.Element.{Element}
use Rattle.dfu_formats.specs.dfuse.Images.{ascends_from}
use Rattle.dfuse_host.specs.declared.plan.Plan.{Plan}
use Rattle.dfuse_host.specs.declared.fault.PlanFault.{PlanFault}
use Rattle.dfuse_host.specs.declared.fault.PlanFault.TheVariants.{NoTransferSize, EmptyImage, NotInOrder, Overlapping, OutsideTheMap, NotWritable, NotErasable, NotReadable}
use Rattle.dfuse_host.specs.Images.{end_of}

-- True if an element of the list has no bytes.
abbrev pub has_empty : List Element → Bool
has_empty [] = false
has_empty (e ∷ es) = (length e.bytes.now == 0) || has_empty es

-- True if the list is empty or one of its elements has no bytes.
abbrev pub is_empty : List Element → Bool
is_empty es = (length es == 0) || has_empty es

-- True if the first element doesn't begin before the given address, and no later element begins before the end of the previous one.
abbrev pub apart_from : ℕ → List Element → Bool
apart_from end [] = true
apart_from end (e ∷ es) = nat_le end e.address && apart_from (end_of e) es

-- Each address of the elements lies in a range that grants the wanted access.
abbrev pub EachAddressGranted : Access → List Pages → List Element → Type 0
EachAddressGranted wanted ranges [] = Unit {0}
EachAddressGranted wanted ranges (e ∷ es) = AllGranted wanted e.address (end_of e) ranges × EachAddressGranted wanted ranges es

-- Access with these rights to read, erase and write a page.
abbrev pub wanted_access : (reads erases writes : Bool) → Access
wanted_access r e w = record { is_readable = r; is_erasable = e; is_writable = w }

-- Each page of the plan's image grants the wanted access.
abbrev pub PlanGrants : Plan → Access → Type 0
PlanGrants plan wanted = EachAddressGranted wanted plan.map.now.ranges plan.image.now

-- The plan has this fault: the transfer size is 0, the image or an element is empty, elements are out of order or overlap, or a page
-- doesn't grant an access.
abbrev pub PlanHasFault : Plan → PlanFault → Type 0
PlanHasFault plan NoTransferSize = plan.transfer ≡ 0
PlanHasFault plan EmptyImage = is_empty plan.image.now ≡ true
PlanHasFault plan NotInOrder = ascends_from 0 plan.image.now ≡ false
PlanHasFault plan Overlapping = apart_from 0 plan.image.now ≡ false
PlanHasFault plan OutsideTheMap = PlanGrants plan (wanted_access false false false) → ⊥
PlanHasFault plan NotWritable = PlanGrants plan (wanted_access false false true) → ⊥
PlanHasFault plan NotErasable = PlanGrants plan (wanted_access false true false) → ⊥
PlanHasFault plan NotReadable = PlanGrants plan (wanted_access true false false) → ⊥

-- The plan's transfer size is not 0. Each of the next definitions excludes one more fault, in the order of the checks.
abbrev pub PlanHasTransferSize : Plan → Type 0
PlanHasTransferSize plan = PlanHasFault plan NoTransferSize → ⊥

-- The plan's transfer size is not 0, the image has an element, and no element is empty.
abbrev pub IsFilledPlan : Plan → Type 0
IsFilledPlan plan = PlanHasTransferSize plan × (PlanHasFault plan EmptyImage → ⊥)

-- The plan is filled, and no element begins before the previous one begins.
abbrev pub PlanElementsAscend : Plan → Type 0
PlanElementsAscend plan = IsFilledPlan plan × (PlanHasFault plan NotInOrder → ⊥)

-- The plan's elements ascend, and no element begins before the previous one ends.
abbrev pub PlanElementsApart : Plan → Type 0
PlanElementsApart plan = PlanElementsAscend plan × (PlanHasFault plan Overlapping → ⊥)

-- The plan's elements don't overlap, and the map contains each of their addresses.
abbrev pub PlanIsMapped : Plan → Type 0
PlanIsMapped plan = PlanElementsApart plan × PlanGrants plan (wanted_access false false false)

-- The plan is mapped, and the pages of its image can be written.
abbrev pub IsWritablePlan : Plan → Type 0
IsWritablePlan plan = PlanIsMapped plan × PlanGrants plan (wanted_access false false true)

-- The plan is writable, and the pages of its image can be erased.
abbrev pub IsErasablePlan : Plan → Type 0
IsErasablePlan plan = IsWritablePlan plan × PlanGrants plan (wanted_access false true false)

-- The plan is erasable, and the pages of its image can be read back: it has no fault.
abbrev pub IsSoundPlan : Plan → Type 0
IsSoundPlan plan = IsErasablePlan plan × PlanGrants plan (wanted_access true false false)

-- The plan has none of the faults that are checked before this one.
abbrev pub NoPlanFaultBefore : Plan → PlanFault → Type 0
NoPlanFaultBefore plan NoTransferSize = Unit {0}
NoPlanFaultBefore plan EmptyImage = PlanHasTransferSize plan
NoPlanFaultBefore plan NotInOrder = IsFilledPlan plan
NoPlanFaultBefore plan Overlapping = PlanElementsAscend plan
NoPlanFaultBefore plan OutsideTheMap = PlanElementsApart plan
NoPlanFaultBefore plan NotWritable = PlanIsMapped plan
NoPlanFaultBefore plan NotErasable = IsWritablePlan plan
NoPlanFaultBefore plan NotReadable = IsErasablePlan plan

-- The plan has the fault, and none that is checked before it.
abbrev pub FirstPlanFault : Plan → PlanFault → Type 0
FirstPlanFault plan fault = PlanHasFault plan fault × NoPlanFaultBefore plan fault
