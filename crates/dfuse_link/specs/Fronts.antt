-- Bytes in a device's memory before a session has written the front of the image.
use Rattle.std.specs.Prelude.{◌≡◌, ℕ, ◌-◌, ◌<◌, ◌≤◌, ◌⊎◌, true, List, Some, slice_index}
use Rattle.dfu_formats.specs.memory.Ranges.{are_apart}
use Rattle.dfu_formats.specs.declared.dfuse.element.Element.{Element}
use Rattle.dfuse_host.specs.declared.plan.Plan.{Plan}
use Rattle.dfuse_host.specs.declared.phase.Phase.TheVariants.{On}
use Rattle.dfuse_host.specs.declared.phase.Standing.{Standing}
use Rattle.dfuse_host.specs.declared.work.Work.TheVariants as work
use Rattle.dfuse_host.specs.declared.work.Work.TheVariants.{WriteFront}
use Rattle.dfuse_host.specs.declared.seen.Seen.{Seen}
use Rattle.dfuse_host.specs.declared.session.Session.{Session}
use Rattle.dfuse_host.specs.declared.limits.Limits.{Limits}
use Rattle.dfuse_host.specs.Images.{element_at, image_start}
use Rattle.dfuse_host.specs.Plans.{page_start, front_end}
use Rattle.dfuse_host.specs.Sessions.{initial_dfuse_session}
use Rattle.dfuse_link.specs.Chips.{Chip, Device}
use Rattle.dfuse_link.specs.Histories.{History}
use Rattle.dfuse_link.specs.Promises.{IsPlanFor}
use Rattle.dfuse_link.specs.Touched.{IsTrueMap, CarriesNoOrder}

-- The memory holds each byte of the image at a selected address.
abbrev pub ImageInMemory : Plan → (IsSelected : ℕ → Type 0) → (memory : ℕ → ℕ) → Type 0
ImageInMemory plan IsSelected memory =
    (a : ℕ) (e : Element) → IsSelected a → element_at a plan.image.now ≡ Some e → memory a ≡ slice_index e.bytes.now (a - e.address)

-- While a session writes the front, the memory holds each byte of the image after the front, if the plan is for the device.
abbrev pub RestInMemory : Type 0
RestInMemory = (chip : Chip) (plan : Plan) (limits : Limits) (d d' : Device) (s : Session) (seens : List Seen) (here : Standing) (at : ℕ)
    → IsPlanFor chip plan → History chip d (initial_dfuse_session plan limits) seens d' s → s.phase ≡ On here → here.work ≡ WriteFront at
    → ImageInMemory plan (λ (a : ℕ). front_end plan ≤ a) d'.memory

-- The front of the image contains the address.
abbrev pub IsFrontAddress : Plan → (a : ℕ) → Type 0
IsFrontAddress plan a = (image_start plan.image.now ≤ a) × (a < front_end plan)

-- The address is not on the front's page.
abbrev pub IsOffFrontPage : Plan → (a : ℕ) → Type 0
IsOffFrontPage plan a = page_start plan a ≡ page_start plan (image_start plan.image.now) → ⊥

-- An erase of the front's page erases each byte of the front.
abbrev pub ErasesFront : Chip → Plan → Type 0
ErasesFront chip plan = (a : ℕ) → IsFrontAddress plan a → chip.erases (page_start plan (image_start plan.image.now)) a ≡ true

-- Each byte of the front has a value that an erase may leave.
abbrev pub FrontIsBlank : Chip → Plan → (memory : ℕ → ℕ) → Type 0
FrontIsBlank chip plan memory = (a : ℕ) → IsFrontAddress plan a → chip.blank (memory a) ≡ true

-- At each moment no byte outside the front's page has changed, or the front is blank, or the memory holds each byte of the image outside
-- the front's page. This holds if the plan is for the device, no two ranges of the map share an address, the map is true of the image's
-- pages, an erase of the front's page erases the front, and the device carries out no order when the session begins.
abbrev pub NoMixture : Type 0
NoMixture = (chip : Chip) (plan : Plan) (limits : Limits) (d d' : Device) (s : Session) (seens : List Seen) → IsPlanFor chip plan →
    are_apart plan.map.now.ranges ≡ true → IsTrueMap chip plan → ErasesFront chip plan → CarriesNoOrder d →
    History chip d (initial_dfuse_session plan limits) seens d' s →
    ((a : ℕ) → IsOffFrontPage plan a → d'.memory a ≡ d.memory a)
    ⊎ (FrontIsBlank chip plan d'.memory ⊎ ImageInMemory plan (IsOffFrontPage plan) d'.memory)

-- Under the premises of `NoMixture`, and unless the session's work is to erase a page, the front is blank, or the memory holds each byte of
-- the image after the front, including those on the front's page.
abbrev pub NoneButErasing : Type 0
NoneButErasing = (chip : Chip) (plan : Plan) (limits : Limits) (d d' : Device) (s : Session) (seens : List Seen) (here : Standing) →
    IsPlanFor chip plan → are_apart plan.map.now.ranges ≡ true → IsTrueMap chip plan → ErasesFront chip plan → CarriesNoOrder d →
    History chip d (initial_dfuse_session plan limits) seens d' s → s.phase ≡ On here → ((at : ℕ) → here.work ≡ work.Erase at → ⊥) →
    ((page end : ℕ) → here.work ≡ work.EraseAgain page end → ⊥) →
    FrontIsBlank chip plan d'.memory ⊎ ImageInMemory plan (λ (a : ℕ). front_end plan ≤ a) d'.memory
