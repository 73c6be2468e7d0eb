-- Bytes of the device's memory that a session may change.
use Rattle.std.specs.Prelude.{◌≡◌, ℕ, true, List}
use Rattle.dfuse_host.specs.declared.plan.Plan.{Plan}
use Rattle.dfuse_host.specs.declared.seen.Seen.{Seen}
use Rattle.dfuse_host.specs.declared.session.Session.{Session}
use Rattle.dfuse_host.specs.declared.limits.Limits.{Limits}
use Rattle.dfuse_host.specs.Plans.{page_start}
use Rattle.dfuse_host.specs.ReadBack.{HasByte}
use Rattle.dfuse_host.specs.Sessions.{initial_dfuse_session}
use Rattle.dfuse_host.specs.Touching.{IsTouchedPage}
use Rattle.dfuse_link.specs.Chips.{Chip, Order, CarriesOut, Device}
use Rattle.dfuse_link.specs.Histories.{History}
use Rattle.dfuse_link.specs.Promises.{IsPlanFor}

-- The map is true of the image's pages: an erase at the start of such a page may change no byte of another page.
abbrev pub IsTrueMap : Chip → Plan → Type 0
IsTrueMap chip plan =
    (byte a : ℕ) → HasByte byte plan.image.now → chip.erases (page_start plan byte) a ≡ true → page_start plan a ≡ page_start plan byte

-- The device carries out no order.
abbrev pub CarriesNoOrder : Device → Type 0
CarriesNoOrder d = (order : Order) → d.device_work ≡ CarriesOut order → ⊥

-- A byte on a page without a byte of the image keeps its value, if the plan is for the device, the map is true of the image's pages, and
-- the device carried out no order when the session began.
abbrev pub OtherPagesStay : Type 0
OtherPagesStay = (chip : Chip) (plan : Plan) (limits : Limits) (d d' : Device) (s : Session) (seens : List Seen) (a : ℕ) →
    IsPlanFor chip plan
    → IsTrueMap chip plan → CarriesNoOrder d → History chip d (initial_dfuse_session plan limits) seens d' s →
    (IsTouchedPage plan (page_start plan a) → ⊥)
    → d'.memory a ≡ d.memory a
