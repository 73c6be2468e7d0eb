-- Groups of works: those that erase the first page, and those after the comparison of the image after the front.
use Rattle.std.proofs.Common.{◌≡◌, ℕ, inl, inr, true, false, cond, eqb, Option, Some, None, refl}
use Rattle.dfuse_host.specs.declared.plan.Plan.{Plan}
use Rattle.dfuse_host.specs.declared.phase.Phase.{Phase}
use Rattle.dfuse_host.specs.declared.phase.Phase.TheVariants.{On, Over}
use Rattle.dfuse_host.specs.declared.work.Work.{Work}
use Rattle.dfuse_host.specs.declared.work.Work.TheVariants as work
use Rattle.dfuse_host.specs.declared.place.Place.{Place}
use Rattle.dfuse_host.specs.declared.place.Place.TheVariants as place
use Rattle.dfuse_host.specs.declared.step.Step.TheVariants as step
use Rattle.dfuse_host.specs.Images.{image_start, image_end}
use Rattle.dfuse_host.specs.Plans.{page_start, front_end}
use Rattle.dfuse_host.specs.Settling.{phase_with_step, byte_in, phase_to_set_start, phase_when_compared, to_leave, compare_front_phase_for, to_compare_front, write_front_phase_for, to_write_front, compare_phase_for, to_compare, write_phase_for, to_write, erase_phase_for, to_erase}
use Rattle.dfuse_host.proofs.TouchedBytes.{nonempty_image_is_filled}
use Rattle.dfu_formats.specs.memory.Lookups.{AddressOnOnePage}
use Rattle.dfuse_link.specs.Chips.{Chip, Device}
use Rattle.dfuse_link.specs.Fronts.{FrontIsBlank}
use Rattle.dfuse_link.proofs.Claims.{IsQuiet}
use Rattle.dfuse_link.proofs.NextBytes.{byte_in_is_byte_of_part}
use Rattle.dfuse_link.proofs.UntouchedTurns.{plan_image_is_filled}
use Rattle.dfuse_link.proofs.GroupRows.{StaysInGroup}
use Rattle.dfuse_link.proofs.FrontPages.{HasNoMixturePremises, front_byte_on_first_page}

-- Address at which the front's page begins.
abbrev pub front_page_start : Plan → ℕ
front_page_start plan = page_start plan (image_start plan.image.now)

-- If the work writes the front, it writes at an address on the front's page.
abbrev pub WritesFrontOnItsPage : Plan → Work → Type 0
WritesFrontOnItsPage plan (work.WriteFront at) = page_start plan at ≡ front_page_start plan
WritesFrontOnItsPage plan w = Unit {0}

-- The work erases the first page of the image.
abbrev pub ErasesFirstPage : Plan → Work → Type 0
ErasesFirstPage plan w = w ≡ work.Erase (image_start plan.image.now)

-- The work follows the comparison of the image after the front and writes only on the front's page, or it erases this page again.
abbrev pub IsAfterComparison : Plan → Work → Type 0
IsAfterComparison plan (work.EraseAgain page end) = page ≡ front_page_start plan
IsAfterComparison plan (work.WriteFront at) = page_start plan at ≡ front_page_start plan
IsAfterComparison plan (work.CompareFront at) = Unit {0}
IsAfterComparison plan work.Leave = Unit {0}
IsAfterComparison plan w = ⊥

-- The front is blank, and the device is quiet.
abbrev pub FrontBlankAndQuiet : Chip → Plan → Device → Type 0
FrontBlankAndQuiet chip plan d = FrontIsBlank chip plan d.memory × IsQuiet d.device_work

pub fact_keeps_any_phase_in_group : (G : Work → Type 0) (B : Type 0) → B → (p : Phase) → StaysInGroup G B p
fact_keeps_any_phase_in_group G B b (On s) = inr b
fact_keeps_any_phase_in_group G B b (Over r) = tt

module _ (one : AddressOnOnePage) (chip : Chip) (plan : Plan) (m : HasNoMixturePremises chip plan) (G : Work → Type 0) (B : Type 0)
    (wf : (at : ℕ) → page_start plan at ≡ front_page_start plan → G (work.WriteFront at)) (cf : (at : ℕ) → G (work.CompareFront at))
    (lv : G work.Leave) where
  leaving_stays_in_group : (p : Place) → StaysInGroup G B (phase_to_set_start plan p)
  leaving_stays_in_group place.Lost = inl lv
  leaving_stays_in_group (place.At p) =
      elim (eqb p plan.start) as (λ t. StaysInGroup G B (cond t (phase_with_step work.Leave (place.At p) step.Close)
      (phase_with_step work.Leave (place.At p) step.Send))) [ true ↦ inl lv | false ↦ inl lv ]
  leaving_stays_in_group (place.Reading p) = inl lv

  staying_stays_in_group : (p : Place) → StaysInGroup G B (phase_when_compared p)
  staying_stays_in_group place.Lost = tt
  staying_stays_in_group (place.At p) = tt
  staying_stays_in_group (place.Reading p) = inl lv

  pub to_leave_stays_in_group : (p : Place) → StaysInGroup G B (to_leave plan p)
  unfolding to_leave
  to_leave_stays_in_group p = elim plan.leaves as (λ t. StaysInGroup G B (cond t (phase_to_set_start plan p) (phase_when_compared p)))
      [ true ↦ leaving_stays_in_group p | false ↦ staying_stays_in_group p ]

  compare_front_phase_stays : (p : Place) (o : Option ℕ) → StaysInGroup G B (compare_front_phase_for plan p o)
  compare_front_phase_stays p None = to_leave_stays_in_group p
  compare_front_phase_stays p (Some at) = inl (cf at)

  pub compare_front_stays_in_group : (p : Place) (at : ℕ) → StaysInGroup G B (to_compare_front plan p at)
  unfolding to_compare_front
  compare_front_stays_in_group p at = compare_front_phase_stays p (byte_in plan at (front_end plan))

  write_front_phase_stays : (p : Place) (at : ℕ) (o : Option ℕ) → byte_in plan at (front_end plan) ≡ o →
      StaysInGroup G B (write_front_phase_for plan p o)
  write_front_phase_stays p at None e = compare_front_stays_in_group p (image_start plan.image.now)
  write_front_phase_stays p at (Some c) e =
      let b = byte_in_is_byte_of_part plan at (front_end plan) c (nonempty_image_is_filled plan.image.now (plan_image_is_filled chip plan
      m.for)) e in
      inl (wf c (front_byte_on_first_page one chip plan m c b.has b.to))

  pub write_front_stays_in_group : (p : Place) (at : ℕ) → StaysInGroup G B (to_write_front plan p at)
  unfolding to_write_front
  write_front_stays_in_group p at = write_front_phase_stays p at (byte_in plan at (front_end plan)) refl

  module _ (er : (at : ℕ) → G (work.Erase at)) (wr : (at end : ℕ) → G (work.Write at end)) (co : (at : ℕ) → G (work.Compare at)) where
    compare_phase_stays : (p : Place) (o : Option ℕ) → StaysInGroup G B (compare_phase_for plan p o)
    compare_phase_stays p None = write_front_stays_in_group p (image_start plan.image.now)
    compare_phase_stays p (Some at) = inl (co at)

    pub compare_stays_in_group : (p : Place) (at : ℕ) → StaysInGroup G B (to_compare plan p at)
    unfolding to_compare
    compare_stays_in_group p at = compare_phase_stays p (byte_in plan at (image_end plan.image.now))

    write_phase_stays : (p : Place) (end : ℕ) (o : Option ℕ) → StaysInGroup G B (write_phase_for plan p end o)
    write_phase_stays p end None = compare_stays_in_group p (front_end plan)
    write_phase_stays p end (Some at) = inl (wr at end)

    pub write_stays_in_group : (p : Place) (at end : ℕ) → StaysInGroup G B (to_write plan p at end)
    unfolding to_write
    write_stays_in_group p at end = write_phase_stays p end (byte_in plan at end)

    erase_phase_stays : (p : Place) (o : Option ℕ) → StaysInGroup G B (erase_phase_for plan p o)
    erase_phase_stays p None = write_stays_in_group p (front_end plan) (image_end plan.image.now)
    erase_phase_stays p (Some at) = inl (er at)

    pub erase_stays_in_group : (p : Place) (at : ℕ) → StaysInGroup G B (to_erase plan p at)
    unfolding to_erase
    erase_stays_in_group p at = erase_phase_stays p (byte_in plan at (image_end plan.image.now))
