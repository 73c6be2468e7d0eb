-- The works of a session satisfy IsWritingWork where they write and IsReadingWork where they read back.
use Rattle.std.proofs.Common.{◌≡◌, ℕ, ◌≤◌, Some, None, refl, ap, arith}
use Rattle.dfuse_host.specs.declared.plan.Plan.{Plan}
use Rattle.dfuse_host.specs.declared.work.Work.TheVariants as work
use Rattle.dfuse_host.specs.declared.place.Place.{Place}
use Rattle.dfuse_host.specs.declared.place.Place.TheVariants as place
use Rattle.dfuse_host.specs.Images.{image_start, image_end}
use Rattle.dfuse_host.specs.Plans.{page_end, front_end}
use Rattle.dfuse_host.specs.Settling.{phase_with_step, settled_phase, sending_step, comparing_step, byte_in, to_leave, compare_front_phase_for, to_compare_front, write_front_phase_for, to_write_front, compare_phase_for, to_compare, write_phase_for, to_write, to_erase}
use Rattle.dfuse_link.specs.Counts.{IsPlanned}
use Rattle.dfuse_link.proofs.NextBytes.{IsByteIn}
use Rattle.dfuse_link.proofs.BlockEnds.{write_end_is_maximum}
use Rattle.dfuse_link.proofs.OnPages.{page_end_of_page, image_byte_has_page}
use Rattle.dfuse_link.proofs.CleanWriting.{IsWritingWork}
use Rattle.dfuse_link.proofs.CleanReading.{IsReadingWork}

pub front_written_to_end : (plan : Plan) (p : Place) (at : ℕ) → byte_in plan at (front_end plan) ≡ None →
    to_write_front plan p at ≡ to_compare_front plan p (image_start plan.image.now)
unfolding to_write_front
front_written_to_end plan p at e = ap (write_front_phase_for plan p) e

pub front_compared_to_end : (plan : Plan) (p : Place) (at : ℕ) → byte_in plan at (front_end plan) ≡ None →
    to_compare_front plan p at ≡ to_leave plan p
unfolding to_compare_front
front_compared_to_end plan p at e = ap (compare_front_phase_for plan p) e

pub settled_erase_is_to_erase : (plan : Plan) (p : Place) (b : ℕ) → settled_phase plan (work.Erase b) p ≡ to_erase plan p b
unfolding settled_phase
settled_erase_is_to_erase plan p b = refl

module _ (plan : Plan) (ready : IsPlanned plan) where
  page_end_not_before_byte : (b : ℕ) (at end : ℕ) → IsByteIn plan at end b → b ≤ page_end plan b
  page_end_not_before_byte b at end is =
      let h = image_byte_has_page plan b ready.sound ready.ranges is.has in omega (arith, page_end_of_page plan b h.page h.on, h.on.high)

  pub rest_is_writing_work : IsWritingWork plan (λ b. work.Write b (image_end plan.image.now)) (λ p at. to_write plan p at (image_end
      plan.image.now))
      (image_end plan.image.now) (λ p. to_compare plan p (front_end plan))
  unfolding to_write settled_phase
  rest_is_writing_work = record {
    none = λ p at e. ap (write_phase_for plan p (image_end plan.image.now)) e;
    some = λ p at b e. ap (write_phase_for plan p (image_end plan.image.now)) e;
    sends = λ p b. refl;
    settles = λ p b. refl;
    writes = λ at b is.
        ap (λ (n : ℕ). to_write plan place.Lost n (image_end plan.image.now))
        (write_end_is_maximum plan b (image_end plan.image.now) is.has is.to (page_end_not_before_byte b at (image_end plan.image.now) is));
  }

  pub front_is_writing_work : IsWritingWork plan (λ b. work.WriteFront b) (λ p at. to_write_front plan p at) (front_end plan)
      (λ p. to_compare_front plan p (image_start plan.image.now))
  unfolding to_write_front settled_phase
  front_is_writing_work = record {
    none = λ p at e. ap (write_front_phase_for plan p) e;
    some = λ p at b e. ap (write_front_phase_for plan p) e;
    sends = λ p b. refl;
    settles = λ p b. refl;
    writes = λ at b is. refl;
  }

  pub rest_is_reading_work : IsReadingWork plan (λ b. work.Compare b) (λ p at. to_compare plan p at) (image_end plan.image.now)
      (λ p. to_write_front plan p (image_start plan.image.now))
  unfolding to_compare settled_phase
  rest_is_reading_work = record {
    none = λ p at e. ap (compare_phase_for plan p) e;
    some = λ p at b e. ap (compare_phase_for plan p) e;
    sends = λ p b. refl;
    settles = λ p b. refl;
    reads = λ b. refl;
  }

  pub front_is_reading_work : IsReadingWork plan (λ b. work.CompareFront b) (λ p at. to_compare_front plan p at) (front_end plan) (λ p.
      to_leave plan p)
  unfolding to_compare_front settled_phase
  front_is_reading_work = record {
    none = λ p at e. ap (compare_front_phase_for plan p) e;
    some = λ p at b e. ap (compare_front_phase_for plan p) e;
    sends = λ p b. refl;
    settles = λ p b. refl;
    reads = λ b. refl;
  }
