-- Bytes that count as read back in the next phase of a work, when the device is ready for a command.
use Rattle.std.proofs.Common.{◌≡◌, ℕ, ◌<◌, ◌≤◌, ◌⊎◌, inl, inr, true, Option, Some, None, refl, arith}
use Rattle.std.proofs.lemmas.Bool.{cases_lt}
use Rattle.dfuse_host.specs.declared.plan.Plan.{Plan}
use Rattle.dfuse_host.specs.declared.work.Work.{Work}
use Rattle.dfuse_host.specs.declared.work.Work.TheVariants as work
use Rattle.dfuse_host.specs.declared.place.Place.{Place}
use Rattle.dfuse_host.specs.Images.{image_start, image_end}
use Rattle.dfuse_host.specs.Plans.{front_end}
use Rattle.dfuse_host.specs.Refusing.{apart_from}
use Rattle.dfuse_host.specs.ReadBack.{HasByte, WasReadInWork, WasReadInPhase}
use Rattle.dfuse_host.specs.Settling.{byte_in, compare_front_phase_for, write_front_phase_for, compare_phase_for, write_phase_for, erase_phase_for, to_compare_front, to_write_front, to_compare, to_write, to_erase, settled_phase}
use Rattle.dfuse_host.proofs.ImageLaws.{image_byte_after_image_start, image_byte_before_image_end, no_image_byte_in_range, first_image_byte_of_range}

module _ (plan : Plan) (a : ℕ) (apart : apart_from 0 plan.image.now ≡ true) (b : HasByte a plan.image.now) where
  -- While the front is compared, only bytes after the front and bytes before the next address to compare count as read back.
  read_byte_by_compare_front : (p : Place) (at : ℕ) (o : Option ℕ) → byte_in plan at (front_end plan) ≡ o →
      WasReadInPhase plan (compare_front_phase_for plan p o) a →
      (front_end plan ≤ a) ⊎ (a < at)
  read_byte_by_compare_front p at None e h =
      elim (cases_lt a at) [ inl w ↦ inr w | inr w ↦ inl (no_image_byte_in_range plan at (front_end plan) a apart b e w) ]
  read_byte_by_compare_front p at (Some c) e h = elim h [
    | inl w ↦ inl w
    | inr w ↦ elim (cases_lt a at) [
      | inl k ↦ inr k
      | inr k ↦ absurd
          (omega (arith, w, first_image_byte_of_range plan at (front_end plan) c a apart b e k))
    ]
  ]

  -- When the comparison of the front continues at `at`, only bytes after the front and bytes before `at` count as read back.
  pub read_byte_at_compare_front : (p : Place) (at : ℕ) → WasReadInPhase plan (to_compare_front plan p at) a → (front_end plan
      ≤ a) ⊎ (a < at)
  unfolding to_compare_front
  read_byte_at_compare_front p at h = read_byte_by_compare_front p at (byte_in plan at (front_end plan)) refl h

  read_byte_by_write_front : (p : Place) (o : Option ℕ) → WasReadInPhase plan (write_front_phase_for plan p o) a → front_end plan ≤ a
  read_byte_by_write_front p None h = elim (read_byte_at_compare_front p (image_start plan.image.now) h) [
    | inl w ↦ w
    | inr w ↦ absurd (omega (arith, w, image_byte_after_image_start a plan.image.now apart b))
  ]
  read_byte_by_write_front p (Some c) h = h

  -- While the front is written, only bytes after the front count as read back.
  pub read_byte_at_write_front : (p : Place) (at : ℕ) → WasReadInPhase plan (to_write_front plan p at) a → front_end plan ≤ a
  unfolding to_write_front
  read_byte_at_write_front p at h = read_byte_by_write_front p (byte_in plan at (front_end plan)) h

  read_byte_by_compare : (p : Place) (at : ℕ) (o : Option ℕ) → byte_in plan at (image_end plan.image.now) ≡ o →
      WasReadInPhase plan (compare_phase_for plan p o) a →
      (front_end plan ≤ a) × (a < at)
  read_byte_by_compare p at None e h = (
    read_byte_at_write_front p (image_start plan.image.now) h,
    elim (cases_lt a at) [
      | inl w ↦ w
      | inr w ↦ absurd (omega (
        arith,
        image_byte_before_image_end a plan.image.now b,
        no_image_byte_in_range plan at
            (image_end plan.image.now) a apart b e w,
      ))
    ],
  )
  read_byte_by_compare p at (Some c) e h = (
    h.0,
    elim (cases_lt a at) [
      | inl w ↦ w
      | inr w ↦ absurd (omega (arith, h.1, first_image_byte_of_range plan at (image_end plan.image.now) c a apart b e w))
    ],
  )

  -- When the comparison of the image after the front continues at `at`, only bytes after the front and before `at` count as read back.
  pub read_byte_at_compare : (p : Place) (at : ℕ) → WasReadInPhase plan (to_compare plan p at) a → (front_end plan ≤ a) × (a < at)
  unfolding to_compare
  read_byte_at_compare p at h = read_byte_by_compare p at (byte_in plan at (image_end plan.image.now)) refl h

  no_read_byte_by_write : (p : Place) (end : ℕ) (o : Option ℕ) → WasReadInPhase plan (write_phase_for plan p end o) a → ⊥
  no_read_byte_by_write p end None h = let w = read_byte_at_compare p (front_end plan) h in omega (arith, w.0, w.1)
  no_read_byte_by_write p end (Some c) h = h

  -- While the image is written, no byte counts as read back.
  pub no_read_byte_at_write : (p : Place) (at end : ℕ) → WasReadInPhase plan (to_write plan p at end) a → ⊥
  unfolding to_write
  no_read_byte_at_write p at end h = no_read_byte_by_write p end (byte_in plan at end) h

  no_read_byte_by_erase : (p : Place) (o : Option ℕ) → WasReadInPhase plan (erase_phase_for plan p o) a → ⊥
  no_read_byte_by_erase p None h = no_read_byte_at_write p (front_end plan) (image_end plan.image.now) h
  no_read_byte_by_erase p (Some c) h = h

  -- While pages are erased, no byte counts as read back.
  pub no_read_byte_at_erase : (p : Place) (at : ℕ) → WasReadInPhase plan (to_erase plan p at) a → ⊥
  unfolding to_erase
  no_read_byte_at_erase p at h = no_read_byte_by_erase p (byte_in plan at (image_end plan.image.now)) h

  -- When the device is ready for a command, a byte counts as read back in the next phase of a work only if it counted in that work.
  pub settling_reads_no_byte : (w : Work) (p : Place) → WasReadInPhase plan (settled_phase plan w p) a → WasReadInWork plan w a
  unfolding settled_phase
  settling_reads_no_byte (work.Erase at) p h = no_read_byte_at_erase p at h
  settling_reads_no_byte (work.EraseAgain page end) p h = h
  settling_reads_no_byte (work.Write at end) p h = no_read_byte_at_write p at end h
  settling_reads_no_byte (work.Compare at) p h = read_byte_at_compare p at h
  settling_reads_no_byte (work.WriteFront at) p h = read_byte_at_write_front p at h
  settling_reads_no_byte (work.CompareFront at) p h = read_byte_at_compare_front p at h
  settling_reads_no_byte work.Leave p h = tt
