-- Each plan has counts of its pages and blocks.
use Rattle.std.proofs.Common.{◌≡◌, ℕ, zero, suc, ◌+◌, ◌<◌, ◌≤◌, Bool, true, false, Option, Some, None, refl, ap, ◌∙◌, arith}
use Rattle.dfu_formats.specs.memory.Lookups.{AddressOnOnePage}
use Rattle.dfuse_host.specs.declared.plan.Plan.{Plan}
use Rattle.dfuse_host.specs.Images.{image_start, image_end}
use Rattle.dfuse_host.specs.Plans.{page_start, page_end, front_end, write_end, read_end}
use Rattle.dfuse_host.specs.ReadBack.{HasByte}
use Rattle.dfuse_host.specs.Settling.{byte_in}
use Rattle.dfuse_link.specs.Counts.{IsPlanned, Pages, no_page_left, page, BlocksWritten, no_block, block, reaches, BlocksRead, no_read, pointer_set_anew, read_on, PlansHaveCounts}
use Rattle.dfuse_link.proofs.NextBytes.{byte_in_is_byte_of_part}
use Rattle.dfuse_link.proofs.BlockEnds.{read_ends_after_byte, write_ends_after_byte}
use Rattle.dfuse_link.proofs.OnPages.{page_start_of_page, page_end_of_page, page_addresses_share_page, image_byte_has_page}
use Rattle.dfuse_link.proofs.CleanSessions.{planned_image_is_filled}

-- Number of pages from `at` on that contain a byte of the image, with a proof that the number is right.
record HasPageCount (plan : Plan) (at : ℕ) : Type 0 where
  n : ℕ
  are : Pages plan at n

-- Number of blocks in which the image is written from `at` up to `end`, with a proof that the number is right.
record HasBlockCount (plan : Plan) (end at : ℕ) : Type 0 where
  n : ℕ
  are : BlocksWritten plan end at n

-- Numbers of blocks and of pointer settings for reading the image from `at` up to `end`, with a proof that they are right.
record HasReadCount (plan : Plan) (end : ℕ) (pointer : Option ℕ) (at : ℕ) : Type 0 where
  -- Number of times that the session sets the pointer for this reading.
  sets : ℕ
  n : ℕ
  -- Address to which the pointer is set last, or None if it is never set.
  last : Option ℕ
  are : BlocksRead plan end pointer at sets n last

module _ (one : AddressOnOnePage) (plan : Plan) (ready : IsPlanned plan) where
  -- The page that contains a byte of the image ends after this byte.
  page_ends_after_byte : (b : ℕ) → HasByte b plan.image.now → b < page_end plan (page_start plan b)
  page_ends_after_byte b has =
      let h = image_byte_has_page plan b ready.sound ready.ranges has in
      let there = page_addresses_share_page one plan b h.page.start h.page ready.ranges ready.apart h.on (omega arith) (omega (
        arith,
        h.on.low,
        h.on.high,
      )) in
      let same : page_end plan (page_start plan b) ≡ h.page.start + h.page.size =
      ap (page_end plan) (page_start_of_page plan b h.page h.on) ∙ page_end_of_page plan h.page.start h.page there in
      omega (arith, same, h.on.high)

  block_ends_after_byte : (b end : ℕ) → HasByte b plan.image.now → b < end → b < write_end plan b end
  block_ends_after_byte b end has less =
      let h = image_byte_has_page plan b ready.sound ready.ranges has in
      write_ends_after_byte plan b end has less (omega (arith, page_end_of_page plan b h.page h.on, h.on.high))

  pages_have_count : (fuel at : ℕ) (o : Option ℕ) → byte_in plan at (image_end plan.image.now) ≡ o → image_end plan.image.now
      ≤ at + fuel →
      HasPageCount plan at
  pages_have_count fuel at None e far = record { n = 0; are = no_page_left e }
  pages_have_count zero at (Some b) e far =
      let is = byte_in_is_byte_of_part plan at (image_end plan.image.now) b (planned_image_is_filled plan ready) e in absurd (omega (
        arith,
        far,
        is.from,
        is.to,
      ))
  pages_have_count (suc fuel) at (Some b) e far =
      let is = byte_in_is_byte_of_part plan at (image_end plan.image.now) b (planned_image_is_filled plan ready) e in
      let next : ℕ = page_end plan (page_start plan b) in
      let more = pages_have_count fuel next (byte_in plan next (image_end plan.image.now)) refl
      (omega (arith, far, is.from, page_ends_after_byte b is.has)) in
      record { n = suc more.n; are = page b e more.are }

  blocks_have_count : (end fuel at : ℕ) (o : Option ℕ) → byte_in plan at end ≡ o → end ≤ at + fuel → HasBlockCount plan end at
  blocks_have_count end fuel at None e far = record { n = 0; are = no_block e }
  blocks_have_count end zero at (Some b) e far =
      let is = byte_in_is_byte_of_part plan at end b (planned_image_is_filled plan ready) e in absurd (omega (arith, far, is.from, is.to))
  blocks_have_count end (suc fuel) at (Some b) e far =
      let is = byte_in_is_byte_of_part plan at end b (planned_image_is_filled plan ready) e in
      let more = blocks_have_count end fuel (write_end plan b end) (byte_in plan (write_end plan b end) end) refl
      (omega (arith, far, is.from, block_ends_after_byte b end is.has is.to)) in
      record { n = suc more.n; are = block b e more.are }

  next_read_has_count : (end : ℕ) (pointer : Option ℕ) (at b : ℕ) (t : Bool) → byte_in plan at end ≡ Some b → reaches plan pointer b ≡ t →
      ((p : Option ℕ) → HasReadCount plan end p (read_end plan b end)) → HasReadCount plan end pointer at
  next_read_has_count end pointer at b true is e more =
      let m = more pointer in record { sets = m.sets; n = suc m.n; last = m.last; are = read_on b is e m.are }
  next_read_has_count end pointer at b false is e more =
      let m = more (Some b) in record { sets = suc m.sets; n = suc m.n; last = m.last; are = pointer_set_anew b is e m.are }

  reads_have_count : (end fuel at : ℕ) (pointer o : Option ℕ) → byte_in plan at end ≡ o → end ≤ at + fuel →
      HasReadCount plan end pointer at
  reads_have_count end fuel at pointer None e far = record { sets = 0; n = 0; last = pointer; are = no_read e }
  reads_have_count end zero at pointer (Some b) e far =
      let is = byte_in_is_byte_of_part plan at end b (planned_image_is_filled plan ready) e in absurd (omega (arith, far, is.from, is.to))
  reads_have_count end (suc fuel) at pointer (Some b) e far =
      let is = byte_in_is_byte_of_part plan at end b (planned_image_is_filled plan ready) e in
      next_read_has_count end pointer at b (reaches plan pointer b) e refl
      (λ p. reads_have_count end fuel (read_end plan b end) p (byte_in plan (read_end plan b end) end) refl
      (omega (arith, far, is.from, read_ends_after_byte plan b end is.has is.to)))

pub plans_have_counts : AddressOnOnePage → PlansHaveCounts
plans_have_counts one plan ready =
    let start : ℕ = image_start plan.image.now in
    let end : ℕ = image_end plan.image.now in
    let front : ℕ = front_end plan in
    let pages = pages_have_count one plan ready end start (byte_in plan start end) refl (omega arith) in
    let rest = blocks_have_count one plan ready end end front (byte_in plan front end) refl (omega arith) in
    let first = blocks_have_count one plan ready front front start (byte_in plan start front) refl (omega arith) in
    let rest_read = reads_have_count one plan ready end end front None (byte_in plan front end) refl (omega arith) in
    let first_read = reads_have_count one plan ready front front start None (byte_in plan start front) refl (omega arith) in
    record {
      pages = pages.n;
      pages_are_counted = pages.are;
      rest = rest.n;
      rest_is_counted = rest.are;
      front = first.n;
      is_front = first.are;
      rest_pointer_sets = rest_read.sets;
      rest_block_reads = rest_read.n;
      pointer_after_rest = rest_read.last;
      rest_reads_are_counted = rest_read.are;
      front_pointer_sets = first_read.sets;
      front_block_reads = first_read.n;
      pointer_after_front = first_read.last;
      front_reads_are_counted = first_read.are;
    }
