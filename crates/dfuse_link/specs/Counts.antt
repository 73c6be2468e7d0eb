-- Number of requests and waits that a session needs if the device works and the link loses nothing.
use Rattle.std.specs.Prelude.{◌≡◌, ℕ, zero, suc, ◌+◌, ◌*◌, ◌≤◌, ◌==◌, Bool, true, false, List, length, Option, Some, None, if◌then◌else◌}
use Rattle.std.specs.List.{All}
use Rattle.dfu_formats.specs.memory.Ranges.{IsRange, are_apart}
use Rattle.dfuse_host.specs.declared.plan.Plan.{Plan}
use Rattle.dfuse_host.specs.declared.phase.Phase.TheVariants.{Over}
use Rattle.dfuse_host.specs.declared.seen.Seen.{Seen}
use Rattle.dfuse_host.specs.declared.report.Leaving.TheVariants as leaving
use Rattle.dfuse_host.specs.declared.report.Report.TheVariants.{Verified}
use Rattle.dfuse_host.specs.declared.session.Session.{Session}
use Rattle.dfuse_host.specs.declared.limits.Limits.{Limits}
use Rattle.dfuse_host.specs.Images.{image_start, image_end}
use Rattle.dfuse_host.specs.Plans.{page_start, page_end, front_end, write_end, read_end}
use Rattle.dfuse_host.specs.Refusing.{IsSoundPlan}
use Rattle.dfuse_host.specs.Sessions.{initial_dfuse_session, DfuseIsOver}
use Rattle.dfuse_host.specs.Settling.{byte_in, can_read}
use Rattle.dfuse_link.specs.CleanRuns.{CleanSession, waits_in}

-- A session can begin with the plan, and the map is sound: each of its ranges has pages, and no two ranges share an address.
pub record IsPlanned (plan : Plan) : Type 0 where
  -- A session can begin with the plan.
  pub sound : IsSoundPlan plan
  -- Each range of the map has pages.
  pub ranges : All IsRange plan.map.now.ranges
  -- No two ranges share an address.
  pub apart : are_apart plan.map.now.ranges ≡ true

-- `n` pages from the address `at` on contain a byte of the image.
pub data Pages (plan : Plan) : (at n : ℕ) → Type 0 where
  -- The image has no byte from `at` on.
  no_page_left : {at : ℕ} → byte_in plan at (image_end plan.image.now) ≡ None → Pages plan at 0
  -- The next byte of the image lies on a page, and `n` later pages contain a byte of the image.
  page : {at n : ℕ} (byte : ℕ) → byte_in plan at (image_end plan.image.now) ≡ Some byte →
      Pages plan (page_end plan (page_start plan byte)) n → Pages plan at (suc n)

-- Writing the image from `at` up to `end` takes `n` blocks.
pub data BlocksWritten (plan : Plan) (end : ℕ) : (at n : ℕ) → Type 0 where
  -- The image has no byte from `at` up to `end`.
  no_block : {at : ℕ} → byte_in plan at end ≡ None → BlocksWritten plan end at 0
  -- A block begins at the next byte of the image, and `n` blocks follow it.
  block : {at n : ℕ} (byte : ℕ) → byte_in plan at end ≡ Some byte → BlocksWritten plan end (write_end plan byte end) n →
      BlocksWritten plan end at (suc n)

-- True if the session can request the block of the byte without setting the pointer again. False if the pointer was not set before.
abbrev pub reaches : Plan → Option ℕ → (byte : ℕ) → Bool
reaches plan None byte = false
reaches plan (Some pointer) byte = can_read plan pointer byte

-- Reading the image from `at` up to `end` takes `n` blocks and sets the pointer `sets` times. The first option is the address to which the
-- pointer was set before, and the last option the address to which it is set afterwards. None means that the pointer is not set.
pub data BlocksRead (plan : Plan) (end : ℕ) : Option ℕ → (at sets n : ℕ) → Option ℕ → Type 0 where
  -- The image has no byte from `at` up to `end`.
  no_read : {pointer : Option ℕ} {at : ℕ} → byte_in plan at end ≡ None → BlocksRead plan end pointer at 0 0 pointer
  -- The session sets the pointer to the next byte and reads its block.
  pointer_set_anew : {pointer last : Option ℕ} {at sets n : ℕ} (byte : ℕ) → byte_in plan at end ≡ Some byte → reaches plan pointer byte
      ≡ false →
      BlocksRead plan end (Some byte) (read_end plan byte end) sets n last → BlocksRead plan end pointer at (suc sets) (suc n) last
  -- The session reads the next block without setting the pointer again.
  read_on : {pointer last : Option ℕ} {at sets n : ℕ} (byte : ℕ) → byte_in plan at end ≡ Some byte → reaches plan pointer byte ≡ true →
      BlocksRead plan end pointer (read_end plan byte end) sets n last → BlocksRead plan end pointer at sets (suc n) last

-- Counts for a plan: the pages to erase, the blocks to write and to read, and how often the pointer is set for reading. The blocks of the
-- front and those after the front are counted separately.
pub record PlanCounts (plan : Plan) : Type 0 where
  -- Number of pages that have a byte of the image.
  pub pages : ℕ
  -- Exactly `pages` pages contain a byte of the image.
  pub pages_are_counted : Pages plan (image_start plan.image.now) pages
  -- Number of blocks in which the image after the front is written.
  pub rest : ℕ
  -- The image after the front is written in `rest` blocks.
  pub rest_is_counted : BlocksWritten plan (image_end plan.image.now) (front_end plan) rest
  -- Number of blocks in which the front is written.
  pub front : ℕ
  -- The front is written in `front` blocks.
  pub is_front : BlocksWritten plan (front_end plan) (image_start plan.image.now) front
  -- Number of times that the pointer is set to read the image after the front.
  pub rest_pointer_sets : ℕ
  -- Number of blocks in which the image after the front is read.
  pub rest_block_reads : ℕ
  -- Address to which the pointer was last set to read the image after the front.
  pub pointer_after_rest : Option ℕ
  -- Reading the image after the front takes this number of blocks and of pointer settings.
  pub rest_reads_are_counted : BlocksRead plan (image_end plan.image.now) None (front_end plan) rest_pointer_sets rest_block_reads
      pointer_after_rest
  -- Number of times that the pointer is set to read the front.
  pub front_pointer_sets : ℕ
  -- Number of blocks in which the front is read.
  pub front_block_reads : ℕ
  -- Address to which the pointer was last set to read the front.
  pub pointer_after_front : Option ℕ
  -- Reading the front takes this number of blocks and of pointer settings.
  pub front_reads_are_counted : BlocksRead plan (front_end plan) None (image_start plan.image.now) front_pointer_sets front_block_reads
      pointer_after_front

-- Address to which the pointer was last set when all reading is done: to read the front if the front has a block, and to read the rest
-- otherwise.
abbrev pub pointer_after_reading : (front : ℕ) → (of_rest of_front : Option ℕ) → Option ℕ
pointer_after_reading zero of_rest of_front = of_rest
pointer_after_reading (suc n) of_rest of_front = of_front

-- Number of times that the pointer is set to the start of the application: 0 if it already holds this address, and 1 otherwise.
abbrev pub start_pointer_sets : Plan → Option ℕ → ℕ
start_pointer_sets plan None = 1
start_pointer_sets plan (Some pointer) = if pointer == plan.start then 0 else 1

-- Number of times that the pointer is set before the leave request (a DNLOAD without bytes); 0 if the plan doesn't let the device leave.
abbrev pub leave_pointer_sets : (plan : Plan) → PlanCounts plan → ℕ
leave_pointer_sets plan c =
    if plan.leaves then start_pointer_sets plan (pointer_after_reading c.front c.pointer_after_rest c.pointer_after_front) else 0

-- Number of commands. Each page takes one erase. Each block that is written takes two commands, to set the pointer and to send the block.
-- Each setting of the pointer for reading or leaving takes one more.
abbrev pub command_count : (plan : Plan) → PlanCounts plan → ℕ
command_count plan c = c.pages + 2 * (c.rest + c.front) + (c.rest_pointer_sets + c.front_pointer_sets) + leave_pointer_sets plan c

-- Number of requests. A session begins with ABORT and GETSTATE. Each command is a DNLOAD and two GETSTATUS. Each setting of the pointer for
-- reading adds two ABORTs, before the first block and after the last one, and each block that is read adds one UPLOAD. Leaving takes a
-- DNLOAD and a GETSTATUS.
abbrev pub request_count : (plan : Plan) → PlanCounts plan → ℕ
request_count plan c =
    2 + 3 * command_count plan c + 2 * (c.rest_pointer_sets + c.front_pointer_sets) + (c.rest_block_reads + c.front_block_reads) + (if plan.leaves then 2 else 0)

-- A session ends as Verified after exactly `n` results, of which `waits` end a wait. The report is Left if the plan lets the device leave,
-- and Stayed otherwise.
pub record FinishesAfter (plan : Plan) (n waits : ℕ) (seens : List Seen) (s : Session) : Type 0 where
  -- A session that is over has seen exactly `n` results and has ended as Verified.
  pub over : DfuseIsOver s.phase → (s.phase ≡ Over (Verified (if plan.leaves then leaving.Left else leaving.Stayed))) × (length seens ≡ n) ×
      (waits_in seens ≡ waits)
  -- A session that has seen `n` results is over.
  pub enough : n ≤ length seens → DfuseIsOver s.phase

-- If the device works, the link loses nothing, and the limits allow the actions, a session ends as Verified after exactly the counted
-- requests and one wait for each command.
abbrev pub CleanRunsAreCounted : Type 0
CleanRunsAreCounted = (plan : Plan) (limits : Limits) (c : PlanCounts plan) (seens : List Seen) (s : Session) → IsPlanned plan →
    request_count plan c + command_count plan c ≤ limits.actions → CleanSession (initial_dfuse_session plan limits) seens s →
    FinishesAfter plan (request_count plan c + command_count plan c) (command_count plan c) seens s

-- A plan has counts if a session can begin with it and its map is sound.
abbrev pub PlansHaveCounts : Type 0
PlansHaveCounts = (plan : Plan) → IsPlanned plan → PlanCounts plan
