-- Addresses at which the pages, elements, blocks and the front of a plan begin and end.
use Rattle.std.specs.Prelude.{ℕ, ◌+◌, ◌^◌, nat_lt, min, max, Option, Some, None, if◌then◌else◌}
use Rattle.dfu_formats.specs.declared.memory.pages.Page.{Page}
use Rattle.dfu_formats.specs.memory.Lookups.{page_at}
use Rattle.dfuse_host.specs.declared.plan.Plan.{Plan}
use Rattle.dfuse_host.specs.Images.{end_of, element_at, image_start}

-- Page of the map that contains an address, or None if no page does.
unfoldable pub page_of : Plan → ℕ → Option Page
page_of plan at = if nat_lt at (2 ^ 32) then page_at at plan.map.now.ranges else None

-- Address at which the page that contains `at` begins, or `at` if no page contains it.
abbrev pub page_start : Plan → ℕ → ℕ
page_start plan at = elim (page_of plan at) [ None ↦ at | Some page ↦ page.start ]

-- Address at which the page that contains `at` ends, or `at` if no page contains it.
abbrev pub page_end : Plan → ℕ → ℕ
page_end plan at = elim (page_of plan at) [ None ↦ at | Some page ↦ page.start + page.size ]

-- Address at which the element that contains `at` ends, or `at` if no element contains it.
abbrev pub element_end : Plan → ℕ → ℕ
element_end plan at = elim (element_at at plan.image.now) [ None ↦ at | Some e ↦ end_of e ]

-- Address after the front of a plan. The front lies within the first element and its first page.
unfoldable pub front_end : Plan → ℕ
front_end plan =
    let at = image_start plan.image.now in
    min (at + plan.front) (min (element_end plan at) (page_end plan at))

-- Largest number of bytes in a block. It is 1 if the plan's transfer size is 0.
abbrev pub block_size : Plan → ℕ
block_size plan = max 1 plan.transfer

-- Address after the bytes that one DNLOAD writes from `at` on. It doesn't go beyond one block, one element, one page or `end`.
unfoldable pub write_end : Plan → (at end : ℕ) → ℕ
write_end plan at end = min (at + block_size plan) (min (min (element_end plan at) (page_end plan at)) end)

-- Address after the bytes that one UPLOAD reads from `at` on. It doesn't go beyond one block, one element or `end`.
unfoldable pub read_end : Plan → (at end : ℕ) → ℕ
read_end plan at end = min (at + block_size plan) (min (element_end plan at) end)
