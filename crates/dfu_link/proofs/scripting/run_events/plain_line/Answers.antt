use Rattle.dfu_link.specs.inside.Moving.{line_without_events, line_with_events}
use Rattle.dfu_link.proofs.StepLaws.{blank_line_is_done, limits_line_is_done, show_line_is_done, expect_line_is_done}
use Rattle.dfu_link.proofs.scripting.run_events.plain_line.Goals as goal

pub returns-in-Some-Blank-clause-ok : goal.returns-in-Some-Blank-clause-ok
returns-in-Some-Blank-clause-ok g c = line_without_events (λ b e. blank_line_is_done (rw c.in-Some-Blank.field-0-is at
    c.in-Some-Blank.ensures))

pub returns-in-Some-Limits-clause-ok : goal.returns-in-Some-Limits-clause-ok
returns-in-Some-Limits-clause-ok g c = line_without_events (λ b e. limits_line_is_done (rw c.in-Some-Limits.field-0-is at
    c.in-Some-Limits.ensures))

pub returns-in_ok-show_next-in-Some-Show-clause-ok : goal.returns-in_ok-show_next-in-Some-Show-clause-ok
returns-in_ok-show_next-in-Some-Show-clause-ok g c = line_without_events
    (λ b e. show_line_is_done (rw c.in-Some-Show.field-0-is at c.in-Some-Show.ensures) (rw (← e) at
    c.in_ok-show_next-in-Some-Show.ensures.ok))

pub returns-in_ok-expect-in-Some-Expect-clause-ok : goal.returns-in_ok-expect-in-Some-Expect-clause-ok
returns-in_ok-expect-in-Some-Expect-clause-ok g c = line_without_events
    (λ b e. expect_line_is_done (rw c.in-Some-Expect.field-0-is at c.in-Some-Expect.ensures) c.in_ok-expect-in-Some-Expect.ensures.free
    c.in_ok-expect-in-Some-Expect.ensures.ok)

pub returns-in-Some-Do-clause-ok : goal.returns-in-Some-Do-clause-ok
returns-in-Some-Do-clause-ok g c = line_with_events (rw c.in-Some-Do.field-0-is at c.in-Some-Do.ensures)
