use Rattle.std.proofs.Common.{◌≡◌, ◌<◌, List, length, sym, ap, ◌∙◌, subst, arith, Ok}
use Rattle.std.proofs.lemmas.Bool.Decides.{nat_tests}
use Rattle.dfu_formats.specs.declared.memory.pages.Pages.{Pages}
use Rattle.std.specs.List.{All}
use Rattle.dfu_formats.specs.memory.Ranges.{IsRange}
use Rattle.dfu_formats.specs.memory.Reading.{NumberRead, RangeRead, ranges_at}
use Rattle.dfu_formats.proofs.RangeLaws.{RestMakesWholeRanges, nothing_read_leaves_all_ranges, group_fault_is_whole_fault, too_many_ranges_are_refused, next_place_fault_is_whole_fault, last_range_completes_whole, further_range_leaves_rest, sound_ranges_take_another, next_place_depends_on_parts, pushed_range_is_appended, rest_makes_whole_at_place}
use Rattle.dfu_formats.proofs.memory.ranges.take_ranges.Goals as goal

pub loop-group-init : goal.loop-group-init
loop-group-init c = record {
  fits = c.requires;
  few = omega (arith, ap length c.new-ranges.ensures);
  sound = λ k d h. absurd (omega (arith, h, ap length c.new-ranges.ensures));
  goes = subst (λ (before : List Pages). RestMakesWholeRanges (ranges_at 32 c.args.start c.args.text.now) before c.args.start
      c.args.text.now)
      (sym c.new-ranges.ensures) (nothing_read_leaves_all_ranges c.args.start c.args.text.now);
}

pub returns-in-Err-clause-value : goal.returns-in-Err-clause-value
returns-in-Err-clause-value c =
    group_fault_is_whole_fault _ _ _ _ _ c.loop-group.invariant.goes (sym c.take_group.ensures.value ∙ c.in-Err.is)

pub returns-then-is_full-clause-value : goal.returns-then-is_full-clause-value
returns-then-is_full-clause-value c =
    let full : length c.loop-group.ranges.items ≡ 32 = grind (arith, nat_tests) in
    too_many_ranges_are_refused _ _ _ _ _ c.loop-group.invariant.goes full (sym c.take_group.ensures.value ∙ c.in-Ok.is)

pub returns-in-Ok-None-clause-value : goal.returns-in-Ok-None-clause-value
returns-in-Ok-None-clause-value c =
    let room : length c.loop-group.ranges.items < 32 = grind (arith, nat_tests) in
    let next = next_place_depends_on_parts c.in-Ok.group _ _ _ _ _ (sym c.group.view_is) c.end_of.ensures.value c.take_next.ensures.value
    (c.in-Ok-None.is ∙ ap Ok c.in-Ok-None.field-0-is) in
    last_range_completes_whole _ _ _ _ _ c.loop-group.invariant.goes room (sym c.take_group.ensures.value ∙ c.in-Ok.is) next
    ∙ ap Ok (pushed_range_is_appended c.in-Ok.group _ _ _ _ (sym c.group.view_is) c.push.ensures.items)

pub returns-in-Ok-None-clause-sound : goal.returns-in-Ok-None-clause-sound
returns-in-Ok-None-clause-sound c =
    subst (All IsRange) (sym c.push.ensures.items) (sound_ranges_take_another c.loop-group.ranges.items _ c.loop-group.invariant.sound
    (subst IsRange (ap (λ (h : RangeRead). h.pages) (sym c.group.view_is)) c.in-Ok.ensures.sound))

pub loop-group-preserved : goal.loop-group-preserved
loop-group-preserved c =
    let room : length c.loop-group.ranges.items < 32 = grind (arith, nat_tests) in
    let next = next_place_depends_on_parts c.in-Ok.group _ _ _ _ _ (sym c.group.view_is) c.end_of.ensures.value c.take_next.ensures.value
    (c.in-Ok-Some.is ∙ ap Ok c.in-Ok-Some.field-0-is) in
    let place = further_range_leaves_rest _ _ _ _ _ c.in-Ok-Some.next c.loop-group.invariant.goes room
    (sym c.take_group.ensures.value ∙ c.in-Ok.is) next in
    let more = pushed_range_is_appended c.in-Ok.group _ _ _ _ (sym c.group.view_is) c.push.ensures.items in
    record {
      fits = omega (arith, rw c.in-Ok-Some.field-0-is at c.in-Ok-Some.ensures.small, ap (λ (n : NumberRead). n.value) c.next.view_is);
      few = omega (arith, room, c.push.ensures.len);
      sound = subst (All IsRange) (sym c.push.ensures.items) (sound_ranges_take_another c.loop-group.ranges.items _
          c.loop-group.invariant.sound
          (subst IsRange (ap (λ (h : RangeRead). h.pages) (sym c.group.view_is)) c.in-Ok.ensures.sound));
      goes = rest_makes_whole_at_place _ _ _ c.in-Ok-Some.next _ _ place more c.next.view_is;
    }

pub returns-in-Err-take_next-clause-value : goal.returns-in-Err-take_next-clause-value
returns-in-Err-take_next-clause-value c =
    let room : length c.loop-group.ranges.items < 32 = grind (arith, nat_tests) in
    let next = next_place_depends_on_parts c.in-Ok.group _ _ _ _ _ (sym c.group.view_is) c.end_of.ensures.value c.take_next.ensures.value
    (c.in-Err-take_next.is) in
    next_place_fault_is_whole_fault _ _ _ _ _ _ c.loop-group.invariant.goes room (sym c.take_group.ensures.value ∙ c.in-Ok.is) next
