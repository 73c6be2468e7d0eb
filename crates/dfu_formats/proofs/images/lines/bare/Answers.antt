use Rattle.std.proofs.Common.{◌≡◌, take, sym, ap, ◌∙◌, arith}
use Rattle.dfu_formats.specs.images.Lines.{without_trailing_blanks, bare_line}
use Rattle.dfu_formats.proofs.BareLaws.{only_blanks_follow_all_bytes, blanks_follow_one_earlier, empty_front_has_no_blanks, nonblank_last_ends_front}
use Rattle.dfu_formats.proofs.images.lines.bare.Goals as goal
use Rattle.dfu_formats.proofs.images.lines.bare.Goals.{then-loop-end-test+else-is_blank_byte, else-loop-end-test}

pub loop-end-init : goal.loop-end-init
loop-end-init c = record { within = omega (arith); blank = only_blanks_follow_all_bytes c.unblanked-from_first.result.now }

pub bounds-from_first-end : goal.bounds-from_first-end
bounds-from_first-end c = omega (arith, c.loop-end-test.true, c.loop-end.invariant.within)

pub loop-end-preserved : goal.loop-end-preserved
loop-end-preserved c = record {
  within = omega (arith, c.loop-end.invariant.within);
  blank = blanks_follow_one_earlier c.unblanked-from_first.result.now c.loop-end.end c.loop-end-test.true c.loop-end.invariant.within
      c.loop-end.invariant.blank (sym c.is_blank_byte.ensures ∙ c.if-is_blank_byte.true);
}

pub split_at-requires : goal.split_at-requires
split_at-requires c = c.loop-end.invariant.within

pub returns : goal.returns
unfolding bare_line
returns c =
    let kept : take c.loop-end.end c.unblanked-from_first.result.now ≡ without_trailing_blanks c.unblanked-from_first.result.now =
    elim c.loop-end-test.branch [
      | then-loop-end-test+else-is_blank_byte w ↦ nonblank_last_ends_front c.unblanked-from_first.result.now c.loop-end.end
          w.loop-end-test.true
          c.loop-end.invariant.within c.loop-end.invariant.blank (sym w.is_blank_byte.ensures ∙ w.if-is_blank_byte.false)
      | else-loop-end-test w ↦ empty_front_has_no_blanks c.unblanked-from_first.result.now c.loop-end.end w.loop-end-test.false
          c.loop-end.invariant.blank
    ] in
    c.split_at.ensures.front ∙ kept ∙ ap without_trailing_blanks c.unblanked-from_first.ensures
