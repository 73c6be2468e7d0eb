use Rattle.std.proofs.Common.{ℕ, ◌≡◌, ◌+◌, ◌-◌, ◌∙◌, List, sym, subst, arith}
use Rattle.std.proofs.lemmas.Bool.{true≢false}
use Rattle.dfu_slots.specs.Medium.{IsBlank}
use Rattle.dfu_slots.proofs.Blank.{blank_ranges_join, blank_range_begins_blank, blank_ends_blank, ff_array_front_is_ff, range_of_ff_piece_is_blank, blank_range_reads_as_piece}
use Rattle.dfu_slots.proofs.erasing.is_blank.Goals as goal

pub loop-done-preserved : goal.loop-done-preserved
loop-done-preserved g c =
    let m : List ℕ = (g.M.Medium.state c.args.medium.now).bytes in (
      omega (arith, c.min-size.ensures, c.loop-done-test.true, c.loop-done.invariant.0),
      blank_ranges_join m c.args.at c.loop-done.done c.min-size.result
          (omega (arith, c.requires, c.min-size.ensures, c.loop-done-test.true, c.loop-done.invariant.0)) c.loop-done.invariant.1
          (range_of_ff_piece_is_blank m (c.args.at + c.loop-done.done) c.min-size.result _
          (ff_array_front_is_ff c.min-size.result 256 (omega (arith, c.min-size.ensures)))
          (c.stands_at.ensures.0 c.if-stands_at.true)),
    )

pub returns-else-stands_at : goal.returns-else-stands_at
returns-else-stands_at g c =
    let m : List ℕ = (g.M.Medium.state c.args.medium.now).bytes in
    let rest : c.args.len ≡ c.loop-done.done + (c.min-size.result + (c.args.len - c.loop-done.done - c.min-size.result)) =
    omega (arith, c.min-size.ensures, c.loop-done-test.true, c.loop-done.invariant.0) in (
      λ t. absurd (true≢false (sym t)),
      λ whole.
          let back = blank_ends_blank m c.args.at c.loop-done.done (c.min-size.result + (c.args.len - c.loop-done.done - c.min-size.result))
          (omega (arith, c.requires, rest)) (subst (λ (n : ℕ). IsBlank m c.args.at n) rest whole) in
          let piece = blank_range_begins_blank m (c.args.at + c.loop-done.done) c.min-size.result (c.args.len - c.loop-done.done -
          c.min-size.result)
          (omega (arith, c.requires, rest)) back in
          absurd (true≢false (sym (c.stands_at.ensures.1 (blank_range_reads_as_piece m (c.args.at + c.loop-done.done) c.min-size.result _
          (ff_array_front_is_ff c.min-size.result 256 (omega (arith, c.min-size.ensures))) piece)) ∙ c.if-stands_at.false)),
    )
