use Rattle.std.proofs.Common.{ℕ, length, ◌∙◌, ap, arith}
use Rattle.dfu_suffix.specs.Register.{register}
use Rattle.dfu_slots.specs.Layout.{header}
use Rattle.dfu_slots.proofs.Formatting.{closed_medium_can_be_formatted, format_broken_at_pieces, first_slot_may_open, format_ends_with_opening}
use Rattle.dfu_slots.proofs.format.write_image.Goals as goal

pub write_pieces-requires : goal.write_pieces-requires
write_pieces-requires g c = closed_medium_can_be_formatted c.requires (g.M.Medium.state c.close_gates.new.medium) c.in-Ok.ensures

pub open_slot-requires : goal.open_slot-requires
open_slot-requires g c =
    let r = first_slot_may_open c.requires (g.M.Medium.state c.close_gates.new.medium) c.in-Ok.ensures
    (g.M.Medium.state c.write_pieces.new.medium) c.in-Ok-write_pieces.ensures in
    record {
      sized = r.sized;
      slot = r.slot;
      place = r.place;
      sector = r.sector;
      few = omega arith;
      ahead = r.ahead;
      within = r.within;
      whole = r.whole;
    }

pub returns-in-Err-write_pieces : goal.returns-in-Err-write_pieces
returns-in-Err-write_pieces g c =
    format_broken_at_pieces c.requires (g.M.Medium.state c.close_gates.new.medium) c.in-Ok.ensures
    c.in-Err-write_pieces.fault (g.M.Medium.state c.write_pieces.new.medium) c.in-Err-write_pieces.ensures

pub returns-in-Ok-write_pieces : goal.returns-in-Ok-write_pieces
returns-in-Ok-write_pieces g c =
    format_ends_with_opening c.requires (g.M.Medium.state c.close_gates.new.medium) c.in-Ok.ensures
    (g.M.Medium.state c.write_pieces.new.medium) c.in-Ok-write_pieces.ensures
    (g.M.Medium.state c.open_slot.new.medium) c.open_slot.result
    (c.open_slot.ensures 0 (length c.args.image.now) (register c.args.image.now)
    (c.make_header-head.ensures ∙ ap (λ (n : ℕ). header 2 0 (length c.args.image.now) n) c.register_of_image-register.ensures))
