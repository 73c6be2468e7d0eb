use Rattle.std.proofs.Common.{◌≡◌, ℕ, ◌+◌, length, refl, sym, ap, subst, arith}
use Rattle.dfu_slots.specs.Units.{fill_size}
use Rattle.dfu_asks.specs.declared.formatting.FormatStep.{FormatStep}
use Rattle.dfu_asks.specs.declared.formatting.FormatStep.TheVariants as format_step
use Rattle.dfu_asks.proofs.FormatParts.{IsPartFollowedBy, header_follows_last_image_piece, image_next, header_follows_empty_image}
use Rattle.dfu_asks.proofs.FormatPieces.{empty_list_needs_no_fill, filled_image_has_size, header_steps_have_bytes, gate_steps_have_bytes, image_piece_has_bytes}
use Rattle.dfu_asks.proofs.format.part_after.Goals as goal

pub returns-then-len-eq0-clause-parts : goal.returns-then-len-eq0-clause-parts
returns-then-len-eq0-clause-parts c w size crc image same len =
    let none : c.args.len ≡ 0 = omega (arith, c.if-len-eq0.true) in
    let zero_is : 0 ≡ c.args.len + fill_size c.args.unit c.args.len =
    omega (arith, none, ap (λ (n : ℕ). fill_size c.args.unit n) none, empty_list_needs_no_fill c.args.unit) in
    subst (λ (p : FormatStep). IsPartFollowedBy w size image crc p format_step.Header) (sym c.in-CloseFirst.is)
    (header_follows_empty_image w size image crc (filled_image_has_size w.unit c.args.unit image c.args.len 0 same len zero_is))

pub returns-then-len-eq0-clause-some : goal.returns-then-len-eq0-clause-some
returns-then-len-eq0-clause-some c w size crc image same len other = header_steps_have_bytes w _ 0 (length image) crc

pub returns-else-len-eq0-clause-some : goal.returns-else-len-eq0-clause-some
returns-else-len-eq0-clause-some c w size crc image same len other =
    image_piece_has_bytes w image 0 (omega (
      arith,
      c.if-len-eq0.false,
      filled_image_has_size w.unit c.args.unit image c.args.len (c.args.len + fill_size c.args.unit c.args.len) same len refl,
    ))

pub returns-then-next-filled_len-clause-parts : goal.returns-then-next-filled_len-clause-parts
returns-then-next-filled_len-clause-parts c w size crc image same len =
    subst (λ (p : FormatStep). IsPartFollowedBy w size image crc p (format_step.Image (c.in-Image.from + 4096))) (sym c.in-Image.is)
    (image_next w size image crc c.in-Image.from)

pub returns-then-next-filled_len-clause-some : goal.returns-then-next-filled_len-clause-some
returns-then-next-filled_len-clause-some c w size crc image same len other =
    image_piece_has_bytes w image (c.in-Image.from + 4096) (omega (
      arith,
      c.if-next-filled_len.true,
      filled_image_has_size w.unit c.args.unit image c.args.len c.filled_len.result same len c.filled_len.ensures.value,
    ))

pub returns-else-next-filled_len-clause-parts : goal.returns-else-next-filled_len-clause-parts
returns-else-next-filled_len-clause-parts c w size crc image same len =
    subst (λ (p : FormatStep). IsPartFollowedBy w size image crc p format_step.Header) (sym c.in-Image.is)
    (header_follows_last_image_piece w size image crc c.in-Image.from (omega (
      arith,
      c.if-next-filled_len.false,
      filled_image_has_size w.unit c.args.unit image c.args.len c.filled_len.result same len c.filled_len.ensures.value,
    )))

pub returns-else-next-filled_len-clause-some : goal.returns-else-next-filled_len-clause-some
returns-else-next-filled_len-clause-some c w size crc image same len other = header_steps_have_bytes w _ 0 (length image) crc

pub returns-in-Header-clause-some : goal.returns-in-Header-clause-some
returns-in-Header-clause-some c w size crc image same len other = gate_steps_have_bytes w 0
