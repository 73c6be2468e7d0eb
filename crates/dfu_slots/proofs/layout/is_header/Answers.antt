use Rattle.std.proofs.Common.{get_or, take, drop, sym, ◌∙◌, arith}
use Rattle.std.specs.Int.{w32, from_le_bytes}
use Rattle.std.proofs.lemmas.Bool.{true≢false, eqb-true, eq-eqb}
use Rattle.dfu_slots.proofs.Headers.{bytes_with_fields_are_header, header_has_its_fields}
use Rattle.dfu_slots.proofs.layout.is_header.Goals as goal

pub returns-then-register_in-register : goal.returns-then-register_in-register
returns-then-register_in-register c =
    let h = c.args.found.now in (
      λ t. absurd (true≢false (sym t)),
      λ is. absurd (c.if-register_in-register.true (c.register_in.ensures
          ∙ (header_has_its_fields h c.args.version (get_or h 0 0) (from_le_bytes w32 (take 4 (drop 4 h))) c.args.register
          (omega (arith, c.ranges.register.fits)) is).register_is)),
    )

pub returns : goal.returns
returns c =
    let h = c.args.found.now in (
      λ t. bytes_with_fields_are_header h c.told-found c.fits-found c.args.version c.args.register (record {
        version_is = c.if-found-version.false;
        third = c.if-found-ne0.false;
        fourth = c.if-found-ne0-2.false;
        register_is = sym c.register_in.ensures ∙ c.if-register_in-register.false;
        rest = sym c.rest_in.ensures ∙ eqb-true _ _ t;
      }),
      λ is. eq-eqb _ _
          (c.rest_in.ensures ∙ (header_has_its_fields h c.args.version (get_or h 0 0) (from_le_bytes w32 (take 4 (drop 4 h)))
          c.args.register
          (omega (arith, c.ranges.register.fits)) is).rest),
    )
