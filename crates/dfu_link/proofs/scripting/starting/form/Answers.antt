use Rattle.std.proofs.Common.{◌≡◌, ◌∙◌, ◌%◌, ℕ, ap, subst, sym, arith, refl}
use Rattle.dfu_slots.specs.Medium.{MediumState, AllWrites}
use Rattle.dfu_slots.specs.Medium.Fuse.{Whole}
use Rattle.dfu_slots.specs.Units.{IsWhole}
use Rattle.dfu_slots.specs.StoreView.{format_series}
use Rattle.dfu_slots.specs.Image.{IsSizedMedium}
use Rattle.dfu_slots.specs.Changes.{CanFormat, IsFormatFault}
use Rattle.dfu_slots.specs.Unarmed.{whole_fuse_fails_no_write, whole_fuse_after_writes}
use Rattle.dfu_link.specs.ScriptRun.{blank_slots}
use Rattle.dfu_link.specs.inside.SetupView.{setup_grain}
use Rattle.dfu_link.proofs.Blank.{blank_medium_is_blank_slots, blank_slots_have_capacity, blank_slots_are_sized}
use Rattle.dfu_link.proofs.scripting.starting.form.Goals as goal

pub unreachable-requires : goal.unreachable-requires
unreachable-requires c =
    let w = setup_grain c.args.unit c.args.sector in
    let n = c.args.room.bytes in
    let whole : IsWhole w n = record {
      units = subst (λ (k : ℕ). n % k ≡ 0) c.size.ensures.value c.if-room-size-ne0.false;
      sectors = c.cuts_sector.ensures.whole c.if-cuts_sector.false;
      pages = c.args.sector.pages;
      bound = omega (arith, c.args.sector.most);
    } in
    let same : c.in-Ok.medium ≡ blank_slots w n =
    c.in-Ok.ensures ∙ blank_medium_is_blank_slots w n c.medium_len-len.result c.medium_len-len.ensures.value in
    (subst (λ f. IsFormatFault f c.in-Ok.medium c.args.image.now) c.in-WrongSize.is c.in-Err.ensures.fault)
    (subst IsSizedMedium (sym same) (blank_slots_are_sized w n c.args.room.some c.args.room.most whole))

pub unreachable-requires-in-Failed : goal.unreachable-requires-in-Failed
unreachable-requires-in-Failed c =
    let m = c.in-Ok.medium in
    let unarmed : m.fuse ≡ Whole = ap (λ (s : MediumState). s.fuse) c.in-Ok.ensures in
    let broken = c.in-Err.ensures.failed c.in-Failed.is in
    whole_fuse_fails_no_write broken.0 m c.in-Err.spoilt (format_series m c.args.image.now) unarmed broken.1

pub returns-in-Ok-format-clause-ok : goal.returns-in-Ok-format-clause-ok
returns-in-Ok-format-clause-ok c =
    let w = setup_grain c.args.unit c.args.sector in
    let n = c.args.room.bytes in
    let b = blank_slots w n in
    let image = c.args.image.now in
    let s = c.in-Ok-format.slots in
    let same : c.in-Ok.medium ≡ b = c.in-Ok.ensures ∙ blank_medium_is_blank_slots w n c.medium_len-len.result
    c.medium_len-len.ensures.value in
    let writes : AllWrites b (format_series b image) s.medium = subst (λ (x : MediumState). AllWrites x (format_series x image) s.medium)
    same c.in-Ok-format.ensures.writes in
    let can : CanFormat b image = subst (λ (x : MediumState). CanFormat x image) same c.in-Ok-format.ensures.formats in
    record {
      whole = subst (λ (k : ℕ). IsWhole w k) (blank_slots_have_capacity w n) can.sized.whole;
      fits = omega (arith, can.fits, blank_slots_have_capacity w n);
      formatted = writes;
      active = c.in-Ok-format.ensures.active;
      image_is = c.in-Ok-format.ensures.image;
      unarmed = whole_fuse_after_writes b s.medium (format_series b image) refl writes;
    }
