use Rattle.std.proofs.Common.{◌≡◌, ◌≢◌, ◌==◌, ◌<◌, false, List, [], ◌∷◌, length, sym, ◌∙◌, subst, arith}
use Rattle.dfu_slots.specs.Units.{Grain, IsMultiple}
use Rattle.dfu_slots.specs.Medium.{Write, BrokenWrites}
use Rattle.dfu_slots.specs.Writes.{sector_erases}
use Rattle.dfu_slots.specs.inside.Series.{Series}
use Rattle.dfu_slots.proofs.Series.{first_part_may_break, series_extends, one_write_is_series}
use Rattle.dfu_slots.proofs.SizedOn.{erases_keep_size, write_some_with_sectors}
use Rattle.dfu_slots.proofs.ErasesAhead.{erases_make_range_writable}
use Rattle.dfu_slots.proofs.writes.write_some.Goals as goal

pub write-requires-in-Ok : goal.write-requires-in-Ok
write-requires-in-Ok g c =
    let m = g.M.Medium.state c.args.medium.now in
    let e = g.M.Medium.state c.erase_within.new.medium in
    let at = c.args.at in
    let n = length c.args.bytes.now in
    let some : 0 < m.grain.sector = omega (arith, c.if-sector-eq0.false, c.sector.ensures) in
    let same = erases_keep_size m e at n c.requires.sized some c.requires.within c.in-Ok.ensures in
    record {
      within = omega (arith, c.requires.within, same.size);
      place = subst (λ (w : Grain). IsMultiple w.unit at) (sym same.grain) c.requires.place;
      whole = subst (λ (w : Grain). IsMultiple w.unit n) (sym same.grain) c.requires.whole;
      blank = erases_make_range_writable m e at n c.requires.sized some c.requires.within c.in-Ok.ensures c.requires.ahead;
    }

pub returns-in-Err : goal.returns-in-Err
returns-in-Err g c =
    let m = g.M.Medium.state c.args.medium.now in
    let now = g.M.Medium.state c.erase_within.new.medium in
    let at = c.args.at in
    let bytes = c.args.bytes.now in
    let some : m.grain.sector ≢ 0 = λ e. c.if-sector-eq0.false (c.sector.ensures ∙ e) in
    let filled : (length bytes == 0) ≡ false = sym c.is_empty.ensures ∙ c.if-is_empty.false in
    subst (λ (ws : List Write). BrokenWrites c.in-Err.fault m ws now) (sym (write_some_with_sectors m.grain.sector at bytes filled some))
    (first_part_may_break c.in-Err.fault (sector_erases m.grain.sector at (length bytes))
    (record { at = at; bytes = bytes } ∷ []) m now c.in-Err.ensures)

pub returns-in-Ok : goal.returns-in-Ok
returns-in-Ok g c =
    let m = g.M.Medium.state c.args.medium.now in
    let mid = g.M.Medium.state c.erase_within.new.medium in
    let now = g.M.Medium.state c.write-in-Ok.new.medium in
    let at = c.args.at in
    let bytes = c.args.bytes.now in
    let some : m.grain.sector ≢ 0 = λ e. c.if-sector-eq0.false (c.sector.ensures ∙ e) in
    let filled : (length bytes == 0) ≡ false = sym c.is_empty.ensures ∙ c.if-is_empty.false in
    subst (λ (ws : List Write). Series m ws c.write-in-Ok.result now) (sym (write_some_with_sectors m.grain.sector at bytes filled some))
    (series_extends (sector_erases m.grain.sector at (length bytes)) (record { at = at; bytes = bytes } ∷ []) m mid now c.write-in-Ok.result
    c.in-Ok.ensures (one_write_is_series mid now at bytes c.write-in-Ok.result c.write-in-Ok.ensures.ok c.write-in-Ok.ensures.failed))
