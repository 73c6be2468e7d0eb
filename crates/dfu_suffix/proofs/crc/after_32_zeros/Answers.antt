use Rattle.std.proofs.Common.{ℕ, ◌∙◌, get_or, arith}
use Rattle.dfu_suffix.specs.Laws.{AreBytes}
use Rattle.dfu_suffix.proofs.FourBytes.{shifts_of_number_in_four_bytes}
use Rattle.dfu_suffix.proofs.Tables.{eight_tables_are_right, equal_tables_equal_entries}
use Rattle.dfu_suffix.proofs.crc.after_32_zeros.Goals as goal

pub returns : goal.returns
returns c =
    let xs = c.args.bytes.now in
    let each : AreBytes xs = λ k. omega (arith, c.type_inv.bytes k) in
    let at = λ (i : ℕ). get_or xs i 0 in
    let e0 = c.byte_entry.ensures ∙ (equal_tables_equal_entries (at 0) _ _ c.table.ensures
    ∙ eight_tables_are_right 3 (omega arith) (at 0) (each 0)) in
    let e1 = c.byte_entry-2.ensures ∙ (equal_tables_equal_entries (at 1) _ _ c.table-2.ensures
    ∙ eight_tables_are_right 2 (omega arith) (at 1) (each 1)) in
    let e2 = c.byte_entry-3.ensures ∙ (equal_tables_equal_entries (at 2) _ _ c.table-3.ensures
    ∙ eight_tables_are_right 1 (omega arith) (at 2) (each 2)) in
    let e3 = c.byte_entry-4.ensures ∙ (equal_tables_equal_entries (at 3) _ _ c.table-4.ensures
    ∙ eight_tables_are_right 0 (omega arith) (at 3) (each 3)) in
    let joined = shifts_of_number_in_four_bytes 0 xs each in
    cc
