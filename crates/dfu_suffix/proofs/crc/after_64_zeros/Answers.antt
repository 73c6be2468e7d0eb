use Rattle.std.proofs.Common.{ℕ, ◌∙◌, ◌/◌, ◌^◌, bit_and, arith}
use Rattle.dfu_suffix.proofs.FourBytes.{shifts_of_four_bytes}
use Rattle.dfu_suffix.proofs.Tables.{low_byte_entry_is_shift, eight_tables_are_right, equal_tables_equal_entries, table_after_zeros}
use Rattle.dfu_suffix.proofs.crc.after_64_zeros.Goals as goal

pub returns : goal.returns
returns c =
    let s = c.args.number in
    let low = λ (n : ℕ). bit_and n 255 in
    let e0 = c.entry.ensures ∙ (equal_tables_equal_entries (low s) _ _ c.table.ensures
    ∙ low_byte_entry_is_shift 64 (table_after_zeros 7) s (eight_tables_are_right 7 (omega arith))) in
    let e1 = c.entry-2.ensures ∙ (equal_tables_equal_entries (low (s / 2 ^ 8)) _ _ c.table-2.ensures
    ∙ low_byte_entry_is_shift 56 (table_after_zeros 6) (s / 2 ^ 8) (eight_tables_are_right 6 (omega arith))) in
    let e2 = c.entry-3.ensures ∙ (equal_tables_equal_entries (low (s / 2 ^ 16)) _ _ c.table-3.ensures
    ∙ low_byte_entry_is_shift 48 (table_after_zeros 5) (s / 2 ^ 16) (eight_tables_are_right 5 (omega arith))) in
    let e3 = c.entry-4.ensures ∙ (equal_tables_equal_entries (low (s / 2 ^ 24)) _ _ c.table-4.ensures
    ∙ low_byte_entry_is_shift 40 (table_after_zeros 4) (s / 2 ^ 24) (eight_tables_are_right 4 (omega arith))) in
    let joined = shifts_of_four_bytes 32 s (omega arith) in
    cc
