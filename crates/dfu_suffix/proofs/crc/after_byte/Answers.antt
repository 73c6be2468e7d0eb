use Rattle.std.proofs.Common.{◌≡◌, ap, ◌∙◌, sym, bit_xor, bit_and, get_or, ◌/◌, arith}
use Rattle.dfu_suffix.proofs.Tables.{equal_tables_equal_entries, table_after_zeros, table_takes_byte}
use Rattle.dfu_suffix.proofs.crc.after_byte.Goals as goal

pub returns : goal.returns
returns c =
    let step = table_takes_byte c.args.register c.args.byte (omega arith) in
    let low = bit_and (bit_xor c.args.register c.from.result) 255 in
    let same = equal_tables_equal_entries low c.table.result.now (table_after_zeros 0) c.table.ensures in
    let entry : c.entry.result ≡ get_or (table_after_zeros 0) (bit_and (bit_xor c.args.register c.args.byte) 255) 0 = cc in
    ap (bit_xor (c.args.register / 256)) entry ∙ sym step
