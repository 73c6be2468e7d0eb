use Rattle.std.proofs.Common.{◌≡◌, ℕ, List, subst, ◌++◌, ◌∙◌, sym, ap, bit_xor, arith}
use Rattle.std.proofs.lemmas.List.{take-append-drop}
use Rattle.byteorder.specs.Endian.{little_number}
use Rattle.dfu_suffix.specs.Register.{after_bits, bits_of}
use Rattle.dfu_suffix.proofs.Bytes.{AreBytes-drop, AreBytes-take}
use Rattle.dfu_suffix.proofs.Tables.{IsFourByteNumber, eight_bytes_shift_register, four_bytes_make_number}
use Rattle.dfu_suffix.specs.Laws.{AreBytes}
use Rattle.dfu_suffix.proofs.crc.after_eight.Goals as goal

pub returns : goal.returns
returns c =
    let bytes = c.args.bytes.now in
    let cut = c.split_at.ensures in
    let xs = c.split_at.result.0.now in
    let ys = c.split_at.result.1.now in
    let each : AreBytes bytes = λ k. omega (arith, c.type_inv.bytes k) in
    let p : IsFourByteNumber c.read_u32.result xs = record {
      long = omega arith;
      bytes = subst AreBytes (sym cut.front) (AreBytes-take 4 bytes each);
      number = c.read_u32.ensures;
      small = omega arith;
    } in
    let q : IsFourByteNumber (little_number 4 ys) ys = four_bytes_make_number ys (omega arith) (subst AreBytes (sym cut.back)
    (AreBytes-drop bytes 4 each)) in
    let joined : xs ++ ys ≡ bytes = (λ i. cut.front i ++ cut.back i) ∙ take-append-drop 4 bytes in
    let second = c.after_32_zeros.ensures in
    let first = c.after_64_zeros.ensures in
    (λ i. bit_xor (second i) (first i))
    ∙ (eight_bytes_shift_register c.args.register c.read_u32.result (little_number 4 ys) xs ys p q
    ∙ ap (λ (ts : List ℕ). after_bits c.args.register (bits_of ts)) joined)
