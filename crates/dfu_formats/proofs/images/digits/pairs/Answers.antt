use Rattle.std.proofs.Common.{◌≡◌, ◌*◌, length, ◌+◌, ◌<◌, drop, get_or, ℕ, List, sym, subst, arith}
use Rattle.std.proofs.Common.{inl, inr}
use Rattle.dfu_formats.specs.images.Digits.{hex_value, bytes_of_pairs}
use Rattle.dfu_formats.proofs.PairLaws.{bytes_before_spelled, read_pairs_are_all_bytes, odd_digit_is_fault, high_digit_is_needed, low_digit_is_needed, pair_adds_byte}
use Rattle.dfu_formats.proofs.images.digits.pairs.Goals as goal

pub returns-then-at-digits : goal.returns-then-at-digits
returns-then-at-digits c = odd_digit_is_fault c.args.digits.now c.loop-at.bytes.items c.loop-at.at (omega arith) c.loop-at.invariant.so_far

pub returns-then-high-eq16 : goal.returns-then-high-eq16
returns-then-high-eq16 c =
    let xs = c.args.digits.now in
    let i = c.loop-at.at in
    let j : i + 1 < length xs = omega arith in
    elim c.then-high-eq16.either [
      | inl high ↦ high_digit_is_needed xs c.loop-at.bytes.items i (i + 1) (i + 2) (omega arith) (omega arith) j
          (omega (arith, high, c.hex_digit-high.ensures.value)) c.loop-at.invariant.so_far
      | inr low ↦ low_digit_is_needed xs c.loop-at.bytes.items i (i + 1) (i + 2) (omega arith) (omega arith) j
          (omega (arith, low.1, c.hex_digit-low.ensures.value)) c.loop-at.invariant.so_far
    ]

pub loop-at-preserved : goal.loop-at-preserved
loop-at-preserved c =
    let xs = c.args.digits.now in
    let i = c.loop-at.at in
    let j : i + 1 < length xs = omega arith in
    let high : hex_value (get_or xs i 0) < 16 = omega (arith, c.hex_digit-high.ensures.value, c.hex_digit-high.ensures.small, c.if-high-eq16.false) in
    let low : hex_value (get_or xs (i + 1) 0) < 16 = omega (arith, c.hex_digit-low.ensures.value, c.hex_digit-low.ensures.small, c.if-low-eq16.false) in
    let more = pair_adds_byte xs c.loop-at.bytes.items i (i + 1) (i + 2) (16 * c.hex_digit-high.result + c.hex_digit-low.result) (omega
    arith) (omega arith) j high low
    (omega (arith, c.hex_digit-high.ensures.value, c.hex_digit-low.ensures.value)) c.loop-at.invariant.so_far in
    record {
      within = omega arith;
      halves = omega (arith, c.push.ensures.len, c.loop-at.invariant.halves);
      so_far =
          subst (λ (front : List ℕ). bytes_before_spelled front (bytes_of_pairs (drop (i + 2) xs))
          ≡ bytes_of_pairs xs) (sym c.push.ensures.items) more;
    }

pub returns : goal.returns
returns c = read_pairs_are_all_bytes c.args.digits.now c.loop-at.bytes.items c.loop-at.at (omega arith) c.loop-at.invariant.so_far
