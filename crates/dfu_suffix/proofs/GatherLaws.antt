-- The bytes that a loop over `read` has gathered so far.
use Rattle.std.proofs.Common.{◌≡◌, ℕ, ◌+◌, ◌<◌, ◌≤◌, List, ◌++◌, length, Option, IfSome, subst, sym, arith, length-append}
use Rattle.std.proofs.KnownBytes.{Consumes-trans}
use Rattle.std.specs.Io.KnownBytes.{Consumes, IsAtEnd}
use Rattle.dfu_suffix.proofs.ReadLaws.{each_value_gives_if_some, consumed_at_end_is_all, consumed_at_most_all}

-- The reader returned `bytes`, at least one in each of `turn` reads, and they are within the limit.
pub record GatheredSoFar (limit : ℕ) (old new : Option (List ℕ)) (turn : ℕ) (bytes : List ℕ) : Type 0 where
  pub given : Consumes old new bytes
  pub small : length bytes ≤ limit
  pub turns : turn ≤ length bytes

-- At the end of the reader, the gathered bytes are all its bytes.
pub gathered_is_all_at_end : (limit : ℕ) (old new : Option (List ℕ)) (turn : ℕ) (bytes : List ℕ) → GatheredSoFar limit old new turn bytes →
    IsAtEnd new → IfSome old (λ all. (bytes ≡ all) × (length all ≤ limit))
gathered_is_all_at_end limit old new turn bytes k e =
    each_value_gives_if_some old (λ all. (bytes ≡ all) × (length all ≤ limit)) (λ all o. let same =
    consumed_at_end_is_all old new bytes all k.given e o in (same, subst (λ (xs : List ℕ). length xs ≤ limit) same k.small))

-- If the reader returns a piece that isn't empty and stays within the limit, the bytes with the piece appended are gathered.
pub gathered_piece_is_appended : (limit : ℕ) (old mid new : Option (List ℕ)) (turn : ℕ) (bytes more both : List ℕ) →
    GatheredSoFar limit old mid turn bytes → Consumes mid new more → 0 < length more → length bytes + length more ≤ limit →
    both ≡ bytes ++ more → GatheredSoFar limit old new (turn + 1) both
gathered_piece_is_appended limit old mid new turn bytes more both k given some small e = subst (GatheredSoFar limit old new (turn + 1))
    (sym e) (record {
      given = Consumes-trans old mid new bytes more k.given given;
      small = omega (arith, length-append bytes more);
      turns = omega (arith, length-append bytes more, k.turns);
    })

-- If a piece exceeds the limit, the bytes of the reader exceed it.
pub piece_over_limit_puts_all_over : (limit : ℕ) (old mid new : Option (List ℕ)) (turn : ℕ) (bytes more : List ℕ) →
    GatheredSoFar limit old mid turn bytes → Consumes mid new more → limit < length bytes + length more →
    IfSome old (λ all. limit < length all)
piece_over_limit_puts_all_over limit old mid new turn bytes more k given over =
    each_value_gives_if_some old (λ all. limit < length all) (λ all o. omega (
      arith,
      length-append bytes more,
      consumed_at_most_all old new (bytes ++ more) all (Consumes-trans old mid new bytes more k.given given) o,
    ))
