-- The blocks in which a payload is sent (DFU 1.1, section 6.1).
use Rattle.std.specs.Prelude.{◌≡◌, ℕ, zero, suc, ◌<◌, ◌≤◌, List, [], ◌∷◌, ◌++◌, length, take, drop}

-- All bytes of the pieces, in their order.
abbrev pub joined : List (List ℕ) → List ℕ
joined [] = []
joined (piece ∷ pieces) = piece ++ joined pieces

-- Each piece has t bytes, except the last, which has 1 to t.
abbrev pub AreFullBlocks : ℕ → List (List ℕ) → Type 0
AreFullBlocks t [] = Unit {0}
AreFullBlocks t (piece ∷ []) = (0 < length piece) × (length piece ≤ t)
AreFullBlocks t (piece ∷ next ∷ pieces) = (length piece ≡ t) × AreFullBlocks t (next ∷ pieces)

-- The pieces are the blocks of a payload: joined they are the payload, and each has t bytes except the last, which has 1 to t.
pub record Blocks (payload : List ℕ) (t : ℕ) (pieces : List (List ℕ)) : Type 0 where
  pub all : joined pieces ≡ payload
  pub full : AreFullBlocks t pieces

-- Pieces of t bytes, of which the last may be shorter, cut from the beginning of the payload in at most `turns` cuts.
abbrev pub blocks_in_turns : ℕ → ℕ → List ℕ → List (List ℕ)
blocks_in_turns zero t payload = []
blocks_in_turns (suc turns) t [] = []
blocks_in_turns (suc turns) t (byte ∷ bytes) = take t (byte ∷ bytes) ∷ blocks_in_turns turns t (drop t (byte ∷ bytes))

-- Blocks of a payload, computed as a list. For t over 0 it is the only list that satisfies `Blocks` (`cut_blocks_are_blocks`,
-- `blocks_are_unique`).
unfoldable pub blocks : List ℕ → ℕ → List (List ℕ)
blocks payload t = blocks_in_turns (length payload) t payload

-- The first n blocks of a payload joined; all its blocks if it has fewer.
abbrev pub first_blocks : List ℕ → ℕ → ℕ → List ℕ
first_blocks payload t n = joined (take n (blocks payload t))
