-- The bytes that a reader has returned so far, and all its bytes.
use Rattle.std.proofs.Common.{◌≡◌, ℕ, ◌<◌, ◌≤◌, List, [], ◌++◌, length, take, Option, Some, None, IfSome, refl, sym, ap, ◌∙◌, subst, arith, length-append}
use Rattle.std.proofs.lemmas.List.{append-nil}
use Rattle.std.specs.Io.KnownBytes.{Consumes, IsAtEnd}

-- `IfSome o P` holds if `P` holds for the value of `o` whenever `o` is `Some`.
pub each_value_gives_if_some : {T : Type 0} (o : Option T) (P : T → Type 0) → ((x : T) → o ≡ Some x → P x) → IfSome o P
each_value_gives_if_some None P f = tt
each_value_gives_if_some (Some x) P f = f x refl

-- If a reader returned no bytes and is now at its end, it was at its end before.
no_bytes_at_end_means_end : (mid new : Option (List ℕ)) → Consumes mid new [] → IsAtEnd new → IsAtEnd mid
no_bytes_at_end_means_end None new h e = tt
no_bytes_at_end_means_end (Some a) None h e = absurd h
no_bytes_at_end_means_end (Some a) (Some b) h e = h ∙ e

-- If a read into a buffer that isn't empty returns no bytes, the reader is at its end.
pub empty_read_means_end : (mid new : Option (List ℕ)) (n : ℕ) (buf : List ℕ) → n ≡ 0 → 0 < length buf → Consumes mid new (take n buf)
    × (n ≡ 0 → 0 < length buf → IsAtEnd new) → IsAtEnd mid
empty_read_means_end mid new n buf z room p = no_bytes_at_end_means_end mid new (subst (λ (k : ℕ). Consumes mid new (take k buf)) z p.0)
    (p.1 z room)

-- At the end of a reader, the bytes that it has returned are all its bytes.
pub consumed_at_end_is_all : (old new : Option (List ℕ)) (bytes all : List ℕ) → Consumes old new bytes → IsAtEnd new → old ≡ Some all →
    bytes ≡ all
consumed_at_end_is_all None new bytes all h e o = cc
consumed_at_end_is_all (Some a) None bytes all h e o = absurd h
consumed_at_end_is_all (Some a) (Some b) bytes all h e o =
    let whole : a ≡ bytes = h ∙ (ap (λ (zs : List ℕ). bytes ++ zs) e ∙ append-nil bytes) in
    let same : a ≡ all = cc in
    sym whole ∙ same

-- A reader returns at most as many bytes as it has.
pub consumed_at_most_all : (old new : Option (List ℕ)) (bytes all : List ℕ) → Consumes old new bytes → old ≡ Some all → length bytes
    ≤ length all
consumed_at_most_all None new bytes all h o = cc
consumed_at_most_all (Some a) None bytes all h o = absurd h
consumed_at_most_all (Some a) (Some b) bytes all h o =
    let same : a ≡ all = cc in
    omega (arith, ap length h, ap length same, length-append bytes b)
