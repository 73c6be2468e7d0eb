-- The elements of an image are laid out as one piece, in the order of their addresses.
use Rattle.std.proofs.Common.{◌≡◌, ℕ, zero, suc, ◌+◌, ◌<◌, ◌≤◌, List, [], ◌∷◌, ◌++◌, length, drop, get_or, refl, sym, ap, ◌∙◌, subst, arith, Option, Result, Ok, Err, append_assoc, length-append}
use Rattle.std.proofs.lemmas.List.{append-nil}
use Rattle.dfu_formats.specs.declared.images.laying.LayFault.{LayFault}
use Rattle.dfu_formats.specs.declared.images.laying.LayFault.TheVariants as fault
use Rattle.dfu_formats.specs.images.Elements.{Piece, end_of_piece, AreApart}
use Rattle.dfu_formats.specs.images.Laying.{filled_part, bytes_in_front, part_before_others, laid_bytes, lowest_address, IsLayFault}

-- If the pieces in `left` are laid out from address `end` on after `bytes`, the result is `whole`, which may be a fault. The pieces don't
-- overlap, and none begins before `end`.
pub record LaidRestMakesWhole (whole : Result (List ℕ) LayFault) (fill : Option ℕ) (bytes : List ℕ) (end : ℕ) (left : List Piece) : Type 0
  where
    pub so_far : bytes_in_front bytes (laid_bytes fill (length bytes) end left) ≡ whole
    pub apart : AreApart end left

-- Before the first piece is laid out, LaidRestMakesWhole holds, because all pieces are left to lay out.
pub nothing_laid_makes_whole : (fill : Option ℕ) (end : ℕ) (all : List Piece) → AreApart end all →
    LaidRestMakesWhole (laid_bytes fill 0 end all) fill [] end all
nothing_laid_makes_whole fill end all h = record { so_far = first (laid_bytes fill 0 end all); apart = h }
  where
    first : (r : Result (List ℕ) LayFault) → bytes_in_front [] r ≡ r
    first (Ok bytes) = refl
    first (Err fault) = refl

-- If pieces don't overlap and none begins before `end`, the first begins at or after `end`, and the others begin after the end of the
-- first.
first_piece_and_rest_are_apart : (end : ℕ) (p : Piece) (ps : List Piece) → AreApart end (p ∷ ps) → (end ≤ p.address)
    × AreApart (end_of_piece p) ps
unfolding AreApart
first_piece_and_rest_are_apart end p ps h = h

-- The laid-out bytes of pieces are those of the first piece, with the fill bytes before it, followed by those of the other pieces.
laid_bytes_of_first_piece : (fill : Option ℕ) (count end : ℕ) (p : Piece) (ps : List Piece) →
    laid_bytes fill count end (p ∷ ps) ≡ part_before_others (filled_part fill count end p)
    (λ (front : List ℕ). laid_bytes fill (count + length front) (end_of_piece p) ps)
unfolding laid_bytes
laid_bytes_of_first_piece fill count end p ps = refl

laid_bytes_of_none : (fill : Option ℕ) (count end : ℕ) → laid_bytes fill count end [] ≡ Ok []
unfolding laid_bytes
laid_bytes_of_none fill count end = refl

-- The next piece begins at `end` or after it.
pub next_piece_not_before_end : (whole : Result (List ℕ) LayFault) (fill : Option ℕ) (bytes : List ℕ) (end : ℕ) (p : Piece) (ps left : List
    Piece) →
    left ≡ p ∷ ps → LaidRestMakesWhole whole fill bytes end left → end ≤ p.address
next_piece_not_before_end whole fill bytes end p ps left e w = (first_piece_and_rest_are_apart end p ps (subst (AreApart end) e w.apart)).0

-- If one piece has a fault, the result is this fault, for any pieces that follow it.
first_part_fault_stays : (fault : LayFault) (bytes : List ℕ) (r : Result (List ℕ) LayFault) (f : List ℕ → Result (List ℕ) LayFault) →
    IsLayFault fault (bytes_in_front bytes r) → IsLayFault fault (bytes_in_front bytes (part_before_others r f))
first_part_fault_stays fault.NoMemory bytes r f h = tt
first_part_fault_stays fault bytes (Ok front) f h = cc
first_part_fault_stays fault bytes (Err other) f h = h

-- If the next piece has a fault, the result of the whole layout is this fault.
pub part_fault_is_laying_fault : (fault : LayFault) (whole : Result (List ℕ) LayFault) (fill : Option ℕ) (bytes : List ℕ) (end : ℕ) (p :
    Piece) (ps left : List Piece) →
    left ≡ p ∷ ps → LaidRestMakesWhole whole fill bytes end left →
    IsLayFault fault (bytes_in_front bytes (filled_part fill (length bytes) end p)) →
    IsLayFault fault whole
part_fault_is_laying_fault fault whole fill bytes end p ps left e w h =
    let f = first_part_fault_stays fault bytes (filled_part fill (length bytes) end p)
    (λ (front : List ℕ). laid_bytes fill (length bytes + length front) (end_of_piece p) ps) h in
    subst (IsLayFault fault) (sym (ap (bytes_in_front bytes)
    (ap (laid_bytes fill (length bytes) end) e ∙ laid_bytes_of_first_piece fill (length bytes) end p ps)) ∙ w.so_far) f

-- Putting bytes in front of a piece and of the bytes after it is the same as appending the piece to the bytes first.
laid_front_takes_part : (fill : Option ℕ) (end : ℕ) (ps : List Piece) (bytes more : List ℕ) (r : Result (List ℕ) LayFault)
    → bytes_in_front bytes r ≡ Ok more →
    bytes_in_front bytes (part_before_others r (λ (front : List ℕ). laid_bytes fill (length bytes + length front) end ps))
    ≡ bytes_in_front more (laid_bytes fill (length more) end ps)
laid_front_takes_part fill end ps bytes more (Err fault) h = cc
laid_front_takes_part fill end ps bytes more (Ok front) h =
    let same : bytes ++ front ≡ more = cc in
    bytes_in_front_join bytes front (laid_bytes fill (length bytes + length front) end ps)
    ∙ (ap (λ (k : ℕ). bytes_in_front (bytes ++ front) (laid_bytes fill k end ps)) (sym (length-append bytes front))
    ∙ ap (λ (xs : List ℕ). bytes_in_front xs (laid_bytes fill (length xs) end ps)) same)
  where
    bytes_in_front_join : (xs ys : List ℕ) (r : Result (List ℕ) LayFault) → bytes_in_front xs (bytes_in_front ys r)
        ≡ bytes_in_front (xs ++ ys) r
    bytes_in_front_join xs ys (Ok zs) = ap Ok (sym (append_assoc xs ys zs))
    bytes_in_front_join xs ys (Err fault) = refl

-- After the next piece is laid out, laying out the pieces after it from its end on still results in `whole`.
pub laid_part_makes_whole : (whole : Result (List ℕ) LayFault) (fill : Option ℕ) (bytes more : List ℕ) (end : ℕ) (p : Piece) (ps left :
    List Piece) →
    left ≡ p ∷ ps → LaidRestMakesWhole whole fill bytes end left → bytes_in_front bytes (filled_part fill (length bytes) end p) ≡ Ok more →
    LaidRestMakesWhole whole fill more (end_of_piece p) ps
laid_part_makes_whole whole fill bytes more end p ps left e w h = record {
  so_far = sym (laid_front_takes_part fill (end_of_piece p) ps bytes more (filled_part fill (length bytes) end p) h)
      ∙ (sym (ap (bytes_in_front bytes) (ap (laid_bytes fill (length bytes) end) e
      ∙ laid_bytes_of_first_piece fill (length bytes) end p ps)) ∙ w.so_far);
  apart = (first_piece_and_rest_are_apart end p ps (subst (AreApart end) e w.apart)).1;
}

-- Once no piece is left, the bytes laid out so far are `whole`.
pub all_laid_is_whole : (whole : Result (List ℕ) LayFault) (fill : Option ℕ) (bytes : List ℕ) (end : ℕ) (left : List Piece) →
    left ≡ [] → LaidRestMakesWhole whole fill bytes end left → whole ≡ Ok bytes
all_laid_is_whole whole fill bytes end left e w =
    sym w.so_far ∙ (ap (bytes_in_front bytes) (ap (laid_bytes fill (length bytes) end) e ∙ laid_bytes_of_none fill (length bytes) end)
    ∙ ap Ok
    (append-nil bytes))

-- If pieces don't overlap, none of them begins before the address of the first one.
pub apart_from_lowest_address : (all : List Piece) (end : ℕ) → end ≡ lowest_address all → AreApart 0 all → AreApart end all
unfolding AreApart
apart_from_lowest_address [] end e h = tt
apart_from_lowest_address (p ∷ ps) end e h = (omega (arith, e), h.1)

-- The pieces from index `i` on are piece `i` followed by those from index `i + 1` on.
pub drop_from_next_piece : (ps : List Piece) (i j : ℕ) (d : Piece) → j ≡ suc i → i < length ps → drop i ps ≡ get_or ps i d ∷ drop j ps
drop_from_next_piece [] i j d e h = absurd (omega (arith, h))
drop_from_next_piece (p ∷ ps) zero j d e h = ap (λ (k : ℕ). p ∷ drop k (p ∷ ps)) (sym e)
drop_from_next_piece (p ∷ ps) (suc i) j d e h =
    drop_from_next_piece ps i (suc i) d refl (omega (arith, h)) ∙ ap (λ (k : ℕ). get_or ps i d ∷ drop k (p ∷ ps)) (sym e)

pub drop_past_all_pieces : (ps : List Piece) (i : ℕ) → length ps ≤ i → drop i ps ≡ []
drop_past_all_pieces [] zero h = refl
drop_past_all_pieces [] (suc i) h = refl
drop_past_all_pieces (p ∷ ps) zero h = absurd (omega (arith, h))
drop_past_all_pieces (p ∷ ps) (suc i) h = drop_past_all_pieces ps i (omega (arith, h))
