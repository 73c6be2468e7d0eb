-- A piece consists of bytes of the image, and of FFh after its end.
use Rattle.std.proofs.Common.{◌≡◌, ℕ, ◌+◌, ◌-◌, ◌<◌, min, List, ◌++◌, length, take, drop, replicate, slice_index, length-drop, ap, ◌∙◌, arith}
use Rattle.std.proofs.lemmas.List.{drop-replicate, drop_min, take_min, take_rest, length-take, get_or-take, get_or-drop}
use Rattle.std.proofs.Math.ListN.{get_or-append}
use Rattle.dfu_boot.specs.install.Area.{program_piece}

-- If bytes are copied to the beginning of a buffer of FFh, the buffer holds these bytes, and FFh after them.
pub buffer_is_filled_with_ff : (bytes copied : List ℕ) (most : ℕ) → copied ≡ bytes
    → copied ++ drop (length bytes) (replicate most 255) ≡ bytes ++ replicate (most - length bytes) 255
buffer_is_filled_with_ff bytes copied most is = λ i. is i ++ drop-replicate (length bytes) most 255 i

-- The first min (length xs) n elements of a list are its first n elements.
shorter_take_is_same_front : (xs : List ℕ) (n : ℕ) → take (min (length xs) n) xs ≡ take n xs
shorter_take_is_same_front xs n = let e : min (length xs) n ≡ min n (length xs) = omega arith in ap (λ (k : ℕ). take k xs) e ∙ take_min n xs

-- The range from an offset to the end of the image is the image without the bytes before that offset.
range_to_end_is_rest_of_image : (image : List ℕ) (at : ℕ) → take (length image - min at (length image)) (drop (min at (length image)) image)
    ≡ drop at image
range_to_end_is_rest_of_image image at = take_rest image (min at (length image)) ∙ drop_min at image

-- At most 256 bytes of the image from an offset on, filled up with FFh, are the piece at that offset.
pub filled_rest_is_piece : (image made : List ℕ) (at from end_ : ℕ) → from ≡ min at (length image)
    → end_ ≡ min (length (take (length image - from) (drop from image))) 256
    → made ≡ take end_ (take (length image - from) (drop from image))
    ++ replicate (256 - length (take end_ (take (length image - from) (drop from image)))) 255
    → made ≡ program_piece image at
filled_rest_is_piece image made at from end_ is_from is_end is =
    let rest : List ℕ = take (length image - from) (drop from image) in
    let left : rest ≡ drop at image =
    ap (λ (n : ℕ). take (length image - n) (drop n image)) is_from ∙ range_to_end_is_rest_of_image image at in
    let front : take end_ rest ≡ take 256 (drop at image) =
    ap (λ (n : ℕ). take n rest) is_end ∙ shorter_take_is_same_front rest 256 ∙ ap (λ (l : List ℕ). take 256 l) left in
    is ∙ ap (λ (l : List ℕ). l ++ replicate (256 - length l) 255) front

-- The bytes of a piece are those of the image, up to the end of the image.
pub piece_has_image_bytes : (image : List ℕ) (at i : ℕ) → i < 256 → at + i < length image
    → slice_index (program_piece image at) i ≡ slice_index image (at + i)
piece_has_image_bytes image at i few inside =
    let bytes : List ℕ = take 256 (drop at image) in
    let long : i < length bytes = omega (arith, few, inside, length-take 256 (drop at image), length-drop at image) in
    get_or-append bytes (replicate (256 - length bytes) 255) 0 i long
    ∙ get_or-take 256 (drop at image) i 0 few
    ∙ get_or-drop at image i 0
