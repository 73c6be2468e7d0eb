-- Order of the parts of a format, and the steps of each part.
use Rattle.std.proofs.Common.{◌≡◌, ℕ, zero, suc, ◌+◌, ◌*◌, ◌≤◌, ◌<◌, List, [], ◌∷◌, ◌++◌, length, take, drop, refl, sym, ◌∙◌, ap, arith}
use Rattle.std.proofs.lemmas.List.{take_all, drop_all, drop-drop, length-drop, append-nil, append_assoc}
use Rattle.dfu_suffix.specs.Register.{register}
use Rattle.dfu_slots.specs.Units.{Grain, gate_room, filled_units}
use Rattle.dfu_slots.specs.Medium.{MediumState, Write}
use Rattle.dfu_slots.specs.Writes.{piece_writes, close_writes, image_writes}
use Rattle.dfu_slots.specs.StoreView.{format_series}
use Rattle.dfu_asks.specs.declared.formatting.FormatStep.{FormatStep}
use Rattle.dfu_asks.specs.declared.formatting.FormatStep.TheVariants as format_step
use Rattle.dfu_asks.specs.Steps.{Step, step_writes, write_anew_steps, write_some_steps, open_steps, close_step}
use Rattle.dfu_asks.specs.Phases.{piece_steps, image_steps, format_steps_from, part_steps, format_steps}
use Rattle.dfu_asks.proofs.Steps.{step_writes_append, anew_steps_are_writes, open_steps_are_writes}
use Rattle.dfu_asks.proofs.Locating.{write_some_steps_are_anew}

-- An empty list of bytes needs no steps.
empty_list_has_no_piece_steps : (sector n at : ℕ) → piece_steps sector n at [] ≡ []
empty_list_has_no_piece_steps sector zero at = refl
empty_list_has_no_piece_steps sector (suc n) at = refl

-- Any two counts that are at least the number of bytes give the same steps.
piece_steps_ignore_count : (sector n m at : ℕ) (bytes : List ℕ) → length bytes ≤ n → length bytes ≤ m
    → piece_steps sector n at bytes ≡ piece_steps sector m at bytes
piece_steps_ignore_count sector n m at [] a b = empty_list_has_no_piece_steps sector n at ∙ sym (empty_list_has_no_piece_steps sector m at)
piece_steps_ignore_count sector zero m at (x ∷ xs) a b = absurd (omega (arith, a))
piece_steps_ignore_count sector (suc n) zero at (x ∷ xs) a b = absurd (omega (arith, b))
piece_steps_ignore_count sector (suc n) (suc m) at (x ∷ xs) a b =
    let back = length-drop 4096 (x ∷ xs) in
    ap (λ (ss : List Step). write_anew_steps sector at (take 4096 (x ∷ xs)) ++ ss)
    (piece_steps_ignore_count sector n m (at + 4096) (drop 4096 (x ∷ xs)) (omega (arith, back, a)) (omega (arith, back, b)))

-- The first 4096 bytes of a nonempty list are a nonempty list.
piece_front_has_bytes : (x : ℕ) (xs : List ℕ) → 0 < length (take 4096 (x ∷ xs))
piece_front_has_bytes x xs = omega arith

-- Writing a list of bytes writes its first 4096 bytes, then the rest.
piece_steps_split_at_first : (sector n at : ℕ) (bytes : List ℕ) → length bytes ≤ n
    → piece_steps sector n at bytes ≡ write_some_steps sector at (take 4096 bytes) ++ piece_steps sector n (at + 4096) (drop 4096 bytes)
piece_steps_split_at_first sector n at [] le =
    empty_list_has_no_piece_steps sector n at
    ∙ sym ((λ i. write_some_steps sector at (take_all 4096 [] (omega arith) i)
    ++ piece_steps sector n (at + 4096) (drop_all 4096 [] (omega arith) i))
    ∙ empty_list_has_no_piece_steps sector n (at + 4096))
piece_steps_split_at_first sector zero at (x ∷ xs) le = absurd (omega (arith, le))
piece_steps_split_at_first sector (suc n) at (x ∷ xs) le =
    let back = length-drop 4096 (x ∷ xs) in
    (λ i. sym (write_some_steps_are_anew sector at (take 4096 (x ∷ xs)) (piece_front_has_bytes x xs)) i
    ++ piece_steps_ignore_count sector n (suc n) (at + 4096) (drop 4096 (x ∷ xs)) (omega (arith, back, le)) (omega (arith, back, le)) i)

-- Writing an image from `from` on writes its next 4096 bytes, then the rest.
pub image_steps_split_at_piece : (w : Grain) (image : List ℕ) (from : ℕ) → image_steps w image from
    ≡ write_some_steps w.sector (2 * gate_room w + from) (take 4096 (drop from (filled_units w.unit image))) ++ image_steps w image
    (from + 4096)
image_steps_split_at_piece w image from =
    let units = filled_units w.unit image in
    let rest = drop from units in
    let at = 2 * gate_room w + from in
    let on : drop 4096 rest ≡ drop (from + 4096) units = drop-drop 4096 from units in
    let place : at + 4096 ≡ 2 * gate_room w + (from + 4096) = omega arith in
    piece_steps_split_at_first w.sector (length rest) at rest (omega arith)
    ∙ ap (λ (ss : List Step). write_some_steps w.sector at (take 4096 rest) ++ ss)
    (piece_steps_ignore_count w.sector (length rest) (length (drop 4096 rest)) (at + 4096) (drop 4096 rest)
    (omega (arith, length-drop 4096 rest)) (omega arith)
    ∙ (λ i. piece_steps w.sector (length (on i)) (place i) (on i)))

-- No steps remain after the last byte of an image.
pub image_steps_end_with_image : (w : Grain) (image : List ℕ) (from : ℕ) → length (filled_units w.unit image) ≤ from →
    image_steps w image from ≡ []
image_steps_end_with_image w image from le =
    let units = filled_units w.unit image in
    let none : drop from units ≡ [] = drop_all from units le in
    (λ i. piece_steps w.sector (length (none i)) (2 * gate_room w + from) (none i))
    ∙ empty_list_has_no_piece_steps w.sector 0 (2 * gate_room w + from)

-- The steps of a list of bytes contain exactly the writes of those bytes.
piece_steps_are_writes : (sector n at : ℕ) (bytes : List ℕ) → step_writes (piece_steps sector n at bytes) ≡ piece_writes sector n at bytes
piece_steps_are_writes sector zero at bytes = refl
piece_steps_are_writes sector (suc n) at [] = refl
piece_steps_are_writes sector (suc n) at (x ∷ xs) =
    step_writes_append (write_anew_steps sector at (take 4096 (x ∷ xs))) (piece_steps sector n (at + 4096) (drop 4096 (x ∷ xs)))
    ∙ (λ i. anew_steps_are_writes sector at (take 4096 (x ∷ xs)) i ++ piece_steps_are_writes sector n (at + 4096) (drop 4096 (x ∷ xs)) i)

image_steps_are_writes : (w : Grain) (image : List ℕ) → step_writes (image_steps w image 0) ≡ image_writes w image
image_steps_are_writes w image =
    let units = filled_units w.unit image in
    let place : 2 * gate_room w + 0 ≡ 2 * gate_room w = omega arith in
    piece_steps_are_writes w.sector (length units) (2 * gate_room w + 0) units
    ∙ ap (λ (at : ℕ). piece_writes w.sector (length units) at units) place

-- The steps of a format contain exactly the writes of the format.
pub format_steps_are_writes : (m : MediumState) (image : List ℕ) → step_writes (format_steps m image) ≡ format_series m image
format_steps_are_writes m image =
    let w = m.grain in
    let gates : List Write = close_writes w m.bytes in
    ap (λ (ws : List Write). gates ++ ws)
    (step_writes_append (image_steps w image 0) (open_steps w 0 0 (length image) (register image))
    ∙ (λ i. image_steps_are_writes w image i ++ open_steps_are_writes w 0 0 (length image) (register image) i))

-- The remaining steps from one part on are that part's steps, followed by the remaining steps from the next part on.
abbrev pub IsPartFollowedBy : Grain → ℕ → List ℕ → ℕ → FormatStep → FormatStep → Type 0
IsPartFollowedBy w size image crc this next =
    format_steps_from w size image crc this ≡ part_steps w size image crc this ++ format_steps_from w size image crc next

module _ (w : Grain) (size : ℕ) (image : List ℕ) (crc : ℕ) where
  abbrev steps_after_image : List Step
  steps_after_image = open_steps w 0 0 (length image) crc

  -- After the last piece of an image, the next part is the header.
  pub header_follows_last_image_piece : (from : ℕ) → length (filled_units w.unit image) ≤ from + 4096
      → IsPartFollowedBy w size image crc (format_step.Image from) format_step.Header
  header_follows_last_image_piece from le =
      let first = write_some_steps w.sector (2 * gate_room w + from) (take 4096 (drop from (filled_units w.unit image))) in
      ap (λ (ss : List Step). ss ++ steps_after_image)
      (image_steps_split_at_piece w image from ∙ ap (λ (ss : List Step). first ++ ss) (image_steps_end_with_image w image (from + 4096) le)
      ∙ append-nil first)

  -- After any other piece of an image, the next part is the image's next 4096 bytes.
  pub image_next : (from : ℕ) → IsPartFollowedBy w size image crc (format_step.Image from) (format_step.Image (from + 4096))
  image_next from =
      let first = write_some_steps w.sector (2 * gate_room w + from) (take 4096 (drop from (filled_units w.unit image))) in
      ap (λ (ss : List Step). ss ++ steps_after_image) (image_steps_split_at_piece w image from)
      ∙ append_assoc first (image_steps w image (from + 4096)) steps_after_image

  -- For an empty image, the header is written right after the gates are closed.
  pub header_follows_empty_image : length (filled_units w.unit image) ≡ 0 →
      IsPartFollowedBy w size image crc format_step.CloseFirst format_step.Header
  header_follows_empty_image none = ap (λ (ss : List Step). close_step w 0 ∷ ss
      ++ steps_after_image) (image_steps_end_with_image w image 0 (omega (arith, none)))
