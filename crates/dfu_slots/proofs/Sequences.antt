-- Lemmas about the operations of each sequence, and the writes that they make.
use Rattle.std.proofs.Common.{◌≡◌, ◌≢◌, ◌⊎◌, inl, inr, ◌==◌, true, false, if◌then◌else◌, ℕ, suc, ◌+◌, ◌-◌, ◌*◌, ◌≤◌, ◌<◌, min, List, [], ◌∷◌, ◌++◌, length, take, drop, replicate, slice_range, sym, ◌∙◌, ap, arith, length-append}
use Rattle.std.proofs.lemmas.Bool.{cases_eq, cond-true, cond-false, ne_eqb, eq-eqb}
use Rattle.std.proofs.lemmas.List.{append-nil, append_assoc, drop_min, take_min, length-drop, replicate-append-replicate}
use Rattle.std.proofs.lemmas.Slice.{between_is, between_from_start}
use Rattle.dfu_slots.specs.declared.layout.Unit.{Unit as WriteUnit}
use Rattle.dfu_slots.specs.declared.operation.Op.{Op}
use Rattle.dfu_slots.specs.declared.operation.Op.TheVariants.{Erase, Program}
use Rattle.dfu_slots.specs.declared.operation.Source.TheVariants.{Joined, Header, Opened, Closed}
use Rattle.dfu_slots.specs.declared.sequence.Sequence.TheVariants.{Close, Put, Commit, Image}
use Rattle.dfu_slots.specs.declared.layout.Unit.TheVariants.{Byte}
use Rattle.dfu_slots.specs.Units.{Grain, unit_size, gate_size, gate_room, whole_part, fill_size, filled_units}
use Rattle.dfu_slots.specs.Medium.{Write}
use Rattle.dfu_slots.specs.Layout.{OPEN, header, gate_unit, header_unit}
use Rattle.dfu_slots.specs.Writes.{sector_erases, closed_gate, erasing_write, write_some, head_write_size, put_writes, held_writes, open_writes}
use Rattle.dfu_slots.specs.Operations.{range_of, ops_writes, held_from, operations}
use Rattle.dfu_slots.proofs.Sectors.{gate_unit_at_least_16, gate_unit_at_most_256}
use Rattle.dfu_slots.proofs.Multiples.{largest_unit_is_multiple, filled_length_sums, filled_bytes_within}
use Rattle.dfu_slots.proofs.Parts.{gate_unit_has_size, header_unit_has_size}
use Rattle.dfu_slots.proofs.PutWrites.{head_at_most_whole_units, whole_units_at_most_length}
use Rattle.dfu_slots.proofs.Ranges.{range_front_with_zeros, range_before_appended_bytes}

-- A write of at least one byte is preceded by its erases.
pub nonempty_write_is_erasing : (sector at : ℕ) (bytes : List ℕ) → 0 < length bytes
    → write_some sector at bytes ≡ erasing_write sector at bytes
nonempty_write_is_erasing sector at bytes some =
    cond-false (length bytes == 0) [] (erasing_write sector at bytes) (ne_eqb (length bytes) 0 (λ e. omega (arith, some, e)))

-- A gate's first byte, filled up with zeros to g bytes, is a gate unit.
pub range_is_gate_unit : (g first : ℕ) → 16 ≤ g → g ≤ 256 → slice_range ((first ∷ []) ++ replicate 256 0) 0 (0 + g) ≡ gate_unit g first
range_is_gate_unit g first least most = range_front_with_zeros (first ∷ []) g (omega (arith, least)) most

-- A gate unit of g zeros is the unit of a closed gate.
pub range_is_closed_gate_unit : (g : ℕ) → 16 ≤ g → g ≤ 256 → slice_range ([] ++ replicate 256 0) 0 (0 + g) ≡ gate_unit g 0
range_is_closed_gate_unit g least most =
    range_front_with_zeros [] g (omega arith) most
    ∙ (let e : g - 0 ≡ suc (g - 1) = omega (arith, least) in ap (λ (k : ℕ). replicate {A = ℕ} k 0) e)

-- A header, filled up with zeros to g bytes, is a header unit.
pub range_is_header_unit : (g gen len crc : ℕ) (front : List ℕ) → 16 ≤ g → g ≤ 256 → front ≡ header 2 gen len crc
    → slice_range (front ++ replicate 256 0) 0 (0 + g) ≡ header_unit g gen len crc
range_is_header_unit g gen len crc front least most is =
    ap (λ (l : List ℕ). slice_range (l ++ replicate 256 0) 0 (0 + g)) is
    ∙ range_front_with_zeros (header 2 gen len crc) g (omega (arith, least)) most

-- The held bytes followed by fill_size zeros are filled up to a unit.
pub range_is_filled_held_bytes : (u : WriteUnit) (held : List ℕ) → length held ≤ 256
    → slice_range (held ++ replicate 256 0) 0 (0 + (length held + fill_size u (length held))) ≡ filled_units u held
range_is_filled_held_bytes u held few =
    let n = length held + fill_size u (length held) in
    let most : n ≤ 256 = omega (arith, filled_bytes_within u 256 held (largest_unit_is_multiple u) few, filled_length_sums u held) in
    range_front_with_zeros held n (omega arith) most
    ∙ (let e : n - length held ≡ fill_size u (length held) = omega arith in ap (λ (k : ℕ). held ++ replicate k 0) e)

-- Bytes of the first and of the second write of a `put`.
module _ (w : Grain) (held block : List ℕ) where
  abbrev all : List ℕ
  all = held ++ block

  abbrev head : ℕ
  head = head_write_size w.unit held block

  abbrev whole : ℕ
  whole = whole_part w.unit (length all)

  pub range_is_head_write : (n : ℕ) → n ≡ head → slice_range (all ++ replicate 256 0) 0 (0 + n) ≡ take head all
  range_is_head_write n is =
      let e : 0 + n ≡ n = omega arith in
      ap (λ (k : ℕ). slice_range (all ++ replicate 256 0) 0 k) e
      ∙ range_before_appended_bytes all (replicate 256 0) 0 n (omega (
        arith,
        is,
        head_at_most_whole_units w held block,
        whole_units_at_most_length w held block,
      ))
      ∙ between_from_start all n
      ∙ ap (λ (k : ℕ). take k all) is

  pub range_is_further_units : (n k : ℕ) → n ≡ head → n + k ≡ whole → slice_range (all ++ replicate 256 0) n (n + k)
      ≡ drop head (take whole all)
  range_is_further_units n k is end =
      range_before_appended_bytes all (replicate 256 0) n (n + k) (omega (arith, end, whole_units_at_most_length w held block))
      ∙ between_is all n (n + k)
      ∙ (λ i. drop (is i) (take (end i) all))

module _ (w : Grain) (held block head : List ℕ) where
  -- The operation of a Close sequence makes the write that closes a gate.
  pub close_ops_make_writes : (slot : ℕ) → ops_writes w.sector held block head (operations w (Close slot))
      ≡ record { at = slot; bytes = closed_gate w } ∷ []
  close_ops_make_writes slot = with_or_without_sectors (cases_eq w.sector 0)
    where
      g : ℕ
      g = gate_size w.unit

      with_or_without_sectors : (w.sector ≡ 0) ⊎ (w.sector ≢ 0) → ops_writes w.sector held block head (operations w (Close slot))
          ≡ record { at = slot; bytes = closed_gate w } ∷ []
      with_or_without_sectors (inl none) =
          let e : (w.sector == 0) ≡ true = eq-eqb w.sector 0 none in
          let bytes = range_is_closed_gate_unit g (gate_unit_at_least_16 w.unit) (gate_unit_at_most_256 w.unit) in
          let unit = gate_unit g 0 in
          let some : 0 < length unit = omega (arith, gate_unit_has_size g 0 (gate_unit_at_least_16 w.unit), gate_unit_at_least_16 w.unit) in
          ap (λ (o : Op). ops_writes w.sector held block head (o ∷ []))
          (cond-true (w.sector == 0) (Program slot Closed 0 g) (Erase slot) e)
          ∙ append-nil (write_some w.sector slot (range_of Closed held block head 0 g))
          ∙ ap (λ (l : List ℕ). write_some w.sector slot l) bytes
          ∙ nonempty_write_is_erasing w.sector slot unit some
          ∙ ap (λ (ws : List Write). ws ++ record { at = slot; bytes = unit } ∷ [])
          (cond-true (w.sector == 0) [] (sector_erases w.sector slot (length unit)) e)
          ∙ ap (λ (l : List ℕ). record { at = slot; bytes = l } ∷ [])
          (sym (cond-true (w.sector == 0) unit (replicate w.sector 255) e))
      with_or_without_sectors (inr some) =
          let e : (w.sector == 0) ≡ false = ne_eqb w.sector 0 some in
          ap (λ (o : Op). ops_writes w.sector held block head (o ∷ []))
          (cond-false (w.sector == 0) (Program slot Closed 0 g) (Erase slot) e)
          ∙ ap (λ (l : List ℕ). record { at = slot; bytes = l } ∷ [])
          (sym (cond-false (w.sector == 0) (gate_unit g 0) (replicate w.sector 255) e))

  -- The operations of a Put sequence make the writes of a `put`.
  pub put_ops_make_writes : (slot end : ℕ) → ops_writes w.sector held block head (operations w (Put slot end (length held) (length block)))
      ≡ put_writes w (held_from w slot end (length held)) held block
  put_ops_make_writes slot end =
      let n : length held + length block ≡ length (held ++ block) = sym (length-append held block) in
      let whole : whole_part w.unit (length held + length block) ≡ whole_part w.unit (length (held ++ block)) =
      ap (λ (k : ℕ). whole_part w.unit k) n in
      let first : (if length held == 0 then 0 else min (unit_size w.unit) (whole_part w.unit (length held + length block)))
      ≡ head_write_size w.unit held block =
      ap (λ (k : ℕ). if length held == 0 then 0 else min (unit_size w.unit) k) whole in
      let mine = if length held == 0 then 0 else min (unit_size w.unit) (whole_part w.unit (length held + length block)) in
      let left = whole_part w.unit (length held + length block) - mine in
      let at = held_from w slot end (length held) in
      let back : mine + left ≡ whole_part w.unit (length (held
      ++ block)) = omega (arith, first, whole, head_at_most_whole_units w held block) in
      (λ i. write_some w.sector at (range_is_head_write w held block mine first i)
      ++ (write_some w.sector (at + first i) (range_is_further_units w held block mine left first back i) ++ []))
      ∙ ap (λ (ws : List Write). write_some w.sector at (take (head_write_size w.unit held block) (held ++ block)) ++ ws) (append-nil _)

  -- The operations of a Commit sequence write the held bytes and open the slot.
  pub commit_ops_make_writes : (slot end gen len crc : ℕ) → length held ≤ 256 → head ≡ header 2 gen len crc
      → ops_writes w.sector held block head (operations w (Commit slot end (length held)))
      ≡ held_writes w (held_from w slot end (length held)) held ++ open_writes w slot gen len crc
  commit_ops_make_writes slot end gen len crc few is =
      let g = gate_size w.unit in
      let at = held_from w slot end (length held) in
      let header_bytes = range_is_header_unit g gen len crc head (gate_unit_at_least_16 w.unit) (gate_unit_at_most_256 w.unit) is in
      let gate_bytes = range_is_gate_unit g OPEN (gate_unit_at_least_16 w.unit) (gate_unit_at_most_256 w.unit) in
      let header_writes : write_some w.sector (slot + gate_room w) (range_of Header held block head 0 g)
      ≡ erasing_write w.sector (slot + gate_room w) (header_unit g gen len crc) =
      ap (λ (l : List ℕ). write_some w.sector (slot + gate_room w) l) header_bytes
      ∙ nonempty_write_is_erasing w.sector (slot + gate_room w) (header_unit g gen len crc)
      (omega (arith, header_unit_has_size g gen len crc (gate_unit_at_least_16 w.unit), gate_unit_at_least_16 w.unit)) in
      let gate_writes : write_some w.sector slot (range_of Opened held block head 0 g)
      ≡ erasing_write w.sector slot (gate_unit g OPEN) =
      ap (λ (l : List ℕ). write_some w.sector slot l) gate_bytes
      ∙ nonempty_write_is_erasing w.sector slot (gate_unit g OPEN) (omega (
        arith,
        gate_unit_has_size g OPEN (gate_unit_at_least_16 w.unit),
        gate_unit_at_least_16 w.unit,
      )) in
      (λ i. write_some w.sector at (range_is_filled_held_bytes w.unit held few i)
      ++ (header_writes i ++ append-nil (gate_writes i) i))

-- The range of an image that an Image operation writes is the piece of the image that begins at `from`, filled up to a unit.
pub range_is_image_piece : (u : WriteUnit) (image : List ℕ) (from skip n : ℕ) → skip ≡ min from (length (filled_units u image))
    → n ≡ min (length (filled_units u image) - skip) 4096
    → slice_range (([] ++ image) ++ replicate 256 0) skip (skip + n) ≡ take 4096 (drop from (filled_units u image))
range_is_image_piece u image from skip n first size =
    let fill = fill_size u (length image) in
    let units = filled_units u image in
    let few : fill ≤ 256 = fill_is_at_most_256 u (length image) in
    let count : 256 ≡ fill + (256 - fill) = omega (arith, few) in
    let zeros : image ++ replicate 256 0 ≡ units ++ replicate (256 - fill) 0 =
    ap (λ (l : List ℕ). image ++ l)
    (ap (λ (k : ℕ). replicate {A = ℕ} k 0) count ∙ sym (replicate-append-replicate fill (256 - fill) 0))
    ∙ sym (append_assoc image (replicate fill 0) (replicate (256 - fill) 0)) in
    let k : skip + n - skip ≡ n = omega arith in
    let same : n ≡ min 4096 (length (drop from units)) = omega (arith, size, first, length-drop from units) in
    ap (λ (l : List ℕ). slice_range l skip (skip + n)) zeros
    ∙ range_before_appended_bytes units (replicate (256 - fill) 0) skip (skip + n) (omega (arith, first, size))
    ∙ ap (λ (j : ℕ). take j (drop skip units)) k
    ∙ (λ i. take n (drop (first i) units))
    ∙ ap (λ (l : List ℕ). take n l) (drop_min from units)
    ∙ ap (λ (j : ℕ). take j (drop from units)) same
    ∙ take_min 4096 (drop from units)
  where
    fill_is_at_most_256 : (v : WriteUnit) (m : ℕ) → fill_size v m ≤ 256
    fill_is_at_most_256 Byte m = omega arith
    fill_is_at_most_256 _ m = omega arith

pub image_ops_make_writes : (w : Grain) (image head : List ℕ) (from : ℕ)
    → ops_writes w.sector [] image head (operations w (Image from (length image)))
    ≡ write_some w.sector (2 * gate_room w + from) (take 4096 (drop from (filled_units w.unit image)))
image_ops_make_writes w image head from =
    let size = length image + fill_size w.unit (length image) in
    let long : size ≡ length (filled_units w.unit image) = sym (filled_length_sums w.unit image) in
    let skip = min from size in
    let n = min (size - skip) 4096 in
    append-nil (write_some w.sector (2 * gate_room w + from) (range_of Joined [] image head skip n))
    ∙ ap (λ (l : List ℕ). write_some w.sector (2 * gate_room w + from) l)
    (range_is_image_piece w.unit image from skip n (ap (λ (k : ℕ). min from k) long) (ap (λ (k : ℕ). min (k - skip) 4096) long))
