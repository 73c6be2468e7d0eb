-- The operations of each sequence have the steps of the writes that they make.
use Rattle.std.proofs.Common.{◌≡◌, ◌≢◌, ◌⊎◌, inl, inr, ◌==◌, Bool, true, false, if◌then◌else◌, ℕ, ◌+◌, ◌-◌, ◌*◌, ◌/◌, ◌≤◌, min, List, [], ◌∷◌, ◌++◌, length, take, drop, replicate, sym, ◌∙◌, ap, arith, length-append}
use Rattle.std.proofs.lemmas.Bool.{cases_eq, cond-true, cond-false, ne_eqb, eq-eqb}
use Rattle.std.proofs.lemmas.List.{append-nil}
use Rattle.dfu_slots.specs.declared.layout.Unit.{Unit as WriteUnit}
use Rattle.dfu_slots.specs.declared.layout.Unit.TheVariants.{Byte}
use Rattle.dfu_slots.specs.declared.operation.Op.{Op}
use Rattle.dfu_slots.specs.declared.operation.Op.TheVariants.{Erase, Program}
use Rattle.dfu_slots.specs.declared.operation.Source.TheVariants.{Joined, Header, Opened, Closed}
use Rattle.dfu_slots.specs.declared.sequence.Sequence.TheVariants.{Close, Put, Commit, Image}
use Rattle.dfu_slots.specs.Units.{Grain, unit_size, gate_size, gate_room, whole_part, fill_size, filled_units}
use Rattle.dfu_slots.specs.Layout.{OPEN, header, gate_unit, header_unit}
use Rattle.dfu_slots.specs.Writes.{head_write_size}
use Rattle.dfu_slots.specs.Operations.{operations}
use Rattle.dfu_slots.proofs.Sectors.{gate_unit_at_least_16, gate_unit_at_most_256}
use Rattle.dfu_slots.proofs.Parts.{gate_unit_has_size, header_unit_has_size}
use Rattle.dfu_slots.proofs.Multiples.{filled_length_sums}
use Rattle.dfu_slots.proofs.PutWrites.{head_at_most_whole_units}
use Rattle.dfu_slots.proofs.Sequences.{range_is_closed_gate_unit, range_is_gate_unit, range_is_header_unit, range_is_filled_held_bytes, range_is_head_write, range_is_further_units, range_is_image_piece}
use Rattle.dfu_asks.specs.declared.pending_writes.WriteInputs.{WriteInputs}
use Rattle.dfu_asks.specs.Steps.{Step, write_anew_steps, write_some_steps, put_steps, open_steps, close_step}
use Rattle.dfu_asks.specs.Jobs.{input_grain, held_bytes_place}
use Rattle.dfu_asks.specs.declared.formatting.FormatStep.{FormatStep}
use Rattle.dfu_asks.specs.declared.formatting.Formatting.{Formatting}
use Rattle.dfu_asks.specs.Mapped.{grain_of}
use Rattle.dfu_asks.specs.Phases.{part_steps, steps_of_part}
use Rattle.dfu_asks.specs.Cuts.{range_of_source}
use Rattle.dfu_asks.specs.OpSteps.{ops_steps, op_steps_at, OpsHaveFewBytes}
use Rattle.dfu_asks.proofs.Locating.{write_some_steps_are_anew}
use Rattle.dfu_asks.proofs.Cutting.{gate_is_written_without_sectors}

module _ (s : WriteInputs) (front : List ℕ) where
  abbrev w : Grain
  w = input_grain s

  abbrev g : ℕ
  g = gate_size w.unit

  -- The operations of `Close` consist of the single step that closes the gate.
  pub close_ops_are_step : (slot : ℕ) → ops_steps s front (operations w (Close slot)) ≡ close_step w slot ∷ []
  close_ops_are_step slot = by_sector (cases_eq w.sector 0)
    where
      by_sector : (w.sector ≡ 0) ⊎ (w.sector ≢ 0) → ops_steps s front (operations w (Close slot)) ≡ close_step w slot ∷ []
      by_sector (inl none) =
          let unit = gate_unit g 0 in
          ap (λ (o : Op). ops_steps s front (o ∷ []))
          (cond-true (w.sector == 0) (Program slot Closed 0 g) (Erase slot) (eq-eqb w.sector 0 none))
          ∙ append-nil (write_some_steps w.sector slot (range_of_source Closed s front 0 g))
          ∙ ap (λ (l : List ℕ). write_some_steps w.sector slot l) (range_is_closed_gate_unit g (gate_unit_at_least_16 w.unit)
          (gate_unit_at_most_256 w.unit))
          ∙ write_some_steps_are_anew w.sector slot unit (omega (
            arith,
            gate_unit_has_size g 0 (gate_unit_at_least_16 w.unit),
            gate_unit_at_least_16 w.unit,
          ))
          ∙ gate_is_written_without_sectors w slot none
      by_sector (inr some) =
          let e : (w.sector == 0) ≡ false = ne_eqb w.sector 0 some in
          ap (λ (o : Op). ops_steps s front (o ∷ [])) (cond-false (w.sector == 0) (Program slot Closed 0 g) (Erase slot) e)
          ∙ ap (λ (x : Step). x ∷ []) (sym (λ i. record {
            erases = if e i then false else true;
            write = record { at = slot; bytes = if e i then gate_unit g 0 else replicate w.sector 255 };
          }))

  -- The operations of the sequence `Put` have the steps that `put_steps` lists.
  pub put_ops_are_steps : (slot end : ℕ) → let h = s.held.now in let b = s.block.now in
      ops_steps s front (operations w (Put slot end (length h) (length b))) ≡ put_steps w (held_bytes_place w slot end h) h b
  put_ops_are_steps slot end =
      let h = s.held.now in
      let b = s.block.now in
      let whole : whole_part w.unit (length h + length b) ≡ whole_part w.unit (length (h ++ b)) =
      ap (λ (k : ℕ). whole_part w.unit k) (sym (length-append h b)) in
      let mine = if length h == 0 then 0 else min (unit_size w.unit) (whole_part w.unit (length h + length b)) in
      let first : mine ≡ head_write_size w.unit h b = ap (λ (k : ℕ). if length h == 0 then 0 else min (unit_size w.unit) k) whole in
      let left = whole_part w.unit (length h + length b) - mine in
      let at = held_bytes_place w slot end h in
      let back : mine + left ≡ whole_part w.unit (length (h ++ b)) = omega (arith, first, whole, head_at_most_whole_units w h b) in
      (λ i. write_some_steps w.sector at (range_is_head_write w h b mine first i)
      ++ (write_some_steps w.sector (at + first i) (range_is_further_units w h b mine left first back i) ++ []))
      ∙ ap (λ (ss : List Step). write_some_steps w.sector at (take (head_write_size w.unit h b) (h ++ b)) ++ ss) (append-nil _)

  -- The operation that writes a header has the steps of that header.
  header_op_has_header_steps : (slot gen len crc : ℕ) → front ≡ header 2 gen len crc
      → write_some_steps w.sector (slot + gate_room w) (range_of_source Header s front 0 g)
      ≡ write_anew_steps w.sector (slot + gate_room w) (header_unit g gen len crc)
  header_op_has_header_steps slot gen len crc is =
      ap (λ (l : List ℕ). write_some_steps w.sector (slot + gate_room w) l)
      (range_is_header_unit g gen len crc front (gate_unit_at_least_16 w.unit) (gate_unit_at_most_256 w.unit) is)
      ∙ write_some_steps_are_anew w.sector (slot + gate_room w) (header_unit g gen len crc)
      (omega (arith, header_unit_has_size g gen len crc (gate_unit_at_least_16 w.unit), gate_unit_at_least_16 w.unit))

  -- The operation that opens a gate has the steps of that gate.
  gate_op_has_gate_steps : (slot : ℕ) → write_some_steps w.sector slot (range_of_source Opened s front 0 g)
      ≡ write_anew_steps w.sector slot (gate_unit g OPEN)
  gate_op_has_gate_steps slot =
      ap (λ (l : List ℕ). write_some_steps w.sector slot l) (range_is_gate_unit g OPEN (gate_unit_at_least_16 w.unit)
      (gate_unit_at_most_256 w.unit))
      ∙ write_some_steps_are_anew w.sector slot (gate_unit g OPEN) (omega (
        arith,
        gate_unit_has_size g OPEN (gate_unit_at_least_16 w.unit),
        gate_unit_at_least_16 w.unit,
      ))

  -- The operations of a commit have the steps that write the held bytes, followed by those that open the slot.
  pub commit_ops_are_steps : (slot end gen crc : ℕ) → length s.held.now ≤ 256 → front ≡ header 2 gen end crc →
      ops_steps s front (operations w (Commit slot end (length s.held.now)))
      ≡ write_some_steps w.sector (held_bytes_place w slot end s.held.now) (filled_units w.unit s.held.now) ++ open_steps w slot gen end crc
  commit_ops_are_steps slot end gen crc few is =
      λ i. write_some_steps w.sector (held_bytes_place w slot end s.held.now) (range_is_filled_held_bytes w.unit s.held.now few i)
      ++ (header_op_has_header_steps slot gen end crc is i ++ append-nil (gate_op_has_gate_steps slot i) i)

  -- Operation number 1 of a commit of 0 bytes has the steps with which a format writes the first slot's header.
  pub format_op_1_has_header_steps : (len crc : ℕ) → front ≡ header 2 0 len crc → op_steps_at s front (operations w (Commit 0 0 0)) 1
      ≡ write_anew_steps w.sector (0 + gate_room w) (header_unit g 0 len crc)
  format_op_1_has_header_steps len crc is = header_op_has_header_steps 0 0 len crc is

  -- Operation number 2 of a commit of 0 bytes has the steps with which a format opens the first slot's gate.
  pub format_op_2_has_gate_steps : op_steps_at s front (operations w (Commit 0 0 0)) 2 ≡ write_anew_steps w.sector 0 (gate_unit g OPEN)
  format_op_2_has_gate_steps = gate_op_has_gate_steps 0

  -- The operation that writes a part of an image has the steps of that part.
  pub image_op_is_steps : (from : ℕ) → s.held.now ≡ [] → let image = s.block.now in
      ops_steps s front (operations w (Image from (length image)))
      ≡ write_some_steps w.sector (2 * gate_room w + from) (take 4096 (drop from (filled_units w.unit image)))
  image_op_is_steps from none =
      let image = s.block.now in
      let size = length image + fill_size w.unit (length image) in
      let long : size ≡ length (filled_units w.unit image) = sym (filled_length_sums w.unit image) in
      let skip = min from size in
      let n = min (size - skip) 4096 in
      append-nil (write_some_steps w.sector (2 * gate_room w + from) (range_of_source Joined s front skip n))
      ∙ ap (λ (h : List ℕ). write_some_steps w.sector (2 * gate_room w + from)
      (take (skip + n - skip) (drop skip ((h ++ image) ++ replicate 256 0)))) none
      ∙ ap (λ (l : List ℕ). write_some_steps w.sector (2 * gate_room w + from) l)
      (range_is_image_piece w.unit image from skip n (ap (λ (k : ℕ). min from k) long) (ap (λ (k : ℕ). min (k - skip) 4096) long))

  -- A unit is filled with at most 255 zeros.
  fill_at_most_255 : (u : WriteUnit) (n : ℕ) → fill_size u n ≤ 255
  fill_at_most_255 Byte n = omega arith
  fill_at_most_255 _ n = omega arith

  -- The operations of a put satisfy `OpsHaveFewBytes` if at most 256 bytes are held back and the block has at most 4096.
  pub put_ops_have_few_bytes : (slot end : ℕ) → length s.held.now ≤ 256 → length s.block.now ≤ 4096
      → OpsHaveFewBytes s front (operations w (Put slot end (length s.held.now) (length s.block.now)))
  put_ops_have_few_bytes slot end few most =
      let h = s.held.now in
      let b = s.block.now in
      let whole = whole_part w.unit (length h + length b) in
      let le : (if length h == 0 then 0 else min (unit_size w.unit) whole) ≤ whole = by_test (length h == 0) in
      let both = length-append h b in (
        (omega (arith, le, few, most), omega (arith, le, both)),
        ((omega (arith, few, most), omega (arith, le, both)), tt),
      )
    where
      by_test : (c : Bool) → (if c then 0 else min (unit_size w.unit) (whole_part w.unit (length s.held.now + length s.block.now)))
          ≤ whole_part w.unit (length s.held.now + length s.block.now)
      by_test true = omega arith
      by_test false = omega arith

  -- The operations that write a part of an image satisfy `OpsHaveFewBytes`.
  pub image_ops_have_few_bytes : (from : ℕ) → OpsHaveFewBytes s front (operations w (Image from (length s.block.now)))
  image_ops_have_few_bytes from =
      let most = fill_at_most_255 w.unit (length s.block.now) in
      ((omega arith, omega (arith, most, length-append s.held.now s.block.now)), tt)

-- The steps of a format's current part follow from its phase and the inputs of its writes.
pub part_in : (f : Formatting) (size : ℕ) (s : WriteInputs) → s.unit ≡ f.unit → s.sector ≡ f.sector → (x : FormatStep) → f.phase ≡ x
    → part_steps (input_grain s) (size / 2) s.block.now f.register x ≡ steps_of_part f size s.block.now
part_in f size s unit sector x is = λ i. part_steps (grain_of (unit i) (sector i)) (size / 2) s.block.now f.register (sym is i)
