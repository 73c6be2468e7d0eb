-- The writes of a job lie within the spare slot.
use Rattle.std.proofs.Common.{◌≡◌, ◌⊎◌, inl, inr, ◌==◌, ◌&&◌, not, Bool, true, IsTrue, if◌then◌else◌, ℕ, ◌+◌, ◌*◌, ◌≤◌, List, [], ◌∷◌, length, replicate, false, Option, sym, ap, subst, arith, length-append}
use Rattle.std.proofs.lemmas.List.{length-replicate}
use Rattle.std.proofs.lemmas.Bool.{cases_eq, ne_eqb, and_parts, eqb-true}
use Rattle.dfu_slots.specs.Units.{Grain, gate_size, gate_room, filled_units}
use Rattle.dfu_slots.specs.Medium.{MediumState, Write}
use Rattle.dfu_slots.specs.Layout.{OPEN, slot_size, gate_unit, header_unit}
use Rattle.dfu_slots.specs.Image.{gate_of, spare_at}
use Rattle.dfu_slots.specs.Writes.{closed_gate, erasing_write, put_writes, held_writes, open_writes}
use Rattle.dfu_slots.specs.StoreView.{SlotsState, is_begun, room_of}
use Rattle.dfu_slots.specs.Store.{IsStore}
use Rattle.dfu_slots.proofs.Stands.{sized_medium_has_two_slots, active_image_at_its_place}
use Rattle.dfu_slots.proofs.Newest.{spare_place_ends_within}
use Rattle.dfu_slots.proofs.Series.{AllWritesInside, chosen_writes_inside, appended_writes_inside}
use Rattle.dfu_slots.proofs.WritesWithErases.{write_with_erases_inside, write_some_lies_inside}
use Rattle.dfu_slots.proofs.Sectors.{IsSectorEdge, edge_sum_is_edge, gate_unit_at_least_16, gate_room_at_least_16}
use Rattle.dfu_slots.proofs.Edges.{second_slot_begins_sector, spare_begins_at_edge}
use Rattle.dfu_slots.proofs.PutWrites.{put_writes_lie_inside}
use Rattle.dfu_slots.proofs.Parts.{gate_unit_has_size, header_unit_has_size}
use Rattle.dfu_slots.proofs.Multiples.{held_bytes_end_at_put_end, filled_held_fits_capacity}
use Rattle.dfu_slots.proofs.VisibleStores.{room_is_capacity}
use Rattle.dfu_device.specs.declared.device_state.DeviceState.{DeviceState}
use Rattle.dfu_device.specs.declared.device_state.DeviceState.TheVariants as device_state
use Rattle.dfu_device.specs.Parts.{is_put, are_device_parts}
use Rattle.dfu_asks.specs.declared.pending_writes.SlotWrite.{SlotWrite}
use Rattle.dfu_asks.specs.declared.pending_writes.SlotWrite.TheVariants as slot_write
use Rattle.dfu_asks.specs.declared.pending_writes.PendingWrites.{PendingWrites}
use Rattle.dfu_asks.specs.Lent.{LentDevice}
use Rattle.dfu_asks.specs.Carried.{WritesWithin}
use Rattle.dfu_asks.specs.Series.{held_before_block}
use Rattle.dfu_asks.specs.Jobs.{held_bytes_place, job_writes}
use Rattle.dfu_asks.specs.Asks.{grain_in, IsBlockJob, IsCommitJob, IsDueJobOfMode, IsWorkingForRow, writes_in}
use Rattle.dfu_asks.proofs.Working.{NextBlockFits, IsAll, unwritten_block_may_be_written, due_commit_commits_all_puts}

-- If writes lie within a range, they lie within every medium that reaches the end of that range.
pub writes_inside_are_within : (ws : List Write) (from to size : ℕ) → AllWritesInside from to ws → to ≤ size → WritesWithin ws size
writes_inside_are_within [] from to size inside le = tt
writes_inside_are_within (w ∷ ws) from to size (low, high, inside) le = (omega arith, writes_inside_are_within ws from to size inside le)

-- If writes lie within a range, they lie within the range that begins one byte earlier.
writes_inside_wider_range : (ws : List Write) (from to : ℕ) → AllWritesInside (from + 1) to ws → AllWritesInside from to ws
writes_inside_wider_range [] from to inside = tt
writes_inside_wider_range (w ∷ ws) from to (low, high, inside) = (omega (arith, low), high, writes_inside_wider_range ws from to inside)

-- Closing a gate writes no more bytes than the gate occupies.
pub closed_gate_fits_in_room : (w : Grain) → length (closed_gate w) ≤ gate_room w
closed_gate_fits_in_room w = by_test (w.sector == 0)
  where
    by_test : (b : Bool) → length (if b then gate_unit (gate_size w.unit) 0 else replicate w.sector 255) ≤ gate_room w
    by_test true = omega (arith, gate_unit_has_size (gate_size w.unit) 0 (gate_unit_at_least_16 w.unit))
    by_test false = omega (arith, length-replicate {A = ℕ} w.sector 255)

module _ (s : SlotsState) (store : IsStore s) (w : Grain) (grain : s.medium.grain ≡ w) where
  abbrev g : ℕ
  g = gate_of s.medium

  gate : g ≡ gate_room w
  gate = ap gate_room grain

  abbrev place : ℕ
  place = spare_at g s.medium.bytes

  abbrev to : ℕ
  to = place + slot_size s.medium.bytes

  -- The spare slot begins at a sector edge.
  pub spare_place_is_edge : IsSectorEdge w.sector place
  spare_place_is_edge = subst (λ (x : Grain). IsSectorEdge x.sector place) grain (spare_begins_at_edge s.medium
      store.has_image.active.sized)

  -- The spare slot ends at a sector edge.
  pub spare_end_is_edge : IsSectorEdge w.sector to
  spare_end_is_edge =
      let sized = store.has_image.active.sized in
      edge_sum_is_edge w.sector place (slot_size s.medium.bytes) spare_place_is_edge
      (subst (λ (x : Grain). IsSectorEdge x.sector (slot_size s.medium.bytes)) grain
      (second_slot_begins_sector s.medium.grain s.medium.bytes (sized_medium_has_two_slots s.medium sized) sized.whole))

  spare_room_fills_slot : 2 * g + room_of s ≡ slot_size s.medium.bytes
  spare_room_fills_slot = omega (arith, room_is_capacity s, store.has_image.active.sized.room)

  -- A `put` doesn't write the first byte of the spare slot, which marks the gate as open or closed.
  pub put_writes_after_gate : (n : ℕ) (b : List ℕ) (held : List ℕ) → length held ≤ n → n + length b ≤ room_of s
      → AllWritesInside (place + 1) to (put_writes w (held_bytes_place w place n held) held b)
  put_writes_after_gate n b held le room =
      put_writes_lie_inside w held b (place + 1) to (held_bytes_place w place n held) spare_end_is_edge (omega (
        arith,
        gate_room_at_least_16 w,
      ))
      (omega (arith, length-append held b, le, room, spare_room_fills_slot, gate))

  -- The writes of the held-back bytes don't include the first byte of the spare slot, which marks the gate as open or closed.
  pub held_writes_after_gate : (n : ℕ) → s.put_end ≡ n
      → AllWritesInside (place + 1) to (held_writes w (held_bytes_place w place n s.held) s.held)
  held_writes_after_gate n here =
      write_some_lies_inside w.sector (place + 1) to (held_bytes_place w place n s.held) (filled_units w.unit s.held) spare_end_is_edge
      (omega (arith, gate_room_at_least_16 w))
      (omega (
        arith,
        here,
        gate,
        filled_held_fits_capacity s store.puts store.has_image.active.sized.whole.units,
        room_is_capacity s,
        spare_room_fills_slot,
        ap (λ (x : Grain). length (filled_units x.unit s.held)) grain,
      ))

  -- The writes of the header don't include the first byte of the spare slot, which marks the gate as open or closed.
  pub header_writes_after_gate : (n gen crc : ℕ)
      → AllWritesInside (place + 1) to (erasing_write w.sector (place + gate_room w) (header_unit (gate_size w.unit) gen n crc))
  header_writes_after_gate n gen crc =
      write_with_erases_inside w.sector (place + 1) to (place + gate_room w) (header_unit (gate_size w.unit) gen n crc) spare_end_is_edge
      (omega (arith, gate_room_at_least_16 w)) (omega (
        arith,
        header_unit_has_size (gate_size w.unit) gen n crc (gate_unit_at_least_16
            w.unit),
        spare_room_fills_slot,
        gate,
      ))

  -- The writes of a block job lie within the spare slot, if the block fits in the room.
  block_writes_inside_spare : (n : ℕ) (b : List ℕ) (close : Bool) (held : List ℕ) → length held ≤ n → n + length b ≤ room_of s
      → AllWritesInside place to (job_writes (slot_write.Block place close) w n held b)
  block_writes_inside_spare n b close held le room =
      let put = put_writes w (held_bytes_place w place n held) held b in
      appended_writes_inside place to (if close then record { at = place; bytes = closed_gate w } ∷ [] else []) put
      (chosen_writes_inside place to close (record { at = place; bytes = closed_gate w } ∷ []) []
      (omega arith, omega (arith, closed_gate_fits_in_room w, spare_room_fills_slot, gate), tt) tt)
      (writes_inside_wider_range put place to (put_writes_after_gate n b held le room))

  -- The writes of a commit job lie within the spare slot, if it commits all bytes that were put into the slot.
  commit_writes_stay_in_spare : (n gen crc : ℕ) (b : List ℕ) → s.put_end ≡ n
      → AllWritesInside place to (job_writes (slot_write.Commit place gen crc) w n s.held b)
  commit_writes_stay_in_spare n gen crc b here =
      let part = held_writes w (held_bytes_place w place n s.held) s.held in
      let header = erasing_write w.sector (place + gate_room w) (header_unit (gate_size w.unit) gen n crc) in
      let last = erasing_write w.sector place (gate_unit (gate_size w.unit) OPEN) in
      appended_writes_inside place to part (open_writes w place gen n crc) (writes_inside_wider_range part place to (held_writes_after_gate
      n here))
      (appended_writes_inside place to header last (writes_inside_wider_range header place to (header_writes_after_gate n gen crc))
      (write_with_erases_inside w.sector place to place (gate_unit (gate_size w.unit) OPEN) spare_end_is_edge (omega arith)
      (omega (arith, gate_unit_has_size (gate_size w.unit) OPEN (gate_unit_at_least_16 w.unit), spare_room_fills_slot, gate))))

  held_few_before_block : (n : ℕ) → ¬ (n ≡ 0) → (n ≡ 0) ⊎ (is_put n s ≡ true) → length s.held ≤ n
  held_few_before_block n some (inl none) = absurd (some none)
  held_few_before_block n some (inr put) = omega (
    arith,
    held_bytes_end_at_put_end s store.puts,
    eqb-true _ _ (and_parts (is_begun s)
        (s.put_end == n) put).1,
  )

  -- No more bytes are held back before a block than were put into the spare slot.
  pub held_no_more_than_put : (n : ℕ) → (n ≡ 0) ⊎ (is_put n s ≡ true) → length (held_before_block s n) ≤ n
  held_no_more_than_put n before = elim (cases_eq n 0) [
    | inl none ↦ subst (λ (c : Bool). length (if c then [] else s.held) ≤ n) (sym (ap (λ (k : ℕ). k == 0) none)) (omega arith)
    | inr some ↦ subst (λ (c : Bool). length (if c then [] else s.held) ≤ n) (sym (ne_eqb n 0 some)) (held_few_before_block n some before)
  ]

  -- The writes of a due block lie within the spare slot, if the block fits in the room.
  block_job_lies_inside_spare : (b held : List ℕ) (end : ℕ) (j : SlotWrite)
      → (n : ℕ) → NextBlockFits s n (length b) → IsBlockJob n s j end held → AllWritesInside place to (job_writes j w end held b)
  block_job_lies_inside_spare b held end j n next is = subst (λ (ws : List Write). AllWritesInside place to ws)
      (λ i. job_writes (sym is.job_is i) w (sym is.end_is i) (sym is.held_is i) b)
      (block_writes_inside_spare n b ((n == 0) && not (is_begun s)) (held_before_block s n) (held_no_more_than_put n next.before) next.room)

  -- The writes of a due commit lie within the spare slot, if it commits all bytes that were put into the slot.
  commit_job_lies_inside_spare : (b held : List ℕ) (end : ℕ) (j : SlotWrite)
      → (n : ℕ) → IsAll s n → IsCommitJob n s j end held → AllWritesInside place to (job_writes j w end held b)
  commit_job_lies_inside_spare b held end j n whole is = subst (λ (ws : List Write). AllWritesInside place to ws)
      (λ i. job_writes (sym is.job_is i) w (sym is.end_is i) (sym is.held_is i) b)
      (commit_writes_stay_in_spare n _ _ b (eqb-true _ _ (and_parts (is_begun s) (s.put_end == n) whole.put).1))

  -- The writes of the due row lie within the spare slot.
  pub due_writes_inside_spare : (b held : List ℕ) (end : ℕ) (j : SlotWrite)
      → (m : DeviceState) (asked : Option ℕ) (len : ℕ) → IsTrue (are_device_parts m (length b) s) → IsDueJobOfMode m asked len s j end held
      → AllWritesInside place to (job_writes j w end held b)
  due_writes_inside_spare b held end j (device_state.DownloadSync n number) asked len sound due =
      block_job_lies_inside_spare b held end j n (unwritten_block_may_be_written n (length b) s sound) due.1
  due_writes_inside_spare b held end j (device_state.DownloadBusy n number passed) asked len sound due =
      block_job_lies_inside_spare b held end j n (unwritten_block_may_be_written n (length b) s sound) due.1
  due_writes_inside_spare b held end j (device_state.ManifestSync n) asked len sound due = commit_job_lies_inside_spare b held end j n
      (due_commit_commits_all_puts n s sound) due.1
  due_writes_inside_spare b held end j (device_state.Manifest n passed) asked len sound due = commit_job_lies_inside_spare b held end j n
      (due_commit_commits_all_puts n s sound) due.1
  due_writes_inside_spare b held end j m asked len sound due = absurd due

  pub spare_slot_in_medium : to ≤ length s.medium.bytes
  spare_slot_in_medium = spare_place_ends_within g s.medium.bytes (active_image_at_its_place store.has_image.active).sized

-- The pending writes of a device lie within its flash.
pub work_writes_within_flash : (a : LentDevice) (w : PendingWrites) (len : ℕ) (s : SlotsState) (flash : List ℕ) →
    IsWorkingForRow a w len s flash
    → WritesWithin (writes_in a w) (length flash)
work_writes_within_flash a w len s flash k =
    let bytes : s.medium.bytes ≡ flash = ap (λ (x : MediumState). x.bytes) k.medium in
    writes_inside_are_within (writes_in a w) (spare_at (gate_of s.medium) s.medium.bytes)
    (spare_at (gate_of s.medium) s.medium.bytes + slot_size s.medium.bytes)
    (length flash)
    (due_writes_inside_spare s k.store (grain_in a) (ap (λ (x : MediumState). x.grain) k.medium) a.block a.held a.put_end w.job
    a.mode w.asked len k.sound k.due)
    (omega (arith, spare_slot_in_medium s k.store (grain_in a) (ap (λ (x : MediumState). x.grain) k.medium), ap length bytes))
