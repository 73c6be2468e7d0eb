-- While writes are pending, the gate of the spare slot is closed, or no write has changed the medium yet.
use Rattle.std.proofs.Common.{◌≡◌, ◌≢◌, ◌⊎◌, inl, inr, ⊎_elim, ◌==◌, ◌&&◌, not, Bool, true, false, IsTrue, if◌then◌else◌, ℕ, zero, suc, ◌+◌, ◌-◌, ◌/◌, ◌≤◌, ◌<◌, List, [], ◌∷◌, ◌++◌, length, take, replicate, slice_index, Option, refl, sym, ◌∙◌, ap, subst, arith}
use Rattle.std.proofs.lemmas.Bool.{cases_eq, and_parts, eqb-true, ne_eqb, cond-true, cond-false}
use Rattle.std.proofs.lemmas.List.{length-take, length-replicate, append_assoc}
use Rattle.dfu_slots.specs.Units.{Grain, IsWhole, gate_size, gate_room, filled_units}
use Rattle.dfu_slots.specs.Medium.{MediumState, Write, written}
use Rattle.dfu_slots.specs.Layout.{OPEN, slot_size, gate_unit, header_unit}
use Rattle.dfu_slots.specs.Image.{gate_of, capacity_of, spare_at, HasImage}
use Rattle.dfu_slots.specs.Writes.{erase_write, sector_erases, closed_gate, erasing_write, put_writes, held_writes}
use Rattle.dfu_slots.specs.StoreView.{SlotsState, is_begun}
use Rattle.dfu_slots.specs.Store.{IsStore}
use Rattle.dfu_slots.proofs.Newest.{tested_places_are_slots}
use Rattle.dfu_slots.proofs.BytesOutsideWrite.{whole_write_is_torn, written_bytes_in_range, range_begins_there}
use Rattle.dfu_slots.proofs.Series.{AllWritesInside, appended_writes_inside}
use Rattle.dfu_slots.proofs.Sectors.{gate_unit_at_least_16, gate_unit_at_most_256}
use Rattle.dfu_slots.proofs.ErasedTo.{first_sector_is_erased_first}
use Rattle.dfu_slots.proofs.WritesWithinRanges.{empty_write_keeps_all}
use Rattle.dfu_slots.proofs.Parts.{gate_unit_has_size}
use Rattle.dfu_slots.proofs.VisibleStores.{begun_gate_is_closed}
use Rattle.dfu_device.specs.declared.device_state.DeviceState.{DeviceState}
use Rattle.dfu_device.specs.declared.device_state.DeviceState.TheVariants as device_state
use Rattle.dfu_device.specs.Parts.{are_device_parts}
use Rattle.dfu_asks.specs.declared.pending_writes.SlotWrite.{SlotWrite}
use Rattle.dfu_asks.specs.declared.pending_writes.SlotWrite.TheVariants as slot_write
use Rattle.dfu_asks.specs.Lent.{LentDevice}
use Rattle.dfu_asks.specs.Mapped.{mapped_medium}
use Rattle.dfu_asks.specs.Steps.{Step, step_writes, steps_of_writes, program_step, write_anew_steps, write_some_steps}
use Rattle.dfu_asks.specs.Carried.{total, bytes_after_writes, IsStepPiece, EndsAtPiece}
use Rattle.dfu_asks.specs.Series.{held_before_block}
use Rattle.dfu_asks.specs.Jobs.{held_bytes_place, job_writes, job_steps}
use Rattle.dfu_asks.specs.Asks.{IsBlockJob, IsCommitJob, IsDueJobOfMode, grain_in, writes_in, steps_in}
use Rattle.dfu_asks.specs.Calls.{WritesPending}
use Rattle.dfu_asks.proofs.SeriesBytes.{no_bytes_carried}
use Rattle.dfu_asks.proofs.Working.{NextBlockFits, IsAll, unwritten_block_may_be_written, due_commit_commits_all_puts}
use Rattle.dfu_asks.proofs.Steps.{erases_before_write, step_writes_append, marking_keeps_writes, anew_steps_are_writes, some_steps_are_writes, job_steps_are_writes}
use Rattle.dfu_asks.proofs.PartialSeries.{byte_before_series_stays, series_keeps_length, last_write_has_no_effect_yet, lists_carried_one_after_other, last_step_is_one_piece, piece_lies_in_range}
use Rattle.dfu_asks.proofs.Bits.{IsPartOfWrites, piece_is_part_of_writes}
use Rattle.dfu_asks.proofs.Inside.{closed_gate_fits_in_room, writes_inside_are_within, spare_place_is_edge, put_writes_after_gate, held_writes_after_gate, header_writes_after_gate, held_no_more_than_put, due_writes_inside_spare, spare_slot_in_medium}

-- The first element of a nonempty prefix is that of the whole list.
front_begins_with_first : (n x : ℕ) (xs : List ℕ) → 0 < n → take n (x ∷ xs) ≡ x ∷ take (n - 1) xs
front_begins_with_first zero x xs lt = absurd (omega (arith, lt))
front_begins_with_first (suc n) x xs lt = let e : n ≡ suc n - 1 = omega arith in ap (λ (k : ℕ). x ∷ take k xs) e

-- Once at least one byte of a write is written, the medium contains the write's first byte.
first_byte_is_written : (m : List ℕ) (at n x : ℕ) (bytes xs : List ℕ) → bytes ≡ x ∷ xs → 0 < n → at + length bytes ≤ length m
    → slice_index (written m at (take n bytes)) at ≡ x
first_byte_is_written m at n x bytes xs is some room =
    let front = take n bytes in
    let count = length-take n bytes in
    let fits : at + length front ≤ length m = omega (arith, count, room) in
    range_begins_there (written m at front) at (at + length front) x (take (n - 1) xs)
    (omega (arith, count, ap length is, some))
    (written_bytes_in_range m at front fits ∙ ap (λ (l : List ℕ). take n l) is ∙ front_begins_with_first n x xs some)

-- The bytes close a gate: their first byte is not the byte that marks an open gate.
record ClosesGate (bytes : List ℕ) : Type 0 where
  first : ℕ
  rest : List ℕ
  is : bytes ≡ first ∷ rest
  shut : first ≢ OPEN

-- One or more bytes FFh close a gate.
ff_bytes_close_gate : (n : ℕ) → 0 < n → ClosesGate (replicate n 255)
ff_bytes_close_gate zero some = absurd (omega (arith, some))
ff_bytes_close_gate (suc n) some = record { first = 255; rest = replicate n 255; is = refl; shut = λ e. omega (arith, e) }

-- `closed_gate` begins with 00h or FFh, and so closes a gate.
closed_gate_closes : (w : Grain) → ClosesGate (closed_gate w)
closed_gate_closes w = elim (cases_eq w.sector 0) [
  | inl none ↦
      let e : (w.sector == 0) ≡ true = ap (λ (k : ℕ). k == 0) none in
      subst (λ (b : Bool). ClosesGate (if b then gate_unit (gate_size w.unit) 0 else replicate w.sector 255)) (sym e)
      (record { first = 0; rest = replicate (gate_size w.unit - 1) 0; is = refl; shut = λ e. omega (arith, e) })
  | inr some ↦
      subst (λ (b : Bool). ClosesGate (if b then gate_unit (gate_size w.unit) 0 else replicate w.sector 255)) (sym (ne_eqb w.sector 0 some))
      (ff_bytes_close_gate w.sector (omega (arith, some)))
]

-- A gate that is not open stays so while closing bytes are written over it, in whole or in part.
torn_close_stays_closed : (m : List ℕ) (at n : ℕ) (bytes : List ℕ) → ClosesGate bytes → at + length bytes ≤ length m →
    slice_index m at ≢ OPEN
    → slice_index (written m at (take n bytes)) at ≢ OPEN
torn_close_stays_closed m at n bytes c room off = elim (cases_eq n 0) [
  | inl none ↦ λ e. off (sym (ap (λ (k : ℕ). slice_index (written m at (take k bytes)) at) none
      ∙ ap (λ (l : List ℕ). slice_index l at) (empty_write_keeps_all m at)) ∙ e)
  | inr some ↦ λ e. c.shut (sym (first_byte_is_written m at n c.first bytes c.rest c.is (omega (arith, some)) room) ∙ e)
]

-- State of the spare slot's gate during the writes of a row.

module _ (s : SlotsState) (store : IsStore s) (w : Grain) (grain : s.medium.grain ≡ w) where
  abbrev place : ℕ
  place = spare_at (gate_of s.medium) s.medium.bytes

  abbrev to : ℕ
  to = place + slot_size s.medium.bytes

  abbrev m : List ℕ
  m = s.medium.bytes

  -- No write has changed the medium yet, or the gate of the spare slot is closed.
  abbrev pub IsUntouchedOrClosed : List ℕ → Type 0
  IsUntouchedOrClosed now = (now ≡ m) ⊎ (slice_index now place ≢ OPEN)

  -- If the store is begun, the gate stays closed during writes behind its first byte.
  later_writes_keep_gate_closed : (ws : List Write) (n : ℕ) → is_begun s ≡ true → AllWritesInside (place + 1) to ws
      → slice_index (bytes_after_writes m ws n) place ≢ OPEN
  later_writes_keep_gate_closed ws n begun inside e =
      begun_gate_is_closed s begun (sym (byte_before_series_stays ws m n place to (spare_slot_in_medium s store w grain) inside) ∙ e)

  spare_gate_within_medium : place + gate_room w ≤ length m
  spare_gate_within_medium = omega (arith, spare_slot_in_medium s store w grain, store.has_image.active.sized.room, ap gate_room grain)

  block_writes_keep_gate_closed : (close : Bool) (n k : ℕ) (held b : List ℕ) → (close ≡ false → is_begun s ≡ true)
      → AllWritesInside (place + 1) to (put_writes w (held_bytes_place w place n held) held b)
      → IsUntouchedOrClosed (bytes_after_writes m (job_writes (slot_write.Block place close) w n held b) k)
  block_writes_keep_gate_closed false n k held b begun inside = inr (later_writes_keep_gate_closed _ k (begun refl) inside)
  block_writes_keep_gate_closed true n k held b begun inside =
      let ws = put_writes w (held_bytes_place w place n held) held b in
      let closed : Write = record { at = place; bytes = closed_gate w } in
      let mid = written m place (take k (closed_gate w)) in
      let c = closed_gate_closes w in
      elim (cases_eq k 0) [
        | inl none ↦ inl (ap (λ (i : ℕ). bytes_after_writes m (closed ∷ ws) i) none ∙ no_bytes_carried (closed ∷ ws) m)
        | inr some ↦
            let room : place + length (closed_gate w) ≤ length m = omega (arith, spare_gate_within_medium, closed_gate_fits_in_room w) in
            let fits = whole_write_is_torn m place (take k (closed_gate w)) (omega (arith, length-take k (closed_gate w), room)) in
            let byte : slice_index (bytes_after_writes m (closed ∷ ws) k) place ≡ c.first =
            byte_before_series_stays ws mid (k - length (closed_gate w)) place to (omega (
              arith,
              fits.size,
              spare_slot_in_medium s store
                  w grain,
            )) inside
            ∙ first_byte_is_written m place k c.first (closed_gate w) c.rest c.is (omega (arith, some)) room in
            inr (λ e. c.shut (sym byte ∙ e))
      ]

  -- The erase before the write of a gate leaves the gate closed.
  gate_erase_keeps_closed : (now : List ℕ) (n : ℕ) → length now ≡ length m → slice_index now place ≢ OPEN
      → slice_index (bytes_after_writes now (erases_before_write w.sector place (gate_unit (gate_size w.unit) OPEN)) n) place ≢ OPEN
  gate_erase_keeps_closed now n size off = elim (cases_eq w.sector 0) [
    | inl none ↦
        let e : erases_before_write w.sector place (gate_unit (gate_size w.unit) OPEN) ≡ [] =
        cond-true (w.sector == 0) [] (sector_erases w.sector place (length (gate_unit (gate_size w.unit) OPEN)))
        (ap (λ (k : ℕ). k == 0) none) in
        subst (λ (ws : List Write). slice_index (bytes_after_writes now ws n) place ≢ OPEN) (sym e) off
    | inr some ↦
        let count : length (gate_unit (gate_size w.unit) OPEN) ≡ gate_size w.unit =
        gate_unit_has_size (gate_size w.unit) OPEN (gate_unit_at_least_16 w.unit) in
        let whole = subst (λ (x : Grain). IsWhole x (capacity_of s.medium)) grain store.has_image.active.sized.whole in
        let large : 256 ≤ w.sector = omega (arith, some, whole.pages) in
        let few : gate_size w.unit ≤ w.sector = omega (arith, large, gate_unit_at_most_256 w.unit) in
        let none : length (gate_unit (gate_size w.unit) OPEN) - w.sector ≡ 0 = omega (arith, count, few) in
        let e : erases_before_write w.sector place (gate_unit (gate_size w.unit) OPEN) ≡ erase_write w.sector place ∷ [] =
        cond-false (w.sector == 0) [] (sector_erases w.sector place (length (gate_unit (gate_size w.unit) OPEN))) (ne_eqb w.sector 0 some)
        ∙ first_sector_is_erased_first w.sector place (length (gate_unit (gate_size w.unit) OPEN)) (omega (arith, large))
        (spare_place_is_edge s store w grain (omega (arith, large))) (omega (arith, count, gate_unit_at_least_16 w.unit))
        ∙ ap (λ (k : ℕ). erase_write w.sector place ∷ sector_erases w.sector (place + w.sector) k) none in
        subst (λ (ws : List Write). slice_index (bytes_after_writes now ws n) place ≢ OPEN) (sym e)
        (torn_close_stays_closed now place n (replicate w.sector 255) (ff_bytes_close_gate w.sector (omega (arith, large)))
        (omega (arith, length-replicate {A = ℕ} w.sector 255, size, spare_gate_within_medium)) off)
  ]

  commit_keeps_gate_until_last : (n gen crc k : ℕ) (held b : List ℕ) → is_begun s ≡ true
      → AllWritesInside (place + 1) to (held_writes w (held_bytes_place w place n held) held)
      → EndsAtPiece (job_steps (slot_write.Commit place gen crc) w n held b) k
      → k < total (job_writes (slot_write.Commit place gen crc) w n held b)
      → IsUntouchedOrClosed (bytes_after_writes m (job_writes (slot_write.Commit place gen crc) w n held b) k)
  commit_keeps_gate_until_last n gen crc k held b begun inside reached left =
      let bytes = gate_unit (gate_size w.unit) OPEN in
      let part = write_some_steps w.sector (held_bytes_place w place n held) (filled_units w.unit held) in
      let head = write_anew_steps w.sector (place + gate_room w) (header_unit (gate_size w.unit) gen n crc) in
      let erase = steps_of_writes true (erases_before_write w.sector place bytes) in
      let gate : Step = program_step place bytes in
      let front = part ++ head ++ erase in
      let same : front ++ gate ∷ [] ≡ job_steps (slot_write.Commit place gen crc) w n held b =
      append_assoc (part ++ head) erase (gate ∷ []) ∙ append_assoc part head (erase ++ gate ∷ []) in
      let writes : step_writes (front ++ gate ∷ []) ≡ job_writes (slot_write.Commit place gen crc) w n held b =
      ap step_writes same ∙ job_steps_are_writes (slot_write.Commit place gen crc) w n held b in
      let le : k ≤ total (step_writes front) = last_step_is_one_piece front gate k
      (omega (arith, gate_unit_has_size (gate_size w.unit) OPEN (gate_unit_at_least_16 w.unit), gate_unit_at_most_256 w.unit))
      (subst (λ (ss : List Step). EndsAtPiece ss k) (sym same) reached)
      (subst (λ (ws : List Write). k < total ws) (sym writes) left) in
      let ps = held_writes w (held_bytes_place w place n held) held in
      let hs = erasing_write w.sector (place + gate_room w) (header_unit (gate_size w.unit) gen n crc) in
      let es = erases_before_write w.sector place bytes in
      let front_is : step_writes front ≡ (ps ++ hs) ++ es =
      step_writes_append (part ++ head) erase
      ∙ ap (λ (ws : List Write). ws ++ step_writes erase) (step_writes_append part head)
      ∙ (λ i. some_steps_are_writes w.sector (held_bytes_place w place n held) (filled_units w.unit held) i
      ++ anew_steps_are_writes w.sector (place + gate_room w) (header_unit (gate_size w.unit) gen n crc) i
      ++ marking_keeps_writes true es i) in
      let within = appended_writes_inside (place + 1) to ps hs inside (header_writes_after_gate s store w grain n gen crc) in
      let is : bytes_after_writes m (job_writes (slot_write.Commit place gen crc) w n held b) k ≡ bytes_after_writes
      (bytes_after_writes m (ps ++ hs) k) es (k - total (ps ++ hs)) =
      ap (λ (ws : List Write). bytes_after_writes m ws k) (sym writes ∙ step_writes_append front (gate ∷ []))
      ∙ last_write_has_no_effect_yet (step_writes front) gate.write m k le
      ∙ ap (λ (ws : List Write). bytes_after_writes m ws k) front_is
      ∙ lists_carried_one_after_other (ps ++ hs) es m k in
      subst IsUntouchedOrClosed (sym is)
      (inr (gate_erase_keeps_closed (bytes_after_writes m (ps ++ hs) k) (k - total (ps ++ hs))
      (series_keeps_length (ps ++ hs) m k (writes_inside_are_within (ps
      ++ hs) (place + 1) to (length m) within (spare_slot_in_medium s store w grain)))
      (later_writes_keep_gate_closed (ps ++ hs) k begun within)))

  begun_unless_gate_closed : (first begun : Bool) → (first && not begun) ≡ false → first ≡ true → begun ≡ true
  begun_unless_gate_closed first true e t = refl
  begun_unless_gate_closed true false e t = sym e
  begun_unless_gate_closed false false e t = t

  block_job_keeps_closed : (b held : List ℕ) (end : ℕ) (j : SlotWrite) (k : ℕ)
      → (n : ℕ) → NextBlockFits s n (length b) → IsBlockJob n s j end held →
      IsUntouchedOrClosed (bytes_after_writes m (job_writes j w end held b) k)
  block_job_keeps_closed b held end j k n next is = subst (λ (ws : List Write). IsUntouchedOrClosed (bytes_after_writes m ws k))
      (λ i. job_writes (sym is.job_is i) w (sym is.end_is i) (sym is.held_is i) b)
      (block_writes_keep_gate_closed ((n == 0) && not (is_begun s)) n k (held_before_block s n) b
      (λ e. ⊎_elim (λ none. begun_unless_gate_closed (n == 0) (is_begun s) e (ap (λ (i : ℕ). i == 0) none))
      (λ put. (and_parts (is_begun s) (s.put_end == n) put).0) next.before)
      (put_writes_after_gate s store w grain n b (held_before_block s n) (held_no_more_than_put s store w grain n next.before) next.room))

  commit_job_keeps_closed : (b held : List ℕ) (end : ℕ) (j : SlotWrite) (k : ℕ)
      → (n : ℕ) → IsAll s n → IsCommitJob n s j end held → EndsAtPiece (job_steps j w end held b) k
      → k < total (job_writes j w end held b) → IsUntouchedOrClosed (bytes_after_writes m (job_writes j w end held b) k)
  commit_job_keeps_closed b held end j k n whole is reached left =
      let put = and_parts (is_begun s) (s.put_end == n) whole.put in
      let same : job_writes j w end held b ≡ job_writes (slot_write.Commit place _ _) w n s.held b =
      (λ i. job_writes (is.job_is i) w (is.end_is i) (is.held_is i) b) in
      let steps : job_steps j w end held b ≡ job_steps (slot_write.Commit place _ _) w n s.held b =
      (λ i. job_steps (is.job_is i) w (is.end_is i) (is.held_is i) b) in
      subst (λ (ws : List Write). IsUntouchedOrClosed (bytes_after_writes m ws k)) (sym same)
      (commit_keeps_gate_until_last n _ _ k s.held b put.0 (held_writes_after_gate s store w grain n (eqb-true _ _ put.1))
      (subst (λ (ss : List Step). EndsAtPiece ss k) steps reached) (subst (λ (ws : List Write). k < total ws) same left))

  -- While writes of the due row are pending, the gate of the spare slot is closed, or no write has changed the medium yet.
  pub due_writes_keep_gate_closed : (b held : List ℕ) (end : ℕ) (j : SlotWrite) (k : ℕ)
      → (m : DeviceState) (asked : Option ℕ) (len : ℕ) → IsTrue (are_device_parts m (length b) s) → IsDueJobOfMode m asked len s j end held
      → EndsAtPiece (job_steps j w end held b) k → k < total (job_writes j w end held b)
      → IsUntouchedOrClosed (bytes_after_writes s.medium.bytes (job_writes j w end held b) k)
  due_writes_keep_gate_closed b held end j k (device_state.DownloadSync n number) asked len sound due reached left =
      block_job_keeps_closed b held end j k n (unwritten_block_may_be_written n (length b) s sound) due.1
  due_writes_keep_gate_closed b held end j k (device_state.DownloadBusy n number passed) asked len sound due reached left =
      block_job_keeps_closed b held end j k n (unwritten_block_may_be_written n (length b) s sound) due.1
  due_writes_keep_gate_closed b held end j k (device_state.ManifestSync n) asked len sound due reached left =
      commit_job_keeps_closed b held end j k n (due_commit_commits_all_puts n s sound) due.1 reached left
  due_writes_keep_gate_closed b held end j k (device_state.Manifest n passed) asked len sound due reached left =
      commit_job_keeps_closed b held end j k n (due_commit_commits_all_puts n s sound) due.1 reached left
  due_writes_keep_gate_closed b held end j k m asked len sound due reached left = absurd due

-- The piece lies within a slot that is the spare slot or has a closed gate.
pub record PieceInClosedSlot (a : LentDevice) (flash : List ℕ) (p : Step) : Type 0 where
  pub slot : ℕ
  pub either : (slot ≡ 0) ⊎ (slot ≡ slot_size flash)
  pub low : slot ≤ p.write.at
  pub high : p.write.at + length p.write.bytes ≤ slot + slot_size flash
  pub shut : (slice_index flash slot ≢ OPEN)
      ⊎ (HasImage (mapped_medium (grain_in a) flash) × (spare_at (gate_of (mapped_medium (grain_in a) flash)) flash ≡ slot))

-- The piece that a device requests lies within a slot that is the spare slot or has a closed gate.
pub asked_piece_in_closed_slot : (a : LentDevice) (len : ℕ) (s : SlotsState) (was flash : List ℕ) (k : WritesPending a len s was flash) (p
    : Step)
    → IsStepPiece (steps_in a k.work) k.work.done p → PieceInClosedSlot a flash p
asked_piece_in_closed_slot a len s was flash k p piece =
    let ws = writes_in a k.work in
    let done = k.work.done in
    let store = k.working.store in
    let medium = k.working.medium in
    let grain : s.medium.grain ≡ grain_in a = ap (λ (x : MediumState). x.grain) medium in
    let bytes : s.medium.bytes ≡ was = ap (λ (x : MediumState). x.bytes) medium in
    let is : flash ≡ bytes_after_writes s.medium.bytes ws done = k.flash_is ∙ ap (λ (l : List ℕ). bytes_after_writes l ws done)
    (sym bytes) in
    let place = spare_at (gate_of s.medium) s.medium.bytes in
    let inside = due_writes_inside_spare s store (grain_in a) grain a.block a.held a.put_end k.work.job a.mode k.work.asked len
    k.working.sound k.working.due in
    let size : length flash ≡ length s.medium.bytes = ap length is
    ∙ series_keeps_length ws s.medium.bytes done (writes_inside_are_within ws place (place + slot_size s.medium.bytes) (length
    s.medium.bytes) inside
    (spare_slot_in_medium s store (grain_in a) grain)) in
    let half : slot_size flash ≡ slot_size s.medium.bytes = ap (λ (n : ℕ). n / 2) size in
    let range = piece_lies_in_range ws done p.write place (place + slot_size s.medium.bytes) inside
    (subst (λ (vs : List Write). IsPartOfWrites vs done p.write) (job_steps_are_writes k.work.job (grain_in a) a.put_end a.held a.block)
    (piece_is_part_of_writes (steps_in a k.work) done p piece)) in
    let shut = due_writes_keep_gate_closed s store (grain_in a) grain a.block a.held a.put_end k.work.job done a.mode k.work.asked len
    k.working.sound k.working.due k.reached k.left in
    record {
      slot = place;
      either = ⊎_elim (λ q. inr (q.1 ∙ sym half)) (λ q. inl q.1) (tested_places_are_slots (gate_of s.medium) s.medium.bytes);
      low = range.0;
      high = omega (arith, range.1, half);
      shut = ⊎_elim
          (λ same.
          let there : mapped_medium (grain_in a) flash ≡ s.medium = ap (λ (l : List ℕ). mapped_medium (grain_in a) l) (is ∙ same ∙ bytes)
          ∙ sym medium in
          inr (subst HasImage (sym there) store.has_image, ap (λ (x : MediumState). spare_at (gate_of x) x.bytes) there))
          (λ off. inl (λ e. off (ap (λ (l : List ℕ). slice_index l place) (sym is) ∙ e))) shut;
    }
