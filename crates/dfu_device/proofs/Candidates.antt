-- Lemmas about the location of an image that was received and is not active yet.
use Rattle.std.proofs.Common.{◌≡◌, ℕ, ◌+◌, ◌-◌, ◌*◌, ◌%◌, ◌≤◌, IsTrue, List, ◌++◌, length, take, drop, slice_range, Option, Some, None, refl, sym, ◌∙◌, ap, subst, arith, length-append}
use Rattle.std.proofs.lemmas.Grind.{common_steps}
use Rattle.std.proofs.lemmas.List.{take-take, take_at, length-take-le}
use Rattle.dfu_slots.specs.Units.{unit_size}
use Rattle.dfu_slots.specs.Layout.{slot_size}
use Rattle.dfu_slots.specs.Image.{gate_of, spare_at}
use Rattle.dfu_slots.specs.StoreView.{SlotsState, spare_slot, held_data_place, spare_of, room_of}
use Rattle.dfu_slots.specs.Store.{IsStore}
use Rattle.dfu_slots.proofs.Stands.{active_image_at_its_place}
use Rattle.dfu_slots.proofs.Newest.{spare_place_ends_within}
use Rattle.dfu_slots.proofs.Parts.{data_length}
use Rattle.dfu_slots.proofs.Multiples.{held_bytes_end_at_put_end}
use Rattle.dfu_slots.proofs.VisibleStores.{spare_is_data_with_held}
use Rattle.dfu_device.specs.declared.candidate.Candidate.{Candidate}
use Rattle.dfu_device.specs.declared.device_state.DeviceState.{DeviceState}
use Rattle.dfu_device.specs.declared.device_state.DeviceState.TheVariants as device_state
use Rattle.dfu_device.specs.Parts.{stage_of, are_device_parts}
use Rattle.dfu_device.specs.DeviceView.{DeviceView}
use Rattle.dfu_device.specs.Candidate.{candidate_in, candidate_length, IsCandidate}

module _ (s : SlotsState) (store : IsStore s) where
  abbrev g : ℕ
  g = gate_of s.medium

  abbrev place : ℕ
  place = spare_at g s.medium.bytes

  -- The data of the spare slot ends within the medium.
  pub spare_data_ends_within : place + slot_size s.medium.bytes ≤ length s.medium.bytes
  spare_data_ends_within = spare_place_ends_within g s.medium.bytes (active_image_at_its_place store.has_image.active).sized

  -- The length of the spare slot's data is that of the slot without its gate and its header.
  slot_data_fills_slot_rest : length (spare_slot s).data_bytes ≡ slot_size s.medium.bytes - 2 * g
  slot_data_fills_slot_rest = data_length g s.medium.bytes place spare_data_ends_within (omega (arith, store.has_image.active.sized.room))

  -- The bytes put are those on the medium, followed by those held back.
  pub put_bytes_are_medium_and_held : take s.put_end (spare_of s)
      ≡ slice_range s.medium.bytes (place + 2 * g) (place + 2 * g + (s.put_end - length s.held)) ++ s.held
  put_bytes_are_medium_and_held =
      let d = (spare_slot s).data_bytes in
      let k = held_data_place s in
      let le : k ≤ length d = omega (arith, slot_data_fills_slot_rest, store.puts.fits) in
      let e : s.put_end ≡ k + length s.held = sym (held_bytes_end_at_put_end s store.puts) in
      let p = place + 2 * g in
      let count : k ≡ p + k - p = omega arith in
      (λ i. take (e i) (spare_is_data_with_held s i))
      ∙ take_at (take k d ++ s.held) (drop (k + length s.held) d) (k + length s.held)
      (omega (arith, length-append (take k d) s.held, length-take-le k d le))
      ∙ ap (λ (l : List ℕ). l ++ s.held)
      (take-take k (place + slot_size s.medium.bytes - p) (drop p s.medium.bytes) (omega (arith, le, slot_data_fills_slot_rest))
      ∙ ap (λ (n : ℕ). take n (drop p s.medium.bytes)) count)

-- First n bytes of the spare slot's data if a length n is given, otherwise None.
abbrev pub front_of : Option ℕ → List ℕ → Option (List ℕ)
front_of (Some n) spare = Some (take n spare)
front_of None spare = None

-- If a length n is given, n bytes were put into the store, and n is at most the store's capacity. True without a length.
abbrev pub IsPutLength : Option ℕ → SlotsState → Type 0
IsPutLength (Some n) s = (n ≡ s.put_end) × (n ≤ room_of s)
IsPutLength None s = Unit {0}

-- The candidate of a mode's stage is a prefix of the spare slot's data, and candidate_length of the mode is its length.
pub stage_candidate_is_spare_front : (m : DeviceState) (spare block : List ℕ) → candidate_in (stage_of m spare block)
    ≡ front_of (candidate_length m) spare
stage_candidate_is_spare_front (device_state.DownloadIdle written number) spare block = refl
stage_candidate_is_spare_front (device_state.ManifestSync written) spare block = refl
stage_candidate_is_spare_front (device_state.Manifest written passed) spare block = refl
stage_candidate_is_spare_front m spare block = refl

-- If a mode has a candidate, the candidate's length is the number of bytes put into the store, and is at most the store's capacity.
pub candidate_length_was_put : (m : DeviceState) (b : ℕ) (s : SlotsState) → IsTrue (are_device_parts m b s) →
    IsPutLength (candidate_length m) s
candidate_length_was_put (device_state.DownloadIdle written number) b s sound = (
  sym (grind (arith, common_steps)),
  grind (
    arith,
    common_steps,
  ),
)
candidate_length_was_put (device_state.ManifestSync written) b s sound = (sym (grind (arith, common_steps)), grind (arith, common_steps))
candidate_length_was_put (device_state.Manifest written passed) b s sound = (sym (grind (arith, common_steps)), grind (arith, common_steps))
candidate_length_was_put m b s sound = tt

-- A candidate of n bytes satisfies IsCandidate if `at` is the beginning of the spare slot's data, and `stored` is the number of bytes in
-- the whole units of n.
pub candidate_is : (w : DeviceView) (m : DeviceState) (block : List ℕ) (c : Candidate) (n : ℕ)
    → w.stage ≡ stage_of m (spare_of w.slots) block
    → IsTrue (are_device_parts m (length block) w.slots) → IsStore w.slots → candidate_length m ≡ Some n
    → c.at ≡ spare_at (gate_of w.slots.medium) w.slots.medium.bytes + 2 * gate_of w.slots.medium
    → c.stored ≡ n - n % unit_size w.slots.medium.grain.unit → IsCandidate w c
candidate_is w m block c n stage sound store len at stored =
    let s = w.slots in
    let end : n ≡ s.put_end = (subst (λ (o : Option ℕ). IsPutLength o s) len (candidate_length_was_put m (length block) s sound)).0 in
    let count : c.stored ≡ s.put_end - length s.held =
    stored ∙ ap (λ (k : ℕ). k - k % unit_size s.medium.grain.unit) end ∙ ap (λ (k : ℕ). s.put_end - k) (sym store.puts.part) in
    record {
      taken = take n (spare_of s);
      is = ap candidate_in stage ∙ stage_candidate_is_spare_front m (spare_of s) block ∙ ap (λ (o : Option ℕ). front_of o (spare_of s)) len;
      place = omega (arith, at);
      within = omega (arith, at, count, store.puts.fits, spare_data_ends_within s store, store.has_image.active.sized.room);
      bytes = (λ i. slice_range s.medium.bytes (at i) (at i + count i) ++ s.held) ∙ sym (put_bytes_are_medium_and_held s store)
          ∙ ap (λ (k : ℕ). take k (spare_of s)) (sym end);
    }
