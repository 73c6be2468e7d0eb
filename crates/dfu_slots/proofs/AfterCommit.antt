-- Facts about the store that `commit` leaves.
use Rattle.std.proofs.Common.{◌≡◌, ◌⊎◌, inl, inr, ⊎_elim, ℕ, ◌+◌, ◌≤◌, List, length, take, Result, IsErrOf, ◌↔◌, sym, ◌∙◌, ap, subst, arith}
use Rattle.dfu_suffix.specs.Register.{register}
use Rattle.dfu_slots.specs.declared.fault.PutFault.{PutFault}
use Rattle.dfu_slots.specs.declared.fault.PutFault.TheVariants.{TooLarge, NotBegun}
use Rattle.dfu_slots.specs.Units.{filled_units}
use Rattle.dfu_slots.specs.Medium.{AllWrites, written}
use Rattle.dfu_slots.specs.Layout.{slot_size, slot, HasOpenGate}
use Rattle.dfu_slots.specs.Image.{gate_of, capacity_of, Active, HasImage, spare_at}
use Rattle.dfu_slots.specs.StoreView.{SlotsState, spare_slot, held_data_place, image_of, spare_of, room_of, Commit, writes_of}
use Rattle.dfu_slots.specs.Store.{IsStore}
use Rattle.dfu_slots.specs.Changes.{CallChanges}
use Rattle.dfu_slots.specs.CallResults.{CallIsRefused, StoreCommitResult}
use Rattle.dfu_slots.proofs.Stands.{ActiveAt, active_image_at_its_place}
use Rattle.dfu_slots.proofs.Newest.{test_finds_active_image, slot_place_ends_within}
use Rattle.dfu_slots.proofs.Multiples.{held_bytes_end_at_put_end, filled_held_fits_capacity}
use Rattle.dfu_slots.proofs.Series.{SameSize, writes_keep_size}
use Rattle.dfu_slots.proofs.Committed.{commit_writes_inside_spare, commit_activates_new_image, broken_commit_leaves_either}
use Rattle.dfu_slots.proofs.VisibleStores.{image_is, begun_gate_is_closed, active_on_same_size, room_kept_on_same_size, spare_is_data_with_held, store_is_fresh, medium_makes_fresh_store}
use Rattle.dfu_slots.proofs.AfterCall.{commit_is_refused_by_cause, CallWasNotRefused, holds_after_any_result, holds_after_ok_call, fact_holds_after_err, call_leaves_a_store, calls_share_one_result}

module _ (s now : SlotsState) (store : IsStore s) (len : ℕ) (le : len ≤ s.put_end) (came : CallWasNotRefused s now (Commit len)) where
  abbrev g : ℕ
  g = gate_of s.medium

  abbrev has : HasImage s.medium
  has = store.has_image

  spare_lies_at_tested_place : has.active.spare ≡ spare_at g s.medium.bytes
  spare_lies_at_tested_place = (test_finds_active_image g s.medium.bytes has.active.at has.active.spare has.image (active_image_at_its_place
      has.active)).1

  spare_gate_is_closed : ¬ HasOpenGate (slot g s.medium.bytes has.active.spare)
  spare_gate_is_closed = subst (λ (q : ℕ). ¬ HasOpenGate (slot g s.medium.bytes q)) (sym spare_lies_at_tested_place) (begun_gate_is_closed s
      came.ready)

  register_is_over_held_bytes : register (take len (spare_of s))
      ≡ register (take len (written (spare_slot s).data_bytes (held_data_place s) s.held))
  register_is_over_held_bytes = ap (λ (l : List ℕ). register (take len l)) (spare_is_data_with_held s)

  filled_held_is_within_capacity : held_data_place s + length (filled_units s.medium.grain.unit s.held) ≤ capacity_of s.medium
  filled_held_is_within_capacity = filled_held_fits_capacity s store.puts has.active.sized.whole.units

  commit_ends_within_held : len ≤ held_data_place s + length s.held
  commit_ends_within_held = omega (arith, le, held_bytes_end_at_put_end s store.puts)

  size_kept_after_commit : SameSize s.medium now.medium
  size_kept_after_commit =
      let a = has.active in
      writes_keep_size a.spare (a.spare + slot_size s.medium.bytes) (writes_of s (Commit len)) s.medium now.medium
      (slot_place_ends_within g s.medium.bytes a.at a.spare (active_image_at_its_place a).sized (active_image_at_its_place a).places).1
      (commit_writes_inside_spare s.medium.grain s.medium a.at a.spare has.image (active_image_at_its_place a) a.sized.whole
      spare_gate_is_closed
      (held_data_place s) s.held filled_held_is_within_capacity len commit_ends_within_held (register (take len (spare_of s)))
      register_is_over_held_bytes) came.ends

  room_kept_after_commit : room_of now ≡ room_of s
  room_kept_after_commit = room_kept_on_same_size s now size_kept_after_commit

  -- An image that satisfies ActiveAt after `commit` is the active image of the medium.
  active_at_place_is_active : (at spare : ℕ) (image : List ℕ) → ActiveAt g now.medium.bytes at spare image → Active now.medium image
  active_at_place_is_active at spare image stands = active_on_same_size at spare image size_kept_after_commit has.active.sized.whole stands

  all_writes_activate_new_image : AllWrites s.medium (writes_of s (Commit len)) now.medium → Active now.medium (take len (spare_of s))
  all_writes_activate_new_image all =
      let a = has.active in
      subst (λ (l : List ℕ). Active now.medium (take len l)) (sym (spare_is_data_with_held s))
      (active_at_place_is_active a.spare a.at _
      (commit_activates_new_image s.medium.grain s.medium a.at a.spare has.image (active_image_at_its_place a) a.sized.whole
      spare_gate_is_closed
      (held_data_place s) s.held filled_held_is_within_capacity len commit_ends_within_held (register (take len (spare_of s)))
      register_is_over_held_bytes now.medium all))

  made_commit_leaves_one : Active now.medium has.image ⊎ Active now.medium (take len (spare_of s))
  made_commit_leaves_one = elim came.ends [
    | inl all ↦ inr (all_writes_activate_new_image all)
    | inr (fault, broken) ↦
        let a = has.active in
        subst (λ (l : List ℕ). Active now.medium has.image ⊎ Active now.medium (take len l)) (sym (spare_is_data_with_held s))
        (⊎_elim (λ old. inl (active_at_place_is_active a.at a.spare has.image old)) (λ new. inr (active_at_place_is_active a.spare a.at _
        new))
        (broken_commit_leaves_either s.medium.grain s.medium a.at a.spare has.image (active_image_at_its_place a) a.sized.whole
        spare_gate_is_closed
        (held_data_place s) s.held filled_held_is_within_capacity len commit_ends_within_held (register (take len (spare_of s)))
        register_is_over_held_bytes fault now.medium broken))
  ]

module _ {T : Type 0} (s now : SlotsState) (store : IsStore s) (len : ℕ) (le : len ≤ s.put_end) (result : Result T PutFault)
    (refuses : CallIsRefused s (Commit len) result) (changes : CallChanges s (Commit len) result now) where
  -- After any result of `commit` the old image or the new one is active.
  commit_leaves_either_image : Active now.medium store.has_image.image ⊎ Active now.medium (take len (spare_of s))
  commit_leaves_either_image = holds_after_any_result s now (Commit len) result refuses changes (made_commit_leaves_one s now store len
      le)
      (λ same. inl (subst (λ (x : SlotsState). Active x.medium store.has_image.image) (sym same) store.has_image.active))

  room_stays_at_commit : room_of now ≡ room_of s
  room_stays_at_commit = holds_after_any_result s now (Commit len) result refuses changes (room_kept_after_commit s now store len le) (ap
      room_of)

  image_exists_after_commit : HasImage now.medium
  image_exists_after_commit = ⊎_elim (λ old. record { image = store.has_image.image; active = old })
      (λ new. record { image = take len (spare_of s); active = new }) commit_leaves_either_image

  commit_leaves_a_store : IsStore now
  commit_leaves_a_store = call_leaves_a_store s now (Commit len) result changes store image_exists_after_commit (holds_after_ok_call s now
      (Commit len) result refuses changes
      (λ came worked. (medium_makes_fresh_store image_exists_after_commit worked.held_is worked.end_is).store))

  commit_shows_either_image : (image_of now ≡ image_of s) ⊎ (image_of now ≡ take len (spare_of s))
  commit_shows_either_image =
      let was = store.has_image in
      ⊎_elim (λ old. inl (sym (image_is now was.image old) ∙ image_is s was.image was.active))
      (λ new. inr (sym (image_is now (take len (spare_of s)) new))) commit_leaves_either_image

  commit_has_its_result : StoreCommitResult s len result now
  commit_has_its_result = record {
    common = calls_share_one_result s now (Commit len) result refuses changes commit_leaves_a_store room_stays_at_commit;
    image = holds_after_ok_call s now (Commit len) result refuses changes
        (λ came worked. sym (image_is now (take len (spare_of s)) (all_writes_activate_new_image s now store len le came worked.writes)));
    kept = fact_holds_after_err result commit_shows_either_image;
    done = holds_after_ok_call s now (Commit len) result refuses changes
        (λ came worked. store_is_fresh now.medium now.held now.put_end worked.held_is worked.end_is);
  }

-- The contract of `commit` holds for the result of `steps::commit`.
pub commit_result_holds : {T : Type 0} {s v : SlotsState} → s ≡ v → IsStore s → (now : SlotsState) (len : ℕ) → len ≤ v.put_end
    → (result : Result T PutFault) → (IsErrOf result NotBegun ↔ HasOpenGate (spare_slot s)) → ¬ IsErrOf result TooLarge
    → CallChanges s (Commit len) result now → StoreCommitResult v len result now
commit_result_holds {T} {s} {v} view store now len asked result not_begun never changes =
    let le : len ≤ s.put_end = subst (λ (x : SlotsState). len ≤ x.put_end) (sym view) asked in
    subst (λ (x : SlotsState). StoreCommitResult x len result now) view
    (commit_has_its_result s now store len le result (commit_is_refused_by_cause s result not_begun store len le never) changes)
