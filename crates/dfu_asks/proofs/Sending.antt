-- An UPLOAD is answered with the next bytes of the active image.
use Rattle.std.proofs.Common.{◌≡◌, inl, inr, ◌==◌, not, nat_lt, nat_le, Bool, true, false, IsTrue, if◌then◌else◌, ℕ, ◌+◌, ◌-◌, ◌≤◌, ◌<◌, min, List, [], length, take, drop, refl, sym, ◌∙◌, ap, subst, arith}
use Rattle.std.proofs.lemmas.Bool.{cases_eq, cases_lt, ltb-true, ltb-false}
use Rattle.std.proofs.lemmas.List.{drop-take, take-take, take_min, length-take, length-drop}
use Rattle.dfu_slots.specs.Layout.{header_length}
use Rattle.dfu_slots.specs.Image.{slot_of, active_at, gate_of, capacity_of}
use Rattle.dfu_slots.specs.StoreView.{SlotsState, image_of}
use Rattle.dfu_device.specs.declared.answer.Answer.TheVariants as answer
use Rattle.dfu_device.specs.declared.device_state.DeviceState.{DeviceState}
use Rattle.dfu_device.specs.declared.device_state.DeviceState.TheVariants as device_state
use Rattle.dfu_wire.specs.declared.setups.Setup.{Setup}
use Rattle.dfu_wire.specs.declared.requests.Request.{Request as Asked}
use Rattle.dfu_wire.specs.declared.codes.Code.TheVariants.{StalledPkt as ErrStalledPkt, Address as ErrAddress}
use Rattle.dfu_device.specs.declared.decision.Decision.{Decision}
use Rattle.dfu_device.specs.declared.decision.Decision.TheVariants as decision
use Rattle.dfu_device.specs.Cases.{holds_in_both_branches}
use Rattle.dfu_device.specs.Decision.{plan_of, IsAcknowledgingDecision}
use Rattle.dfu_device.specs.Stage.{Profile, Request, Dnload, Upload, GetStatus, GetState, Stage, Data, InDfuIdle, InDownloadSync, InDownloadIdle, InManifestSync, InUploadIdle}
use Rattle.dfu_device.specs.Table.{Plan, Sure, has_no_bytes, number_after, error_plan, block_plan, upload_plan, plan}
use Rattle.dfu_device.specs.DeviceView.{DeviceView, profile}
use Rattle.dfu_device.specs.Parts.{view_of_parts, is_filled}
use Rattle.dfu_device.specs.Rows.{Done, request_for_table, is_served, setup_plan}
use Rattle.dfu_slots.specs.Store.{IsStore}
use Rattle.dfu_slots.proofs.Stands.{active_image_at_its_place}
use Rattle.dfu_slots.proofs.Newest.{active_place_ends_within}
use Rattle.dfu_slots.proofs.Parts.{data_length}
use Rattle.dfu_asks.specs.Due.{SendsWithin}

-- The image is at the front of the active slot's data.
pub image_is_active_data_front : (s : SlotsState) (at len : ℕ) → at ≡ active_at (gate_of s.medium) s.medium.bytes
    → len ≡ header_length (slot_of s.medium at) → image_of s ≡ take len (slot_of s.medium at).data_bytes
unfolding image_of
image_is_active_data_front s at len here is =
    (λ i. take (header_length (slot_of s.medium (sym here i))) (slot_of s.medium (sym here i)).data_bytes)
    ∙ ap (λ (n : ℕ). take n (slot_of s.medium at).data_bytes) (sym is)

-- The next `count` bytes of a prefix are those of the whole list, if they lie within the prefix.
pub prefix_bytes_are_list_bytes : (bytes : List ℕ) (place len count : ℕ) → count ≤ len - place
    → take count (drop place (take len bytes)) ≡ take count (drop place bytes)
prefix_bytes_are_list_bytes bytes place len count fits = elim (cases_eq count 0) [
  | inl none ↦
      ap (λ (k : ℕ). take k (drop place (take len bytes))) none ∙ ap (λ (k : ℕ). take k (drop place bytes)) (sym none)
  | inr some ↦
      let whole : len ≡ place + (len - place) = omega (arith, some, fits) in
      ap (λ (k : ℕ). take count (drop place (take k bytes))) whole
      ∙ ap (λ (l : List ℕ). take count l) (drop-take place (len - place) bytes)
      ∙ take-take count (len - place) (drop place bytes) fits
]

-- If `count` is the smaller of `size` and the number of bytes left, the next `count` bytes are the next `size` bytes of the image.
pub counted_bytes_are_image_bytes : (image : List ℕ) (place size count : ℕ) → count ≡ min size (length image - place)
    → take count (drop place image) ≡ take size (drop place image)
counted_bytes_are_image_bytes image place size count is =
    ap (λ (k : ℕ). take k (drop place image)) (is ∙ ap (λ (k : ℕ). min size k) (sym (length-drop place image)))
    ∙ take_min size (drop place image)

-- The smaller of `size` and the number of bytes left is the number of bytes that are sent.
pub count_is_sent_length : (image : List ℕ) (place size count : ℕ) → count ≡ min size (length image - place)
    → count ≡ length (take size (drop place image))
count_is_sent_length image place size count is = omega (arith, is, length-drop place image, length-take size (drop place image))

-- After an upload, the mode is dfuIDLE if the block was short, and dfuUPLOAD-IDLE if it was full.
pub record IsModeAfterUpload (count size place number : ℕ) (m : DeviceState) : Type 0 where
  pub last : count < size → m ≡ device_state.DfuIdle
  pub more : size ≤ count → m ≡ device_state.UploadIdle (place + size) number

-- The row of an UPLOAD sends a part of the image, and enters the mode that follows the upload of this part.
pub sent_bytes_are_upload_row : (w : DeviceView) (len : ℕ) (part block : List ℕ) (size place number : ℕ) (m : DeviceState) (count : ℕ) →
    count ≡ length part
    → IsModeAfterUpload count size place number m
    → Done (if nat_lt (length part) size then Sure (Data part) InDfuIdle else Sure (Data part) (InUploadIdle (place + size) number)) len w
    answer.Bytes part (view_of_parts w.config w.slots m block)
sent_bytes_are_upload_row w len part block size place number m count is after = by_test (nat_lt (length part) size) refl
  where
    by_test : (b : Bool) → nat_lt (length part) size ≡ b
        → Done (if b then Sure (Data part) InDfuIdle else Sure (Data part) (InUploadIdle (place + size) number)) len w
        answer.Bytes part (view_of_parts w.config w.slots m block)
    by_test true less = (
      (refl, refl),
      ap (λ (k : DeviceState). view_of_parts w.config w.slots k block)
          (after.last (omega (arith, is, ltb-true _ _ less))),
    )
    by_test false more = (
      (refl, refl),
      ap (λ (k : DeviceState). view_of_parts w.config w.slots k block)
          (after.more (omega (arith, is, ltb-false _ _ more))),
    )

abbrev pub SendsAtMostBlock : ℕ → Plan → Type 0
SendsAtMostBlock n (Sure (Data bytes) stage) = length bytes ≤ n
SendsAtMostBlock n p = Unit {0}

-- The plan of an UPLOAD sends at most as many bytes as the transfer size.
upload_plan_sends_at_most : (c : Profile) (image : List ℕ) (place expected number size : ℕ)
    → SendsAtMostBlock c.transfer (upload_plan c image place expected number size)
upload_plan_sends_at_most c image place expected number size =
    holds_in_both_branches (SendsAtMostBlock c.transfer) (size == 0) _ _ tt (upload_plan_by_size (nat_lt c.transfer size) refl)
  where
    part : List ℕ
    part = take size (drop place image)

    sends : Plan
    sends = if nat_lt (length part) size then Sure (Data part) InDfuIdle
        else Sure (Data part) (InUploadIdle (place + size) (number_after expected))

    upload_plan_by_size : (b : Bool) → nat_lt c.transfer size ≡ b
        → SendsAtMostBlock c.transfer (if b then error_plan ErrStalledPkt else if not (number == expected) then error_plan ErrAddress else
        sends)
    upload_plan_by_size true more = tt
    upload_plan_by_size false less =
        let fits : length part ≤ c.transfer = omega (arith, ltb-false _ _ less, length-take size (drop place image)) in
        holds_in_both_branches (SendsAtMostBlock c.transfer) (not (number == expected)) _ _ tt
        (holds_in_both_branches (SendsAtMostBlock c.transfer) (nat_lt (length part) size) _ _ fits fits)

-- The plan of a block sends no bytes, so at most as many as the transfer size.
block_plan_sends_at_most : (c : Profile) (before : List ℕ) (expected number : ℕ) (body : List ℕ)
    → SendsAtMostBlock c.transfer (block_plan c before expected number body)
block_plan_sends_at_most c before expected number body =
    holds_in_both_branches (SendsAtMostBlock c.transfer) (nat_lt c.transfer (length body)) _ _ tt
    (holds_in_both_branches (SendsAtMostBlock c.transfer) (not (number == expected)) _ _ tt
    (holds_in_both_branches (SendsAtMostBlock c.transfer) (nat_lt c.capacity (length before + length body)) _ _ tt tt))

-- The plan of every request sends at most as many bytes as the transfer size.
plan_sends_at_most_block : (c : Profile) (image : List ℕ) (st : Stage) (r : Request) → SendsAtMostBlock c.transfer (plan c image st r)
plan_sends_at_most_block c image InDfuIdle (Dnload number body) =
    holds_in_both_branches (SendsAtMostBlock c.transfer) (not c.can_download) _ _ tt
    (holds_in_both_branches (SendsAtMostBlock c.transfer) (has_no_bytes body) _ _ tt (block_plan_sends_at_most c [] 0 number body))
plan_sends_at_most_block c image InDfuIdle (Upload number size) =
    holds_in_both_branches (SendsAtMostBlock c.transfer) c.can_upload _ _ (upload_plan_sends_at_most c image 0 0 number size) tt
plan_sends_at_most_block c image (InDownloadSync before block number) GetStatus =
    holds_in_both_branches (SendsAtMostBlock c.transfer) (c.busy == 0) _
    _ tt tt
plan_sends_at_most_block c image (InDownloadIdle taken number) (Dnload k body) =
    holds_in_both_branches (SendsAtMostBlock c.transfer) (has_no_bytes body) _ _
    (holds_in_both_branches (SendsAtMostBlock c.transfer) (nat_le c.least (length
    taken)) _ _ tt tt)
    (block_plan_sends_at_most c taken number k body)
plan_sends_at_most_block c image (InManifestSync taken) GetStatus =
    holds_in_both_branches (SendsAtMostBlock c.transfer) (c.manifest == 0) _ _ tt tt
plan_sends_at_most_block c image (InUploadIdle place number) (Upload k size) = upload_plan_sends_at_most c image place number k size
plan_sends_at_most_block c image st GetState = tt
plan_sends_at_most_block c image st r = tt

-- If a buffer has room for the transfer size, and a plan sends at most as many bytes, its decision sends no more bytes than the buffer
-- holds.
decision_sends_within : (c : Profile) (image spare block body : List ℕ) (d : Decision) (room : ℕ) → c.transfer ≤ room
    → SendsAtMostBlock c.transfer (plan_of c image spare block body d) → SendsWithin d image room
decision_sends_within c image spare block body (decision.Sends place size number) room fits small =
    by_test (nat_lt (length (take size (drop place image))) size) small
  where
    by_test : (b : Bool) → SendsAtMostBlock c.transfer (if b then Sure (Data (take size (drop place image))) InDfuIdle
        else Sure (Data (take size (drop place image))) (InUploadIdle (place + size) number)) → length (take size (drop place image)) ≤ room
    by_test true le = omega (arith, le, fits)
    by_test false le = omega (arith, le, fits)
decision_sends_within c image spare block body d room fits small = tt

-- The decision on a setup sends no more bytes than fit in a buffer that has room for the transfer size.
pub setup_decision_sends_within : (w : DeviceView) (spare block body : List ℕ) (d : Decision) (p : Setup) (q : Asked) (room : ℕ)
    → plan_of (profile w) (image_of w.slots) spare block body d ≡ setup_plan w p q body → (profile w).transfer ≤ room
    → SendsWithin d (image_of w.slots) room
setup_decision_sends_within w spare block body d p q room is fits =
    let n = (profile w).transfer in
    decision_sends_within (profile w) (image_of w.slots) spare block body d room fits (subst (SendsAtMostBlock n) (sym is)
    (holds_in_both_branches (SendsAtMostBlock n) (is_served p q body) _ _ (plan_sends_at_most_block (profile w) (image_of w.slots) w.stage
    (request_for_table q body)) tt))

-- The decision on elapsed time sends no bytes.
pub time_decision_sends_nothing : (d : Decision) (image : List ℕ) (room : ℕ) → IsAcknowledgingDecision d → SendsWithin d image room
time_decision_sends_nothing (decision.Sends place size number) image room silent = absurd silent
time_decision_sends_nothing d image room silent = tt

-- The mode after an upload needs no bytes in the store.
pub mode_after_upload_needs_no_bytes : (count size place number : ℕ) (m : DeviceState) (block : ℕ) (s : SlotsState)
    → IsModeAfterUpload count size place number m
    → IsTrue (is_filled m block s)
mode_after_upload_needs_no_bytes count size place number m block s after = elim (cases_lt count size) [
  | inl less ↦ subst (λ (k : DeviceState). IsTrue (is_filled k block s)) (sym (after.last less)) refl
  | inr le ↦ subst (λ (k : DeviceState). IsTrue (is_filled k block s)) (sym (after.more le)) refl
]

-- The data of the active slot has room for the image.
pub active_data_holds_image : (s : SlotsState) (at len : ℕ) → IsStore s → at ≡ active_at (gate_of s.medium) s.medium.bytes
    → len ≤ capacity_of s.medium → len ≤ length (slot_of s.medium at).data_bytes
active_data_holds_image s at len store here fits =
    let g = gate_of s.medium in
    let sized = (active_image_at_its_place store.has_image.active).sized in
    omega (
      arith,
      fits,
      data_length g s.medium.bytes at (omega (arith, here, active_place_ends_within g s.medium.bytes sized))
          (omega (arith, sized.room)),
    )
