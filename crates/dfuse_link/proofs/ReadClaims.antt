-- A byte that the session has read back is the byte of the image.
use Rattle.std.proofs.Common.{◌≡◌, ℕ, ◌+◌, ◌-◌, ◌*◌, ◌/◌, ◌%◌, ◌^◌, ◌<◌, ◌≤◌, Bool, true, false, cond, eqb, leb, List, [], length, get_or, take, drop, Option, Some, None, refl, sym, ap, ◌∙◌, subst, arith, length-take, length-drop}
use Rattle.std.specs.Str.{bytes_eq}
use Rattle.std.proofs.lemmas.Bool.{leb-true, eqb-true, and_parts}
use Rattle.std.proofs.lemmas.Slice.Eq.{bytes_eq-Decides}
use Rattle.dfu_wire.specs.declared.requests.Request.TheVariants as request
use Rattle.dfu_formats.specs.declared.dfuse.element.Element.{Element}
use Rattle.dfuse_host.specs.declared.plan.Plan.{Plan}
use Rattle.dfuse_host.specs.declared.work.Work.{Work}
use Rattle.dfuse_host.specs.declared.place.Place.{Place}
use Rattle.dfuse_host.specs.declared.place.Place.TheVariants as place
use Rattle.dfuse_host.specs.declared.step.Step.TheVariants as step
use Rattle.dfuse_host.specs.declared.seen.Seen.{Seen}
use Rattle.dfuse_host.specs.declared.seen.Seen.TheVariants as seen
use Rattle.dfuse_host.specs.Images.{end_of, element_at}
use Rattle.dfuse_host.specs.Plans.{block_size, element_end, read_end}
use Rattle.dfuse_host.specs.Settling.{can_read}
use Rattle.dfuse_host.specs.Commands.{end_of_work, bytes_in}
use Rattle.dfuse_host.specs.Deeds.{stands_at, read_bytes, upload_block, deed_of_step}
use Rattle.dfuse_host.specs.Refusing.{apart_from}
use Rattle.dfuse_host.specs.ReadBack.{ReadsBack}
use Rattle.dfuse_host.specs.Wire.{DfuseSeenMeaning, heard_of_compare}
use Rattle.dfuse_host.proofs.ForCallers.{AnyHeard, heard_comparison, heard_nothing}
use Rattle.dfuse_link.specs.Chips.{Chip, Device}
use Rattle.dfuse_link.specs.Reactions.{Reaction, Acks, Data, Stalls, BytesInMemoryAt, Reacts, gives, gives_other_bytes}
use Rattle.dfuse_link.specs.Histories.{RequestArrives, again, SeenOfReaction}
use Rattle.dfuse_link.proofs.Claims.{IsQuiet, KnowsPointer, CanReadWork, DeviceFitsStep}
use Rattle.dfuse_link.proofs.RequestEffects.{arriving_uploads_keep_quiet}
use Rattle.dfuse_link.proofs.SentClaims.{DeedArrives}
use Rattle.dfuse_link.proofs.Safe.{IsSafeAt}
use Rattle.dfuse_link.proofs.Bytes.{byte_of_element_at, byte_at, found_element_has_address, later_address_same_element, part_has_same_byte}

-- The address `at` lies a whole number of blocks after `base`, and at most 65533 blocks.
record BlockReadableFrom (plan : Plan) (base at : ℕ) : Type 0 where
  low : base ≤ at
  whole : (at - base) % block_size plan ≡ 0
  few : (at - base) / block_size plan ≤ 65533

readable_block_is_whole : (plan : Plan) (base at : ℕ) → can_read plan base at ≡ true → BlockReadableFrom plan base at
unfolding can_read
readable_block_is_whole plan base at h =
    let one = and_parts (leb base at) _ h in
    let two = and_parts (eqb ((at - base) % block_size plan) 0) _ one.1 in
    let three = and_parts (leb ((at - base) / block_size plan) 65533) _ two.1 in
    record {
      low = leb-true base at one.0;
      whole = eqb-true ((at - base) % block_size plan) 0 two.0;
      few =
          leb-true ((at - base) / block_size plan) 65533 three.0;
    }

small_block_number_kept : (n : ℕ) → n ≤ 65533 → n % 65534 + 2 - 2 ≡ n
small_block_number_kept n h = grind arith

multiple_of_whole_blocks : (x n : ℕ) → 1 ≤ n → x % n ≡ 0 → x / n * n ≡ x
multiple_of_whole_blocks x n some h = grind arith

upload_block_of_base : (plan : Plan) (base at : ℕ) → upload_block plan (place.Reading base) at ≡ (at - base) / block_size plan % 65534 + 2
unfolding upload_block
upload_block_of_base plan base at = refl

pub upload_block_is_two_at_least : (plan : Plan) (p : Place) (at : ℕ) → 2 ≤ upload_block plan p at
unfolding upload_block
upload_block_is_two_at_least plan p at = omega arith

-- UPLOAD of the requested block returns the bytes from `at` on.
requested_block_begins_at : (plan : Plan) (transfer base at pointer : ℕ) → can_read plan base at ≡ true → plan.transfer ≡ transfer →
    1 ≤ transfer → at < 2 ^ 32 → pointer ≡ base % 2 ^ 32 → pointer + (upload_block plan (place.Reading base) at - 2) * transfer ≡ at
requested_block_begins_at plan transfer base at pointer can e some fits known =
    let reads = readable_block_is_whole plan base at can in
    let size : block_size plan ≡ transfer = omega (arith, e, some) in
    let same : upload_block plan (place.Reading base) at - 2 ≡ (at - base) / block_size plan =
    ap (λ (n : ℕ). n - 2) (upload_block_of_base plan base at) ∙ small_block_number_kept ((at - base) / block_size plan) reads.few in
    let whole : (at - base) / block_size plan * block_size plan ≡ at - base =
    multiple_of_whole_blocks (at - base) (block_size plan) (omega (arith, size, some)) reads.whole in
    let there : (upload_block plan (place.Reading base) at - 2) * transfer ≡ at - base =
    ap (λ (n : ℕ). n * transfer) same ∙ ap (λ (n : ℕ). (at - base) / block_size plan * n) (sym size) ∙ whole in
    let low : pointer ≡ base = omega (arith, known, fits, reads.low) in
    omega (arith, there, low, reads.low)

bytes_in_are_of_element : (plan : Plan) (at end : ℕ) (e : Element) → element_at at plan.image.now ≡ Some e →
    bytes_in plan at end ≡ take (end - at) (drop (at - e.address) e.bytes.now)
bytes_in_are_of_element plan at end e h =
    ap (λ (o : Option Element). elim o as (λ _. List ℕ) [ None ↦ [] | Some x ↦ take (end - at) (drop (at - x.address) x.bytes.now) ]) h

found_element_has_end : (plan : Plan) (at : ℕ) (e : Element) → element_at at plan.image.now ≡ Some e → element_end plan at ≡ end_of e
found_element_has_end plan at e h = ap (λ (o : Option Element). elim o as (λ _. ℕ) [ None ↦ at | Some x ↦ end_of x ]) h

unfound_element_ends_at_address : (plan : Plan) (at : ℕ) → element_at at plan.image.now ≡ None → element_end plan at ≡ at
unfound_element_ends_at_address plan at h = ap (λ (o : Option Element). elim o as (λ _. ℕ) [ None ↦ at | Some x ↦ end_of x ]) h

read_end_within_element : (plan : Plan) (at end : ℕ) → (read_end plan at end ≤ element_end plan at) × (read_end plan at end ≤ end)
unfolding read_end
read_end_within_element plan at end = (omega arith, omega arith)

read_is_image_byte : (plan : Plan) (at end a : ℕ) (o : Option Element) → element_at at plan.image.now ≡ o → apart_from 0 plan.image.now
    ≡ true → at ≤ a →
    a < read_end plan at end → get_or (bytes_in plan at (read_end plan at end)) (a - at) 0 ≡ byte_at a plan.image.now
read_is_image_byte plan at end a None h apart low high =
    absurd (omega (arith, low, high, (read_end_within_element plan at end).0, unfound_element_ends_at_address plan at h))
read_is_image_byte plan at end a (Some e) h apart low high =
    let there = found_element_has_address at 0 e plan.image.now apart h in
    let later : a < end_of e = omega (arith, high, (read_end_within_element plan at end).0, found_element_has_end plan at e h) in
    ap (λ (xs : List ℕ). get_or xs (a - at) 0) (bytes_in_are_of_element plan at (read_end plan at end) e h)
    ∙ part_has_same_byte e at a (read_end plan at end) there.1 low high
    ∙ sym (ap (byte_of_element_at a) (later_address_same_element at a 0 e plan.image.now apart h low later))

read_byte_within_length : (plan : Plan) (at end a : ℕ) (o : Option Element) → element_at at plan.image.now ≡ o → apart_from 0 plan.image.now
    ≡ true → at ≤ a →
    a < read_end plan at end → a - at < length (bytes_in plan at (read_end plan at end))
read_byte_within_length plan at end a None h apart low high =
    absurd (omega (arith, low, high, (read_end_within_element plan at end).0, unfound_element_ends_at_address plan at h))
read_byte_within_length plan at end a (Some e) h apart low high =
    let there = found_element_has_address at 0 e plan.image.now apart h in
    let later : a < end_of e = omega (arith, high, (read_end_within_element plan at end).0, found_element_has_end plan at e h) in
    let same = ap length (bytes_in_are_of_element plan at (read_end plan at end) e h) in
    let size = length-take (read_end plan at end - at) (drop (at - e.address) e.bytes.now) in
    let rest = length-drop (at - e.address) e.bytes.now in
    omega (arith, same, size, rest, later, there.1, low, high)

read_bytes_are_part : (plan : Plan) (w : Work)
    → read_bytes plan w ≡ bytes_in plan (stands_at w) (read_end plan (stands_at w) (end_of_work plan w))
unfolding read_bytes
read_bytes_are_part plan w = refl

-- A byte of the block that the session expects is the byte of the image at its address.
wanted_byte_is_image_byte : (plan : Plan) (w : Work) (a : ℕ) → apart_from 0 plan.image.now ≡ true → stands_at w ≤ a →
    a < read_end plan (stands_at w) (end_of_work plan w) → get_or (read_bytes plan w) (a - stands_at w) 0 ≡ byte_at a plan.image.now
wanted_byte_is_image_byte plan w a apart low high =
    ap (λ (xs : List ℕ). get_or xs (a - stands_at w) 0) (read_bytes_are_part plan w)
    ∙ read_is_image_byte plan (stands_at w) (end_of_work plan w) a (element_at (stands_at w) plan.image.now) refl apart low high

wanted_byte_in_length : (plan : Plan) (w : Work) (a : ℕ) → apart_from 0 plan.image.now ≡ true → stands_at w ≤ a →
    a < read_end plan (stands_at w) (end_of_work plan w) → a - stands_at w < length (read_bytes plan w)
wanted_byte_in_length plan w a apart low high =
    omega (
      arith,
      read_byte_within_length plan (stands_at w) (end_of_work plan w) a (element_at (stands_at w) plan.image.now) refl apart low high,
      ap
          length (read_bytes_are_part plan w),
    )

-- The device returned the bytes of the image that the work reads, and one of them has the address `a`.
record MatchesImage (plan : Plan) (w : Work) (given : List ℕ) (a : ℕ) : Type 0 where
  same : given ≡ read_bytes plan w
  low : stands_at w ≤ a
  high : a < read_end plan (stands_at w) (end_of_work plan w)

comparison_is_match : (plan : Plan) (w : Work) (given : List ℕ) (a : ℕ) (t u : Bool) → bytes_eq given (read_bytes plan w) ≡ u →
    ReadsBack plan w step.Read (cond t (heard_comparison u) heard_nothing) a → MatchesImage plan w given a
comparison_is_match plan w given a true true e h = record { same = (bytes_eq-Decides given (read_bytes plan w)).0 e; low = h.0; high = h.1 }
comparison_is_match plan w given a true false e h = absurd h
comparison_is_match plan w given a false u e h = absurd h

read_back_means_match : (plan : Plan) (w : Work) (given : List ℕ) (a : ℕ) →
    ReadsBack plan w step.Read (heard_of_compare (read_bytes plan w) given) a →
    MatchesImage plan w given a
read_back_means_match plan w given a h =
    comparison_is_match plan w given a (eqb (length given) (length (read_bytes plan w))) (bytes_eq given (read_bytes plan w)) refl h

-- The memory holds the bytes that the device returned, and the device's work may change none of them.
record GaveBytes (chip : Chip) (p : Place) (block : ℕ) (bytes : List ℕ) (d : Device) : Type 0 where
  pointer : ℕ
  known : KnowsPointer p pointer
  stand : BytesInMemoryAt d.memory (pointer + (block - 2) * chip.transfer) bytes
  safe : (a : ℕ) → IsSafeAt chip a d.device_work

module _ (chip : Chip) (p : Place) where
  upload_gave_memory : (d : Device) (block n : ℕ) (body : List ℕ) (r : Reaction) (bytes : List ℕ) (d' : Device) → r ≡ Data bytes → 2
      ≤ block →
      KnowsPointer p d.pointer →
      Reacts chip d (request.Upload block n) body r d' → GaveBytes chip p block bytes d'
  upload_gave_memory d block n body _ bytes _ e from known (gives _ _ _ sent s may two most stands is) =
      let same : sent ≡ bytes = cc in
      record {
        pointer = d.pointer;
        known = known;
        stand = subst (λ (xs : List ℕ). BytesInMemoryAt d.memory (d.pointer + (block - 2) * chip.transfer) xs) same stands;
        safe = λ a x. x;
      }
  upload_gave_memory d block n body _ bytes _ e from known (gives_other_bytes _ _ _ sent may low) = absurd (omega (arith, from, low))
  upload_gave_memory d block n body r bytes d' e from known step = cc

  -- If the session sees the bytes of an UPLOAD, they are bytes of the memory, even if the UPLOAD arrived several times.
  given_of : (d : Device) (block n : ℕ) (body bytes : List ℕ) (d' : Device) → 2 ≤ block → IsQuiet d.device_work × KnowsPointer p d.pointer →
      RequestArrives chip (request.Upload block n) body d (Some (Data bytes)) d' → GaveBytes chip p block bytes d'
  given_of d block n body bytes d' from known (again {before = before} {mid = mid} first last) =
      upload_gave_memory mid block n body (Data bytes) bytes d' refl from (arriving_uploads_keep_quiet chip p d mid block n body before
      first known).1 last

module _ (chip : Chip) (plan : Plan) (w : Work) (a : ℕ) (transfer : plan.transfer ≡ chip.transfer) (some : 1 ≤ chip.transfer)
    (apart : apart_from 0 plan.image.now ≡ true) (fits : a < 2 ^ 32) where
  matched_byte_is_right : (p : Place) (given : List ℕ) (d : Device) → CanReadWork plan w p →
      GaveBytes chip p (upload_block plan p (stands_at w)) given d →
      MatchesImage plan w given a → d.memory a ≡ byte_at a plan.image.now
  matched_byte_is_right place.Lost given d can g m = absurd can
  matched_byte_is_right (place.At p) given d can g m = absurd can
  matched_byte_is_right (place.Reading base) given d can g m =
      let there : g.pointer + (upload_block plan (place.Reading base) (stands_at w) - 2) * chip.transfer ≡ stands_at w =
      requested_block_begins_at plan chip.transfer base (stands_at w) g.pointer can transfer some (omega (arith, fits, m.low)) g.known in
      let at : stands_at w + (a - stands_at w) ≡ a = omega (arith, m.low) in
      let value : get_or given (a - stands_at w) 0 ≡ byte_at a plan.image.now =
      ap (λ (xs : List ℕ). get_or xs (a - stands_at w) 0) m.same ∙ wanted_byte_is_image_byte plan w a apart m.low m.high in
      let long : a - stands_at w < length given = omega (arith, ap length m.same, wanted_byte_in_length plan w a apart m.low m.high) in
      ap d.memory (sym at)
      ∙ ap (λ (n : ℕ). d.memory (n + (a - stands_at w))) (sym there)
      ∙ g.stand (a - stands_at w) long
      ∙ value

  compared_byte_is_right : (p : Place) (d d' : Device) (h : AnyHeard) (r : Option Reaction) (given : List ℕ) (bytes : List ℕ) →
      DeviceFitsStep chip plan w p step.Read d →
      DeedArrives chip (deed_of_step plan w p step.Read) d (Some (Data bytes)) d' → given ≡ bytes → h
      ≡ heard_of_compare (read_bytes plan w) given →
      ReadsBack plan w step.Read h a → (d'.memory a ≡ byte_at a plan.image.now) × IsSafeAt chip a d'.device_work
  compared_byte_is_right p d d' h r given bytes k comes same e reads =
      let m = read_back_means_match plan w given a (subst (λ x. ReadsBack plan w step.Read x a) e reads) in
      let g = given_of chip p d (upload_block plan p (stands_at w)) (length (read_bytes plan w)) [] bytes d'
      (upload_block_is_two_at_least plan p (stands_at w))
      (k.0, k.1) comes in
      let h : GaveBytes chip p (upload_block plan p (stands_at w)) given d' =
      subst (λ (xs : List ℕ). GaveBytes chip p (upload_block plan p (stands_at w)) xs d') (sym same) g in
      (matched_byte_is_right p given d' k.2 h m, g.safe a)

  nothing_heard_reads_nothing : (h x : AnyHeard) → h ≡ x → (ReadsBack plan w step.Read x a → ⊥) → ReadsBack plan w step.Read h a → ⊥
  nothing_heard_reads_nothing h x e none reads = none (subst (λ y. ReadsBack plan w step.Read y a) e reads)

  -- A byte that the session has just read back is the byte of the image, and the device's work may not change it.
  pub read_back_byte_is_right : (p : Place) (d d' : Device) (h : AnyHeard) (r : Option Reaction) (x : Seen) →
      DeviceFitsStep chip plan w p step.Read d →
      DeedArrives chip (deed_of_step plan w p step.Read) d r d' → SeenOfReaction r x → DfuseSeenMeaning plan w step.Read x h
      → ReadsBack plan w step.Read h a →
      (d'.memory a ≡ byte_at a plan.image.now) × IsSafeAt chip a d'.device_work
  read_back_byte_is_right p d d' h (Some (Data bytes)) (seen.Bytes given) k comes is e reads =
      compared_byte_is_right p d d' h (Some (Data bytes)) given.now bytes k comes is e reads
  read_back_byte_is_right p d d' h (Some Acks) (seen.Bytes given) k comes is e reads = absurd is
  read_back_byte_is_right p d d' h (Some Stalls) (seen.Bytes given) k comes is e reads = absurd is
  read_back_byte_is_right p d d' h None (seen.Bytes given) k comes is e reads = absurd is
  read_back_byte_is_right p d d' h r seen.Ack k comes is e reads = absurd (nothing_heard_reads_nothing h _ e (λ y. y) reads)
  read_back_byte_is_right p d d' h r seen.Stall k comes is e reads = absurd (nothing_heard_reads_nothing h _ e (λ y. y) reads)
  read_back_byte_is_right p d d' h r seen.Nothing k comes is e reads = absurd (nothing_heard_reads_nothing h _ e (λ y. y) reads)
  read_back_byte_is_right p d d' h r seen.Waited k comes is e reads = absurd (nothing_heard_reads_nothing h _ e (λ y. y) reads)
  read_back_byte_is_right p d d' h r seen.Restarted k comes is e reads = absurd (nothing_heard_reads_nothing h _ e (λ y. y) reads)
