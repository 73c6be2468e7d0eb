-- The image of an alternate setting is made from the elements of its targets.
use Rattle.std.proofs.Common.{◌≡◌, ◌≢◌, ℕ, suc, ◌+◌, ◌<◌, ◌≤◌, ◌&&◌, ◌||◌, Bool, true, false, not, cond, eqb, ltb, leb, List, [], ◌∷◌, ◌++◌, length, take, map, get_or, Some, None, refl, sym, ap, ◌∙◌, arith, length-append}
use Rattle.std.proofs.lemmas.Bool.{eq-eqb, le-ltb, and_from, le-leb, lt-ltb, ne_eqb, or_right}
use Rattle.std.proofs.lemmas.List.{append_assoc, append-nil}
use Rattle.std.specs.List.Sorted.{IsNonDecreasingBy}
use Rattle.dfu_formats.specs.images.Elements.{Piece}
use Rattle.dfu_formats.specs.dfuse.Images.{ascends_from}
use Rattle.dfu_formats.specs.declared.dfuse.element.Element.{Element}
use Rattle.dfu_formats.specs.dfuse.Found.{piece_of}
use Rattle.dfu_formats.specs.dfuse.Reading.{Target}
use Rattle.dfu_formats.specs.declared.dfuse.image.ImageFault.TheVariants.{NoSuchSetting, TooManyElements}
use Rattle.dfu_formats.specs.dfuse.Images.{all_targets_for, one_setting, has_setting, elements_for, image_fault}

-- ---- sorting

-- If the addresses of elements never decrease, and the first one, if any, is at least `start`, `ascends_from start` is true.
pub sorted_elements_ascend : (start : ℕ) (es : List Element) → IsNonDecreasingBy (λ (e : Element). e.address) es →
    ((d : Element) → 0 < length es → start ≤ (get_or es 0 d).address) → ascends_from start es ≡ true
sorted_elements_ascend start [] f h = refl
sorted_elements_ascend start (e ∷ es) f h =
    and_from (leb start e.address) (ascends_from e.address es) (le-leb start e.address (h e (omega arith)))
    (sorted_elements_ascend e.address es (λ i j d p q. f (suc i) (suc j) d (omega (arith, p)) (omega (arith, q))) (λ d p. f 0 1 d (omega
    arith) (omega (arith, p))))

-- ---- settings

-- All targets are for a setting exactly if the first one and all others are.
all_targets_for_cons : (s : ℕ) (t : Target) (ts : List Target) → all_targets_for s (t ∷ ts) ≡ ((eqb t.setting s) && all_targets_for s ts)
unfolding all_targets_for
all_targets_for_cons s t ts = refl

-- If the first target is for the setting, all targets are for it exactly if the others are.
pub matching_target_leaves_test : (s : ℕ) (t : Target) (ts old : List Target) → old ≡ t ∷ ts → t.setting ≡ s
    → all_targets_for s old ≡ all_targets_for s ts
matching_target_leaves_test s t ts old is h =
    ap (all_targets_for s) is ∙ (all_targets_for_cons s t ts ∙ ap (λ (b : Bool). b && all_targets_for s ts) (eq-eqb t.setting s h))

-- If the first target is for another setting, not all targets are for the setting.
pub other_target_fails_test : (s : ℕ) (t : Target) (ts old : List Target) → old ≡ t ∷ ts → t.setting ≢ s → all_targets_for s old ≡ false
other_target_fails_test s t ts old is h =
    ap (all_targets_for s) is ∙ (all_targets_for_cons s t ts ∙ ap (λ (b : Bool). b && all_targets_for s ts) (ne_eqb t.setting s h))

-- All targets of an empty list are for the setting.
pub empty_list_passes_setting_test : (s : ℕ) → all_targets_for s [] ≡ true
unfolding all_targets_for
empty_list_passes_setting_test s = refl

-- If the first target and all others are for the same setting, this setting is that of the file.
pub one_setting_if_all_match : (t : Target) (ts all : List Target) (s : ℕ) → all ≡ t ∷ ts → t.setting ≡ s → all_targets_for s ts ≡ true
    → one_setting all ≡ Some s
one_setting_if_all_match t ts all s is h e =
    ap one_setting is ∙ (ap (λ (k : ℕ). cond (all_targets_for k ts) (Some k) None) h ∙ ap (λ (b : Bool). cond b (Some s) None) e)

-- If the first target is for the setting, and not all others are, the file has no single setting.
pub no_setting_if_one_differs : (t : Target) (ts all : List Target) (s : ℕ) → all ≡ t ∷ ts → t.setting ≡ s → all_targets_for s ts ≡ false
    → one_setting all ≡ None
no_setting_if_one_differs t ts all s is h e =
    ap one_setting is ∙ (ap (λ (k : ℕ). cond (all_targets_for k ts) (Some k) None) h ∙ ap (λ (b : Bool). cond b (Some s) None) e)

-- A list of targets has a setting exactly if its first target or one of the others is for that setting.
has_setting_cons : (s : ℕ) (t : Target) (ts : List Target) → has_setting s (t ∷ ts) ≡ ((eqb t.setting s) || has_setting s ts)
unfolding has_setting
has_setting_cons s t ts = refl

-- The elements of a setting are those of the first target, if it is for the setting, followed by those of the others.
elements_for_cons : (s : ℕ) (t : Target) (ts : List Target) → elements_for s (t ∷ ts) ≡ cond (eqb t.setting s) (t.elements
    ++ elements_for s ts) (elements_for s ts)
unfolding elements_for
elements_for_cons s t ts = refl

-- If the first target is for the setting, the list has the setting.
pub first_target_gives_setting : (s : ℕ) (t : Target) (ts old : List Target) → old ≡ t ∷ ts → t.setting ≡ s → has_setting s old ≡ true
first_target_gives_setting s t ts old is h =
    ap (has_setting s) is ∙ (has_setting_cons s t ts ∙ ap (λ (b : Bool). b || has_setting s ts) (eq-eqb t.setting s h))

-- If the first target is for another setting, the list has the setting exactly if one of the other targets is for it.
pub other_target_leaves_setting : (s : ℕ) (t : Target) (ts old : List Target) → old ≡ t ∷ ts → t.setting ≢ s
    → has_setting s old ≡ has_setting s ts
other_target_leaves_setting s t ts old is h =
    ap (has_setting s) is ∙ (has_setting_cons s t ts ∙ ap (λ (b : Bool). b || has_setting s ts) (ne_eqb t.setting s h))

-- If the first target is for the setting, its elements precede those of the other targets.
pub matching_target_adds_elements : (s : ℕ) (t : Target) (ts old : List Target) → old ≡ t ∷ ts → t.setting ≡ s → elements_for s old
    ≡ t.elements ++ elements_for s ts
matching_target_adds_elements s t ts old is h = ap (elements_for s) is ∙ (elements_for_cons s t ts
    ∙ ap (λ (b : Bool). cond b (t.elements ++ elements_for s ts) (elements_for s ts)) (eq-eqb t.setting s h))

-- If the first target is for another setting, its elements are left out.
pub elements_skip_other_target : (s : ℕ) (t : Target) (ts old : List Target) → old ≡ t ∷ ts → t.setting ≢ s → elements_for s old
    ≡ elements_for s ts
elements_skip_other_target s t ts old is h = ap (elements_for s) is ∙ (elements_for_cons s t ts
    ∙ ap (λ (b : Bool). cond b (t.elements ++ elements_for s ts) (elements_for s ts)) (ne_eqb t.setting s h))

-- An empty list of targets has no setting.
pub empty_list_has_no_setting : (s : ℕ) → has_setting s [] ≡ false
unfolding has_setting
empty_list_has_no_setting s = refl

-- An empty list of targets has no elements.
pub empty_list_has_no_elements : (s : ℕ) → elements_for s [] ≡ []
unfolding elements_for
empty_list_has_no_elements s = refl

-- ---- the fault of an image

-- If no target is for the setting, the fault is `NoSuchSetting`.
pub missing_setting_is_fault : (room s : ℕ) (all : List Target) → has_setting s all ≡ false → image_fault room s all ≡ Some NoSuchSetting
unfolding image_fault
missing_setting_is_fault room s all h =
    ap (λ (b : Bool). cond (not b) (Some NoSuchSetting) (cond (ltb room (length (elements_for s all))) (Some TooManyElements) None)) h

-- If a target is for the setting, and the room is smaller than the number of elements, the fault is `TooManyElements`.
pub excess_is_fault : (room s : ℕ) (all : List Target) → has_setting s all ≡ true → room < length (elements_for s all) →
    image_fault room s all ≡ Some TooManyElements
unfolding image_fault
excess_is_fault room s all h more =
    ap (λ (b : Bool). cond (not b) (Some NoSuchSetting) (cond (ltb room (length (elements_for s all))) (Some TooManyElements) None)) h
    ∙ ap (λ (b : Bool). cond b (Some TooManyElements) None) (lt-ltb room (length (elements_for s all)) more)

-- If a target is for the setting, and the room holds all elements, there is no fault.
pub fitting_elements_have_no_fault : (room s : ℕ) (all : List Target) → has_setting s all ≡ true → length (elements_for s all) ≤ room → image_fault room s all ≡ None
unfolding image_fault
fitting_elements_have_no_fault room s all h few =
    ap (λ (b : Bool). cond (not b) (Some NoSuchSetting) (cond (ltb room (length (elements_for s all))) (Some TooManyElements) None)) h
    ∙ ap (λ (b : Bool). cond b (Some TooManyElements) None) (le-ltb room (length (elements_for s all)) few)

-- ---- the loop over targets

-- The first `count` elements of the room, followed by those for the setting in `left`, are all elements of the setting. A target is for the
-- setting exactly if `has` is true or one in `left` is for it.
pub record TargetsListedSoFar (s : ℕ) (room : List Element) (count : ℕ) (has : Bool) (left all : List Target) : Type 0 where
  pub number : count + length (elements_for s left) ≡ length (elements_for s all)
  pub listed : map piece_of (take count room) ++ elements_for s left ≡ elements_for s all
  pub has_it : (has || has_setting s left) ≡ has_setting s all

-- A target for another setting changes neither the room nor the count.
pub other_target_changes_nothing : (s : ℕ) (room : List Element) (count : ℕ) (has : Bool) (left all ts : List Target) (t : Target) →
    TargetsListedSoFar s room count has left all →
    left ≡ t ∷ ts → t.setting ≢ s → TargetsListedSoFar s room count has ts all
other_target_changes_nothing s room count has left all ts t h is other =
    let es = elements_skip_other_target s t ts left is other in
    record {
      number = ap (λ (xs : List Piece). count + length xs) (sym es) ∙ h.number;
      listed = ap (λ (xs : List Piece). map piece_of (take count room) ++ xs) (sym es) ∙ h.listed;
      has_it = ap (λ (b : Bool). has || b) (sym (other_target_leaves_setting s t ts left is other)) ∙ h.has_it;
    }

or_false_is_left : (a b : Bool) → b ≡ false → (a || b) ≡ a
or_false_is_left true b h = refl
or_false_is_left false b h = h

-- After a target for the setting, the room also holds the elements of this target.
pub matching_target_is_listed : (s : ℕ) (room next : List Element) (count n : ℕ) (has : Bool) (left all ts : List Target) (t : Target) →
    TargetsListedSoFar s room count has left all →
    left ≡ t ∷ ts → t.setting ≡ s → n ≡ count + length t.elements → map piece_of (take n next) ≡ map piece_of (take count room) ++ t.elements →
    TargetsListedSoFar s next n true ts all
matching_target_is_listed s room next count n has left all ts t h is this number listed =
    let es = matching_target_adds_elements s t ts left is this in
    record {
      number = omega (arith, number, ap length es, length-append t.elements (elements_for s ts), h.number);
      listed = ap (λ (xs : List Piece). xs ++ elements_for s ts) listed
          ∙ (append_assoc (map piece_of (take count room)) t.elements (elements_for s ts)
          ∙ (ap (λ (xs : List Piece). map piece_of (take count room) ++ xs) (sym es) ∙ h.listed));
      has_it = sym (or_right has (has_setting s left) (first_target_gives_setting s t ts left is this)) ∙ h.has_it;
    }

-- If the elements up to and including those of the next target don't fit in the room, the fault is `TooManyElements`.
pub target_over_room_is_too_many : (s room_size : ℕ) (room : List Element) (count : ℕ) (has : Bool) (left all ts : List Target) (t : Target)
    → TargetsListedSoFar s room count has left all →
    left ≡ t ∷ ts → t.setting ≡ s → room_size < count + length t.elements → image_fault room_size s all ≡ Some TooManyElements
target_over_room_is_too_many s room_size room count has left all ts t h is this more =
    let es = matching_target_adds_elements s t ts left is this in
    excess_is_fault room_size s all (sym h.has_it ∙ or_right has (has_setting s left) (first_target_gives_setting s t ts left is
    this))
    (omega (arith, more, ap length es, length-append t.elements (elements_for s ts), h.number))

-- Once no target is left, the room holds all elements of the setting, and `has` is true exactly if a target is for it.
pub listed_targets_are_all : (s : ℕ) (room : List Element) (count : ℕ) (has : Bool) (left all : List Target) →
    TargetsListedSoFar s room count has left all → left ≡ [] →
    (count ≡ length (elements_for s all)) × (map piece_of (take count room) ≡ elements_for s all) × (has ≡ has_setting s all)
listed_targets_are_all s room count has left all h none =
    let es = ap (elements_for s) none ∙ empty_list_has_no_elements s in (
      omega (arith, h.number, ap length es),
      sym (append-nil (map piece_of (take count room))) ∙ (ap (λ (xs : List Piece). map piece_of (take count room) ++ xs) (sym es) ∙ h.listed),
      sym (or_false_is_left has (has_setting s left) (ap (has_setting s) none ∙ empty_list_has_no_setting s)) ∙ h.has_it,
    )
