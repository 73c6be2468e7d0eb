-- Results of reading elements and targets one by one.
use Rattle.std.proofs.Common.{◌≡◌, ◌==◌, if◌then◌else◌, eqb, ◌<◌, ◌≤◌, ◌+◌, ℕ, zero, suc, List, [], ◌∷◌, length, Result, Ok, Err, refl, sym, ap, ◌∙◌, subst, arith, ◌-◌, ◌≢◌}
use Rattle.std.proofs.lemmas.Bool.{cond-false}
use Rattle.dfu_formats.specs.images.Elements.{Piece}
use Rattle.dfu_formats.specs.declared.dfuse.fault.FileFault.{FileFault}
use Rattle.dfu_formats.specs.declared.dfuse.fault.FileFault.TheVariants.{BadTargetSize, Trailing}
use Rattle.dfu_formats.specs.dfuse.Reading.{SplitElement, Target, Heading, ◌>>=◌, front_element, element_before_others, elements_at, heading_at, target_with_elements, target_before_others, targets_at}
use Rattle.dfu_formats.specs.dfuse.Found.{list_or_empty, fault_of_result}
use Rattle.dfu_formats.proofs.FileSteps.{ok_sequence_has_ok_steps, faulty_step_gives_no_value, ok_values_equal, positive_number_is_not_zero, positive}

-- ---- loops over `count` items

-- If the result for all items is the result for the items left, at least one item is left, and the result for the items left is `x`, the
-- result for all items is `x`.
pub loop_answer_of_rest : {A : Type 0} (ask : ℕ → List ℕ → A) (count counter : ℕ) (all b : List ℕ) (x : A) → counter < count →
    ask count all ≡ ask (count - counter) b → ask (suc (count - (counter + 1))) b ≡ x → ask count all ≡ x
loop_answer_of_rest ask count counter all b x more so_far here =
    let left : count - counter ≡ suc (count - (counter + 1)) = omega arith in
    so_far ∙ (ap (λ (k : ℕ). ask k b) left ∙ here)

-- If the result for all items is the result for the items left, no item is left, and the result for no items is `x`, the result for all
-- items is `x`.
pub loop_answer_at_count : {A : Type 0} (ask : ℕ → List ℕ → A) (count counter : ℕ) (all b : List ℕ) (x : A) → count ≤ counter →
    ask count all ≡ ask (count - counter) b → ask 0 b ≡ x → ask count all ≡ x
loop_answer_at_count ask count counter all b x end so_far here =
    let left : count - counter ≡ 0 = omega arith in
    so_far ∙ (ap (λ (k : ℕ). ask k b) left ∙ here)

-- ---- the fault of elements and targets

-- First fault of bytes that should be the encoding of `count` elements, or Ok if they are.
abbrev pub fault_of_elements : ℕ → List ℕ → Result Unit FileFault
fault_of_elements count b = fault_of_result (elements_at count b)

-- First fault of bytes that should be the encoding of `count` targets, or Ok if they are.
abbrev pub fault_of_targets : ℕ → List ℕ → Result Unit FileFault
fault_of_targets count b = fault_of_result (targets_at count b)

-- Putting an element in front of other elements doesn't change the fault of the others.
first_element_keeps_fault : (e : Piece) (r : Result (List Piece) FileFault) → fault_of_result (element_before_others e r)
    ≡ fault_of_result r
first_element_keeps_fault e (Ok es) = refl
first_element_keeps_fault e (Err fault) = refl

-- If the first element has no fault, the result for all elements is that for the others.
pub faultless_element_is_passed : (n : ℕ) (b : List ℕ) (s : SplitElement) → front_element b ≡ Ok s →
    fault_of_result (elements_at (suc n) b) ≡ fault_of_result (elements_at n s.rest)
unfolding elements_at
faultless_element_is_passed n b s h =
    ap (λ (r : Result SplitElement FileFault). fault_of_result (r >>= λ s. element_before_others s.element (elements_at n s.rest))) h
    ∙ first_element_keeps_fault s.element (elements_at n s.rest)

-- A fault of the first element is the fault of all elements.
pub element_fault_is_elements_fault : (n : ℕ) (b : List ℕ) (fault : FileFault) → front_element b ≡ Err fault →
    fault_of_result (elements_at (suc n) b) ≡ Err fault
unfolding elements_at
element_fault_is_elements_fault n b fault h =
    ap (λ (r : Result SplitElement FileFault). fault_of_result (r >>= λ s. element_before_others s.element (elements_at n s.rest))) h

-- Bytes after the last element cause the fault BadTargetSize.
pub bytes_after_elements_are_fault : (b : List ℕ) → fault_of_elements 0 b ≡ (if length b == 0 then Ok tt else Err BadTargetSize)
unfolding elements_at
bytes_after_elements_are_fault [] = refl
bytes_after_elements_are_fault (x ∷ b) =
    sym (cond-false (eqb (length (x ∷ b)) 0) (Ok tt) (Err BadTargetSize) (positive_number_is_not_zero (length (x ∷ b)) (omega arith)))

-- Putting a target in front of other targets doesn't change the fault of the others.
first_target_keeps_fault : (t : Target) (r : Result (List Target) FileFault) → fault_of_result (target_before_others t r)
    ≡ fault_of_result r
first_target_keeps_fault t (Ok ts) = refl
first_target_keeps_fault t (Err fault) = refl

-- If the elements of a target have no fault, the result for all targets is that for the targets after it.
faultless_elements_keep_fault : (h : Heading) (n : ℕ) (r : Result (List Piece) FileFault) (m : Result (List Target) FileFault) →
    fault_of_result r ≡ Ok tt →
    fault_of_result (r >>= λ es. target_before_others (target_with_elements h es) m) ≡ fault_of_result m
faultless_elements_keep_fault h n (Ok es) m e = first_target_keeps_fault (target_with_elements h es) m
faultless_elements_keep_fault h n (Err fault) m e = cc

-- A fault in the elements of the first target is the fault of all targets.
elements_fault_is_targets_fault : (h : Heading) (r : Result (List Piece) FileFault) (m : Result (List Target) FileFault) (fault :
    FileFault) →
    fault_of_result r ≡ Err fault →
    fault_of_result (r >>= λ es. target_before_others (target_with_elements h es) m) ≡ Err fault
elements_fault_is_targets_fault h (Ok es) m fault e = cc
elements_fault_is_targets_fault h (Err other) m fault e = cc

-- If the first target and its elements have no fault, the result for all targets is that for the others.
pub faultless_target_is_passed : (n : ℕ) (b : List ℕ) (h : Heading) → heading_at b ≡ Ok h → fault_of_result (elements_at h.count h.content)
    ≡ Ok tt →
    fault_of_result (targets_at (suc n) b) ≡ fault_of_result (targets_at n h.rest)
unfolding targets_at
faultless_target_is_passed n b h e c =
    ap (λ (r : Result Heading FileFault). fault_of_result
    (r >>= λ h. elements_at h.count h.content >>= λ es. target_before_others (target_with_elements h es) (targets_at n h.rest))) e
    ∙ faultless_elements_keep_fault h n (elements_at h.count h.content) (targets_at n h.rest) c

-- A fault of the first heading is the fault of all targets.
pub heading_fault_is_targets_fault : (n : ℕ) (b : List ℕ) (fault : FileFault) → heading_at b ≡ Err fault →
    fault_of_result (targets_at (suc n) b) ≡ Err fault
unfolding targets_at
heading_fault_is_targets_fault n b fault e =
    ap (λ (r : Result Heading FileFault). fault_of_result
    (r >>= λ h. elements_at h.count h.content >>= λ es. target_before_others (target_with_elements h es) (targets_at n h.rest))) e

-- A fault in the first target's elements is the fault of all targets.
pub target_elements_fault_is_fault : (n : ℕ) (b : List ℕ) (h : Heading) (fault : FileFault) → heading_at b ≡ Ok h →
    fault_of_result (elements_at h.count h.content) ≡ Err fault →
    fault_of_result (targets_at (suc n) b) ≡ Err fault
unfolding targets_at
target_elements_fault_is_fault n b h fault e c =
    ap (λ (r : Result Heading FileFault). fault_of_result
    (r >>= λ h. elements_at h.count h.content >>= λ es. target_before_others (target_with_elements h es) (targets_at n h.rest))) e
    ∙ elements_fault_is_targets_fault h (elements_at h.count h.content) (targets_at n h.rest) fault c

-- Bytes after the last target cause the fault Trailing.
pub bytes_after_targets_are_fault : (b : List ℕ) → fault_of_targets 0 b ≡ (if length b == 0 then Ok tt else Err Trailing)
unfolding targets_at
bytes_after_targets_are_fault [] = refl
bytes_after_targets_are_fault (x ∷ b) = sym (cond-false (eqb (length (x ∷ b)) 0) (Ok tt) (Err Trailing) (positive_number_is_not_zero
    (length (x ∷ b)) (omega arith)))

-- ---- elements and targets that were read

-- With no element left, the list of the elements is empty.
pub no_elements_found_at_end : (b : List ℕ) → list_or_empty (elements_at 0 b) ≡ []
unfolding elements_at
no_elements_found_at_end [] = refl
no_elements_found_at_end (x ∷ b) = refl

-- The list of all items is the first item followed by the others, and the others were read without a fault.
pub record FirstItemTaken {A : Type 0} (all more : Result (List A) FileFault) (first : A) : Type 0 where
  pub rest : more ≡ Ok (list_or_empty more)
  pub is : list_or_empty all ≡ first ∷ list_or_empty more

-- If an element and the elements after it were read, this element is the first of the list.
element_precedes_found : (e : Piece) (r : Result (List Piece) FileFault) (xs : List Piece) → element_before_others e r ≡ Ok xs →
    FirstItemTaken (element_before_others e r) r e
element_precedes_found e (Ok es) xs h = record { rest = refl; is = refl }
element_precedes_found e (Err fault) xs h = cc

next_first_element_is_taken : (n : ℕ) (b : List ℕ) (s : SplitElement) (xs : List Piece) → front_element b ≡ Ok s →
    elements_at (suc n) b ≡ Ok xs →
    FirstItemTaken (elements_at (suc n) b) (elements_at n s.rest) s.element
unfolding elements_at
next_first_element_is_taken n b s xs h e =
    let is = ap (λ (r : Result SplitElement FileFault). r >>= λ s. element_before_others s.element (elements_at n s.rest)) h in
    subst (λ (r : Result (List Piece) FileFault). FirstItemTaken r (elements_at n s.rest) s.element) (sym is)
    (element_precedes_found s.element (elements_at n s.rest) xs (sym is ∙ e))

-- If elements were read and at least one is left, their list is the first one followed by the others.
pub first_element_is_taken : (left : ℕ) (b : List ℕ) (s : SplitElement) (xs : List Piece) → left ≢ 0 → front_element b ≡ Ok s
    → elements_at left b ≡ Ok xs →
    FirstItemTaken (elements_at left b) (elements_at (left - 1) s.rest) s.element
first_element_is_taken left b s xs some h =
    subst (λ (k : ℕ). elements_at k b ≡ Ok xs → FirstItemTaken (elements_at k b) (elements_at (left - 1) s.rest) s.element) (sym (positive
    left some))
    (next_first_element_is_taken (left - 1) b s xs h)

-- If elements were read and at least one is left, the first one has no fault.
pub found_elements_have_no_fault : (left : ℕ) (b : List ℕ) (fault : FileFault) (xs : List Piece) → left ≢ 0 → front_element b ≡ Err fault →
    elements_at left b ≡ Ok xs → ⊥
unfolding elements_at
found_elements_have_no_fault zero b fault xs some h e = some refl
found_elements_have_no_fault (suc n) b fault xs some h e = faulty_step_gives_no_value (front_element b) _ fault xs h e

-- With no target left, the list of the targets is empty.
pub no_targets_found_at_end : (b : List ℕ) → list_or_empty (targets_at 0 b) ≡ []
unfolding targets_at
no_targets_found_at_end [] = refl
no_targets_found_at_end (x ∷ b) = refl

-- The list of all targets is the first one, with its elements, followed by the others. Neither its elements nor the others have a fault.
pub record FirstTargetTaken (all more : Result (List Target) FileFault) (elements : Result (List Piece) FileFault) (h : Heading) : Type 0
  where
    pub its : elements ≡ Ok (list_or_empty elements)
    pub rest : more ≡ Ok (list_or_empty more)
    pub is : list_or_empty all ≡ target_with_elements h (list_or_empty elements) ∷ list_or_empty more

-- If a target and the targets after it were read, this target is the first of the list.
heading_precedes_found_targets : (h : Heading) (r : Result (List Piece) FileFault) (m : Result (List Target) FileFault) (xs : List Target) →
    (r >>= λ es. target_before_others (target_with_elements h es) m) ≡ Ok xs →
    FirstTargetTaken (r >>= λ es. target_before_others (target_with_elements h es) m) m r h
heading_precedes_found_targets h (Ok es) (Ok ts) xs e = record { its = refl; rest = refl; is = refl }
heading_precedes_found_targets h (Ok es) (Err fault) xs e = cc
heading_precedes_found_targets h (Err fault) m xs e = cc

next_first_target_is_taken : (n : ℕ) (b : List ℕ) (h : Heading) (xs : List Target) → heading_at b ≡ Ok h → targets_at (suc n) b ≡ Ok xs →
    FirstTargetTaken (targets_at (suc n) b) (targets_at n h.rest) (elements_at h.count h.content) h
unfolding targets_at
next_first_target_is_taken n b h xs h0 e =
    let is = ap (λ (r : Result Heading FileFault). r >>= λ h. elements_at h.count h.content >>= λ es. target_before_others
    (target_with_elements h es) (targets_at n h.rest)) h0 in
    subst (λ (r : Result (List Target) FileFault). FirstTargetTaken r (targets_at n h.rest) (elements_at h.count h.content) h) (sym is)
    (heading_precedes_found_targets h (elements_at h.count h.content) (targets_at n h.rest) xs (sym is ∙ e))

-- If targets were read and at least one is left, their list is the first one followed by the others.
pub first_target_is_taken : (left : ℕ) (b : List ℕ) (h : Heading) (xs : List Target) → left ≢ 0 → heading_at b ≡ Ok h →
    targets_at left b ≡ Ok xs →
    FirstTargetTaken (targets_at left b) (targets_at (left - 1) h.rest) (elements_at h.count h.content) h
first_target_is_taken left b h xs some e =
    subst (λ (k : ℕ). targets_at k b ≡ Ok xs → FirstTargetTaken (targets_at k b) (targets_at (left - 1) h.rest) (elements_at h.count
    h.content) h)
    (sym (positive left some)) (next_first_target_is_taken (left - 1) b h xs e)

-- If targets were read and at least one is left, the first heading has no fault.
pub found_targets_have_no_fault : (left : ℕ) (b : List ℕ) (fault : FileFault) (xs : List Target) → left ≢ 0 → heading_at b ≡ Err fault →
    targets_at left b ≡ Ok xs → ⊥
unfolding targets_at
found_targets_have_no_fault zero b fault xs some h e = some refl
found_targets_have_no_fault (suc n) b fault xs some h e = faulty_step_gives_no_value (heading_at b) _ fault xs h e

-- A list of `n` items with one more in front has `n + 1` items.
item_before_list_adds_one : {A : Type 0} (n : ℕ) (x : A) (more xs : List A) → length more ≡ n
    → ◌≡◌ {A = Result (List A) FileFault} (Ok (x ∷ more)) (Ok xs) → length xs ≡ suc n
item_before_list_adds_one n x more xs number h = ap length (sym (ok_values_equal (x ∷ more) xs h)) ∙ omega (arith, number)

-- If `elements_at` reads `n` elements, its list has length `n`.
pub found_elements_are_counted : (n : ℕ) (b : List ℕ) (xs : List Piece) → elements_at n b ≡ Ok xs → length xs ≡ n
unfolding elements_at
found_elements_are_counted zero b xs h = ap length (sym (ap list_or_empty h) ∙ no_elements_found_at_end b)
found_elements_are_counted (suc n) b xs h =
    let p = ok_sequence_has_ok_steps (front_element b) _ xs h in
    let q = ok_sequence_has_ok_steps (elements_at n p.0.rest) _ xs p.2 in
    item_before_list_adds_one n p.0.element q.0 xs (found_elements_are_counted n p.0.rest q.0 q.1) q.2

-- If `targets_at` reads `n` targets, its list has length `n`.
pub found_targets_are_counted : (n : ℕ) (b : List ℕ) (xs : List Target) → targets_at n b ≡ Ok xs → length xs ≡ n
unfolding targets_at
found_targets_are_counted zero b xs h = ap length (sym (ap list_or_empty h) ∙ no_targets_found_at_end b)
found_targets_are_counted (suc n) b xs h =
    let p = ok_sequence_has_ok_steps (heading_at b) _ xs h in
    let q = ok_sequence_has_ok_steps (elements_at p.0.count p.0.content) _ xs p.2 in
    let r = ok_sequence_has_ok_steps (targets_at n p.0.rest) _ xs q.2 in
    item_before_list_adds_one n (target_with_elements p.0 q.0) r.0 xs (found_targets_are_counted n p.0.rest r.0 r.1) r.2
