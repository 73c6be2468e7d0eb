-- Text of successive descriptors, built up from the first descriptor to the last.
use Rattle.std.proofs.Common.{◌≡◌, ◌≤◌, ◌++◌, refl, ap, sym, subst, ◌∙◌, Bool, false, List, ℕ, [], length, take, drop, slice_index, Result, Ok, Err}
use Rattle.std.proofs.lemmas.List.{append_assoc, append-nil}
use Rattle.dfu_wire.specs.declared.fault.WireFault.{WireFault}
use Rattle.dfu_output.specs.Configuration.{DescriptorTextAdded, DescriptorText, DescriptorsText, DescriptorsTextAdded, ConfigurationText, text_then_result, end, stops, goes_on, whole, total_length, configuration_line}

-- Putting two texts before a result is the same as putting the joined text before it.
two_texts_join_before_result : (first second : List ℕ) (r : Result (List ℕ) WireFault) → text_then_result first (text_then_result second r)
    ≡ text_then_result (first ++ second) r
two_texts_join_before_result first second (Ok rest) = ap Ok (sym (append_assoc first second rest))
two_texts_join_before_result first second (Err e) = refl

-- Putting the empty text before a result leaves it unchanged.
empty_text_leaves_result : (r : Result (List ℕ) WireFault) → text_then_result [] r ≡ r
empty_text_leaves_result (Ok rest) = refl
empty_text_leaves_result (Err e) = refl

-- The line holds the text of the descriptors before `rest`, and the text of the descriptors in `rest` completes it.
abbrev pub DescriptorsTextSoFar : (bytes old : List ℕ) (inside : Bool) (rest line : List ℕ) → Type 0
DescriptorsTextSoFar bytes old inside rest line = (text : List ℕ) × (line ≡ old ++ text)
    × ((r : Result (List ℕ) WireFault) → DescriptorsText inside rest r → DescriptorsText false bytes (text_then_result text r))

-- Before the first descriptor, the line holds no text of a descriptor.
pub descriptors_text_begins_empty : (bytes old : List ℕ) → DescriptorsTextSoFar bytes old false bytes old
descriptors_text_begins_empty bytes old = (
  [],
  sym (append-nil old),
  λ r w. subst (λ (a : Result (List ℕ) WireFault). DescriptorsText false bytes a) (sym (empty_text_leaves_result r))
      w,
)

-- After a descriptor without a fault, the line also holds the text of this descriptor, and the text of the remaining descriptors completes
-- it.
pub descriptor_grows_text : (bytes old : List ℕ) (inside now : Bool) (rest front back line new : List ℕ) →
    DescriptorsTextSoFar bytes old inside rest line →
    2 ≤ slice_index rest 0 → slice_index rest 0 ≤ length rest → front ≡ take (slice_index rest 0) rest
    → back ≡ drop (slice_index rest 0) rest →
    DescriptorTextAdded inside front line new (Ok now) → DescriptorsTextSoFar bytes old now back new
descriptor_grows_text bytes old inside now rest front back line new (text, is, all) long fits in_front behind (more, adds, then) = (
  text ++ more,
  then ∙ ap (λ (l : List ℕ). l ++ more) is ∙ append_assoc old text more,
  λ r w. subst (λ (a : Result (List ℕ) WireFault). DescriptorsText false bytes a) (two_texts_join_before_result text more r) (all
      (text_then_result more r)
      (goes_on long fits (subst (λ (d : List ℕ). DescriptorText inside d now (Ok more)) in_front adds)
      (subst (λ (b : List ℕ). DescriptorsText now b r) behind w))),
)

-- If a descriptor has a fault, this is the first fault of all descriptors.
pub descriptor_stops_text : (bytes old : List ℕ) (inside : Bool) (rest front line new : List ℕ) (e : WireFault)
    → DescriptorsTextSoFar bytes old inside rest line →
    2 ≤ slice_index rest 0 → slice_index rest 0 ≤ length rest → front ≡ take (slice_index rest 0) rest
    → DescriptorTextAdded inside front line new (Err e) →
    DescriptorsText false bytes (Err e)
descriptor_stops_text bytes old inside rest front line new e (text, is, all) long fits in_front adds =
    all (Err e) (stops long fits (subst (λ (d : List ℕ). DescriptorText inside d inside (Err e)) in_front adds))

-- When no descriptor remains, the line holds the text of all descriptors.
pub line_has_all_text_at_end : (bytes old : List ℕ) (inside : Bool) (rest line : List ℕ) → DescriptorsTextSoFar bytes old inside rest line
    → rest
    ≡ [] →
    (text : List ℕ) × DescriptorsText false bytes (Ok text) × (line ≡ old ++ text)
line_has_all_text_at_end bytes old inside rest line (text, is, all) none = (
  text,
  subst (λ (t : List ℕ). DescriptorsText false bytes (Ok t)) (append-nil text)
      (all (Ok []) (subst (λ (b : List ℕ). DescriptorsText inside b (Ok [])) (sym none) end)),
  is,
)

-- If the descriptors after the first nine bytes can be decoded, the line with their text is the text of the whole configuration.
pub configuration_can_be_read : (bytes back old new : List ℕ) → 9 ≤ length bytes → slice_index bytes 1 ≡ 2 → slice_index bytes 0 ≡ 9 →
    total_length bytes ≡ length bytes → back ≡ drop 9 bytes → old ≡ configuration_line (slice_index bytes 5) →
    DescriptorsTextAdded back old new (Ok tt) → ConfigurationText bytes (Ok new)
configuration_can_be_read bytes back old new long kind nine total behind first (text, walks, is) = subst (λ (t : List ℕ). ConfigurationText
    bytes (Ok t))
    (ap (λ (l : List ℕ). l ++ text) (sym first) ∙ sym is)
    (whole long kind nine total (subst (λ (b : List ℕ). DescriptorsText false b (Ok text)) behind walks))

-- The fault of a descriptor after the first nine bytes is the fault of the whole configuration.
pub descriptor_fault_is_of_whole : (bytes back old new : List ℕ) (e : WireFault) → 9 ≤ length bytes → slice_index bytes 1 ≡ 2 →
    slice_index bytes 0 ≡ 9 →
    total_length bytes ≡ length bytes → back ≡ drop 9 bytes → DescriptorsTextAdded back old new (Err e) → ConfigurationText bytes (Err e)
descriptor_fault_is_of_whole bytes back old new e long kind nine total behind walks =
    whole long kind nine total (subst (λ (b : List ℕ). DescriptorsText false b (Err e)) behind walks)
