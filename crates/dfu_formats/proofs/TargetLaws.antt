-- The encoding of a DfuSe file's targets: reading returns the targets that were encoded, and only those.
use Rattle.std.proofs.Common.{◌≡◌, ℕ, zero, suc, ◌^◌, ◌<◌, ◌≤◌, ◌&&◌, true, not, eqb, ltb, List, [], ◌∷◌, ◌++◌, length, take, drop, get_or, Result, Ok, refl, sym, ap, ◌∙◌, subst, arith, length-append, length-take, length-drop}
use Rattle.std.proofs.lemmas.Bool.{eqb-true, ltb-false, not-false, and_parts, le-ltb}
use Rattle.std.proofs.lemmas.List.{take-append-drop, take_at, drop_at, drop-drop}
use Rattle.std.proofs.Math.Seq.{drop-cons}
use Rattle.dfu_suffix.proofs.Bytes.{AreBytes-take, AreBytes-drop}
use Rattle.dfu_suffix.specs.Laws.{AreBytes}
use Rattle.dfu_formats.specs.images.Elements.{Piece}
use Rattle.dfu_formats.specs.declared.dfuse.fault.FileFault.{FileFault}
use Rattle.dfu_formats.specs.declared.dfuse.fault.FileFault.TheVariants.{NoTarget, BadTargetSize}
use Rattle.dfu_formats.specs.dfuse.Reading.{Target, Heading, ◌>>=◌, number_at, elements_at, is_target, heading_at, target_with_elements, target_before_others, targets_at}
use Rattle.dfu_formats.specs.dfuse.Grammar.{four_bytes_of, spelled_elements, ElementsInRange, target_letters, spelled_targets, TargetsInRange}
use Rattle.dfu_formats.proofs.FileSteps.{ok_sequence_has_ok_steps, passed_condition_is_false, false_condition_is_skipped, ok_values_equal}
use Rattle.dfu_formats.proofs.FileFields.{place_spells_number, true_test_finds_four_letters, number_at_fits_32_bits, number_at_is_read_back, six_bytes_precede_rest}
use Rattle.dfu_formats.proofs.ElementLaws.{IsSpelledList, no_bytes_spell_no_items, read_elements_are_spelled, spelled_elements_are_read}

-- Encoding of a heading: the fields of the target, its content, and the bytes after the target.
abbrev spelled_heading : Heading → List ℕ
spelled_heading h =
    target_letters ++ (h.setting ∷ (four_bytes_of h.named ++
    (h.name ++ (four_bytes_of (length h.content) ++ (four_bytes_of h.count ++ (h.content ++ h.rest))))))

-- `b` is the encoding of heading `h`. The fields of `h` fit, and all items of its content and of its rest are bytes.
record BeginsWithTarget (b : List ℕ) (h : Heading) : Type 0 where
  pub spelled : b ≡ spelled_heading h
  pub setting_fits : h.setting < 256
  pub named_fits : h.named < 2 ^ 32
  pub name_fits : length h.name ≡ 255
  pub size_fits : length h.content < 2 ^ 32
  pub count_fits : h.count < 2 ^ 32
  pub content_bytes : AreBytes h.content
  pub rest_bytes : AreBytes h.rest

-- Bytes that pass `is_target` begin with the letters Target.
target_test_finds_letters : (b : List ℕ) → 6 ≤ length b → is_target b ≡ true → b ≡ target_letters ++ drop 6 b
target_test_finds_letters b long h =
    let (e0, e1, e2, e3, more) = true_test_finds_four_letters b 84 97 114 103 (eqb (get_or b 4 0) 101 && eqb (get_or b 5 0) 116) h in
    let last = and_parts (eqb (get_or b 4 0) 101) (eqb (get_or b 5 0) 116) more in
    let e4 = eqb-true (get_or b 4 0) 101 last.0 in
    let e5 = eqb-true (get_or b 5 0) 116 last.1 in
    let cells = six_bytes_precede_rest b long in
    cc

-- If `heading_at` reads a heading from bytes, they begin with its encoding.
read_heading_is_spelled : (b : List ℕ) (h : Heading) → AreBytes b → heading_at b ≡ Ok h → BeginsWithTarget b h
unfolding heading_at
read_heading_is_spelled b h f e =
    let n = number_at 266 b in
    let p0 = passed_condition_is_false (ltb (length b) 274) NoTarget _ h e in
    let p1 = passed_condition_is_false (not (is_target b)) NoTarget _ h p0.1 in
    let p2 = passed_condition_is_false (ltb (length (drop 274 b)) n) BadTargetSize _ h p1.1 in
    let long : 274 ≤ length b = ltb-false (length b) 274 p0.0 in
    let room : n ≤ length (drop 274 b) = ltb-false (length (drop 274 b)) n p2.0 in
    let content = take n (drop 274 b) in
    let rest = drop n (drop 274 b) in
    let name = take 255 (drop 11 b) in
    let has : length content ≡ n = length-take n (drop 274 b) ∙ omega (arith, room) in
    let d274 : drop 274 b ≡ content ++ rest = sym (take-append-drop n (drop 274 b)) in
    let d270 : drop 270 b ≡ four_bytes_of (number_at 270 b) ++ drop 274 b = place_spells_number 270 274 b f refl long in
    let d266 : drop 266 b ≡ four_bytes_of (length content) ++ drop 270 b =
    place_spells_number 266 270 b f refl (omega (arith, long)) ∙ ap (λ (k : ℕ). four_bytes_of k ++ drop 270 b) (sym has) in
    let d11 : drop 11 b ≡ name ++ drop 266 b =
    sym (take-append-drop 255 (drop 11 b)) ∙ ap (λ (z : List ℕ). name ++ z) (drop-drop 255 11 b) in
    let d7 : drop 7 b ≡ four_bytes_of (number_at 7 b) ++ drop 11 b = place_spells_number 7 11 b f refl (omega (arith, long)) in
    let d6 : drop 6 b ≡ get_or b 6 0 ∷ drop 7 b = drop-cons b 6 0 (omega (arith, long)) in
    let d0 : b ≡ target_letters ++ drop 6 b = target_test_finds_letters b (omega (arith, long)) (not-false (is_target b) p1.0) in
    let w270 = d270 ∙ ap (λ (z : List ℕ). four_bytes_of (number_at 270 b) ++ z) d274 in
    let w266 = d266 ∙ ap (λ (z : List ℕ). four_bytes_of (length content) ++ z) w270 in
    let w11 = d11 ∙ ap (λ (z : List ℕ). name ++ z) w266 in
    let w7 = d7 ∙ ap (λ (z : List ℕ). four_bytes_of (number_at 7 b) ++ z) w11 in
    let w6 = d6 ∙ ap (λ (z : List ℕ). get_or b 6 0 ∷ z) w7 in
    subst (λ (t : Heading). BeginsWithTarget b t) (ok_values_equal _ h p2.1) (record {
      spelled = d0 ∙ ap (λ (z : List ℕ). target_letters ++ z) w6;
      setting_fits = f 6;
      named_fits = number_at_fits_32_bits 7 b f;
      name_fits = length-take 255 (drop 11 b) ∙ omega (arith, long, length-drop 11 b);
      size_fits = omega (arith, has, number_at_fits_32_bits 266 b f);
      count_fits = number_at_fits_32_bits 270 b f;
      content_bytes = AreBytes-take n (drop 274 b) (AreBytes-drop b 274 f);
      rest_bytes = AreBytes-drop (drop 274 b) n (AreBytes-drop b 274 f);
    })

headings_equal : (a a' n n' k k' : ℕ) (m m' e e' r r' : List ℕ) → a ≡ a' → n ≡ n' → m ≡ m' → k ≡ k' → e ≡ e' → r ≡ r' →
    ◌≡◌ {A = Heading} (record { setting = a; named = n; name = m; count = k; content = e; rest = r })
    (record { setting = a'; named = n'; name = m'; count = k'; content = e'; rest = r' })
headings_equal a a' n n' k k' m m' e e' r r' h0 h1 h2 h3 h4 h5 = cc

-- Each field of a heading, except the setting, fits in the number of bytes that the format reserves for it.
record HeadingFits (h : Heading) : Type 0 where
  pub named_fits : h.named < 2 ^ 32
  pub name_fits : length h.name ≡ 255
  pub size_fits : length h.content < 2 ^ 32
  pub count_fits : h.count < 2 ^ 32

-- `heading_at` reads the encoding of a heading whose fields fit.
spelled_heading_is_read : (h : Heading) → HeadingFits h → heading_at (spelled_heading h) ≡ Ok h
unfolding heading_at
spelled_heading_is_read h fits =
    let b = spelled_heading h in
    let n = length h.content in
    let end = h.content ++ h.rest in
    let counted = four_bytes_of h.count ++ end in
    let sized = four_bytes_of n ++ counted in
    let d7 : drop 7 b ≡ four_bytes_of h.named ++ (h.name ++ sized) = refl in
    let d11 : drop 11 b ≡ h.name ++ sized = refl in
    let d266 : drop 266 b ≡ sized = sym (drop-drop 255 11 b) ∙ drop_at h.name sized 255 fits.name_fits in
    let d270 : drop 270 b ≡ counted = sym (drop-drop 4 266 b) ∙ ap (drop 4) d266 in
    let d274 : drop 274 b ≡ end = sym (drop-drop 4 270 b) ∙ ap (drop 4) d270 in
    let named : number_at 7 b ≡ h.named = number_at_is_read_back h.named 7 b (h.name ++ sized) fits.named_fits d7 in
    let size : number_at 266 b ≡ n = number_at_is_read_back n 266 b counted fits.size_fits d266 in
    let count : number_at 270 b ≡ h.count = number_at_is_read_back h.count 270 b end fits.count_fits d270 in
    let name : take 255 (drop 11 b) ≡ h.name = take_at h.name sized 255 fits.name_fits in
    let content : take (number_at 266 b) (drop 274 b) ≡ h.content = ap (take (number_at 266 b)) d274
    ∙ take_at h.content h.rest (number_at 266 b) (sym size) in
    let rest : drop (number_at 266 b) (drop 274 b) ≡ h.rest = ap (drop (number_at 266 b)) d274
    ∙ drop_at h.content h.rest (number_at 266 b) (sym size) in
    false_condition_is_skipped (ltb (length b) 274) NoTarget _ _ (le-ltb (length b) 274 (omega (
      arith,
      length-append h.name sized,
      fits.name_fits,
    )))
    (false_condition_is_skipped (not (is_target b)) NoTarget _ _ refl
    (false_condition_is_skipped (ltb (length (drop 274 b)) (number_at 266 b)) BadTargetSize _ _
    (le-ltb (length (drop 274 b)) (number_at 266 b) (omega (arith, ap length d274, length-append h.content h.rest, size)))
    (ap Ok (headings_equal _ _ _ _ _ _ _ _ _ _ _ _ refl named name count content rest))))

-- `b` is the encoding of these `count` targets, each in range, and nothing more.
abbrev pub AreSpelledTargets : ℕ → List ℕ → List Target → Type 0
AreSpelledTargets count b ts = IsSpelledList spelled_targets TargetsInRange count b ts

-- If the content of a heading is the encoding of its elements, and its rest is the encoding of the other targets, the encoded heading is
-- the encoding of all targets.
heading_spells_target : (h : Heading) (es : List Piece) (ts : List Target) → h.content ≡ spelled_elements es → length es ≡ h.count →
    h.rest ≡ spelled_targets ts →
    spelled_heading h ≡ spelled_targets (target_with_elements h es ∷ ts)
unfolding spelled_targets
heading_spells_target h es ts content count rest = cc

-- If a first target with its elements is followed by the encoding of `n` targets, both together are the encoding of `n + 1` targets.
first_target_joins_spelled : (n : ℕ) (b : List ℕ) (h : Heading) (es : List Piece) (ts : List Target) → BeginsWithTarget b h →
    h.content ≡ spelled_elements es →
    length es ≡ h.count → ElementsInRange es → AreSpelledTargets n h.rest ts → AreSpelledTargets (suc n) b (target_with_elements h es ∷ ts)
unfolding TargetsInRange
first_target_joins_spelled n b h es ts heads content count fit r = record {
  spelled = heads.spelled ∙ heading_spells_target h es ts content count r.spelled;
  number = omega (arith, r.number);
  fit = (
    record {
      setting_fits = heads.setting_fits;
      named_fits = heads.named_fits;
      name_fits = heads.name_fits;
      size_fits = subst (λ (z : List ℕ). length z < 2 ^ 32) content heads.size_fits;
      count_fits = omega (arith, heads.count_fits, count);
      elements_fit = fit;
    },
    r.fit,
  );
}

-- The bytes that `targets_at` reads are the encoding of the targets that it returns.
pub read_targets_are_spelled : (count : ℕ) (b : List ℕ) (ts : List Target) → AreBytes b → targets_at count b ≡ Ok ts →
    AreSpelledTargets count b ts
unfolding targets_at spelled_targets TargetsInRange
read_targets_are_spelled zero [] ts f h = no_bytes_spell_no_items spelled_targets TargetsInRange ts refl tt h
read_targets_are_spelled zero (x ∷ b) ts f h = cc
read_targets_are_spelled (suc n) b ts f e =
    let p = ok_sequence_has_ok_steps (heading_at b) _ ts e in
    let h = p.0 in
    let heads = read_heading_is_spelled b h f p.1 in
    let q = ok_sequence_has_ok_steps (elements_at h.count h.content) _ ts p.2 in
    let elements = read_elements_are_spelled h.count h.content q.0 heads.content_bytes q.1 in
    let r = ok_sequence_has_ok_steps (targets_at n h.rest) _ ts q.2 in
    let more = read_targets_are_spelled n h.rest r.0 heads.rest_bytes r.1 in
    subst (λ (z : List Target). AreSpelledTargets (suc n) b z) (ok_values_equal _ ts r.2)
    (first_target_joins_spelled n b h q.0 r.0 heads elements.spelled elements.number elements.fit more)

-- The heading of a target, with the bytes after the target.
abbrev heading_of_target : Target → List ℕ → Heading
heading_of_target t rest = record {
  setting = t.setting;
  named = t.named;
  name = t.name;
  count = length t.elements;
  content = spelled_elements t.elements;
  rest = rest;
}

-- `targets_at` decodes the encoding of any list of targets in range.
pub spelled_targets_are_read : (ts : List Target) → TargetsInRange ts → targets_at (length ts) (spelled_targets ts) ≡ Ok ts
unfolding targets_at spelled_targets TargetsInRange
spelled_targets_are_read [] h = refl
spelled_targets_are_read (t ∷ ts) h =
    let k = heading_of_target t (spelled_targets ts) in
    let fits = h.0 in
    let heading = spelled_heading_is_read k (record {
      named_fits = fits.named_fits;
      name_fits = fits.name_fits;
      size_fits = fits.size_fits;
      count_fits = fits.count_fits;
    }) in
    ap (λ (r : Result Heading FileFault). r >>= λ h. elements_at h.count h.content >>= λ es. target_before_others (target_with_elements h
    es) (targets_at (length ts) h.rest))
    heading
    ∙ (ap (λ (r : Result (List Piece) FileFault). r >>= λ es. target_before_others (target_with_elements k es) (targets_at (length ts)
    (spelled_targets ts)))
    (spelled_elements_are_read t.elements fits.elements_fit)
    ∙ ap (target_before_others t) (spelled_targets_are_read ts h.1))
