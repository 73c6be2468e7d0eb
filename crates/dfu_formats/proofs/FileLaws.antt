-- `file_at` reads exactly the DfuSe files of the grammar.
use Rattle.std.proofs.Common.{◌≡◌, ◌⊎◌, ℕ, ◌≤◌, ◌||◌, true, not, eqb, ltb, List, ◌∷◌, ◌++◌, length, take, drop, get_or, Result, Ok, IfOk, inl, inr, refl, sym, ap, ◌∙◌, subst, arith}
use Rattle.std.proofs.lemmas.Bool.{eqb-true, eq-eqb, ltb-false, not-false, le-ltb, or_cases, or_left, or_right}
use Rattle.std.proofs.lemmas.List.{append_assoc}
use Rattle.std.proofs.Math.Seq.{drop-cons, take-append_seam}
use Rattle.dfu_suffix.proofs.FileLaws.{each_value_gives_if_ok}
use Rattle.dfu_suffix.proofs.Bytes.{AreBytes-take, AreBytes-drop}
use Rattle.dfu_suffix.specs.Laws.{AreBytes}
use Rattle.dfu_formats.specs.declared.dfuse.fault.FileFault.{FileFault}
use Rattle.dfu_formats.specs.declared.dfuse.fault.FileFault.TheVariants.{NoPrefix, BadVersion, BadImageSize, NoTargets}
use Rattle.dfu_formats.specs.dfuse.Reading.{Target, PayloadAndIds, DfuseContent, ◌>>=◌, number_at, begins_with_dfuse, targets_at, body_at, suffix_at, file_of_targets, file_at}
use Rattle.dfu_formats.specs.dfuse.Grammar.{four_bytes_of, dfuse_opening, spelled_targets, IsBody, IsDfuSe}
use Rattle.dfu_formats.proofs.FileSteps.{ok_sequence_has_ok_steps, passed_condition_is_false, false_condition_is_skipped, ok_values_equal, positive_number_is_not_zero, zero_test_false_means_positive}
use Rattle.dfu_formats.proofs.FileFields.{place_spells_number, true_test_finds_four_letters, number_at_fits_32_bits, number_at_is_read_back, six_bytes_precede_rest}
use Rattle.dfu_formats.proofs.TargetLaws.{read_targets_are_spelled, spelled_targets_are_read}
use Rattle.dfu_formats.proofs.SuffixLaws.{read_suffix_is_spelled}
use Rattle.dfu_formats.proofs.SuffixReads.{spelled_suffix_is_read}

-- Bytes that begin with the letters DfuSe and the version 1 begin with `dfuse_opening`.
prefix_and_version_are_opening : (b : List ℕ) → 6 ≤ length b → begins_with_dfuse b ≡ true → get_or b 5 0 ≡ 1 → b ≡ dfuse_opening ++ drop 6 b
prefix_and_version_are_opening b long h v =
    let (e0, e1, e2, e3, last) = true_test_finds_four_letters b 68 102 117 83 (eqb (get_or b 4 0) 101) h in
    let e4 = eqb-true (get_or b 4 0) 101 last in
    let cells = six_bytes_precede_rest b long in
    cc

-- If the test that `n` is `a` or `b` is true, `n` is `a` or `b`.
number_is_one_of_two : (n a b : ℕ) → (eqb n a || eqb n b) ≡ true → (n ≡ a) ⊎ (n ≡ b)
number_is_one_of_two n a b h = elim (or_cases (eqb n a) (eqb n b) h) [ inl e ↦ inl (eqb-true n a e) | inr e ↦ inr (eqb-true n b e) ]

-- If `body_at` reads targets from the bytes, the bytes are a body with these targets.
read_body_is_spelled : (whole : ℕ) (b : List ℕ) (ts : List Target) → AreBytes b → body_at whole b ≡ Ok ts → IsBody ts whole b
unfolding body_at
read_body_is_spelled whole b ts f h =
    let size = number_at 6 b in
    let count = get_or b 10 0 in
    let p0 = passed_condition_is_false (ltb (length b) 11) NoPrefix _ ts h in
    let p1 = passed_condition_is_false (not (begins_with_dfuse b)) NoPrefix _ ts p0.1 in
    let p2 = passed_condition_is_false (not (eqb (get_or b 5 0) 1)) BadVersion _ ts p1.1 in
    let p3 = passed_condition_is_false (not (eqb size (length b) || eqb size whole)) BadImageSize _ ts p2.1 in
    let p4 = passed_condition_is_false (eqb count 0) NoTargets _ ts p3.1 in
    let long : 11 ≤ length b = ltb-false (length b) 11 p0.0 in
    let are = read_targets_are_spelled count (drop 11 b) ts (AreBytes-drop b 11 f) p4.1 in
    let version : get_or b 5 0 ≡ 1 = eqb-true (get_or b 5 0) 1 (not-false (eqb (get_or b 5 0) 1) p2.0) in
    let d10 : drop 10 b ≡ length ts ∷ spelled_targets ts = drop-cons b 10 0 (omega (arith, long))
    ∙ (ap (λ (z : List ℕ). count ∷ z) are.spelled ∙ ap (λ (k : ℕ). k ∷ spelled_targets ts) (sym are.number)) in
    let d6 : drop 6 b ≡ four_bytes_of size ++ (length ts ∷ spelled_targets ts) = place_spells_number 6 10 b f refl (omega (arith, long))
    ∙ ap (λ (z : List ℕ). four_bytes_of size ++ z) d10 in
    let d0 = prefix_and_version_are_opening b (omega (arith, long)) (not-false (begins_with_dfuse b) p1.0) version in
    record {
      size = size;
      spelled = d0 ∙ ap (λ (z : List ℕ). dfuse_opening ++ z) d6;
      size_is = number_is_one_of_two size (length b) whole (not-false (eqb size (length b) || eqb size whole) p3.0);
      size_fits = number_at_fits_32_bits 6 b f;
      some = omega (arith, are.number, zero_test_false_means_positive count p4.0);
      few = omega (arith, are.number, f 10);
      fit = are.fit;
    }

-- If `n` is `a` or `b`, the test that `n` is `a` or `b` is true.
one_of_two_passes_test : (n a b : ℕ) → (n ≡ a) ⊎ (n ≡ b) → (eqb n a || eqb n b) ≡ true
one_of_two_passes_test n a b (inl h) = or_left (eqb n a) (eqb n b) (eq-eqb n a h)
one_of_two_passes_test n a b (inr h) = or_right (eqb n a) (eqb n b) (eq-eqb n b h)

-- From a body with targets, `body_at` reads these targets.
spelled_body_is_read : (whole : ℕ) (b : List ℕ) (ts : List Target) → IsBody ts whole b → body_at whole b ≡ Ok ts
unfolding body_at
spelled_body_is_read whole b ts h =
    let behind = length ts ∷ spelled_targets ts in
    let is : b ≡ dfuse_opening ++ (four_bytes_of h.size ++ behind) = h.spelled in
    let len : 11 ≤ length b = omega (arith, ap length is) in
    let size : number_at 6 b ≡ h.size = number_at_is_read_back h.size 6 b behind h.size_fits (ap (drop 6) is) in
    let count : get_or b 10 0 ≡ length ts = ap (λ (z : List ℕ). get_or z 10 0) is in
    let version : get_or b 5 0 ≡ 1 = ap (λ (z : List ℕ). get_or z 5 0) is in
    let hex_prefix_is_skipped : begins_with_dfuse b ≡ true = ap begins_with_dfuse is in
    let targets : drop 11 b ≡ spelled_targets ts = ap (drop 11) is in
    let told : (number_at 6 b ≡ length b) ⊎ (number_at 6 b ≡ whole) = subst (λ (k : ℕ). (k ≡ length b) ⊎ (k ≡ whole)) (sym size) h.size_is in
    false_condition_is_skipped (ltb (length b) 11) NoPrefix _ _ (le-ltb (length b) 11 len)
    (false_condition_is_skipped (not (begins_with_dfuse b)) NoPrefix _ _ (ap not hex_prefix_is_skipped)
    (false_condition_is_skipped (not (eqb (get_or b 5 0) 1)) BadVersion _ _ (ap not (eq-eqb (get_or b 5 0) 1 version))
    (false_condition_is_skipped (not (eqb (number_at 6 b) (length b) || eqb (number_at 6 b) whole)) BadImageSize _ _ (ap not
    (one_of_two_passes_test (number_at 6 b) (length b) whole told))
    (false_condition_is_skipped (eqb (get_or b 10 0) 0) NoTargets _ _ (positive_number_is_not_zero (get_or b 10 0) (omega (
      arith,
      count,
      h.some,
    )))
    (ap (λ (k : ℕ). targets_at k (drop 11 b)) count ∙ (ap (targets_at (length ts)) targets ∙ spelled_targets_are_read ts h.fit))))))

-- If a list of bytes begins with a payload, every item of the payload is a byte.
payload_items_are_bytes : (b rest : List ℕ) (s : PayloadAndIds) → AreBytes b → b ≡ s.payload ++ rest → AreBytes s.payload
payload_items_are_bytes b rest s f h = subst AreBytes (ap (take (length s.payload)) h
    ∙ take-append_seam s.payload rest) (AreBytes-take (length s.payload) b f)

-- If `file_at` reads a file from the bytes, they are an encoding of this file by the grammar.
read_dfuse_file_is_spelled : (b : List ℕ) (f : DfuseContent) → AreBytes b → file_at b ≡ Ok f → IsDfuSe f b
unfolding file_at
read_dfuse_file_is_spelled b f bytes h =
    let p = ok_sequence_has_ok_steps (suffix_at b) _ f h in
    let s = p.0 in
    let e = read_suffix_is_spelled b s bytes p.1 in
    let q = ok_sequence_has_ok_steps (body_at (length b) s.payload) _ f p.2 in
    let front = payload_items_are_bytes b _ s bytes (e.spelled ∙ append_assoc s.payload _ _) in
    let body = read_body_is_spelled (length b) s.payload q.0 front q.1 in
    subst (λ (x : DfuseContent). IsDfuSe x b) (ok_values_equal _ f q.2) (record { payload = s.payload; suffix = e; body = body })

-- If a result without a fault equals that of `file_at`, its value is the DfuSe file that the bytes contain.
pub read_answer_is_dfuse_file : (r : Result DfuseContent FileFault) (b : List ℕ) → AreBytes b → r ≡ file_at b → IfOk r (λ f. IsDfuSe f b)
read_answer_is_dfuse_file r b bytes h = each_value_gives_if_ok r _ (λ f e. read_dfuse_file_is_spelled b f bytes (sym h ∙ e))

-- `file_at` reads every DfuSe file that follows the grammar.
pub spelled_dfuse_file_is_read : (b : List ℕ) (f : DfuseContent) → IsDfuSe f b → file_at b ≡ Ok f
unfolding file_at
spelled_dfuse_file_is_read b f h =
    let s : PayloadAndIds = record { payload = h.payload; ids = f.ids } in
    let suffix = spelled_suffix_is_read b s h.suffix in
    ap (λ (r : Result PayloadAndIds FileFault). r >>= λ s. file_of_targets s.ids (body_at (length b) s.payload)) suffix
    ∙ ap (file_of_targets f.ids) (spelled_body_is_read (length b) h.payload f.targets h.body)
