-- A payload followed by its suffix is a file of the grammar.
use Rattle.std.proofs.Common.{◌≡◌, ◌↔◌, ℕ, ◌+◌, ◌^◌, ◌<◌, ◌≤◌, Bool, true, false, inl, inr, List, ◌++◌, length, Option, Some, None, IfSome, Result, Ok, Err, sym, ◌∙◌, subst, arith, length-append}
use Rattle.std.proofs.lemmas.List.{append_assoc}
use Rattle.std.specs.Prelude.{Vec}
use Rattle.std.specs.declared.alloc.Global.{Global}
use Rattle.dfu_suffix.specs.Grammar.{Content, IsFile, First}
use Rattle.dfu_suffix.specs.Gathering.{GatherResult}
use Rattle.dfu_suffix.specs.declared.gathering.GatherFault.{GatherFault}
use Rattle.dfu_suffix.specs.declared.gathering.GatherFault.TheVariants as gather
use Rattle.dfu_suffix.specs.Adding.{HasSuffix, IsFileWithSuffix}
use Rattle.dfu_suffix.specs.inside.Making.{MakeResult, added_fields, added_suffix, gathering_fault}
use Rattle.dfu_wire.specs.declared.ids.Ids.{Ids}
use Rattle.dfu_suffix.specs.declared.fault.SuffixFault.{SuffixFault}
use Rattle.dfu_suffix.specs.declared.fault.SuffixFault.TheVariants.{DfuSe}

-- A payload of at most 16,777,200 bytes, followed by its added suffix, is a file of the grammar.
pub added_suffix_makes_file : (payload : List ℕ) (ids : Ids) → length payload ≤ 16777200 → ids.device < 2 ^ 16 → ids.product < 2 ^ 16 →
    ids.vendor < 2 ^ 16 → IsFileWithSuffix payload ids (payload ++ added_suffix payload ids)
unfolding added_fields
added_suffix_makes_file payload ids small device product vendor = record {
  spelled = sym (append_assoc payload (added_fields ids) _);
  extra_fits = omega arith;
  device_fits = device;
  product_fits = product;
  vendor_fits = vendor;
  dfu_fits = omega arith;
  not_dfuse = λ e. absurd (omega (arith, e));
  small = omega (arith, small, length-append payload (added_suffix payload ids));
}

-- The added suffix has 16 bytes.
pub suffix_adds_16_bytes : (payload : List ℕ) (ids : Ids) → length (payload ++ added_suffix payload ids) ≡ length payload + 16
unfolding added_fields
suffix_adds_16_bytes payload ids = length-append payload (added_suffix payload ids)

-- If the gathered bytes are all bytes of the reader, the result of making a file from them is the result for the reader.
pub gathered_result_is_for_all : (given : Option (List ℕ)) (bytes : List ℕ) (ids : Ids) (r : Result (Vec ℕ Global) SuffixFault) →
    IfSome given (λ all. (bytes ≡ all) × (length all ≤ 16777200)) → MakeResult bytes ids r → IfSome given (λ all. MakeResult all ids r)
gathered_result_is_for_all None bytes ids r h m = tt
gathered_result_is_for_all (Some all) bytes ids r h m = subst (λ (xs : List ℕ). MakeResult xs ids r) h.0 m

-- If the test for a suffix is false, the tested bytes have no suffix.
pub false_test_means_no_suffix : (said : Bool) (xs ys : List ℕ) → ((said ≡ true) ↔ HasSuffix xs) → said ≡ false → xs ≡ ys → HasSuffix ys → ⊥
false_test_means_no_suffix said xs ys told off same has =
    let both = told.1 (subst HasSuffix (sym same) has) in
    let wrong : true ≡ false = sym both ∙ off in
    cc

-- If gathering the reader's bytes fails, the result of making a file from them is the fault of the same name.
pub gathering_fault_is_make_result : (given : Option (List ℕ)) (ids : Ids) (fault : GatherFault) →
    IfSome given (λ all. GatherResult 16777200 all (Err fault)) → IfSome given (λ all. MakeResult all ids (Err (gathering_fault fault)))
gathering_fault_is_make_result None ids fault h = tt
gathering_fault_is_make_result (Some all) ids gather.TooLarge h = h
gathering_fault_is_make_result (Some all) ids gather.NoMemory h = tt
gathering_fault_is_make_result (Some all) ids gather.Read h = tt

-- If `read` refuses bytes, they have a suffix exactly if the fault is `DfuSe`.
pub suffix_exactly_if_dfuse_fault : (b : List ℕ) (r : Result Content SuffixFault) (said : Bool) (fault : SuffixFault) → r ≡ Err fault →
    ((p : List ℕ) (i : Ids) (d : ℕ) (x : List ℕ) → IsFile p i d x b → r
    ≡ Ok (record { payload = p; ids = i; dfu = d; suffix = 16 + length x })) →
    ((f : SuffixFault) → (r ≡ Err f) ↔ First f b) → ((said ≡ true) ↔ (fault ≡ DfuSe)) → (said ≡ true) ↔ HasSuffix b
suffix_exactly_if_dfuse_fault b r said fault is only faults told = (
  λ on. inr ((faults DfuSe).0 (subst (λ (f : SuffixFault). r ≡ Err f) (told.0 on) is)),
  λ has. elim has [
    | inl reading ↦ (let read : r ≡ Ok _ = only reading.0 reading.1 reading.2 reading.3 reading.4 in cc)
    | inr first ↦ (let refused : r ≡ Err DfuSe = (faults DfuSe).1 first in let same : fault ≡ DfuSe = cc in told.1 same)
  ],
)
