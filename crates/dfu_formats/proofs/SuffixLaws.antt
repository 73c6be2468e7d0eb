-- If `suffix_at` reads a DfuSe suffix from bytes, they end in this suffix.
use Rattle.std.proofs.Common.{◌≡◌, ◌≢◌, ◌↔◌, ℕ, ◌^◌, ◌<◌, ◌≤◌, Bool, true, false, cond, List, ◌++◌, length, drop, Option, Some, None, Result, Ok, Err, refl, ap, subst}
use Rattle.std.specs.Prelude.{find}
use Rattle.std.proofs.lemmas.Bool.{eqb-true}
use Rattle.byteorder.specs.Endian.{little_number}
use Rattle.dfu_suffix.specs.Laws.{AreBytes}
use Rattle.dfu_suffix.specs.Grammar.{tail_of, has_fault, fault_order}
use Rattle.dfu_suffix.specs.declared.fault.SuffixFault.{SuffixFault}
use Rattle.dfu_suffix.specs.declared.fault.SuffixFault.TheVariants as suffix
use Rattle.dfu_suffix.proofs.OneReading.{IsSpelledFile}
use Rattle.dfu_suffix.proofs.NoFault.{HasSuffixForm, IsIntact, extra_fits, extra_bytes_of, tail_field_fits_two_bytes, formed, no_crc_fault_means_intact, spelled}
use Rattle.dfu_formats.specs.declared.dfuse.fault.FileFault.TheVariants.{BadCrc, NotDfuSe}
use Rattle.dfu_formats.specs.dfuse.Reading.{PayloadAndIds, payload_and_ids_of, is_dfuse, suffix_refusal, suffix_with_checked_crc, suffix_by_fault, suffix_at}
use Rattle.dfu_formats.specs.dfuse.Grammar.{SuffixedFile}
use Rattle.dfu_formats.proofs.FileSteps.{ok_values_equal, passed_condition_is_false as passed_over}

-- ---- the fault that was found

-- `is_dfuse` is true only for the fault `DfuSe`.
pub dfuse_test_means_dfuse_fault : (f : SuffixFault) → is_dfuse f ≡ true → f ≡ suffix.DfuSe
dfuse_test_means_dfuse_fault suffix.DfuSe h = refl
dfuse_test_means_dfuse_fault suffix.TooLarge h = cc
dfuse_test_means_dfuse_fault suffix.TooShort h = cc
dfuse_test_means_dfuse_fault suffix.NoSignature h = cc
dfuse_test_means_dfuse_fault suffix.BadLength h = cc
dfuse_test_means_dfuse_fault suffix.BadCrc h = cc
dfuse_test_means_dfuse_fault suffix.AlreadySuffixed h = cc
dfuse_test_means_dfuse_fault suffix.NoMemory h = cc
dfuse_test_means_dfuse_fault suffix.Read h = cc
dfuse_test_means_dfuse_fault suffix.Write h = cc

-- If the suffix of a DfuSe file was read, the test for the fault `DfuSe` was true, and the suffix passed the check of its CRC.
read_suffix_passed_test : (t : Bool) (f : SuffixFault) (b : List ℕ) (s : PayloadAndIds) →
    cond t (suffix_with_checked_crc b) (Err (suffix_refusal f)) ≡ Ok s →
    (t ≡ true) × (suffix_with_checked_crc b ≡ Ok s)
read_suffix_passed_test true f b s h = (refl, h)
read_suffix_passed_test false f b s h = cc

-- If the suffix of a DfuSe file was read, its first fault as a DFU suffix is `DfuSe`, its CRC is right, and `s` holds the payload and the
-- identifiers of the bytes.
read_suffix_has_dfuse_fault : (o : Option SuffixFault) (b : List ℕ) (s : PayloadAndIds) → suffix_by_fault o b ≡ Ok s →
    (o ≡ Some suffix.DfuSe) × (has_fault b suffix.BadCrc ≡ false) × (payload_and_ids_of b ≡ s)
unfolding suffix_by_fault
read_suffix_has_dfuse_fault None b s h = cc
read_suffix_has_dfuse_fault (Some f) b s h =
    let p = read_suffix_passed_test (is_dfuse f) f b s h in
    let q = passed_over (has_fault b suffix.BadCrc) BadCrc (Ok (payload_and_ids_of b)) s p.1 in
    (ap Some (dfuse_test_means_dfuse_fault f p.0), q.0, ok_values_equal _ s q.1)

-- If the search finds the fault `DfuSe`, an earlier test for another fault was false.
other_fault_was_not_found : (t : Bool) (x : SuffixFault) (o : Option SuffixFault) → x ≢ suffix.DfuSe → cond t (Some x) o
    ≡ Some suffix.DfuSe →
    (t ≡ false) × (o ≡ Some suffix.DfuSe)
other_fault_was_not_found true x o other h = absurd (other cc)
other_fault_was_not_found false x o other h = (refl, h)

-- If the search finds the fault `DfuSe`, and not in a later test, the test for `DfuSe` was true.
dfuse_found_by_test : (t : Bool) (o : Option SuffixFault) → o ≢ Some suffix.DfuSe → cond t (Some suffix.DfuSe) o ≡ Some suffix.DfuSe →
    t ≡ true
dfuse_found_by_test true o none h = refl
dfuse_found_by_test false o none h = absurd (none h)

crc_fault_is_not_dfuse : (t : Bool) → ◌≢◌ {A = Option SuffixFault} (cond t (Some suffix.BadCrc) None) (Some suffix.DfuSe)
crc_fault_is_not_dfuse true = λ e. cc
crc_fault_is_not_dfuse false = λ e. cc

-- The bytes end in a suffix with the fields of USB DFU, and its bcdDFU is 011Ah.
record HasDfuseSuffix (b : List ℕ) : Type 0 where
  pub formed : HasSuffixForm b
  pub version : little_number 2 (drop 6 (tail_of b)) ≡ 0x011A

-- If the first fault of bytes is `DfuSe`, they end in a suffix whose bcdDFU is 011Ah.
dfuse_fault_has_suffix : (b : List ℕ) → find (has_fault b) fault_order ≡ Some suffix.DfuSe → HasDfuseSuffix b
dfuse_fault_has_suffix b h =
    let p0 = other_fault_was_not_found (has_fault b suffix.TooLarge) suffix.TooLarge _ (λ e. cc) h in
    let p1 = other_fault_was_not_found (has_fault b suffix.TooShort) suffix.TooShort _ (λ e. cc) p0.1 in
    let p2 = other_fault_was_not_found (has_fault b suffix.NoSignature) suffix.NoSignature _ (λ e. cc) p1.1 in
    let p3 = other_fault_was_not_found (has_fault b suffix.BadLength) suffix.BadLength _ (λ e. cc) p2.1 in
    let v = dfuse_found_by_test (has_fault b suffix.DfuSe) _ (crc_fault_is_not_dfuse (has_fault b suffix.BadCrc)) p3.1 in
    record {
      formed = formed b p0.0 p1.0 p2.0 p3.0;
      version = eqb-true (little_number 2 (drop 6 (tail_of b))) 0x011A v;
    }

-- Bytes that end in a suffix with bcdDFU 011Ah and the right CRC are a payload and a DfuSe suffix.
suffix_ends_bytes : (b : List ℕ) → AreBytes b → HasDfuseSuffix b → IsIntact b → SuffixedFile b (payload_and_ids_of b)
suffix_ends_bytes b f s right = record {
  extra = extra_bytes_of b;
  spelled = subst (λ (dfu : ℕ). IsSpelledFile (payload_and_ids_of b).payload (payload_and_ids_of b).ids dfu (extra_bytes_of b) b) s.version
      (spelled b
      s.formed right f);
  extra_fits = extra_fits b s.formed f;
  device_fits = tail_field_fits_two_bytes b 0 f;
  product_fits = tail_field_fits_two_bytes b 2 f;
  vendor_fits = tail_field_fits_two_bytes b 4 f;
  small = s.formed.small;
}

-- If the first fault of bytes is `DfuSe`, they have at least the 16 bytes of a suffix.
pub dfuse_fault_needs_suffix_length : (b : List ℕ) → find (has_fault b) fault_order ≡ Some suffix.DfuSe → 16 ≤ length b
dfuse_fault_needs_suffix_length b h = (dfuse_fault_has_suffix b h).formed.long

-- If dfu_suffix reads a file, it finds no fault in this file.
pub read_file_has_no_fault : {T : Type 0} (r : Result T SuffixFault) (o : Option SuffixFault) (x : T) → r ≡ Ok x → ((f : SuffixFault) →
    (r ≡ Err f) ↔ (o ≡ Some f)) →
    o ≡ None
read_file_has_no_fault r None x h f = refl
read_file_has_no_fault r (Some y) x h f = let other = (f y).1 refl in cc

-- A file with a fault other than `DfuSe` is refused with `suffix_refusal` of that fault.
pub other_fault_becomes_refusal : (f : SuffixFault) (b : List ℕ) → is_dfuse f ≡ false → suffix_by_fault (Some f) b ≡ Err (suffix_refusal f)
unfolding suffix_by_fault
other_fault_becomes_refusal f b h = ap (λ (t : Bool). cond t (suffix_with_checked_crc b) (Err (suffix_refusal f))) h

-- If the fault is `DfuSe`, the result is the payload and the identifiers, or BadCrc if the CRC is wrong.
pub dfuse_fault_checks_crc : (f : SuffixFault) (b : List ℕ) → is_dfuse f ≡ true → suffix_by_fault (Some f) b ≡ suffix_with_checked_crc b
unfolding suffix_by_fault
dfuse_fault_checks_crc f b h = ap (λ (t : Bool). cond t (suffix_with_checked_crc b) (Err (suffix_refusal f))) h

-- If dfu_suffix finds no fault, the file has another version, so the fault is NotDfuSe.
pub no_fault_is_not_dfuse : (b : List ℕ) → suffix_by_fault None b ≡ Err NotDfuSe
unfolding suffix_by_fault
no_fault_is_not_dfuse b = refl

-- If `suffix_at` reads a suffix from bytes, they end in this suffix.
pub read_suffix_is_spelled : (b : List ℕ) (s : PayloadAndIds) → AreBytes b → suffix_at b ≡ Ok s → SuffixedFile b s
read_suffix_is_spelled b s f h =
    let p = read_suffix_has_dfuse_fault (find (has_fault b) fault_order) b s h in
    subst (λ (x : PayloadAndIds). SuffixedFile b x) p.2
    (suffix_ends_bytes b f (dfuse_fault_has_suffix b p.0) (no_crc_fault_means_intact b p.1))
