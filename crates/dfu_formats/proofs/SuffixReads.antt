-- `suffix_at` reads each suffix with bcdDFU 011Ah and the right CRC.
use Rattle.std.proofs.Common.{◌≡◌, ℕ, true, false, List, drop, Option, Some, Ok, Err, ap, ◌∙◌, arith}
use Rattle.std.specs.Prelude.{find}
use Rattle.std.proofs.lemmas.Bool.{eq-eqb, cond-false, cond-true}
use Rattle.byteorder.specs.Endian.{little_number}
use Rattle.dfu_suffix.specs.Grammar.{Content, tail_of, has_fault, fault_order}
use Rattle.dfu_suffix.specs.declared.fault.SuffixFault.{SuffixFault}
use Rattle.dfu_suffix.specs.declared.fault.SuffixFault.TheVariants as suffix
use Rattle.dfu_suffix.proofs.OneReading.{parts_are_read}
use Rattle.dfu_formats.specs.declared.dfuse.fault.FileFault.TheVariants.{BadCrc}
use Rattle.dfu_formats.specs.dfuse.Reading.{PayloadAndIds, payload_and_ids_of, suffix_by_fault, suffix_at}
use Rattle.dfu_formats.specs.dfuse.Grammar.{SuffixedFile}

-- If the fault is `DfuSe` and the CRC is right, the result is the payload and the identifiers.
dfuse_fault_reads_suffix : (o : Option SuffixFault) (b : List ℕ) (x : PayloadAndIds) → o ≡ Some suffix.DfuSe → has_fault b suffix.BadCrc
    ≡ false → payload_and_ids_of b ≡ x →
    suffix_by_fault o b ≡ Ok x
unfolding suffix_by_fault
dfuse_fault_reads_suffix o b x e crc is =
    ap (λ (p : Option SuffixFault). suffix_by_fault p b) e ∙ (cond-false (has_fault b suffix.BadCrc) (Err BadCrc) (Ok (payload_and_ids_of b)) crc ∙ ap Ok is)

-- Payload and identifiers of a suffixed file's content.
abbrev payload_and_ids_of_content : Content → PayloadAndIds
payload_and_ids_of_content c = record { payload = c.payload; ids = c.ids }

-- `suffix_at` reads the suffix of each DfuSe file.
pub spelled_suffix_is_read : (b : List ℕ) (x : PayloadAndIds) → SuffixedFile b x → suffix_at b ≡ Ok x
spelled_suffix_is_read b x h =
    let r = parts_are_read x.payload x.ids 0x011A h.extra b h.spelled h.device_fits h.product_fits h.vendor_fits (omega arith) h.small in
    let other : has_fault b suffix.DfuSe ≡ true = eq-eqb (little_number 2 (drop 6 (tail_of b))) 0x011A r.version in
    let first : find (has_fault b) fault_order ≡ Some suffix.DfuSe =
    cond-false (has_fault b suffix.TooLarge) _ _ r.small ∙ (cond-false (has_fault b suffix.TooShort) _ _ r.long
    ∙ (cond-false (has_fault b suffix.NoSignature) _ _ r.signed ∙ (cond-false (has_fault b suffix.BadLength) _ _ r.within
    ∙ cond-true (has_fault b suffix.DfuSe) (Some suffix.DfuSe) _ other))) in
    dfuse_fault_reads_suffix (find (has_fault b) fault_order) b x first r.intact (ap payload_and_ids_of_content r.content)
