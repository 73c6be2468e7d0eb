-- A DFU file is still a valid DFU file after its identifiers are changed.
use Rattle.std.proofs.Common.{◌≡◌, ℕ, ◌+◌, ◌-◌, ◌^◌, ◌<◌, ◌∙◌, List, ◌++◌, length, take, Err, sym, ap, subst, arith, length-append}
use Rattle.std.proofs.lemmas.List.{append_assoc, take_at}
use Rattle.std.specs.Int.{w32, to_le_bytes}
use Rattle.dfu_suffix.specs.Register.{register}
use Rattle.dfu_suffix.specs.Grammar.{IsFile, First, before_crc, fields_before_crc}
use Rattle.dfu_suffix.specs.declared.fault.SuffixFault.{SuffixFault}
use Rattle.dfu_suffix.specs.declared.fault.SuffixFault.TheVariants as fault
use Rattle.dfu_wire.specs.declared.ids.Ids.{Ids}
use Rattle.dfu_fs.specs.declared.changing.Change.{Change}
use Rattle.dfu_fs.specs.Changing.{ChangesFile, IsChangedFile, changed_ids, with_check_sum, suffix_fields}

-- If `fault` is the first fault of a file, a change of the file may return this fault.
pub fault_refuses_change : (change : Change) (old : List ℕ) (fault : SuffixFault) → First fault old → ChangesFile change old (Err fault)
fault_refuses_change change old fault.TooShort h = h
fault_refuses_change change old fault.NoSignature h = h
fault_refuses_change change old fault.BadLength h = h
fault_refuses_change change old fault.DfuSe h = h
fault_refuses_change change old fault.BadCrc h = h
fault_refuses_change change old fault.AlreadySuffixed h = h
fault_refuses_change change old fault.TooLarge h = h
fault_refuses_change change old fault.NoMemory h = tt
fault_refuses_change change old fault.Read h = h
fault_refuses_change change old fault.Write h = h

-- Without its last 16 bytes, a file consists of its payload and its extra bytes.
front_is_payload_and_extra : (payload : List ℕ) (ids : Ids) (dfu : ℕ) (extra old : List ℕ) → IsFile payload ids dfu extra old →
    (take (length old - 16) old ≡ payload ++ extra) × (length old ≡ length (payload ++ extra) + 16)
front_is_payload_and_extra payload ids dfu extra old h =
    let f = fields_before_crc ids dfu extra in
    let c = to_le_bytes w32 (register (before_crc payload ids dfu extra)) in
    let whole : old ≡ (payload ++ extra) ++ (f ++ c) =
    h.spelled ∙ ap (λ (x : List ℕ). x ++ c) (sym (append_assoc payload extra f)) ∙ append_assoc (payload ++ extra) f c in
    let len : length old ≡ length (payload ++ extra) + 16 = ap length whole ∙ length-append (payload ++ extra) (f ++ c) in
    let same : length (payload ++ extra) ≡ length old - 16 = omega (arith, len) in
    (ap (take (length old - 16)) whole ∙ take_at (payload ++ extra) (f ++ c) (length old - 16) same, len)

-- A file whose fields and CRC are rewritten with other identifiers is the changed file.
pub rewritten_file_is_changed : (change : Change) (payload extra old new front : List ℕ) (ids now : Ids) (dfu suffix : ℕ) →
    IsFile payload ids dfu extra old → suffix ≡ 16 + length extra → front ≡ take (length old - 16) old → now ≡ changed_ids change ids →
    now.device < 2 ^ 16 → now.product < 2 ^ 16 → now.vendor < 2 ^ 16 → new ≡ with_check_sum (front ++ suffix_fields now dfu suffix) →
    IsChangedFile change old new
rewritten_file_is_changed change payload extra old new front ids now dfu suffix h is_suffix is_front is_now device product vendor is_new =
    let at = front_is_payload_and_extra payload ids dfu extra old h in
    let f = fields_before_crc now dfu extra in
    let same : suffix_fields now dfu suffix ≡ f = ap (suffix_fields now dfu) is_suffix in
    let front_at : front ≡ payload ++ extra = is_front ∙ at.0 in
    let before : front ++ suffix_fields now dfu suffix ≡ before_crc payload now dfu extra =
    ap (λ (x : List ℕ). x ++ suffix_fields now dfu suffix) front_at ∙ ap (λ (x : List ℕ). (payload ++ extra) ++ x) same
    ∙ append_assoc payload extra f in
    let spelled : new ≡ with_check_sum (before_crc payload now dfu extra) = is_new ∙ ap with_check_sum before in
    let c = to_le_bytes w32 (register (before_crc payload now dfu extra)) in
    let whole : new ≡ (payload ++ extra) ++ (f ++ c) =
    spelled ∙ ap (λ (x : List ℕ). x ++ c) (sym (append_assoc payload extra f)) ∙ append_assoc (payload ++ extra) f c in
    let len : length new ≡ length (payload ++ extra) + 16 = ap length whole ∙ length-append (payload ++ extra) (f ++ c) in (
      payload,
      ids,
      dfu,
      extra,
      h,
      subst (λ (i : Ids). IsFile payload i dfu extra new) is_now (record {
        spelled = spelled;
        extra_fits = h.extra_fits;
        device_fits = device;
        product_fits = product;
        vendor_fits = vendor;
        dfu_fits = h.dfu_fits;
        not_dfuse = h.not_dfuse;
        small = omega (arith, len, at.1, h.small);
      }),
    )
