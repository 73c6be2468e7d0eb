use Rattle.std.proofs.Common.{Option, Some, Err, sym, ap, ◌∙◌}
use Rattle.std.specs.Prelude.{find}
use Rattle.dfu_suffix.specs.Grammar.{has_fault, fault_order}
use Rattle.dfu_suffix.specs.declared.fault.SuffixFault.{SuffixFault}
use Rattle.dfu_formats.specs.dfuse.Reading.{suffix_by_fault}
use Rattle.dfu_formats.proofs.SuffixLaws.{read_file_has_no_fault, no_fault_is_not_dfuse, other_fault_becomes_refusal, dfuse_fault_checks_crc, dfuse_test_means_dfuse_fault, dfuse_fault_needs_suffix_length}
use Rattle.dfu_formats.proofs.dfuse.suffix.read_suffix.Goals as goal

pub returns-in-Ok : goal.returns-in-Ok
returns-in-Ok c =
    let b = c.args.bytes.now in
    let o = find (has_fault b) fault_order in
    let none = read_file_has_no_fault c.read_small.result o _ c.in-Ok.is c.read_small.ensures.fault in
    sym (ap (λ (p : Option SuffixFault). suffix_by_fault p b) none ∙ no_fault_is_not_dfuse b)

pub read_signed-requires : goal.read_signed-requires
read_signed-requires c =
    let b = c.args.bytes.now in
    let first = (c.read_small.ensures.fault c.in-Err.fault).0 c.in-Err.is in
    dfuse_fault_needs_suffix_length b (first ∙ ap Some (dfuse_test_means_dfuse_fault c.in-Err.fault (sym c.is_dfuse.ensures
    ∙ c.if-is_dfuse.true)))

pub returns-then-is_dfuse : goal.returns-then-is_dfuse
returns-then-is_dfuse c =
    let b = c.args.bytes.now in
    let first = (c.read_small.ensures.fault c.in-Err.fault).0 c.in-Err.is in
    c.read_signed.ensures ∙ sym (ap (λ (p : Option SuffixFault). suffix_by_fault p b) first
    ∙ dfuse_fault_checks_crc c.in-Err.fault b (sym c.is_dfuse.ensures ∙ c.if-is_dfuse.true))

pub returns-else-is_dfuse : goal.returns-else-is_dfuse
returns-else-is_dfuse c =
    let b = c.args.bytes.now in
    let first = (c.read_small.ensures.fault c.in-Err.fault).0 c.in-Err.is in
    ap Err c.refusal.ensures ∙ sym (ap (λ (p : Option SuffixFault). suffix_by_fault p b) first
    ∙ other_fault_becomes_refusal c.in-Err.fault b (sym c.is_dfuse.ensures ∙ c.if-is_dfuse.false))
