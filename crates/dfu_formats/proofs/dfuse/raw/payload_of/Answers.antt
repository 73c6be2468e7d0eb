use Rattle.std.proofs.Common.{Some, None, sym, ◌∙◌}
use Rattle.std.specs.Prelude.{find}
use Rattle.dfu_suffix.specs.Grammar.{has_fault, fault_order}
use Rattle.dfu_formats.proofs.SuffixLaws.{read_file_has_no_fault}
use Rattle.dfu_suffix.proofs.OneReading.{spelled_payload_is_read_back}
use Rattle.dfu_formats.proofs.RawLaws.{fault_decides_payload, faultless_has_payload}
use Rattle.dfu_formats.proofs.dfuse.raw.payload_of.Goals as goal

pub returns-in-Ok : goal.returns-in-Ok
returns-in-Ok c =
    let b = c.args.bytes.now in
    let o = find (has_fault b) fault_order in
    let none = read_file_has_no_fault c.read.result o _ c.in-Ok.is c.read.ensures.fault in
    let file = c.in-Ok.ensures.found in
    let is = file.1 in
    faultless_has_payload o b _ none (spelled_payload_is_read_back _ _ b _ _ is.spelled ∙ sym c.payload.ensures)

pub returns-in-Some : goal.returns-in-Some
returns-in-Some c =
    let b = c.args.bytes.now in
    let first = (c.read.ensures.fault c.in-Err.fault).0 c.in-Err.is in
    fault_decides_payload (find (has_fault b) fault_order) c.in-Err.fault (Some c.in-Some.refused) b first (sym c.refusal.ensures
    ∙ c.in-Some.is)

pub returns-in-None : goal.returns-in-None
returns-in-None c =
    let b = c.args.bytes.now in
    let first = (c.read.ensures.fault c.in-Err.fault).0 c.in-Err.is in
    fault_decides_payload (find (has_fault b) fault_order) c.in-Err.fault None b first (sym c.refusal.ensures ∙ c.in-None.is)
