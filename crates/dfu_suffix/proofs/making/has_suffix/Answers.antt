use Rattle.dfu_suffix.proofs.AddLaws.{suffix_exactly_if_dfuse_fault}
use Rattle.dfu_suffix.proofs.making.has_suffix.Goals as goal

pub returns-in-Err : goal.returns-in-Err
returns-in-Err c = suffix_exactly_if_dfuse_fault c.args.bytes.now c.read.result c.is_dfuse.result c.in-Err.fault c.in-Err.is
    c.read.ensures.only
    c.read.ensures.fault c.is_dfuse.ensures
