use Rattle.std.proofs.Common.{◌∙◌, arith}
use Rattle.dfu_formats.proofs.FileLaws.{read_answer_is_dfuse_file, spelled_dfuse_file_is_read}
use Rattle.dfu_formats.proofs.dfuse.file.read.Goals as goal

pub returns-clause-found : goal.returns-clause-found
returns-clause-found c = read_answer_is_dfuse_file c.read_file.result c.args.bytes.now (λ k. omega (arith, c.type_inv.bytes k))
    c.read_file.ensures

pub returns-clause-only : goal.returns-clause-only
returns-clause-only c = λ f h. c.read_file.ensures ∙ spelled_dfuse_file_is_read c.args.bytes.now f h
