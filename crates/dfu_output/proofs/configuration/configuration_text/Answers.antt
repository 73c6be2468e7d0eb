use Rattle.std.proofs.Common.{rules}
use Rattle.std.specs.String.{string_bytes}
use Rattle.dfu_output.specs.Configuration.{fewer_than_nine, not_a_configuration, wrong_own_length, short, long}
use Rattle.dfu_output.proofs.SuccessiveDescriptors.{configuration_can_be_read, descriptor_fault_is_of_whole}
use Rattle.dfu_output.proofs.configuration.configuration_text.Goals as goal

pub returns-then-bytes-lt9-clause-fault : goal.returns-then-bytes-lt9-clause-fault
returns-then-bytes-lt9-clause-fault c = fewer_than_nine (search rules)

pub returns-then-bytes-ne2-clause-fault : goal.returns-then-bytes-ne2-clause-fault
returns-then-bytes-ne2-clause-fault c = not_a_configuration (search rules) (search rules)

pub returns-then-bytes-ne9-clause-fault : goal.returns-then-bytes-ne9-clause-fault
returns-then-bytes-ne9-clause-fault c = wrong_own_length (search rules) (search rules) (search rules)

pub returns-then-bytes-total-clause-fault : goal.returns-then-bytes-total-clause-fault
returns-then-bytes-total-clause-fault c = short (search rules) (search rules) (search rules) (search rules)

pub returns-then-bytes-total-2-clause-fault : goal.returns-then-bytes-total-2-clause-fault
returns-then-bytes-total-2-clause-fault c = long (search rules) (search rules) (search rules) (search rules)

pub returns-in-Ok-clause-text : goal.returns-in-Ok-clause-text
returns-in-Ok-clause-text c =
    configuration_can_be_read c.args.bytes.now c.split_at.result.1.now (string_bytes c.in_ok-line.line) (string_bytes c.walk.new.line)
    (search rules) (search rules) (search rules) (search rules) (search rules) (search rules) (search rules)

pub returns-in-Err-clause-fault : goal.returns-in-Err-clause-fault
returns-in-Err-clause-fault c =
    descriptor_fault_is_of_whole c.args.bytes.now c.split_at.result.1.now (string_bytes c.in_ok-line.line) (string_bytes c.walk.new.line)
    c.in-Err.fault (search rules) (search rules) (search rules) (search rules) (search rules) (search rules)
