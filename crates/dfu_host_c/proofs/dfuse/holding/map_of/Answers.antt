use Rattle.dfu_host_c.proofs.Maps.{faulty_string_is_no_map}
use Rattle.dfu_host_c.proofs.dfuse.holding.map_of.Goals as goal

pub returns-in-Err-clause-none : goal.returns-in-Err-clause-none
returns-in-Err-clause-none c = λ none m is. faulty_string_is_no_map _ c.in-Err.field-0 m c.in-Err.is (c.read.ensures.only m is)
