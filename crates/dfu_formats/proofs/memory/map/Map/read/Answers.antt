use Rattle.std.proofs.Common.{◌∙◌, sym}
use Rattle.dfu_formats.proofs.MapsRead.{spelled_map_is_read}
use Rattle.dfu_formats.proofs.MapsFound.{ok_value_gives_fact, read_map_is_spelled}
use Rattle.dfu_formats.proofs.memory.map.Map.read.Goals as goal

pub returns-clause-found : goal.returns-clause-found
returns-clause-found c = ok_value_gives_fact c.read_map.result _ (λ m e. read_map_is_spelled m c.args.text.now (sym c.read_map.ensures ∙ e))

pub returns-clause-only : goal.returns-clause-only
returns-clause-only c = λ m h. c.read_map.ensures ∙ spelled_map_is_read m c.args.text.now h
