use Rattle.dfu_conformance.proofs.DfuseVerdicts.{all_places_are_exact_at_first}
use Rattle.dfu_conformance.proofs.dfuse.judge.DfuseJudge.new.Goals as goal

pub returns : goal.returns
returns c = all_places_are_exact_at_first
