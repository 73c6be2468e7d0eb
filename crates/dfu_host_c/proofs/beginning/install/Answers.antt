use Rattle.std.proofs.Common.{rules, inl, inr, refl}
use Rattle.dfu_host.specs.Download.{first_install_fault, goal_of_install}
use Rattle.dfu_host_c.proofs.Beginnings.{begins, refused_call_has_first_fault}
use Rattle.dfu_host_c.proofs.beginning.install.Goals as goal

pub returns-in-Ok-begin : goal.returns-in-Ok-begin
returns-in-Ok-begin c = record {
  outcome = inl (begins (goal_of_install c.args.compares) (first_install_fault c.args.compares) _
      c.in-Ok.ensures.file c.in-Ok.ensures.functional refl c.in-Ok-begin.is c.begin.ensures.refused
      (c.start.ensures.begun _ c.in-Ok-begin.ensures.started) (search rules));
}

pub returns-in-Err-begin : goal.returns-in-Err-begin
returns-in-Err-begin c = record {
  outcome = inr (inr (
    refused_call_has_first_fault (first_install_fault c.args.compares) _ c.in-Ok.ensures.file c.in-Ok.ensures.functional refl
        c.in-Err-begin.is
        c.begin.ensures.refused (search rules),
    refl,
  ));
}
