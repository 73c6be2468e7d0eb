use Rattle.dfu_host_core.proofs.Runs.{core_sessions_refine_hosts, begun_session_is_initial_host, core_session_is_one_host, next_is_host_action}
use Rattle.dfu_host_core.proofs.laws.core_hosts_are_hosts.Goals as goal

pub returns : goal.returns
returns c = record {
  begins = begun_session_is_initial_host;
  refines = core_sessions_refine_hosts;
  one = core_session_is_one_host;
  tells =
      next_is_host_action;
}
