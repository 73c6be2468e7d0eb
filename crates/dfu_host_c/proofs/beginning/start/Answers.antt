use Rattle.dfu_host_c.proofs.beginning.start.Goals as goal

pub returns-clause-begun : goal.returns-clause-begun
returns-clause-begun c = λ start same. record {
  parts = c.args.host.now;
  stands = c.record_of.ensures.says;
  written = c.record_of.ensures.written;
  nothing = c.record_of.ensures.kept;
  begins = same;
}
