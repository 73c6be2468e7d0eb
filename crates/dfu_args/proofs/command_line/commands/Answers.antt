use Rattle.std.proofs.Common.{arith, suc, zero}
use Rattle.dfu_args.specs.CommandLine.{dfu_app}
use Rattle.dfu_args.proofs.Alone.{add_alone_parses_as_whole, whole_parses_as_whole, check_alone_parses_as_whole, extract_alone_parses_as_whole, judge_alone_parses_as_whole, plan_alone_parses_as_whole, run_alone_parses_as_whole, set_alone_parses_as_whole, show_alone_parses_as_whole}
use Rattle.dfu_args.proofs.command_line.commands.Goals as goal

pub returns-clause-whole : goal.returns-clause-whole
unfolding dfu_app
returns-clause-whole c words = whole_parses_as_whole words

pub returns-clause-alone : goal.returns-clause-alone
returns-clause-alone c zero d lt program words = check_alone_parses_as_whole program words
returns-clause-alone c (suc zero) d lt program words = add_alone_parses_as_whole program words
returns-clause-alone c (suc (suc zero)) d lt program words = extract_alone_parses_as_whole program words
returns-clause-alone c (suc (suc (suc zero))) d lt program words = set_alone_parses_as_whole program words
returns-clause-alone c (suc (suc (suc (suc zero)))) d lt program words = show_alone_parses_as_whole program words
returns-clause-alone c (suc (suc (suc (suc (suc zero))))) d lt program words = run_alone_parses_as_whole program words
returns-clause-alone c (suc (suc (suc (suc (suc (suc zero)))))) d lt program words = judge_alone_parses_as_whole program words
returns-clause-alone c (suc (suc (suc (suc (suc (suc (suc zero))))))) d lt program words = plan_alone_parses_as_whole program words
returns-clause-alone c (suc (suc (suc (suc (suc (suc (suc (suc k)))))))) d lt program words = absurd (omega (arith, lt))
