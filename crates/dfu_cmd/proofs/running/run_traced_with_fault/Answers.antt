use Rattle.dfu_cmd.proofs.running.run_traced_with_fault.Goals as goal

pub returns-clause-run : goal.returns-clause-run
returns-clause-run g c = c.end_text-exit.ensures.run _ _ _ c.script_traced_with-answer.ensures.ended

pub returns-clause-printed : goal.returns-clause-printed
returns-clause-printed g c = c.end_text-exit.ensures.printed _ _ _ c.script_traced_with-answer.ensures.printed
