use Rattle.std.proofs.Common.{ℕ, subst, refl, inl}
use Rattle.dfuse_host.specs.declared.report.Report.{Report}
use Rattle.dfuse_host.specs.Deeds.{DfuseDeed, Send, Wait, Done}
use Rattle.dfuse_host.specs.Wire.{DfuseSpells}
use Rattle.dfuse_host.specs.declared.action.Action.{Action}
use Rattle.dfuse_host.specs.declared.action.Action.TheVariants as action
use Rattle.dfu_host_c.specs.dfuse.Actions.{DfuseNoRequestRecord, DfuseActionRecord}
use Rattle.dfu_host_c.specs.dfuse.ReportNumbers.{dfuse_report_numbers}
use Rattle.dfu_host_c.proofs.dfuse.action.tell.Goals as goal

pub returns-in-Wait : goal.returns-in-Wait
returns-in-Wait c = record {
  outcome = λ deed spells. inl
      (refl, by_deed deed (subst (λ (a : Action). DfuseSpells deed a) c.in-Wait.is spells));
}
  where
    by_deed : (deed : DfuseDeed) → DfuseSpells deed (action.Wait c.in-Wait.ms) →
        DfuseActionRecord deed c.other.result c.args.body.now c.args.body.now
    by_deed (Wait ms) e = subst (λ (n : ℕ). DfuseNoRequestRecord 1 n 0 c.other.result c.args.body.now c.args.body.now) e
        (c.other.ensures c.args.body.now)
    by_deed (Send q body) e = elim e [ ]
    by_deed (Done report) e = elim e [ ]

pub returns-in-Done : goal.returns-in-Done
returns-in-Done c = record {
  outcome = λ deed spells. inl
      (refl, by_deed deed (subst (λ (a : Action). DfuseSpells deed a) c.in-Done.is spells));
}
  where
    told : DfuseNoRequestRecord 3 (dfuse_report_numbers c.in-Done.report).0 (dfuse_report_numbers c.in-Done.report).1
        c.other-in-Done.result c.args.body.now c.args.body.now
    told = subst (λ (p : ℕ × ℕ). DfuseNoRequestRecord 3 p.0 p.1 c.other-in-Done.result c.args.body.now c.args.body.now)
        c.report_numbers-value.ensures.numbers (c.other-in-Done.ensures c.args.body.now)

    by_deed : (deed : DfuseDeed) → DfuseSpells deed (action.Done c.in-Done.report) →
        DfuseActionRecord deed c.other-in-Done.result c.args.body.now c.args.body.now
    by_deed (Done report) e =
        subst (λ (r : Report). DfuseNoRequestRecord 3 (dfuse_report_numbers r).0
        (dfuse_report_numbers r).1 c.other-in-Done.result c.args.body.now
        c.args.body.now) e told
    by_deed (Send q body) e = elim e [ ]
    by_deed (Wait ms) e = elim e [ ]
