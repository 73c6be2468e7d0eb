use Rattle.std.proofs.Common.{sym}
use Rattle.dfu_link.proofs.scripting.saying.say_report.Goals as goal

pub returns-in-Refused : goal.returns-in-Refused
returns-in-Refused g c = rw c.in-Refused.is (rw (sym c.name.ensures) c.write_three.ensures)
