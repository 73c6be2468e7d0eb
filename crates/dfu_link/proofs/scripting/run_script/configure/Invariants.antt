use Rattle.dfu_link.specs.inside.Moving.{LinesPrepared}
use Rattle.dfu_link.specs.inside.SetupView.{settings_of}
use Rattle.dfu_link.proofs.scripting.run_script.configure.Given as goal

abbrev pub invariant-settings : goal.invariant-settings
invariant-settings g l = LinesPrepared (settings_of l.fn.setup) l.fn.source (settings_of l.setup) l.source

abbrev pub decreases-settings : goal.decreases-settings
decreases-settings g l = l.source.room
