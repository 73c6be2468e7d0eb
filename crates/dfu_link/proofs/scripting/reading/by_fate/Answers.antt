use Rattle.dfu_link.proofs.scripting.reading.by_fate.Goals as goal

pub returns-in-Pass : goal.returns-in-Pass
returns-in-Pass c = rw c.in-Pass.is c.pass.ensures

pub returns-in-LostOut : goal.returns-in-LostOut
returns-in-LostOut c = rw c.in-LostOut.is c.once.ensures

pub returns-in-LostBack : goal.returns-in-LostBack
returns-in-LostBack c = rw c.in-LostBack.is c.once-in-LostBack.ensures

pub returns-in-Twice : goal.returns-in-Twice
returns-in-Twice c = rw c.in-Twice.is c.once-in-Twice.ensures

pub returns-in-TwiceLostBack : goal.returns-in-TwiceLostBack
returns-in-TwiceLostBack c = rw c.in-TwiceLostBack.is c.once-in-TwiceLostBack.ensures

pub returns-in-Slip : goal.returns-in-Slip
returns-in-Slip c = rw c.in-Slip.is c.slip.ensures

pub returns-in-Cut : goal.returns-in-Cut
returns-in-Cut c = rw c.in-Cut.is c.harmed.ensures

pub returns-in-Fail : goal.returns-in-Fail
returns-in-Fail c = rw c.in-Fail.is c.harmed-in-Fail.ensures

pub returns-in-Lie : goal.returns-in-Lie
returns-in-Lie c = rw c.in-Lie.is c.harmed-in-Lie.ensures

pub returns-in-Until : goal.returns-in-Until
returns-in-Until c = rw c.in-Until.is c.until.ensures
