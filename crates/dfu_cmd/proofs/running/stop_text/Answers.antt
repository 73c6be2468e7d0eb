use Rattle.dfu_cmd.proofs.running.stop_text.Goals as goal

pub returns-in-LateConfig : goal.returns-in-LateConfig
returns-in-LateConfig g c = rw c.in-LateConfig.is c.number_text-in-LateConfig.ensures

pub returns-in-Expected : goal.returns-in-Expected
returns-in-Expected g c = rw c.in-Expected.is c.number_text-in-Expected.ensures

pub returns-in-NonePrinted : goal.returns-in-NonePrinted
returns-in-NonePrinted g c = rw c.in-NonePrinted.is c.number_text-in-NonePrinted.ensures
