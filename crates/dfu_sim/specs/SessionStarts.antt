-- Beginnings of sessions after an event.
use Rattle.std.specs.Prelude.{List, ◌∷◌}
use Rattle.dfu_sim.specs.Happening.{Happening, Offers, Uploads}
use Rattle.dfu_sim.specs.Headline.{SessionBeginning, BeginningWithOffer, BeginningAsUpload}

-- Beginnings of sessions after an event of the table of fates, the last one first. An offer or an upload adds one.
abbrev pub sessions_after_event : Happening → List SessionBeginning → List SessionBeginning
sessions_after_event (Offers purpose file limits) past = BeginningWithOffer file ∷ past
sessions_after_event (Uploads limits) past = BeginningAsUpload ∷ past
sessions_after_event h past = past
