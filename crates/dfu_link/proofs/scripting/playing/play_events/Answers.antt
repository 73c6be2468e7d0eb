use Rattle.std.proofs.Common.{◌≡◌, ◌∙◌, ℕ, List, [], ◌∷◌, refl, ap}
use Rattle.dfu_host.specs.declared.limits.Limits.{Limits}
use Rattle.dfu_sim.specs.Happening.{Happening, Offers, fate_of, harm_of_fate}
use Rattle.dfu_sim.specs.declared.offering.Purpose.{Purpose}
use Rattle.dfu_link.specs.LineContent.{Offer, Upload, Abort, Go, Time, Reset, Cut, Refuse, given_bytes, offered_bytes, content_of_event}
use Rattle.dfu_link.specs.inside.Moving.{offered_file_of}
use Rattle.dfu_link.specs.declared.scripting.line.EventLine.{EventLine}
use Rattle.dfu_link.proofs.PlayLaws.{check_keeps_offer}
use Rattle.dfu_link.proofs.StepLaws.{event_line_is_done}
use Rattle.dfu_link.proofs.scripting.playing.play_events.Goals as goal

-- A line that offers a file has one event: the offer of its bytes.
offer_is_one_event : {event : Happening} {purpose : Purpose} {file text : List ℕ} {limits : Limits} → event ≡ Offers purpose file limits
    → file ≡ text
    → event ∷ [] ≡ Offers purpose text limits ∷ []
offer_is_one_event {purpose = purpose} {limits = limits} is same =
    ap (λ (e : Happening). e ∷ []) (is ∙ ap (λ (f : List ℕ). Offers purpose f limits) same)

pub returns-in-Offer : goal.returns-in-Offer
returns-in-Offer g c = event_line_is_done (Offer c.in-Offer.purpose (offered_bytes c.in-Offer.file)) (ap content_of_event c.in-Offer.is)
    (offer_is_one_event c.offered.ensures (c.requires ∙ ap (λ (d : EventLine). offered_file_of (content_of_event d)) c.in-Offer.is))
    (c.play.ensures c.args.context.now.check.now (check_keeps_offer c.args.context.now.check.now c.args.world.now.bench
    c.offered.ensures))

pub returns-in-Upload : goal.returns-in-Upload
returns-in-Upload g c = event_line_is_done Upload (ap content_of_event c.in-Upload.is) refl (c.play-in-Upload.ensures _ refl)

pub returns-in-Abort : goal.returns-in-Abort
returns-in-Abort g c = event_line_is_done Abort (ap content_of_event c.in-Abort.is) refl (c.play-in-Abort.ensures _ refl)

pub returns-in-Go : goal.returns-in-Go
returns-in-Go g c =
    event_line_is_done (Go (fate_of c.in-Go.fate) (harm_of_fate c.in-Go.fate) c.in-Go.times) (ap content_of_event c.in-Go.is) refl
    c.play_actions.ensures

pub returns-in-GoHarmed : goal.returns-in-GoHarmed
returns-in-GoHarmed g c =
    rw c.in-GoHarmed.is (c.play_harmed.ensures (given_bytes c.args.context.now.given) c.args.context.now.limits)

pub returns-in-GoOn : goal.returns-in-GoOn
returns-in-GoOn g c = rw c.in-GoOn.is (c.pass_on.ensures (given_bytes c.args.context.now.given) c.args.context.now.limits)

pub returns-in-Time : goal.returns-in-Time
returns-in-Time g c = event_line_is_done (Time c.in-Time.ms) (ap content_of_event c.in-Time.is) refl (c.play-in-Time.ensures _ refl)

pub returns-in-Reset : goal.returns-in-Reset
returns-in-Reset g c = event_line_is_done Reset (ap content_of_event c.in-Reset.is) refl (c.play-in-Reset.ensures _ refl)

pub returns-in-Cut : goal.returns-in-Cut
returns-in-Cut g c = event_line_is_done Cut (ap content_of_event c.in-Cut.is) refl (c.play-in-Cut.ensures _ refl)

pub returns-in-Refuse : goal.returns-in-Refuse
returns-in-Refuse g c = event_line_is_done (Refuse c.in-Refuse.why) (ap content_of_event c.in-Refuse.is) refl (c.play-in-Refuse.ensures
    _ refl)
