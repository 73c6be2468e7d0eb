-- The line that a script prints for a report or a refusal is the line of the event's result.
use Rattle.std.proofs.Common.{◌≡◌, ℕ, List, [], Option, Some, None, refl, ap, ◌∙◌}
use Rattle.std.specs.Prelude.{unwrap_or, Result, Ok, Err}
use Rattle.dfu_host.specs.declared.report.Report.{Report}
use Rattle.dfu_host.specs.declared.report.Report.TheVariants.{Uploaded}
use Rattle.dfu_sim.specs.Play.{Answered, uploaded_after}
use Rattle.dfu_sim.specs.LinkView.{WorldView}
use Rattle.dfu_sim.specs.Happening.{Happening}
use Rattle.dfu_sim.specs.EventResults.{report_of_result, upload_of_result, BytesMatchReport, BytesOnlyWithUploaded, WorldEventResult}
use Rattle.dfu_sim.specs.declared.fault.LinkFault.{LinkFault}
use Rattle.dfu_link.specs.Texts.{uploaded_line, outcome_line, answer_line}

-- The line of a report is the same with the bytes of the last upload as with the bytes of the event's answer.
given_bytes_print_outcome_line : (report : Option Report) (gave : Option (List ℕ)) (up up' : List ℕ) → BytesMatchReport report gave → up'
    ≡ uploaded_after gave up
    → outcome_line (Ok report) up' ≡ outcome_line (Ok report) (unwrap_or gave [])
given_bytes_print_outcome_line None gave up up' whole e = refl
given_bytes_print_outcome_line (Some Uploaded) (Some bytes) up up' whole e = ap uploaded_line e
given_bytes_print_outcome_line (Some Uploaded) None up up' whole e = elim whole [ ]
given_bytes_print_outcome_line (Some r) gave up up' whole e = refl

-- The line of the report, with the bytes of the last upload, is the line of the event's result.
result_prints_answer_line : (answer : Result Answered LinkFault) (up up' : List ℕ) → BytesOnlyWithUploaded answer
    → up' ≡ uploaded_after (upload_of_result answer) up
    → outcome_line (report_of_result answer) up' ≡ answer_line answer
result_prints_answer_line (Ok answer) up up' whole e = given_bytes_print_outcome_line answer.report answer.gave up up' whole e
result_prints_answer_line (Err fault) up up' whole e = refl

-- After an event, the line of its report, with the bytes of the last upload, is the line of the event's result.
pub outcome_line_is_answer_line : (c c' : WorldView) {e : Happening} (r : Result (Option Report) LinkFault) (h : WorldEventResult c e c' r)
    → outcome_line r c'.up ≡ answer_line h.answer
outcome_line_is_answer_line c c' r h = ap (λ (x : Result (Option Report) LinkFault). outcome_line x c'.up) h.told
    ∙ result_prints_answer_line h.answer c.up c'.up h.whole h.up_is
