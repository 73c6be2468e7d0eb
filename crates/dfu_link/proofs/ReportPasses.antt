-- Passes of `go until report`, one for each iteration of its loop.
use Rattle.std.proofs.Common.{◌≡◌, ◌≢◌, ℕ, ◌+◌, ◌<◌, List, [], ◌∷◌, ◌++◌, length, Option, Some, None, Result, Ok, Err, refl, sym, ap, ◌∙◌, subst, arith}
use Rattle.std.specs.Prelude.{replicate}
use Rattle.dfu_suffix.specs.Writing.{IsPartlyWritten}
use Rattle.dfu_host.specs.declared.limits.Limits.{Limits}
use Rattle.dfu_host.specs.declared.report.Report.{Report}
use Rattle.dfu_host.specs.declared.report.Report.TheVariants as report
use Rattle.dfu_sim.specs.declared.fault.LinkFault.{LinkFault}
use Rattle.dfu_sim.specs.declared.fault.LinkFault.TheVariants as link
use Rattle.dfu_sim.specs.LinkView.{LinkView, WorldView, BenchMatchesFlash}
use Rattle.dfu_sim.specs.Happening.{Happening, Goes, Pass, no_write_harmed}
use Rattle.dfu_sim.specs.EventResults.{WorldEventResult}
use Rattle.dfu_link.specs.Texts.{outcome_line, answer_line}
use Rattle.dfu_link.specs.LineContent.{GoesOn}
use Rattle.dfu_link.specs.ScriptRun.{checked_event, EventsPlayed, no_event_played, LineActs, goes_on}
use Rattle.dfu_link.specs.Expecting.{Expectation, MeetsExpectation, expectation_left}
use Rattle.dfu_link.specs.inside.Expected.{point_of_parts, TextPrinted, PrintEnds}
use Rattle.dfu_link.specs.declared.scripting.fault.ScriptFault.{ScriptFault}
use Rattle.dfu_link.specs.Falls.{stops_in_until_report}
use Rattle.dfu_link.specs.inside.Moving.{SilentPasses, LineCarriedOut, LineFailsByMeaning, LineOutcome}
use Rattle.dfu_link.proofs.WriteLaws.{second_text_breaks_both}
use Rattle.dfu_link.proofs.ExpectLaws.{empty_text_is_printed, printed_texts_join, text_then_fault_fails}
use Rattle.dfu_link.proofs.ToldLines.{outcome_line_is_answer_line}
use Rattle.dfu_link.proofs.FallLaws.{stopped_line_fails}
use Rattle.dfu_link.proofs.PlayLaws.{one_more_copy_is_at_end, next_event_is_played}

abbrev passes : Happening
passes = Goes Pass no_write_harmed

-- If no pass was made, nothing was printed.
pub no_passes_are_silent : (z : List ℕ) (b : LinkView) (e : Option Expectation) (old : Option (List ℕ)) → SilentPasses z b e old b e old
no_passes_are_silent z b e old = record {
  times = 0;
  plays = no_event_played;
  prints = empty_text_is_printed e old;
}

-- If some passes printed nothing, and one more prints nothing, all of these passes print nothing.
pub silent_pass_is_added : {check : List ℕ} {b : LinkView} {c c' : WorldView} (r : Result (Option Report) LinkFault) {old new : Option
    (List ℕ)}
    {x y : Option Expectation} → SilentPasses check b x old c.bench y new → WorldEventResult c (checked_event check c.bench passes) c' r
    → BenchMatchesFlash c'.bench → r ≡ Ok None → SilentPasses check b x old c'.bench y new
silent_pass_is_added {check = check} {b = b} {c = c} {c' = c'} r before come active e =
    let n = before.times in
    let more : EventsPlayed check b (replicate n passes ++ passes ∷ []) (outcome_line r c'.up) c'.bench =
    next_event_is_played check b c c' (replicate n passes) passes [] r
    before.plays come active in
    let text : outcome_line r c'.up ≡ [] = ap (λ (x : Result (Option Report) LinkFault). outcome_line x c'.up) e in
    record {
      times = n + 1;
      plays = subst (λ (hs : List Happening). EventsPlayed check b hs [] c'.bench) (sym (one_more_copy_is_at_end n passes))
          (subst (λ (out : List ℕ). EventsPlayed check b (replicate n passes ++ passes ∷ []) out c'.bench) text more);
      prints = before.prints;
    }

-- A report and a refusal each print a text.
pub answer_has_text : (r : Result (Option Report) LinkFault) (up : List ℕ) → r ≢ Ok None → outcome_line r up ≢ []
answer_has_text (Ok None) up other = absurd (other refl)
answer_has_text (Ok (Some report.Installed)) up other = λ e. cc
answer_has_text (Ok (Some report.Unconfirmed)) up other = λ e. cc
answer_has_text (Ok (Some report.Aborted)) up other = λ e. cc
answer_has_text (Ok (Some report.GaveUp)) up other = λ e. cc
answer_has_text (Ok (Some (report.Refused code))) up other = λ e. cc
answer_has_text (Ok (Some report.RestartsSpent)) up other = λ e. cc
answer_has_text (Ok (Some report.Uploaded)) up other = λ e. cc
answer_has_text (Ok (Some report.TooManyBlocks)) up other = λ e. cc
answer_has_text (Ok (Some report.NoMemory)) up other = λ e. cc
answer_has_text (Ok (Some report.Verified)) up other = λ e. cc
answer_has_text (Ok (Some report.Different)) up other = λ e. cc
answer_has_text (Err link.HostBusy) up other = λ e. cc
answer_has_text (Err link.NoHost) up other = λ e. cc
answer_has_text (Err (link.BadOffer fault)) up other = λ e. cc
answer_has_text (Err link.NoMemory) up other = λ e. cc

-- If the second of two lists has a byte, both joined are not empty.
list_with_rest_is_not_empty : (front rest : List ℕ) → front ++ rest ≡ [] → 0 < length rest → ⊥
list_with_rest_is_not_empty [] [] e some = absurd (omega (arith, some))
list_with_rest_is_not_empty [] (x ∷ xs) e some = absurd cc
list_with_rest_is_not_empty (x ∷ xs) rest e some = absurd cc

-- A text that was written in part is not empty.
partly_written_is_not_empty : {old new : Option (List ℕ)} {text : List ℕ} → IsPartlyWritten old new text → text ≢ []
partly_written_is_not_empty part = λ e. absurd (list_with_rest_is_not_empty part.front part.rest (sym part.whole ∙ e) part.left)

-- If the pass after some silent ones prints a text as expected, `go until report` prints exactly that text.
pass_prints_after_silent_ones : {b : LinkView} {c c' : WorldView} (g : Option (List ℕ)) (check : List ℕ) (limits : Limits)
    (r : Result (Option Report) LinkFault) {old mid : Option (List ℕ)}
    {x y : Option Expectation} (k : ℕ) (next : Option Expectation) → MeetsExpectation next (outcome_line r c'.up)
    → SilentPasses check b x old c.bench y mid → WorldEventResult c (checked_event check c.bench passes) c' r → BenchMatchesFlash c'.bench →
    outcome_line r c'.up ≢ []
    → LineActs k (point_of_parts g check limits next b) GoesOn (outcome_line r c'.up)
    (point_of_parts g check limits (expectation_left next (outcome_line r c'.up)) c'.bench)
pass_prints_after_silent_ones {b = b} {c = c} {c' = c'} g check limits r k next meets silent come active some =
    let same : outcome_line r c'.up ≡ answer_line come.answer = outcome_line_is_answer_line c c' r come in
    subst (λ (text : List ℕ). LineActs k (point_of_parts g check limits next b) GoesOn text
    (point_of_parts g check limits (expectation_left next text) c'.bench)) (sym same)
    (goes_on silent.times silent.plays come.comes active (λ e. some (same ∙ e))
    (subst (λ (text : List ℕ). MeetsExpectation next text) same meets))

-- If the text of the last pass was written, `go until report` ran.
until_report_is_carried_out : {b : LinkView} {c c' : WorldView} (g : Option (List ℕ)) (check : List ℕ) (limits : Limits)
    (r : Result (Option Report) LinkFault)
    {old mid new : Option (List ℕ)} {x y z : Option Expectation} → SilentPasses check b x old c.bench y mid
    → WorldEventResult c (checked_event check c.bench passes) c' r → BenchMatchesFlash c'.bench → r ≢ Ok None
    → TextPrinted y mid (outcome_line r c'.up) z new
    → LineCarriedOut (point_of_parts g check limits x b) GoesOn old (point_of_parts g check limits z c'.bench) new
until_report_is_carried_out {b = b} {c' = c'} g check limits r {x = x} silent come active other prints =
    let all = printed_texts_join silent.prints prints in
    record {
      out = outcome_line r c'.up;
      acts = λ k. subst (λ (e : Option Expectation). LineActs k (point_of_parts g check limits x b) GoesOn (outcome_line r c'.up)
          (point_of_parts g check limits e c'.bench))
          (sym all.left) (pass_prints_after_silent_ones g check limits r k x all.meets silent come active (answer_has_text r c'.up other));
      told = all.told;
    }

-- If the printing of the last pass's text stopped, `go until report` stopped.
until_report_is_stopped : {b : LinkView} {c c' : WorldView} (g : Option (List ℕ)) (check : List ℕ) (limits : Limits)
    (r : Result (Option Report) LinkFault)
    {old mid new : Option (List ℕ)} {x y z : Option Expectation} {f : ScriptFault} → SilentPasses check b x old c.bench y mid
    → WorldEventResult c (checked_event check c.bench passes) c' r → BenchMatchesFlash c'.bench
    → PrintEnds y mid (outcome_line r c'.up) z new (Err f)
    → LineFailsByMeaning (point_of_parts g check limits x b) GoesOn old new f
until_report_is_stopped {b = b} {c' = c'} g check limits r {old = old} {mid = mid} {new = new} {x = x} {f = f} silent come active prints k
    line e =
    let before = silent.prints in
    stopped_line_fails (point_of_parts g check limits x b) k line f
    (stops_in_until_report e (pass_prints_after_silent_ones g check limits r 0 None tt silent come active (partly_written_is_not_empty
    prints.err))
    (second_text_breaks_both old mid new [] (outcome_line r c'.up) before.told prints.err)
    (text_then_fault_fails (outcome_line r c'.up) new f before prints.fault))

-- The result of `go until report` is the result of writing the last pass's text: it ran, or stopped within that text.
pub until_report_ends_as_text : {b : LinkView} {c c' : WorldView} (g : Option (List ℕ)) (check : List ℕ) (limits : Limits)
    (r : Result (Option Report) LinkFault) {old mid new : Option (List ℕ)} {x y z : Option Expectation} (done : Result Unit ScriptFault)
    → SilentPasses check b x old c.bench y mid → WorldEventResult c (checked_event check c.bench passes) c' r → BenchMatchesFlash c'.bench
    → r ≢ Ok None
    → PrintEnds y mid (outcome_line r c'.up) z new done
    → LineOutcome (point_of_parts g check limits x b) GoesOn old (point_of_parts g check limits z c'.bench) new done
until_report_ends_as_text g check limits r (Ok u) silent come active other prints =
    record { ok = until_report_is_carried_out g check limits r silent come active other prints.ok; fault = tt }
until_report_ends_as_text g check limits r (Err f) silent come active other prints =
    record { ok = tt; fault = until_report_is_stopped g check limits r silent come active prints }
