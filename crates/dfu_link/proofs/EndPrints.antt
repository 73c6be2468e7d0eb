-- The headline holds for the text that a script printed, because each event preserves it.
use Rattle.std.proofs.Common.{◌≡◌, inl, inr, ℕ, List, [], ◌∷◌, ◌++◌, map, Option, Some, None, Result, Ok, Err, refl, sym, ap, ◌∙◌, subst}
use Rattle.std.proofs.lemmas.List.{map-append}
use Rattle.std.specs.Prelude.{◌+◌, IfSome, replicate, unwrap_or}
use Rattle.std.specs.Io.KnownBytes.{Appends}
use Rattle.dfu_slots.specs.StoreView.{format_series, image_of}
use Rattle.dfu_slots.specs.Unarmed.{whole_fuse_after_writes}
use Rattle.dfu_device.specs.Stage.{Stage}
use Rattle.dfu_device.specs.DeviceView.{DeviceView}
use Rattle.dfu_host.specs.declared.report.Report.{Report}
use Rattle.dfu_host.specs.declared.report.Report.TheVariants.{Uploaded}
use Rattle.dfu_sim.specs.declared.fault.LinkFault.{LinkFault}
use Rattle.dfu_link.specs.declared.scripting.fault.ScriptFault.{ScriptFault}
use Rattle.dfu_link.specs.declared.scripting.fault.ScriptFault.TheVariants.{BadLine, LateConfig, BadConfig, Expected, NonePrinted, TooLarge, NoMemory, Read, Write}
use Rattle.dfu_sim.specs.Happening.{Happening, Goes, Pass, no_write_harmed}
use Rattle.dfu_sim.specs.LinkView.{LinkView, BenchMatchesFlash}
use Rattle.dfu_sim.specs.LinkInvariant.{IsSteadyLink}
use Rattle.dfu_sim.specs.Play.{Answered}
use Rattle.dfu_sim.specs.Bytes.{link_of_bench}
use Rattle.dfu_sim.specs.EventResults.{EventResult, refuses, happens}
use Rattle.dfu_sim.specs.Understood.{BenchImageIsActive}
use Rattle.dfu_sim.specs.Headline.{SessionBeginning, HeadlineInvariant, IsWaiting}
use Rattle.dfu_sim.specs.SessionStarts.{sessions_after_event}
use Rattle.dfu_link.specs.Texts.{uploaded_line, outcome_line, answer_line, refusal_line}
use Rattle.dfu_link.specs.LineContent.{LineContent, Does, Go, GoesOn, Show}
use Rattle.dfu_link.specs.Lines.{line_of}
use Rattle.dfu_link.specs.ScriptRun.{Settings, initial_settings, link_at_rest, ScriptPoint, initial_point, checked_event, EventsPlayed, no_event_played, event_played_next, LineActs, skips, acts_by_limits, plays, goes_on, shows, expects, LinesRun, stays, line_runs_next, IsPrologue, DeviceStarts, RunIsOut, blank_slots}
use Rattle.dfu_link.specs.Falls.{PrintingStops, in_events as breaks_in_events, stops_in_until_report as breaks_in_passes, stops_in_show as breaks_in_show, NextLineFails, ScriptFails, no_memory, fails_in_setting, start_fails, run_fails, ScriptEnding}
use Rattle.dfu_link.specs.Printed.{IsKnownImage, LineEffect, Events, effect_of_line, report_text, EventsPrint, no_event, refused_event_prints_next, LinePrints, prints_nothing, prints_events, prints_passes, prints_image, LinesPrint, no_lines_print, line_prints_next, IsStartPoint, TextPrints, WholeIsPrinted, PartPrints, part_of_nothing, in_events, part_of_line_text, part_of_image_line, PartIsPrinted, stopped_before_start, stopped_after_start, HasPrinted}
use Rattle.dfu_link.proofs.LineEffects.{effect_of_content, line_effect_is_content_effect}
use Rattle.dfu_link.proofs.PrintedTexts.{PrintedRefusal, refusal, state_words, state_words_are_one_line}
use Rattle.dfu_link.proofs.Printing.{session_of_event, check_keeps_session, line_events_begin_sessions, one_more_event_prints, settings_lines_keep_given, settings_lines_precede, start_precedes_next_line}
use Rattle.dfu_link.proofs.PlayLaws.{one_more_copy_is_at_end}
use Rattle.dfu_sim.proofs.EventFacts.{machines_follow_event_result, uploads_are_active, rest_is_steady}
use Rattle.dfu_sim.proofs.HeadlineKept.{event_keeps_headline, headline_at_start}

-- Facts that hold at each point of a script: the link is steady, and the headline holds for it, with the last report, if there was one.
record Keeps (factory : List ℕ) (past : List SessionBeginning) (b : LinkView) : Type 0 where
  pub steady : IsSteadyLink b
  pub report : Option Report
  pub holds : HeadlineInvariant factory past report b

-- The image that the bench shows is the image of the headline.
shown_image_is_headline_image : BenchImageIsActive → {factory : List ℕ} {past : List SessionBeginning} {report : Option Report} {b :
    LinkView}
    (k : HeadlineInvariant factory past report b)
    → k.says.image ≡ image_of b.device.slots
shown_image_is_headline_image shown {b = b} k = (shown b).1 k.says.image k.says.active

shown_image_is_known : BenchImageIsActive → {factory : List ℕ} {past : List SessionBeginning} {b : LinkView} → Keeps factory past b
    → IsKnownImage factory past b (image_of b.device.slots)
shown_image_is_known shown {factory = factory} {past = past} {b = b} keeps =
    subst (λ (image : List ℕ). IsKnownImage factory past b image) (shown_image_is_headline_image shown keeps.holds)
    (record { active = keeps.holds.says.active; known = keeps.holds.says.known })

-- If the bytes of Uploaded are those of the active image, the text of a report equals the line of the answer.
report_text_is_outcome_line : (report : Option Report) (gave : Option (List ℕ)) (image shows_image : List ℕ) → (report ≡ Some Uploaded →
    gave ≡ Some shows_image)
    → image ≡ shows_image → report_text report image ≡ outcome_line (Ok report) (unwrap_or gave [])
report_text_is_outcome_line None gave image shows_image gives e = refl
report_text_is_outcome_line (Some Uploaded) gave image shows_image gives e =
    ap uploaded_line (e ∙ ap (λ (x : Option (List ℕ)). unwrap_or x []) (sym (gives refl)))
report_text_is_outcome_line (Some report) gave image shows_image gives e = refl

-- After the events the facts of `Keeps` hold, and the text of the events is one that the headline allows.

record HeadlineAfterEvents (factory : List ℕ) (past : List SessionBeginning) (b : LinkView) (hs : List Happening) (out : List ℕ)
    (b' : LinkView) : Type 0 where
  pub past' : List SessionBeginning
  pub keeps : Keeps factory past' b'
  pub prints : EventsPrint factory past b (map session_of_event hs) out past' b'

next_event_keeps_headline : BenchImageIsActive → {factory : List ℕ} {past : List SessionBeginning} {b c c' : LinkView} {hs : List Happening}
    {out : List ℕ} {h : Happening}
    {answer : Result Answered LinkFault} → HeadlineAfterEvents factory past b hs out c → EventResult c h c' answer → BenchMatchesFlash c'
    → HeadlineAfterEvents factory past b (hs ++ h ∷ []) (out ++ answer_line answer) c'
next_event_keeps_headline shown {factory = factory} {past = past} {b = b} {c = c} {hs = hs} {out = out} {h = h} rest (refuses {fault =
    fault} why) active =
    let why : PrintedRefusal fault = refusal fault in
    record {
      past' = rest.past';
      keeps = rest.keeps;
      prints =
          subst (λ (events : List (Option SessionBeginning)). EventsPrint factory past b events (out ++ refusal_line fault) rest.past' c)
          (sym (map-append session_of_event hs (h ∷ [])))
          (subst (λ (text : List ℕ). EventsPrint factory past b (map session_of_event hs ++ session_of_event h ∷ []) (out
          ++ text) rest.past' c)
          (sym why.is) (refused_event_prints_next (session_of_event h) why.reason rest.prints why.reason_is_one_line));
    }
next_event_keeps_headline shown {factory = factory} {past = past} {b = b} {c = c} {c' = c'} {hs = hs} {out = out} {h = h} rest
    (happens {event = event} {answer = answer} means play) active =
    let comes : EventResult c h c' (Ok answer) = happens means play in
    let after = uploads_are_active c c' h answer rest.keeps.steady comes in
    let k : HeadlineInvariant factory (sessions_after_event h rest.past') answer.report c' =
    event_keeps_headline h (machines_follow_event_result shown [] rest.keeps.steady active comes) rest.keeps.holds in
    record {
      past' = sessions_after_event h rest.past';
      keeps = record { steady = after.0; report = answer.report; holds = k };
      prints = subst (λ (events : List (Option SessionBeginning)). EventsPrint factory past b events (out ++ answer_line (Ok answer))
          (sessions_after_event h rest.past') c') (sym (map-append session_of_event hs (h ∷ [])))
          (subst (λ (text : List ℕ). EventsPrint factory past b (map session_of_event hs ++ session_of_event h ∷ []) (out ++ text)
          (sessions_after_event h rest.past') c')
          (report_text_is_outcome_line answer.report answer.gave k.says.image (link_of_bench c').device.image after.1
          (shown_image_is_headline_image shown k))
          (one_more_event_prints h rest.prints k));
    }

events_keep_headline : BenchImageIsActive → {factory : List ℕ} {past : List SessionBeginning} {check : List ℕ} {b b' : LinkView}
    {hs : List Happening} {out : List ℕ}
    → Keeps factory past b → EventsPlayed check b hs out b' → HeadlineAfterEvents factory past b hs out b'
events_keep_headline shown {past = past} keeps no_event_played = record { past' = past; keeps = keeps; prints = no_event }
events_keep_headline shown {factory = factory} {past = past} {check = check} {b = b} {b' = b'} keeps
    (event_played_next {c = c} {events = hs} {out = out} {answer = answer} h more one active) =
    let kept = next_event_keeps_headline shown (events_keep_headline shown keeps more) one active in
    record {
      past' = kept.past';
      keeps = kept.keeps;
      prints =
          subst (λ (events : List (Option SessionBeginning)). EventsPrint factory past b events (out ++ answer_line answer) kept.past' b')
          (map-append session_of_event hs (checked_event check c h ∷ [])
          ∙ ap (λ (x : Option SessionBeginning). map session_of_event hs ++ x ∷ [])
          (check_keeps_session check c h) ∙ sym (map-append session_of_event hs (h ∷ []))) kept.prints;
    }

-- After the line the facts of `Keeps` hold, and the text of the line is one that the headline allows.

record HeadlineAfterLine (factory : List ℕ) (past : List SessionBeginning) (p : ScriptPoint) (said : LineContent) (out : List ℕ)
    (p' : ScriptPoint) : Type 0 where
  pub past' : List SessionBeginning
  pub keeps : Keeps factory past' p'.at
  pub prints : LinePrints factory past p.at (effect_of_content said) out past' p'.at
  pub given : p'.given ≡ p.given

line_keeps_headline : BenchImageIsActive → {factory : List ℕ} {past : List SessionBeginning} {k : ℕ} {p p' : ScriptPoint} {said :
    LineContent}
    {out : List ℕ}
    → Keeps factory past p.at → LineActs k p said out p' → HeadlineAfterLine factory past p said out p'
line_keeps_headline shown {past = past} keeps skips = record { past' = past; keeps = keeps; prints = prints_nothing; given = refl }
line_keeps_headline shown {past = past} keeps acts_by_limits = record { past' = past; keeps = keeps; prints = prints_nothing; given = refl }
line_keeps_headline shown {factory = factory} {past = past} {p = p} keeps (plays {events = events} {b = b} {out = out} come meets) =
    let all = events_keep_headline shown keeps come in
    record {
      past' = all.past';
      keeps = all.keeps;
      prints = prints_events (subst (λ (sessions : List (Option SessionBeginning)). EventsPrint factory past p.at sessions out all.past' b)
          (line_events_begin_sessions p.limits events) all.prints);
      given = refl;
    }
line_keeps_headline shown {factory = factory} {past = past} {p = p} keeps (goes_on {b = b} {answer = answer} times silent last active some
    meets) =
    let come : EventsPlayed p.check p.at (replicate (times + 1) (Goes Pass no_write_harmed)) (answer_line answer) b = subst
    (λ (hs : List Happening). EventsPlayed p.check p.at hs (answer_line answer) b) (sym (one_more_copy_is_at_end times (Goes Pass
    no_write_harmed)))
    (event_played_next (Goes Pass no_write_harmed) silent last active) in
    let all = events_keep_headline shown keeps come in
    record {
      past' = all.past';
      keeps = all.keeps;
      prints = prints_passes (times + 1) (subst (λ (sessions : List (Option SessionBeginning)). EventsPrint factory past p.at sessions
          (answer_line answer) all.past' b) (line_events_begin_sessions p.limits (Go Pass no_write_harmed (times + 1))) all.prints);
      given = refl;
    }
line_keeps_headline shown {past = past} {p = p} keeps (shows meets) = record {
  past' = past;
  keeps = keeps;
  prints = prints_image (state_words p.at.device) (state_words_are_one_line p.at.device) (shown_image_is_known shown keeps);
  given = refl;
}
line_keeps_headline shown {past = past} keeps (expects free) = record {
  past' = past;
  keeps = keeps;
  prints = prints_events no_event;
  given
      = refl;
}

told : {factory : List ℕ} {past past' : List SessionBeginning} {b b' : LinkView} {printed : List ℕ} (g : Option (List ℕ)) (line : List ℕ)
    (said : LineContent)
    → line_of g line ≡ Some said → LinePrints factory past b (effect_of_content said) printed past' b'
    → LinePrints factory past b (effect_of_line g line) printed past' b'
told {factory = factory} {past = past} {past' = past'} {b = b} {b' = b'} {printed = printed} g line said is prints =
    subst (λ (brings : LineEffect). LinePrints factory past b brings printed past' b') (sym (line_effect_is_content_effect g line said is))
    prints

record HeadlineAfterLines (factory : List ℕ) (past : List SessionBeginning) (p : ScriptPoint) (lines : List (List ℕ)) (out : List ℕ)
    (p' : ScriptPoint) : Type 0 where
  pub past' : List SessionBeginning
  pub keeps : Keeps factory past' p'.at
  pub prints : LinesPrint p.given factory past p.at lines out past' p'.at
  pub given : p'.given ≡ p.given

lines_keep_headline : BenchImageIsActive → {factory : List ℕ} {past : List SessionBeginning} {k : ℕ} {p p' : ScriptPoint} {lines : List
    (List ℕ)}
    {out : List ℕ}
    → Keeps factory past p.at → LinesRun k p lines out p' → HeadlineAfterLines factory past p lines out p'
lines_keep_headline shown {past = past} keeps stays = record { past' = past; keeps = keeps; prints = no_lines_print; given = refl }
lines_keep_headline shown {p = p} keeps (line_runs_next line {said = said} more is acts) =
    let rest = lines_keep_headline shown keeps more in
    let next = line_keeps_headline shown rest.keeps acts in
    record {
      past' = next.past';
      keeps = next.keeps;
      prints = line_prints_next line rest.prints
          (told p.given line said (ap (λ (g : Option (List ℕ)). line_of g line) (sym rest.given) ∙ is) next.prints);
      given = next.given ∙ rest.given;
    }

-- The headline holds at the start of the device, where no session is live and nothing was reported.

headline_holds_at_start : {settings : Settings} {first : DeviceView} → DeviceStarts settings first
    → HeadlineInvariant settings.image [] None (link_at_rest first)
headline_holds_at_start {settings = settings} {first = first} starts = headline_at_start (link_at_rest first) settings.image starts.active
    refl
    (λ x waits. subst (λ (s : Stage). IsWaiting s x) starts.stage waits)

facts_hold_at_device_start : {settings : Settings} {first : DeviceView} → DeviceStarts settings first →
    Keeps settings.image [] (link_at_rest first)
facts_hold_at_device_start {settings = settings} {first = first} starts = record {
  steady = rest_is_steady first (whole_fuse_after_writes (blank_slots settings.grain settings.capacity) first.slots.medium
      (format_series (blank_slots settings.grain settings.capacity) settings.image) refl starts.formatted);
  report = None;
  holds = headline_holds_at_start starts;
}

whole_text_prints : BenchImageIsActive → {g : Option (List ℕ)} {text : List ℕ} {settings : Settings} {after done : List (List ℕ)} {first :
    DeviceView}
    {out : List ℕ} {end : ScriptPoint} → IsPrologue g text settings after → DeviceStarts settings first
    → (all : HeadlineAfterLines settings.image [] (initial_point settings (link_at_rest first)) done out end)
    → TextPrints g text after done out all.past' end.at (image_of end.at.device.slots)
whole_text_prints shown {g = g} {settings = settings} {after = after} {done = done} {first = first} {out = out}
    {end = end} lines_before_start_set_up_device starts
    all =
    let factory = settings.image in
    let kept : settings.given ≡ g = settings_lines_keep_given lines_before_start_set_up_device.prepares in
    record {
      factory = factory;
      starts = subst (λ (lines : List (List ℕ)). IsStartPoint g (initial_settings g).image lines after factory)
          (sym lines_before_start_set_up_device.split)
          (settings_lines_precede lines_before_start_set_up_device.prepares
          (subst (λ (x : Option (List ℕ)). IsStartPoint x factory after after factory) kept
          (start_precedes_next_line settings factory after lines_before_start_set_up_device.ready)));
      first = first;
      holds = headline_holds_at_start starts;
      lines = subst (λ (x : Option (List ℕ)). LinesPrint x factory [] (link_at_rest first) done out all.past' end.at) kept all.prints;
      known = shown_image_is_known shown all.keeps;
    }

-- If all lines of a script ran, their text and the line of a known image were written.
script_run_prints : BenchImageIsActive → {g : Option (List ℕ)} {text : List ℕ} {old new : Option (List ℕ)} → RunIsOut g text old new
    → WholeIsPrinted g text old new
script_run_prints shown {old = old} {new = new} wrote =
    let run = wrote.run in
    let all = lines_keep_headline shown {p = initial_point run.settings (link_at_rest run.first)} (facts_hold_at_device_start
    run.starts) run.runs in
    record {
      after = run.after;
      printed = run.shown;
      past = all.past';
      end = run.end.at;
      image = image_of run.end.at.device.slots;
      prints = whole_text_prints shown run.lines_before_start_set_up_device run.starts all;
      told = subst (λ (out : List ℕ). Appends old new out) run.out_is wrote.told;
    }

-- If the printing of a line stops, only a part of the line's text was written.

stopped_line_prints_part : BenchImageIsActive → {factory : List ℕ} {past : List SessionBeginning} {p : ScriptPoint} {line : List ℕ} {lines
    : List
    (List ℕ)}
    {old new : Option (List ℕ)} {fault : ScriptFault} {image : List ℕ} → Keeps factory past p.at → PrintingStops p line old new fault
    → PartPrints p.given factory past p.at image (line ∷ lines) old new
stopped_line_prints_part shown {p = p} {line = line} keeps (breaks_in_events {events = events} says broken) =
    let all = events_keep_headline shown keeps broken.plays in
    let same = sym (line_events_begin_sessions p.limits events) ∙ ap (map session_of_event) broken.split
    ∙ map-append session_of_event broken.events_played_before broken.left in
    in_events (map session_of_event broken.left) (line_effect_is_content_effect p.given line (Does events) says
    ∙ ap Events same) all.prints broken.broken_text_in_part
stopped_line_prints_part shown {p = p} {line = line} keeps (breaks_in_passes says acts broken_text_in_part fails) =
    part_of_line_text (told p.given line GoesOn says (line_keeps_headline shown {p = record p { next = None }} keeps acts).prints)
    broken_text_in_part
stopped_line_prints_part shown {p = p} {line = line} keeps (breaks_in_show says broken_text_in_part fails) =
    part_of_line_text (told p.given line Show says
    (prints_image (state_words p.at.device) (state_words_are_one_line p.at.device) (shown_image_is_known shown keeps))) broken_text_in_part

nothing_printed_is_part : {g : Option (List ℕ)} {factory : List ℕ} {past : List SessionBeginning} {b : LinkView} {image : List ℕ} {lines :
    List (List ℕ)}
    {old new : Option (List ℕ)} → new ≡ old → PartPrints g factory past b image lines old new
nothing_printed_is_part {g = g} {factory = factory} {past = past} {b = b} {image = image} {lines = lines} {old = old} e =
    subst (λ (x : Option (List ℕ)). PartPrints g factory past b image lines old x) (sym e) part_of_nothing

failed_line_prints_part : BenchImageIsActive → {factory : List ℕ} {past : List SessionBeginning} (p : ScriptPoint) (k : ℕ) (lines : List
    (List ℕ))
    (old new : Option (List ℕ))
    (fault : ScriptFault) → Keeps factory past p.at → NextLineFails p k lines old new fault
    → PartPrints p.given factory past p.at (image_of p.at.device.slots) lines old new
failed_line_prints_part shown p k lines old new TooLarge keeps e = nothing_printed_is_part e
failed_line_prints_part shown p k lines old new Read keeps e = nothing_printed_is_part e
failed_line_prints_part shown p k (line ∷ lines) old new (BadLine n) keeps (is, none, e) = nothing_printed_is_part e
failed_line_prints_part shown p k (line ∷ lines) old new (LateConfig n) keeps (is, late, e) = nothing_printed_is_part e
failed_line_prints_part shown p k (line ∷ lines) old new (NonePrinted n) keeps (second, e) = nothing_printed_is_part e
failed_line_prints_part shown p k (line ∷ lines) old new NoMemory keeps (inl needs) = nothing_printed_is_part needs.1
failed_line_prints_part shown p k (line ∷ lines) old new NoMemory keeps (inr breaks) = stopped_line_prints_part shown keeps breaks
failed_line_prints_part shown p k (line ∷ lines) old new Write keeps breaks = stopped_line_prints_part shown keeps breaks
failed_line_prints_part shown p k (line ∷ lines) old new (Expected n) keeps breaks = stopped_line_prints_part shown keeps breaks
failed_line_prints_part shown p k (line ∷ lines) old new BadConfig keeps falls = absurd falls
failed_line_prints_part shown p k [] old new Write keeps (fails, broken_text_in_part) = part_of_image_line broken_text_in_part
failed_line_prints_part shown p k [] old new (Expected n) keeps (fails, broken_text_in_part) = part_of_image_line broken_text_in_part
failed_line_prints_part shown p k [] old new NoMemory keeps (fails, broken_text_in_part) = part_of_image_line broken_text_in_part
failed_line_prints_part shown p k [] old new (BadLine n) keeps (fails, broken_text_in_part) = part_of_image_line broken_text_in_part
failed_line_prints_part shown p k [] old new (LateConfig n) keeps (fails, broken_text_in_part) = part_of_image_line broken_text_in_part
failed_line_prints_part shown p k [] old new (NonePrinted n) keeps (fails, broken_text_in_part) = part_of_image_line broken_text_in_part
failed_line_prints_part shown p k [] old new BadConfig keeps (fails, broken_text_in_part) = part_of_image_line broken_text_in_part

failed_script_prints_part : BenchImageIsActive → {g : Option (List ℕ)} {text : List ℕ} {old new : Option (List ℕ)} {fault : ScriptFault}
    → ScriptFails g text old new fault → PartIsPrinted g text old new
unfolding whole_text_prints
failed_script_prints_part shown (no_memory e) = stopped_before_start e
failed_script_prints_part shown (fails_in_setting falls e) = stopped_before_start e
failed_script_prints_part shown (start_fails lines_before_start_set_up_device cannot there e) = stopped_before_start e
failed_script_prints_part shown {g = g} {new = new}
    (run_fails {settings = settings} {first = first} {fault = fault} lines_before_start_set_up_device starts falls
    there) =
    let all = lines_keep_headline shown {p = initial_point settings (link_at_rest first)} (facts_hold_at_device_start starts)
    falls.runs in
    let kept : falls.end.given ≡ g = all.given ∙ settings_lines_keep_given lines_before_start_set_up_device.prepares in
    stopped_after_start (whole_text_prints shown lines_before_start_set_up_device starts all) falls.split falls.told
    (subst (λ (x : Option (List ℕ)). PartPrints x settings.image all.past' falls.end.at (image_of falls.end.at.device.slots) falls.rest
    falls.mid new) kept (failed_line_prints_part shown falls.end _ falls.rest falls.mid new fault all.keeps falls.falls))

-- If the reader's text is known, a script that ended has printed a text for which the headline holds.
pub ended_script_has_printed : BenchImageIsActive → (g given : Option (List ℕ)) (old new : Option (List ℕ)) (r : Result Unit ScriptFault)
    → IfSome given (λ text. ScriptEnding g text old new r) → IfSome given (λ text. HasPrinted g text old new r)
ended_script_has_printed shown g None old new r end = tt
ended_script_has_printed shown g (Some text) old new (Ok done) end = script_run_prints shown end
ended_script_has_printed shown g (Some text) old new (Err f) end = failed_script_prints_part shown end
