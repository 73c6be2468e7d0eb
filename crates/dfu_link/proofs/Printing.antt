-- Texts that the lines of a script print, and the start of its device.
use Rattle.std.proofs.Common.{◌≡◌, ℕ, zero, suc, List, [], ◌∷◌, ◌++◌, map, append_assoc, Option, Some, None, refl, sym, ap, ◌∙◌, subst}
use Rattle.std.specs.Prelude.{replicate}
use Rattle.std.proofs.lemmas.Option.{same_Some}
use Rattle.dfu_host.specs.declared.report.Report.{Report}
use Rattle.dfu_host.specs.declared.limits.Limits.{Limits}
use Rattle.dfu_sim.specs.Happening.{Happening, Offers, Uploads, Goes}
use Rattle.dfu_sim.specs.LinkView.{LinkView}
use Rattle.dfu_link.specs.LineContent.{ConfigLine, SetsDeviceIds, SetsImage, EventLine, Go, LineContent, Blank, SetsConfig, SetsLimits, Does, GoesOn, Show, ExpectsText}
use Rattle.dfu_link.specs.Lines.{line_of}
use Rattle.dfu_link.specs.ScriptRun.{Settings, settings_with as set_by, checked_event, events_of_line, SettingsPrepared, settings_after_line, nothing, line_prepares_next, DeviceMustStart, IsActingLine}
use Rattle.dfu_sim.specs.Headline.{SessionBeginning, BeginningWithOffer, BeginningAsUpload, HeadlineInvariant}
use Rattle.dfu_sim.specs.SessionStarts.{sessions_after_event}
use Rattle.dfu_link.specs.Printed.{effect_of_line, report_text, EventsPrint, event_prints_next, NeedsDevice, IsStartPoint, starts_at_end, starts_at_line, after_other_line, starts_after_image_line}
use Rattle.dfu_link.proofs.LineEffects.{sessions_of_event_line, effect_of_config_line, effect_of_content, line_effect_is_content_effect}

-- Lemmas about events and the sessions that they begin.

-- Session that an event may begin; None if it begins none.
abbrev pub session_of_event : Happening → Option SessionBeginning
session_of_event (Offers purpose file limits) = Some (BeginningWithOffer file)
session_of_event (Uploads limits) = Some BeginningAsUpload
session_of_event h = None

-- A program's check does not change the session that an event may begin.
pub check_keeps_session : (check : List ℕ) (b : LinkView) (h : Happening) → session_of_event (checked_event check b h)
    ≡ session_of_event h
check_keeps_session check b (Goes fate harm) = refl
check_keeps_session check b h = refl

-- Each copy of an event may begin the session of that event.
copies_begin_copied_sessions : (times : ℕ) (h : Happening) → map session_of_event (replicate times h) ≡ replicate times (session_of_event h)
copies_begin_copied_sessions zero h = refl
copies_begin_copied_sessions (suc times) h = ap (λ (events : List (Option SessionBeginning)). session_of_event h ∷ events)
    (copies_begin_copied_sessions times h)

-- The events of a line may begin the sessions of its meaning, in their order.
pub line_events_begin_sessions : (limits : Limits) (events : EventLine) → map session_of_event (events_of_line limits events)
    ≡ sessions_of_event_line events
line_events_begin_sessions limits (Go f harm times) = copies_begin_copied_sessions times (Goes f harm)
line_events_begin_sessions limits events = refl

-- If events print a text, and the headline holds after one more event, all of them print that text followed by the text of the last report.
pub one_more_event_prints : {factory : List ℕ} {past : List SessionBeginning} {b : LinkView} {events : List (Option SessionBeginning)}
    {printed : List ℕ} {mid : List SessionBeginning}
    {c c' : LinkView} {report : Option Report} (h : Happening) → EventsPrint factory past b events printed mid c
    → (holds : HeadlineInvariant factory (sessions_after_event h mid) report c')
    → EventsPrint factory past b (events ++ session_of_event h ∷ []) (printed
    ++ report_text report holds.says.image) (sessions_after_event h mid) c'
one_more_event_prints (Offers purpose file limits) prints holds = event_prints_next (Some (BeginningWithOffer file)) prints holds
one_more_event_prints (Uploads limits) prints holds = event_prints_next (Some BeginningAsUpload) prints holds
one_more_event_prints h prints holds = event_prints_next None prints holds

-- Lemmas about the start of the device.

equal_settings_start_alike : {g : Option (List ℕ)} {t : Settings} {factory : List ℕ} {lines after : List (List ℕ)} (u : Settings) →
    Some u ≡ Some t
    → IsStartPoint g t.image lines after factory → IsStartPoint g u.image lines after factory
equal_settings_start_alike {g = g} {t = t} {factory = factory} {lines = lines} {after = after} u e starts =
    subst (λ (s : Settings). IsStartPoint g s.image lines after factory) (sym (same_Some u t e)) starts

-- A configuration line before other lines does not change the line before which the device starts.
config_line_precedes : {g : Option (List ℕ)} {factory line : List ℕ} {lines after : List (List ℕ)} (s : Settings) (x : ConfigLine)
    → effect_of_line g line ≡ effect_of_config_line x
    → IsStartPoint g (set_by s x).image lines after factory → IsStartPoint g s.image (line ∷ lines) after factory
config_line_precedes s (SetsImage image) is starts = starts_after_image_line is starts
config_line_precedes s x is starts = after_other_line is starts

-- A configuration line, a `limits` line or a blank line before other lines does not change the line before which the device starts.
settings_line_precedes : {g : Option (List ℕ)} {t : Settings} {factory : List ℕ} {lines after : List (List ℕ)} (line : List ℕ) (s :
    Settings)
    (said : LineContent)
    → effect_of_line g line ≡ effect_of_content said → settings_after_line s said ≡ Some t → IsStartPoint g t.image lines after factory
    → IsStartPoint g s.image (line ∷ lines) after factory
settings_line_precedes line s Blank is set starts = after_other_line is (equal_settings_start_alike s set starts)
settings_line_precedes line s (SetsConfig x) is set starts = config_line_precedes s x is (equal_settings_start_alike (set_by s x)
    set starts)
settings_line_precedes line s (SetsLimits actions restarts) is set starts =
    after_other_line is (equal_settings_start_alike (record s { limits = record { actions = actions; restarts = restarts } }) set starts)
settings_line_precedes line s (Does events) is set starts = absurd cc
settings_line_precedes line s GoesOn is set starts = absurd cc
settings_line_precedes line s Show is set starts = absurd cc
settings_line_precedes line s (ExpectsText text) is set starts = absurd cc

-- A configuration line does not change the given bytes.
config_line_keeps_given : (s : Settings) (x : ConfigLine) → (set_by s x).given ≡ s.given
config_line_keeps_given s (SetsDeviceIds ids) = refl
config_line_keeps_given s x = refl

-- A line before the start does not change the given bytes.
settings_line_keeps_given : {t : Settings} (s : Settings) (said : LineContent) → settings_after_line s said ≡ Some t → t.given ≡ s.given
settings_line_keeps_given {t = t} s Blank sets = ap (λ (u : Settings). u.given) (sym (same_Some s t sets))
settings_line_keeps_given {t = t} s (SetsConfig x) sets = ap (λ (u : Settings). u.given) (sym (same_Some (set_by s x) t sets))
    ∙ config_line_keeps_given s x
settings_line_keeps_given {t = t} s (SetsLimits actions restarts) sets =
    ap (λ (u : Settings). u.given) (sym (same_Some (record s { limits = record { actions = actions; restarts = restarts } }) t sets))
settings_line_keeps_given s (Does events) sets = absurd cc
settings_line_keeps_given s GoesOn sets = absurd cc
settings_line_keeps_given s Show sets = absurd cc
settings_line_keeps_given s (ExpectsText text) sets = absurd cc

-- The lines before the start do not change the given bytes.
pub settings_lines_keep_given : {s t : Settings} {lines : List (List ℕ)} → SettingsPrepared s lines t → t.given ≡ s.given
settings_lines_keep_given nothing = refl
settings_lines_keep_given (line_prepares_next {t = t} line {said = said} prepares is sets) = settings_line_keeps_given t said sets
    ∙ settings_lines_keep_given prepares

-- Lines that set the configuration, before other lines, do not change the line before which the device starts.
pub settings_lines_precede : {s t : Settings} {factory : List ℕ} {before lines after : List (List ℕ)} → SettingsPrepared s before t
    → IsStartPoint s.given t.image lines after factory → IsStartPoint s.given s.image (before ++ lines) after factory
settings_lines_precede nothing starts = starts
settings_lines_precede {s = s} {factory = factory} {lines = lines} {after = after}
    (line_prepares_next {t = t} {lines = before} line {said = said} prepares is sets) starts =
    let says : line_of s.given line ≡ Some said = ap (λ (g : Option (List ℕ)). line_of g line) (sym (settings_lines_keep_given prepares)) ∙
    is in
    subst (λ (all : List (List ℕ)). IsStartPoint s.given s.image all after factory) (sym (append_assoc before (line ∷ []) lines))
    (settings_lines_precede prepares (settings_line_precedes line t said (line_effect_is_content_effect s.given line said says)
    sets starts))

-- The meaning of an event line, of `show` and of `expect` needs the device.
acting_content_needs_device : (said : LineContent) → IsActingLine (Some said) → NeedsDevice (effect_of_content said)
acting_content_needs_device (Does events) acts = tt
acting_content_needs_device GoesOn acts = tt
acting_content_needs_device Show acts = tt
acting_content_needs_device (ExpectsText text) acts = tt
acting_content_needs_device said acts = absurd acts

-- An event line, `show` and `expect` need the device.
acting_line_needs_device : (g : Option (List ℕ)) (line : List ℕ) (said : Option LineContent) → line_of g line ≡ said → IsActingLine said
    → NeedsDevice (effect_of_line g line)
acting_line_needs_device g line None is acts = absurd acts
acting_line_needs_device g line (Some said) is acts = subst NeedsDevice (sym (line_effect_is_content_effect g line said is))
    (acting_content_needs_device said acts)

-- If the device must start, it starts before the next line, or at the end of the script if no line remains.
pub start_precedes_next_line : (s : Settings) (image : List ℕ) (after : List (List ℕ)) → DeviceMustStart s after →
    IsStartPoint s.given image after after image
start_precedes_next_line s image [] ready = starts_at_end
start_precedes_next_line s image (line ∷ lines) ready = starts_at_line (acting_line_needs_device s.given line (line_of s.given line) refl
    ready)
