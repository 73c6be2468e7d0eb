-- Results of whole scripts, from the results of their parts.
use Rattle.std.proofs.Common.{◌≡◌, ℕ, ◌+◌, ◌++◌, List, [], length, Option, Some, None, refl, sym, ap, ◌∙◌, subst, arith}
use Rattle.std.proofs.lemmas.List.{append-nil}
use Rattle.std.specs.Prelude.{Bool, Result, Ok, Err, IfSome, OnOk, IfErr}
use Rattle.std.specs.Io.KnownBytes.{IsAtEnd, prepend_known}
use Rattle.dfu_suffix.proofs.ReadLaws.{each_value_gives_if_some}
use Rattle.dfu_device.specs.DeviceView.{DeviceView}
use Rattle.dfu_link.specs.Words.{lines_of}
use Rattle.dfu_link.specs.Texts.{image_line}
use Rattle.dfu_link.specs.TextLimit.{ReadingIsStopped, NoLineRead}
use Rattle.dfu_link.specs.ScriptRun.{Settings, initial_settings, SettingsPrepared, DeviceStarts, link_at_rest, ScriptPoint, initial_point, DeviceMustStart, IsPrologue, LinesRun, RunIsOut}
use Rattle.dfu_link.specs.Falls.{NextLineFails, LinesFail, StartFails, ScriptFails, ScriptEnding, no_memory, fails_in_setting, start_fails, run_fails}
use Rattle.dfu_link.specs.inside.Source.{SourceState, NextLineOrEnd, LinesRead, SourceLines}
use Rattle.dfu_link.specs.inside.Moving.{SourceExhausted, LinesDoneThenFailure, LinesConfigured, SettingLineFails, IsConfigureFault}
use Rattle.dfu_link.specs.declared.scripting.fault.ScriptFault.{ScriptFault}
use Rattle.dfu_link.specs.declared.scripting.fault.ScriptFault.TheVariants.{BadLine, LateConfig, BadConfig, Expected, NonePrinted, TooLarge, NoMemory, Read, Write}
use Rattle.dfu_link.proofs.GivenLaws.{value_has_property, source_reads_named_text, lines_read_join, reading_stops_after}

-- The source is fresh: it is at the beginning of the text, no byte was taken, and no line was counted.
record IsFresh (text : List ℕ) (s : SourceState) : Type 0 where
  pub left : s.left ≡ Some text
  pub room : s.room ≡ 16777216
  pub number : s.number ≡ 0

-- If a property holds for every text of a fresh source, it holds for the reader's text, if that is known.
whole_text_has_property : (given : Option (List ℕ)) (s : SourceState) (P : List ℕ → Type 0)
    → (s.left ≡ prepend_known [] given) × (s.room ≡ 16777216) × (s.number ≡ 0) → ((text : List ℕ) → IsFresh text s → P text)
    → IfSome given P
whole_text_has_property given s P (left, room, number) holds = each_value_gives_if_some given P (λ text e. holds text (record {
  left = left ∙ ap (prepend_known []) e;
  room = room;
  number = number;
}))

-- If a source is fresh, the lines that it reads are the first lines of its text.
fresh_source_reads_front : {text : List ℕ} {s s' : SourceState} {xs : List (List ℕ)} → IsFresh text s → SourceLines s xs s'
    → (left : List ℕ) × (s'.left ≡ Some left) × LinesRead text 16777216 xs left s'.room
fresh_source_reads_front {text = text} {s = s} {s' = s'} {xs = xs} fresh gives =
    let t = source_reads_named_text s s' xs gives fresh.left in
    (t.0, t.1, subst (λ (room : ℕ). LinesRead text room xs t.0 s'.room) fresh.room t.2)

-- If a configuration line fails, or can't be read, the script fails with the fault of that line.
setting_fault_ends_script : {g : Option (List ℕ)} {text : List ℕ} {s : SourceState} {x : Settings} (old : Option (List ℕ)) (f : ScriptFault)
    → IsFresh text s
    → x ≡ initial_settings g → SettingLineFails x s f → ScriptFails g text old old f
setting_fault_ends_script {text = text} old f fresh e stops =
    let p = stops.prepared in
    let t = fresh_source_reads_front fresh p.gives in
    let here = value_has_property stops.at.left
    (λ left. ReadingIsStopped stops.at.room left f × NoLineRead stops.to.given (stops.at.number + 1) (lines_of left) f) t.0 t.1
    stops.stops in
    fails_in_setting (record {
      done = p.done;
      rest = lines_of t.0;
      split = t.2.are;
      settings = stops.to;
      prepares = subst (λ (y : Settings). SettingsPrepared y p.done stops.to) e p.prepares;
      falls = subst (λ (n : ℕ). NoLineRead stops.to.given n (lines_of t.0) f) (omega (arith, p.gives.count, fresh.number)) here.1;
      stops = reading_stops_after f t.2 here.0;
    }) refl

-- If the settings of a script can't be completed, the script fails with the fault of its configuration lines.
configure_fault_ends_script : {g : Option (List ℕ)} {text : List ℕ} {s : SourceState} {x : Settings} (old : Option (List ℕ)) (f :
    ScriptFault)
    → IsFresh text s
    → x ≡ initial_settings g → IsConfigureFault x s f → ScriptFails g text old old f
configure_fault_ends_script old NoMemory fresh e falls = no_memory refl
configure_fault_ends_script old (BadLine n) fresh e falls = setting_fault_ends_script old (BadLine n) fresh e falls
configure_fault_ends_script old (LateConfig n) fresh e falls = setting_fault_ends_script old (LateConfig n) fresh e falls
configure_fault_ends_script old BadConfig fresh e falls = setting_fault_ends_script old BadConfig fresh e falls
configure_fault_ends_script old TooLarge fresh e falls = setting_fault_ends_script old TooLarge fresh e falls
configure_fault_ends_script old Read fresh e falls = setting_fault_ends_script old Read fresh e falls
configure_fault_ends_script old Write fresh e falls = setting_fault_ends_script old Write fresh e falls
configure_fault_ends_script old (Expected n) fresh e falls = setting_fault_ends_script old (Expected n) fresh e falls
configure_fault_ends_script old (NonePrinted n) fresh e falls = setting_fault_ends_script old (NonePrinted n) fresh e falls

-- If the reader's text is known, and its settings can't be completed, the script fails with the fault of its configuration lines.
pub configure_fault_fails_script : {g : Option (List ℕ)} (given old : Option (List ℕ)) (f : ScriptFault) {x : Settings} (s : SourceState)
    → (s.left ≡ prepend_known [] given) × (s.room ≡ 16777216) × (s.number ≡ 0) → x ≡ initial_settings g → IsConfigureFault x s f
    → IfSome given (λ text. ScriptFails g text old old f)
configure_fault_fails_script {g = g} given old f s first e falls =
    whole_text_has_property given s (λ text. ScriptFails g text old old f) first (λ text fresh. configure_fault_ends_script old f fresh e
    falls)

-- The lines before the first acting line are the prologue of the script.
abbrev lines_before_start_set_up_device : {g : Option (List ℕ)} {text : List ℕ} {s s' : SourceState} {x y : Settings} {more : Bool}
    → (fresh : IsFresh text s) → x ≡ initial_settings g
    → (c : LinesConfigured x s y more s') → IsPrologue g text y (lines_of (fresh_source_reads_front fresh c.prepared.gives).0)
lines_before_start_set_up_device {y = y} fresh e c =
    let t = fresh_source_reads_front fresh c.prepared.gives in
    record {
      before = c.prepared.done;
      split = t.2.are;
      prepares = subst (λ (z : Settings). SettingsPrepared z c.prepared.done y) e c.prepared.prepares;
      ready = value_has_property c.at.left (λ left. DeviceMustStart y (lines_of left)) t.0 t.1 c.ready;
    }

-- If the configured device does not start, the script fails with the fault of the start.
start_fault_ends_script : {g : Option (List ℕ)} {text : List ℕ} {s s' : SourceState} {x y : Settings} {more : Bool}
    (old : Option (List ℕ)) (f : ScriptFault)
    → IsFresh text s → x ≡ initial_settings g → LinesConfigured x s y more s' → StartFails y f → ScriptFails g text old old f
start_fault_ends_script old NoMemory fresh e c falls = no_memory refl
start_fault_ends_script old BadConfig fresh e c falls =
    let t = fresh_source_reads_front fresh c.prepared.gives in
    start_fails (lines_before_start_set_up_device fresh e c) falls
    (reading_stops_after BadConfig t.2 (value_has_property c.at.left (λ left. ReadingIsStopped c.at.room left BadConfig) t.0 t.1 c.reached))
    refl
start_fault_ends_script old f fresh e c falls = absurd falls

-- If the reader's text is known, and the device that it configures does not start, the script fails with the fault of the start.
pub start_fault_fails_script : {g : Option (List ℕ)} (given old : Option (List ℕ)) (f : ScriptFault) {s s' : SourceState} {x y : Settings}
    {more : Bool}
    → (s.left ≡ prepend_known [] given) × (s.room ≡ 16777216) × (s.number ≡ 0) → x ≡ initial_settings g → LinesConfigured x s y more s'
    → StartFails y f → IfSome given (λ text. ScriptFails g text old old f)
start_fault_fails_script {g = g} given old f {s = s} first e c falls =
    whole_text_has_property given s (λ text. ScriptFails g text old old f) first (λ text fresh. start_fault_ends_script old f fresh e c
    falls)

-- At the end of a text the rest is empty, if it is known.
rest_is_empty_at_end : (a : Option (List ℕ)) → IsAtEnd a → IfSome a (λ left. left ≡ [])
rest_is_empty_at_end None h = tt
rest_is_empty_at_end (Some left) h = h

-- If the source is exhausted, the lines that ran are all lines of the text after its configuration lines.
done_lines_are_all_left : {text : List ℕ} {s s' : SourceState} {x y : Settings} {more : Bool} {old new : Option (List ℕ)} {p : ScriptPoint}
    → (fresh : IsFresh text s) → (c : LinesConfigured x s y more s') → (ends : SourceExhausted p c.at old new)
    → ends.done ≡ lines_of (fresh_source_reads_front fresh c.prepared.gives).0
done_lines_are_all_left fresh c ends =
    let t = fresh_source_reads_front fresh c.prepared.gives in
    let u = source_reads_named_text c.at ends.last ends.done ends.gives t.1 in
    let empty : u.0 ≡ [] = value_has_property ends.last.left (λ left. left ≡ []) u.0 u.1 (rest_is_empty_at_end ends.last.left ends.ended) in
    sym (u.2.are ∙ (ap (λ (zs : List ℕ). ends.done ++ lines_of zs) empty ∙ append-nil ends.done))

-- If the source is exhausted, all lines of the script ran.
exhausted_source_ends_script : {g : Option (List ℕ)} {text : List ℕ} {s s' : SourceState} {x y : Settings} {more : Bool} {old new : Option
    (List ℕ)}
    (d : DeviceView)
    → IsFresh text s → x ≡ initial_settings g → (c : LinesConfigured x s y more s') → DeviceStarts y d
    → SourceExhausted (initial_point y (link_at_rest d)) c.at old new
    → RunIsOut g text old new
exhausted_source_ends_script {text = text} {y = y} d fresh e c starts ends =
    let t = fresh_source_reads_front fresh c.prepared.gives in
    let u = source_reads_named_text c.at ends.last ends.done ends.gives t.1 in
    let number : c.at.number + 1 ≡ 1 + length c.prepared.done = omega (arith, c.prepared.gives.count, fresh.number) in
    let empty : u.0 ≡ [] = value_has_property ends.last.left (λ left. left ≡ []) u.0 u.1 (rest_is_empty_at_end ends.last.left ends.ended) in
    let all = lines_read_join t.2 u.2 in
    let whole : text ≡ all.front = all.split ∙ (ap (λ (zs : List ℕ). all.front ++ zs) empty ∙ append-nil all.front) in
    let lines = done_lines_are_all_left fresh c ends in
    record {
      out = ends.shown ++ image_line ends.end.at.device;
      run = record {
        small = omega (arith, all.rooms, ap length whole);
        settings = y;
        after = lines_of t.0;
        lines_before_start_set_up_device = lines_before_start_set_up_device fresh e c;
        first = d;
        starts = starts;
        shown = ends.shown;
        end = ends.end;
        runs =
            subst (λ (ls : List (List ℕ)). LinesRun (1 + length c.prepared.done) (initial_point y (link_at_rest d)) ls ends.shown ends.end)
            lines
            (subst (λ (k : ℕ). LinesRun k (initial_point y (link_at_rest d)) ends.done ends.shown ends.end) number ends.runs);
        meets = ends.meets;
        out_is = refl;
      };
      told = ends.told;
    }

-- If a line after the start of the device fails, the script fails with the fault of that line.
failed_line_ends_script : {g : Option (List ℕ)} {text : List ℕ} {s s' : SourceState} {x y : Settings} {more : Bool} {old new : Option (List
    ℕ)}
    (d : DeviceView)
    (f : ScriptFault) → IsFresh text s → x ≡ initial_settings g → (c : LinesConfigured x s y more s') → DeviceStarts y d
    → LinesDoneThenFailure (initial_point y (link_at_rest d)) c.at old new f → ScriptFails g text old new f
failed_line_ends_script {y = y} {new = new} d f fresh e c starts falls =
    let m = falls.moves in
    let t = fresh_source_reads_front fresh c.prepared.gives in
    let u = source_reads_named_text c.at falls.at m.done m.gives t.1 in
    let here = value_has_property falls.at.left (λ left. ReadingIsStopped falls.at.room left f
    × NextLineFails falls.to (falls.at.number + 1) (lines_of left)
    falls.mid new f) u.0 u.1 falls.falls in
    let number : c.at.number + 1 ≡ 1 + length c.prepared.done = omega (arith, c.prepared.gives.count, fresh.number) in
    let runs : LinesFail (initial_point y (link_at_rest d)) (1 + length c.prepared.done) (lines_of t.0) _ new f = record {
      done = m.done;
      rest = lines_of u.0;
      split = u.2.are;
      shown = m.shown;
      end = falls.to;
      runs = subst (λ (k : ℕ). LinesRun k (initial_point y (link_at_rest d)) m.done m.shown falls.to) number m.runs;
      mid = falls.mid;
      told = m.told;
      falls = subst (λ (n : ℕ). NextLineFails falls.to n (lines_of u.0) falls.mid new f)
          (omega (arith, m.gives.count, c.prepared.gives.count, fresh.number)) here.1;
    } in
    run_fails (lines_before_start_set_up_device fresh e c) starts runs (reading_stops_after f (lines_read_join t.2 u.2) here.0)

-- Once the device has started, the script succeeds if all lines after the start run, and fails if one of them fails.
pub script_ends_after_start : (r : Result Unit ScriptFault) {g : Option (List ℕ)} (given old new : Option (List ℕ)) (d : DeviceView) {s s'
    : SourceState}
    {x y : Settings} {more : Bool} → (s.left ≡ prepend_known [] given) × (s.room ≡ 16777216) × (s.number ≡ 0) → x ≡ initial_settings g
    → LinesConfigured x s y more s' → DeviceStarts y d
    → OnOk r ((t : SourceState) → NextLineOrEnd t more s' → SourceExhausted (initial_point y (link_at_rest d)) t old new)
    → IfErr r (λ f. (t : SourceState) → NextLineOrEnd t more s' → LinesDoneThenFailure (initial_point y (link_at_rest d)) t old new f)
    → IfSome given (λ text. ScriptEnding g text old new r)
script_ends_after_start (Ok it) {g = g} given old new d {s = s} first e c starts ends falls =
    whole_text_has_property given s (λ text. RunIsOut g text old new) first (λ text fresh. exhausted_source_ends_script d fresh e c starts
    (ends c.at c.next))
script_ends_after_start (Err f) {g = g} given old new d {s = s} first e c starts ends falls =
    whole_text_has_property given s (λ text. ScriptFails g text old new f) first (λ text fresh. failed_line_ends_script d f fresh e c
    starts (falls c.at c.next))
