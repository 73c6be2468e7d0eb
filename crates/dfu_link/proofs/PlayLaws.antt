-- Events that are played, with their printed texts.
use Rattle.std.proofs.Common.{◌≡◌, ℕ, zero, suc, ◌+◌, List, [], ◌∷◌, ◌++◌, Option, None, refl, sym, ap, ◌∙◌, subst, add-one, arith, ◌<◌}
use Rattle.std.proofs.lemmas.List.{append_assoc, append-nil}
use Rattle.std.specs.Prelude.{replicate, Result, Ok, Err}
use Rattle.dfu_host.specs.declared.limits.Limits.{Limits}
use Rattle.dfu_host.specs.declared.report.Report.{Report}
use Rattle.dfu_sim.specs.LinkView.{LinkView, BenchMatchesFlash, WorldView}
use Rattle.dfu_sim.specs.declared.offering.Purpose.{Purpose}
use Rattle.dfu_sim.specs.Happening.{Happening, Offers}
use Rattle.dfu_sim.specs.LinkView.{IsLive}
use Rattle.dfu_sim.specs.Play.{Answered}
use Rattle.dfu_sim.specs.EventResults.{EventResult, refuses, WorldEventResult}
use Rattle.dfu_sim.specs.declared.fault.LinkFault.{LinkFault}
use Rattle.dfu_sim.specs.declared.fault.LinkFault.TheVariants.{HostBusy}
use Rattle.dfu_link.specs.declared.scripting.fault.ScriptFault.{ScriptFault}
use Rattle.dfu_link.specs.Texts.{outcome_line, answer_line}
use Rattle.dfu_link.specs.ScriptRun.{checked_event, EventsPlayed, no_event_played, event_played_next}
use Rattle.dfu_link.specs.Expecting.{Expectation}
use Rattle.dfu_link.specs.Falls.{StoppedAmongEvents}
use Rattle.dfu_link.specs.inside.Expected.{PrintEnds}
use Rattle.dfu_link.specs.inside.Moving.{PlayIsDone, PlayEnds}
use Rattle.dfu_link.proofs.WriteLaws.{second_text_breaks_both}
use Rattle.dfu_link.proofs.ExpectLaws.{empty_text_is_printed, printed_texts_join, text_then_fault_fails}
use Rattle.dfu_link.proofs.ToldLines.{outcome_line_is_answer_line}

-- A list of `suc n` copies is a list of n copies with one more at the end.
successor_copies_end_in_copy : {A : Type 0} (n : ℕ) (x : A) → replicate (suc n) x ≡ replicate n x ++ x ∷ []
successor_copies_end_in_copy zero x = refl
successor_copies_end_in_copy (suc n) x = ap (λ (xs : List _). x ∷ xs) (successor_copies_end_in_copy n x)

-- A list of n + 1 copies is a list of n copies with one more at the end.
pub one_more_copy_is_at_end : {A : Type 0} (n : ℕ) (x : A) → replicate (n + 1) x ≡ replicate n x ++ x ∷ []
one_more_copy_is_at_end n x = ap (λ (k : ℕ). replicate k x) (add-one n) ∙ successor_copies_end_in_copy n x

-- If events were played, and one more event was played after them, all of these events were played.
pub next_event_is_played : (z : List ℕ) (b : LinkView) (c c' : WorldView) (events : List Happening) (e : Happening) (out : List ℕ)
    (r : Result (Option Report) LinkFault) → EventsPlayed z b events out c.bench → WorldEventResult c (checked_event z c.bench e) c' r
    → BenchMatchesFlash c'.bench
    → EventsPlayed z b (events ++ e ∷ []) (out ++ outcome_line r c'.up) c'.bench
next_event_is_played z b c c' events e out r p h active =
    subst (λ (text : List ℕ). EventsPlayed z b (events ++ e ∷ []) (out ++ text) c'.bench) (sym (outcome_line_is_answer_line c c' r h))
    (event_played_next e p h.comes active)

-- Playing no events changes nothing, and prints nothing.
pub no_event_is_played : (z : List ℕ) (b : LinkView) (x : Option Expectation) (h : Option (List ℕ)) → PlayIsDone z b x [] h b x h
no_event_is_played z b x h = record {
  out = [];
  plays = no_event_played;
  prints = empty_text_is_printed x h;
}

-- If events were played, the result of playing them and the next event is the result of printing that event's text.
next_event_ends_play : (done : Result Unit ScriptFault) (e : Happening) {check : List ℕ} {b c c' : LinkView} {events : List Happening}
    {answer : Result Answered LinkFault} {x y z : Option Expectation} {old mid new : Option (List ℕ)}
    → PlayIsDone check b x events old c y mid → EventResult c (checked_event check c e) c' answer
    → BenchMatchesFlash c' → PrintEnds y mid (answer_line answer) z new done → PlayEnds check b x (events ++ e ∷ []) old c' z new done
next_event_ends_play (Ok it) e {answer = answer} before come active prints = record {
  ok = record {
    out = before.out ++ answer_line answer;
    plays = event_played_next e before.plays come active;
    prints = printed_texts_join before.prints prints.ok;
  };
  fault = tt;
}
next_event_ends_play (Err f) e {c' = c'} {events = events} {answer = answer} {old = old} {mid = mid} {new = new} before come active
    prints = record {
      ok = tt;
      fault = record {
        events_played_before = events ++ e ∷ [];
        left = [];
        split = sym (append-nil (events ++ e ∷ []));
        after = c';
        out = before.out ++ answer_line answer;
        plays = event_played_next e before.plays come active;
        broken_text_in_part = second_text_breaks_both old mid new before.out (answer_line answer) before.prints.told prints.err;
        fails = text_then_fault_fails (answer_line answer) new f before.prints prints.fault;
      };
    }

-- If events were played, and the text of the next event's result is printed, the result of playing all of them is the result of that
-- printing.
pub next_print_ends_play : (e : Happening) {check : List ℕ} {b : LinkView} {c c' : WorldView} {events : List Happening}
    (r : Result (Option Report) LinkFault) {x y z : Option Expectation} {old mid new : Option (List ℕ)} {done : Result Unit ScriptFault}
    → PlayIsDone check b x events old c.bench y mid → WorldEventResult c (checked_event check c.bench e) c' r → BenchMatchesFlash c'.bench
    → PrintEnds y mid (outcome_line r c'.up) z new done
    → PlayEnds check b x (events ++ e ∷ []) old c'.bench z new done
next_print_ends_play e {c = c} {c' = c'} r {y = y} {z = z} {mid = mid} {new = new} {done = done} before come active prints =
    next_event_ends_play done e before come.comes active
    (subst (λ (text : List ℕ). PrintEnds y mid text z new done) (outcome_line_is_answer_line c c' r come) prints)

-- If events were played, and the next one prints nothing, all of these events were played, and nothing more is written.
pub silent_event_is_played : (e : Happening) {check : List ℕ} {b : LinkView} {c c' : WorldView} {events : List Happening}
    (r : Result (Option Report) LinkFault) {x y : Option Expectation} {old new : Option (List ℕ)}
    → PlayIsDone check b x events old c.bench y new → WorldEventResult c (checked_event check c.bench e) c' r → BenchMatchesFlash c'.bench
    → r ≡ Ok None
    → PlayIsDone check b x (events ++ e ∷ []) old c'.bench y new
silent_event_is_played e {c' = c'} r {y = y} {new = new} before come active none =
    let prints : PrintEnds y new (outcome_line r c'.up) y new (Ok tt) =
    subst (λ (x : Result (Option Report) LinkFault). PrintEnds y new (outcome_line x c'.up) y new (Ok tt)) (sym none)
    (record { ok = empty_text_is_printed y new; err = tt; fault = tt }) in
    (next_print_ends_play e r before come active prints).ok

-- An offer while a session is live is refused with HostBusy.
offer_in_session_is_refused : (b : LinkView) (purpose : Purpose) (file : List ℕ) (limits : Limits) → IsLive b.session
    → EventResult b (Offers purpose file limits) b (Err HostBusy)
offer_in_session_is_refused b purpose file limits live = refuses live

-- An offer of any file while a session is live prints the line of its refusal.
pub offer_in_session_is_printed : (check : List ℕ) {b : LinkView} (purpose : Purpose) (file : List ℕ) (limits : Limits) {e e' : Option
    Expectation}
    {old new : Option (List ℕ)}
    {done : Result Unit ScriptFault} → IsLive b.session → BenchMatchesFlash b → PrintEnds e old (answer_line (Err HostBusy)) e' new done
    → PlayEnds check b e (Offers purpose file limits ∷ []) old b e' new done
offer_in_session_is_printed check {b = b} purpose file limits {e = e} {old = old} {done = done} live active prints =
    next_event_ends_play done (Offers purpose file limits) (no_event_is_played check b e old) (offer_in_session_is_refused b purpose
    file limits live) active prints

-- If k is less than n, a list of n equal events begins with k of them, followed by one more.
replicate_splits_at_turn : {A : Type 0} (k n : ℕ) (x : A) → k < n → (left : List A) × (replicate n x ≡ (replicate k x ++ x ∷ []) ++ left)
replicate_splits_at_turn k zero x h = absurd (omega (arith, h))
replicate_splits_at_turn zero (suc n) x h = (replicate n x, refl)
replicate_splits_at_turn (suc k) (suc n) x h =
    let rest = replicate_splits_at_turn k n x (omega (arith, h)) in
    (rest.0, ap (λ (xs : List _). x ∷ xs) rest.1)

-- If a script stops in the event after k of n equal events, it stops among the n events.
pub stop_at_turn_stops_all : (k n : ℕ) (e : Happening) {check : List ℕ} {b : LinkView} {x : Option Expectation} {old new : Option (List ℕ)}
    {f : ScriptFault} → k < n
    → StoppedAmongEvents check b x (replicate k e ++ e ∷ []) old new f → StoppedAmongEvents check b x (replicate n e) old new f
stop_at_turn_stops_all k n e lt stopped =
    let rest = replicate_splits_at_turn k n e lt in
    record {
      events_played_before = stopped.events_played_before;
      left = stopped.left ++ rest.0;
      split = rest.1 ∙ (ap (λ (es : List Happening). es ++ rest.0) stopped.split
          ∙ append_assoc stopped.events_played_before stopped.left rest.0);
      after = stopped.after;
      out = stopped.out;
      plays = stopped.plays;
      broken_text_in_part = stopped.broken_text_in_part;
      fails = stopped.fails;
    }

-- A program's check does not change an offer.
pub check_keeps_offer : (check : List ℕ) (b : LinkView) {event : Happening} {purpose : Purpose} {file : List ℕ} {limits : Limits}
    → event ≡ Offers purpose file limits → checked_event check b event ≡ event
check_keeps_offer check b is = ap (λ (e : Happening). checked_event check b e) is ∙ sym is
