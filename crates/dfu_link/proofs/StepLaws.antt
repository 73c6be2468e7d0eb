-- Lemmas about lines that run, by their meaning.
use Rattle.std.proofs.Common.{◌≡◌, ℕ, List, [], Option, Some, None, sym, subst}
use Rattle.std.specs.Prelude.{Result, Ok, Err}
use Rattle.std.proofs.KnownBytes.{Appends-nil}
use Rattle.dfu_host.specs.declared.limits.Limits.{Limits}
use Rattle.dfu_sim.specs.LinkView.{LinkView}
use Rattle.dfu_sim.specs.Happening.{Happening}
use Rattle.dfu_link.specs.declared.scripting.fault.ScriptFault.{ScriptFault}
use Rattle.dfu_link.specs.Texts.{show_line}
use Rattle.dfu_link.specs.LineContent.{LineContent, Blank, SetsLimits, Does, Show, ExpectsText, EventLine}
use Rattle.dfu_link.specs.Lines.{line_of}
use Rattle.dfu_link.specs.ScriptRun.{ScriptPoint, events_of_line, LineActs, skips, acts_by_limits, plays, shows, expects}
use Rattle.dfu_link.specs.Expecting.{Expectation}
use Rattle.dfu_link.specs.Falls.{in_events}
use Rattle.dfu_link.specs.inside.Expected.{point_of_parts, TextPrinted}
use Rattle.dfu_link.specs.inside.Moving.{PlayEnds, LineCarriedOut, LineOutcome, LineDone}
use Rattle.dfu_link.proofs.FallLaws.{stopped_line_fails}

-- A blank line changes nothing.
pub blank_line_is_done : {k : ℕ} {p : ScriptPoint} {line : List ℕ} {old : Option (List ℕ)} → line_of p.given line ≡ Some Blank
    → LineDone k p line old p old
blank_line_is_done {old = old} e = record {
  said = Blank;
  is = e;
  out = [];
  acts = skips;
  told = Appends-nil old;
}

-- A `limits` line sets the limits of later sessions.
pub limits_line_is_done : {k : ℕ} {p : ScriptPoint} {line : List ℕ} {old : Option (List ℕ)} {a r : ℕ} → line_of p.given line
    ≡ Some (SetsLimits a r)
    → LineDone k p line old (record p { limits = record { actions = a; restarts = r } }) old
limits_line_is_done {old = old} {a = a} {r = r} e = record {
  said = SetsLimits a r;
  is = e;
  out = [];
  acts = acts_by_limits;
  told = Appends-nil old;
}

-- If the meaning of a line was carried out, the line ran.
pub acting_line_is_done : {k : ℕ} {p p' : ScriptPoint} {line : List ℕ} {old new : Option (List ℕ)} {said : LineContent}
    → line_of p.given line ≡ Some said
    → LineCarriedOut p said old p' new → LineDone k p line old p' new
acting_line_is_done {k = k} {said = said} e a = record { said = said; is = e; out = a.out; acts = a.acts k; told = a.told }

-- The result of playing the events of an event line is the result of its meaning.
events_carry_out_line : (r : Result Unit ScriptFault) {g : Option (List ℕ)} {check : List ℕ} {l : Limits} {x x' : Option Expectation} {b b'
    : LinkView}
    {old new : Option (List ℕ)} (d : EventLine) → PlayEnds check b x (events_of_line l d) old b' x' new r
    → LineOutcome (point_of_parts g check l x b) (Does d) old (point_of_parts g check l x' b') new r
events_carry_out_line (Ok done) {g = g} {check = check} {l = l} {x = x} {b = b} {b' = b'} d p = record {
  ok = record {
    out = p.ok.out;
    acts = λ k. subst (λ (y : Option Expectation). LineActs k (point_of_parts g check l x b) (Does d) p.ok.out (point_of_parts g check l y
        b'))
        (sym p.ok.prints.left) (plays p.ok.plays p.ok.prints.meets);
    told = p.ok.prints.told;
  };
  fault = tt;
}
events_carry_out_line (Err f) {g = g} {check = check} {l = l} {x = x} {b = b} d p =
    record { ok = tt; fault = λ k line e. stopped_line_fails (point_of_parts g check l x b) k line f (in_events e p.fault) }

-- If the line's meaning is that of an event line, the result of playing its events is the result of its meaning.
pub event_line_is_done : {r : Result Unit ScriptFault} {g : Option (List ℕ)} {check : List ℕ} {l : Limits} {x x' : Option Expectation}
    {b b' : LinkView}
    {old new : Option (List ℕ)} {said : LineContent} {events : List Happening} (d : EventLine) → said ≡ Does d → events ≡ events_of_line l d
    → PlayEnds check b x events old b' x' new r → LineOutcome (point_of_parts g check l x b) said old (point_of_parts g check l x' b')
    new r
event_line_is_done {r = r} {g = g} {check = check} {l = l} {x = x} {x' = x'} {b = b} {b' = b'} {old = old} {new = new} d is same
    events_played_before =
    subst (λ (y : LineContent). LineOutcome (point_of_parts g check l x b) y old (point_of_parts g check l x' b') new r) (sym is)
    (events_carry_out_line r d (subst (λ (es : List Happening). PlayEnds check b x es old b' x' new r) same events_played_before))

-- If the line of `show` was printed as expected, the `show` line ran.
pub show_line_is_done : {k : ℕ} {g : Option (List ℕ)} {check : List ℕ} {l : Limits} {x x' : Option Expectation} {b : LinkView} {line : List
    ℕ}
    {old new : Option (List ℕ)} → line_of g line ≡ Some Show → TextPrinted x old (show_line b.device) x' new
    → LineDone k (point_of_parts g check l x b) line old (point_of_parts g check l x' b) new
show_line_is_done {k = k} {g = g} {check = check} {l = l} {x = x} {b = b} e prints = record {
  said = Show;
  is = e;
  out = show_line b.device;
  acts = subst (λ (y : Option Expectation). LineActs k (point_of_parts g check l x b) Show (show_line b.device) (point_of_parts g check l y
      b)) (sym prints.left)
      (shows prints.meets);
  told = prints.told;
}

-- If no line is expected, an `expect` line runs, and the next printed line must be its text.
pub expect_line_is_done : {k : ℕ} {g : Option (List ℕ)} {check : List ℕ} {l : Limits} {x x' : Option Expectation} {b : LinkView}
    {line text : List ℕ}
    {old : Option (List ℕ)} → line_of g line ≡ Some (ExpectsText text) → x ≡ None → x' ≡ Some (record { number = k; text = text })
    → LineDone k (point_of_parts g check l x b) line old (point_of_parts g check l x' b) old
expect_line_is_done {k = k} {g = g} {check = check} {l = l} {x = x} {b = b} {text = text} {old = old} e free is = record {
  said = ExpectsText text;
  is = e;
  out = [];
  acts = subst (λ (y : Option Expectation). LineActs k (point_of_parts g check l x b) (ExpectsText text) [] (point_of_parts g check l y b))
      (sym is) (expects free);
  told = Appends-nil old;
}
