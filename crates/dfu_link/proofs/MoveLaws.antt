-- Lemmas about runs of lines, lines that change the settings, and benches with no session.
use Rattle.std.proofs.Common.{◌≡◌, ℕ, ◌+◌, List, [], ◌∷◌, ◌++◌, Option, Some, Ok, sym, ap, ◌∙◌, subst, append_assoc, arith, length, length-append}
use Rattle.std.proofs.lemmas.List.{append-nil}
use Rattle.std.specs.Io.KnownBytes.{Appends, IsAtEnd}
use Rattle.std.proofs.KnownBytes.{Appends-nil, Appends-trans}
use Rattle.dfu_device.specs.DeviceView.{DeviceView}
use Rattle.dfu_slots.specs.Medium.{Fuse}
use Rattle.dfu_slots.specs.Medium.Fuse.{Whole}
use Rattle.dfu_sim.specs.LinkView.{WorldView}
use Rattle.dfu_sim.specs.Bytes.{armed_device}
use Rattle.dfu_link.specs.Texts.{image_line}
use Rattle.dfu_link.specs.LineContent.{LineContent}
use Rattle.dfu_link.specs.Lines.{line_of}
use Rattle.dfu_link.specs.ScriptRun.{Settings, nothing, line_prepares_next, settings_after_line, link_at_rest, ScriptPoint, LineActs, LinesRun, stays, line_runs_next}
use Rattle.dfu_link.specs.Expecting.{Expectation}
use Rattle.dfu_link.specs.inside.Expected.{PrintEnds}
use Rattle.dfu_link.specs.inside.Source.{SourceState, SourceLine}
use Rattle.dfu_link.specs.inside.Moving.{LineDone, LinesDone, SourceExhausted, IsUnarmed, LinesPrepared}
use Rattle.dfu_link.proofs.GivenLaws.{source_gives_no_line, source_lines_join}

-- If a source has read no line, no line ran and nothing changed.
pub no_line_is_done : (p : ScriptPoint) (s : SourceState) (old : Option (List ℕ)) → LinesDone p s old p s old
no_line_is_done p s old = record {
  done = [];
  shown = [];
  gives = source_gives_no_line s;
  runs = stays;
  told = Appends-nil old;
}

-- If lines ran, and the next line of the source ran after them, all of these lines ran.
pub next_line_joins : {p q r : ScriptPoint} {s t u : SourceState} {old mid new : Option (List ℕ)} {n : ℕ} {line : List ℕ}
    → LinesDone p s old q t mid
    → SourceLine t u → n ≡ u.number → line ≡ u.line → LineDone n q line mid r new → LinesDone p s old r u new
next_line_joins {q = q} {r = r} {s = s} {t = t} {u = u} {old = old} {mid = mid} {new = new} {n = n} m given at is did =
    let number : n ≡ s.number + 1 + length m.done = omega (arith, at, given.gives.count, m.gives.count) in
    let step = subst (λ (xs : List ℕ). LineDone n q xs mid r new) is did in
    record {
      done = m.done ++ u.line ∷ [];
      shown = m.shown ++ step.out;
      gives = source_lines_join m.gives given.gives;
      runs = line_runs_next u.line m.runs step.is (subst (λ (k : ℕ). LineActs k q step.said step.out r) number step.acts);
      told = Appends-trans old mid new m.shown step.out m.told step.told;
    }

-- A run of lines followed by a run of more lines is one run of all of them.
pub runs_of_lines_join : (k j : ℕ) (p q r : ScriptPoint) (xs ys : List (List ℕ)) (a b : List ℕ) → j ≡ k + length xs → LinesRun k p xs a q
    → LinesRun j q ys b r → LinesRun k p (xs ++ ys) (a ++ b) r
runs_of_lines_join k j p q r xs ys a b at run stays = subst (λ (ls : List (List ℕ)). LinesRun k p ls (a ++ []) q) (sym (append-nil xs))
    (subst (λ (c : List ℕ). LinesRun k p xs c q) (sym (append-nil a)) run)
runs_of_lines_join k j p q r xs ys a b at run (line_runs_next {q = mid} {lines = ls} line {said = said} {out = o} {more = more} rest is
    acts) =
    let number : j + length ls ≡ k + length (xs ++ ls) = omega (arith, at, length-append xs ls) in
    let both = line_runs_next line (runs_of_lines_join k j p q _ xs ls a o at run rest) is
    (subst (λ (n : ℕ). LineActs n mid said more r) number acts) in
    subst (λ (zs : List (List ℕ)). LinesRun k p zs (a ++ (o ++ more)) r) (append_assoc xs ls (line ∷ []))
    (subst (λ (c : List ℕ). LinesRun k p (xs ++ ls ++ line ∷ []) c r) (append_assoc a o more) both)

-- If some lines of a source ran, and some more lines ran after them, all of these lines ran.
pub lines_done_join : {p q r : ScriptPoint} {s t u : SourceState} {old mid new : Option (List ℕ)} → LinesDone p s old q t mid
    → LinesDone q t mid r u new
    → LinesDone p s old r u new
lines_done_join {p = p} {q = q} {r = r} {s = s} {t = t} {old = old} {mid = mid} {new = new} m n = record {
  done = m.done ++ n.done;
  shown = m.shown ++ n.shown;
  gives = source_lines_join m.gives n.gives;
  runs = runs_of_lines_join (s.number + 1) (t.number + 1) p q r m.done n.done m.shown n.shown (omega (arith, m.gives.count)) m.runs n.runs;
  told = Appends-trans old mid new m.shown n.shown m.told n.told;
}

-- If all lines ran, and the image line was written, the source is exhausted.
pub image_after_lines_exhausts : {p q : ScriptPoint} {s t : SourceState} {old mid new : Option (List ℕ)} {x : Option Expectation} {done :
    Unit {0}}
    → LinesDone p s old q t mid → IsAtEnd t.left → PrintEnds q.next mid (image_line q.at.device) x new (Ok done)
    → SourceExhausted p s old new
image_after_lines_exhausts {p = p} {q = q} {s = s} {t = t} {old = old} {mid = mid} {new = new} m ended prints = record {
  done = m.done;
  last = t;
  gives = m.gives;
  ended = ended;
  shown = m.shown;
  end = q;
  runs = m.runs;
  meets = prints.ok.meets;
  told = Appends-trans old mid new m.shown (image_line q.at.device) m.told prints.ok.told;
}

-- If lines ran, and all lines after them ran too and the image line was written, the source is exhausted.
pub lines_then_end_exhaust : {p q : ScriptPoint} {s t : SourceState} {old mid new : Option (List ℕ)} → LinesDone p s old q t mid
    → SourceExhausted q t mid new
    → SourceExhausted p s old new
lines_then_end_exhaust {p = p} {q = q} {s = s} {t = t} {old = old} {mid = mid} {new = new} m e =
    let image = image_line e.end.at.device in
    record {
      done = m.done ++ e.done;
      last = e.last;
      gives = source_lines_join m.gives e.gives;
      ended = e.ended;
      shown = m.shown ++ e.shown;
      end = e.end;
      runs =
          runs_of_lines_join (s.number + 1) (t.number + 1) p q e.end m.done e.done m.shown e.shown
          (omega (arith, m.gives.count)) m.runs e.runs;
      meets = e.meets;
      told = subst (λ (xs : List ℕ). Appends old new xs) (sym (append_assoc m.shown e.shown image))
          (Appends-trans old mid new m.shown (e.shown ++ image) m.told e.told);
    }

-- Lemmas about lines that change the settings.

-- Without lines the settings are unchanged.
pub no_lines_keep_settings : (x : Settings) (s : SourceState) → LinesPrepared x s x s
no_lines_keep_settings x s = record { done = []; gives = source_gives_no_line s; prepares = nothing }

-- If lines changed the settings, and the next line changes them again, all of these lines lead to the new settings.
pub next_line_prepares : {x y z : Settings} {s t u : SourceState} {line : List ℕ} (w : LineContent) → LinesPrepared x s y t → SourceLine t u
    → line ≡ u.line
    → line_of y.given line ≡ Some w → settings_after_line y w ≡ Some z → LinesPrepared x s z u
next_line_prepares {y = y} {u = u} w p given same is does = record {
  done = p.done ++ u.line ∷ [];
  gives = source_lines_join p.gives given.gives;
  prepares = line_prepares_next u.line p.prepares (ap (line_of y.given) (sym same) ∙ is) does;
}

-- Lemmas about benches with no session.

-- A link made over an unarmed device begins with that device unchanged.
pub unarmed_world_is_at_rest : {x : WorldView} (d : DeviceView) → x ≡ record { bench = link_at_rest (armed_device d Whole); up = [] } →
    IsUnarmed d
    → x.bench ≡ link_at_rest d
unarmed_world_is_at_rest d link unarmed = ap (λ (y : WorldView). y.bench) link
    ∙ ap (λ (f : Fuse). link_at_rest (armed_device d f)) (sym unarmed)
