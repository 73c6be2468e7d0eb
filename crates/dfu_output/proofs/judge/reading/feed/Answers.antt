use Rattle.std.proofs.Common.{◌≡◌, ◌-◌, ◌++◌, ◌∙◌, List, ℕ, ap, append_assoc, arith, drop, length, length-drop, subst, sym, take}
use Rattle.std.proofs.lemmas.List.{take-append-drop, take_all}
use Rattle.std.proofs.Math.Seq.{take-add}
use Rattle.dfu_output.specs.judge.Judging.{LogStops}
use Rattle.dfu_output.specs.judge.inside.JudgeState.{JudgedSoFar}
use Rattle.dfu_output.proofs.judge.reading.feed.Goals as goal

pub loop-at-preserved : goal.loop-at-preserved
loop-at-preserved g c =
    let k = c.loop-at.at in
    let n = c.in-Ok.count in
    let piece = c.args.piece.now in
    let all : take (length piece - k) (drop k piece) ≡ drop k piece = take_all _ _ (omega (arith, length-drop k piece)) in
    record {
      within = omega (arith, c.loop-at.invariant.within, c.in-Ok.ensures.within.1, ap length all, length-drop k piece);
      going = λ old text at.
          subst (λ (xs : List ℕ). JudgedSoFar c.args.interface old (g.W.Write.contents c.advance.new.writer) xs c.advance.new.judging)
          (ap (λ (xs : List ℕ). (text ++ take k piece) ++ take n xs) all ∙ append_assoc text (take k piece) (take n (drop k piece))
          ∙ ap (λ (xs : List ℕ). text ++ xs) (sym (take-add k n piece)))
          (c.in-Ok.ensures.ok old (text ++ take k piece) (c.loop-at.invariant.going old text at));
      room = omega (arith, c.loop-at.invariant.room, c.in-Ok.ensures.room);
    }

pub returns-in-Err-clause-err : goal.returns-in-Err-clause-err
returns-in-Err-clause-err g c old text at tail =
    let k = c.loop-at.at in
    let piece = c.args.piece.now in
    let all : take (length piece - k) (drop k piece) ≡ drop k piece = take_all _ _ (omega (arith, length-drop k piece)) in
    subst (λ (xs : List ℕ). LogStops c.args.interface old (g.W.Write.contents c.advance.new.writer) (xs ++ tail) c.in-Err.fault)
    (ap (λ (xs : List ℕ). (text ++ take k piece) ++ xs) all ∙ append_assoc text (take k piece) (drop k piece)
    ∙ ap (λ (xs : List ℕ). text ++ xs) (take-append-drop k piece))
    (c.in-Err.ensures.err old (text ++ take k piece) (c.loop-at.invariant.going old text at) tail)
