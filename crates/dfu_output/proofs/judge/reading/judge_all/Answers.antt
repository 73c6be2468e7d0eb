use Rattle.std.proofs.Common.{◌≡◌, ◌++◌, ◌∷◌, [], List, ℕ, arith, take}
use Rattle.std.specs.Prelude.{IfErr}
use Rattle.std.proofs.KnownBytes.{Consumes-trans}
use Rattle.dfu_output.specs.judge.Judging.{LogStops}
use Rattle.dfu_output.proofs.LogPieces.{fact_holds_at_tail, log_stops_in_given_text, reader_fault_stops_log, fact_of_read_text_is_of_given}
use Rattle.dfu_output.proofs.judge.reading.judge_all.Goals as goal

pub returns-then-count-eq0-clause-err : goal.returns-then-count-eq0-clause-err
returns-then-count-eq0-clause-err g c old at =
    let inv = c.pieces.invariant in
    let none : c.in-Ok.count ≡ 0 = c.if-count-eq0.true in
    fact_of_read_text_is_of_given _ _ _ inv.0 _ _ (λ (text : List ℕ). IfErr c.step.result
    (λ f. LogStops c.args.interface old (g.W.Write.contents c.step.new.writer)
    (text ++ 10 ∷ []) f)) inv.1 c.in-Ok.ensures.bytes.0 none (c.in-Ok.ensures.bytes.1 none (omega arith))
    (fact_holds_at_tail c.step.result (λ f xs. LogStops c.args.interface old (g.W.Write.contents c.step.new.writer) (inv.0 ++ 10 ∷ xs) f) []
    (c.step.ensures.err old inv.0 (inv.2 old at)))

pub pieces-preserved : goal.pieces-preserved
pieces-preserved g c =
    let inv = c.pieces.invariant in (
      inv.0 ++ take c.in-Ok.count c.read.new.buf,
      Consumes-trans _ _ _ inv.0 _ inv.1 c.in-Ok.ensures.bytes.0,
      λ old at. c.in-Ok-feed.ensures.ok old inv.0 (inv.2 old at),
    )

pub returns-in-Err-feed-clause-err : goal.returns-in-Err-feed-clause-err
returns-in-Err-feed-clause-err g c old at =
    let inv = c.pieces.invariant in
    log_stops_in_given_text _ _ _ _ _ (inv.0 ++ take c.in-Ok.count c.read.new.buf) c.in-Err-feed.fault
    (Consumes-trans _ _ _ inv.0 _ inv.1 c.in-Ok.ensures.bytes.0) (c.in-Err-feed.ensures.err old inv.0 (inv.2 old at))

pub returns-in-Err-clause-err : goal.returns-in-Err-clause-err
returns-in-Err-clause-err g c old at =
    let inv = c.pieces.invariant in
    log_stops_in_given_text _ _ _ _ _ inv.0 _ inv.1 (λ tail. reader_fault_stops_log _ _ _ inv.0 tail _ (inv.2 old at))
