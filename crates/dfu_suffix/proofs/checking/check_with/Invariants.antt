use Rattle.dfu_suffix.proofs.StreamLaws.{IsCheckState}
use Rattle.dfu_suffix.proofs.checking.check_with.Given as goal

-- The register, the count and the window are those of the bytes read so far.
abbrev pub invariant-loop-turn : goal.invariant-loop-turn
invariant-loop-turn g l = IsCheckState (g.R.Read.remaining l.fn.reader) (g.R.Read.remaining l.reader) l.turn l.crc l.count l.window
