use Rattle.std.proofs.Common.{◌≡◌, ◌<◌, ◌^◌, drop}
use Rattle.dfu_link.specs.Words.{digits_value}
use Rattle.dfu_link.proofs.scripting.words.number.Given as goal

abbrev pub invariant-loop-digit : goal.invariant-loop-digit
invariant-loop-digit l = record {
  value : digits_value l.n (drop l.digit-index l.word) ≡ digits_value 0 l.word;
  small : l.n < 10 ^ l.digit-index;
}
