use Rattle.std.proofs.Common.{◌≡◌, drop}
use Rattle.dfu_formats.specs.images.Text.{nothing_awaited, is_text_from}
use Rattle.dfu_formats.proofs.images.text.are_characters.Given as goal

abbrev pub invariant-loop-byte : goal.invariant-loop-byte
invariant-loop-byte l = is_text_from l.awaited (drop l.byte-index l.bytes) ≡ is_text_from nothing_awaited l.bytes
