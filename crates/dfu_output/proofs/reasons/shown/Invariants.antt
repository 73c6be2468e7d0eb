use Rattle.std.proofs.Common.{◌≡◌, ◌++◌, string_bytes}
use denote.Text.{Utf8}
use denote.Shadow.{shadow}
use Rattle.dfu_output.specs.ShownText.{visible_prefix}
use Rattle.dfu_output.proofs.reasons.shown.Given as goal

-- The line, followed by the characters of `rest` that may still be shown, is the whole shown text.
abbrev pub invariant-letters : goal.invariant-letters
invariant-letters l =
    shadow (Utf8 l.rest) × (string_bytes l.line ++ visible_prefix l.room l.rest ≡ visible_prefix 4096 l.text)

-- Each character reduces the number of characters that may still be shown.
abbrev pub decreases-letters : goal.decreases-letters
decreases-letters l = l.room
