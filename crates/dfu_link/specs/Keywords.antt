-- First words of lines, and the words of fates.
use Rattle.std.specs.Prelude.{ℕ, List, Option, Some, None, codes, if◌then◌else◌}
use Rattle.std.specs.Str.{bytes_eq}
use Rattle.dfu_link.specs.declared.scripting.words.Keyword.{Keyword}
use Rattle.dfu_link.specs.declared.scripting.words.Keyword.TheVariants as key
use Rattle.dfu_link.specs.declared.scripting.words.FateKeyword.{FateKeyword}
use Rattle.dfu_link.specs.declared.scripting.words.FateKeyword.TheVariants as fate

-- Keyword of a line's first word, if it is one of `limits` to `refuse`; None for any other word.
unfoldable pub later_keyword_of : List ℕ → Option Keyword
later_keyword_of w =
    if bytes_eq w (codes "limits") then Some key.Limits
    else if bytes_eq w (codes "offer") then Some key.Offer
    else if bytes_eq w (codes "verify") then Some key.Verify
    else if bytes_eq w (codes "upload") then Some key.Upload
    else if bytes_eq w (codes "abort") then Some key.Abort
    else if bytes_eq w (codes "go") then Some key.Go
    else if bytes_eq w (codes "time") then Some key.Time
    else if bytes_eq w (codes "reset") then Some key.Reset
    else if bytes_eq w (codes "cut") then Some key.Cut
    else if bytes_eq w (codes "show") then Some key.Show
    else if bytes_eq w (codes "expect") then Some key.Expect
    else if bytes_eq w (codes "check") then Some key.Check
    else if bytes_eq w (codes "refuse") then Some key.Refuse
    else None

-- Keyword of a line's first word; None if it is not a keyword.
unfoldable pub keyword_of : List ℕ → Option Keyword
keyword_of w =
    if bytes_eq w (codes "ids") then Some key.Ids
    else if bytes_eq w (codes "device") then Some key.Device
    else if bytes_eq w (codes "unit") then Some key.Unit
    else if bytes_eq w (codes "erase") then Some key.Erase
    else if bytes_eq w (codes "pace") then Some key.Pace
    else if bytes_eq w (codes "capacity") then Some key.Capacity
    else if bytes_eq w (codes "image") then Some key.Image
    else later_keyword_of w

-- Keyword of the word after `go`, a fate or `until`; None if it is neither.
unfoldable pub fate_keyword_of : List ℕ → Option FateKeyword
fate_keyword_of w =
    if bytes_eq w (codes "pass") then Some fate.Pass
    else if bytes_eq w (codes "lostout") then Some fate.LostOut
    else if bytes_eq w (codes "lostback") then Some fate.LostBack
    else if bytes_eq w (codes "twice") then Some fate.Twice
    else if bytes_eq w (codes "twicelostback") then Some fate.TwiceLostBack
    else if bytes_eq w (codes "slip") then Some fate.Slip
    else if bytes_eq w (codes "cut") then Some fate.Cut
    else if bytes_eq w (codes "fail") then Some fate.Fail
    else if bytes_eq w (codes "lie") then Some fate.Lie
    else if bytes_eq w (codes "until") then Some fate.Until
    else None
