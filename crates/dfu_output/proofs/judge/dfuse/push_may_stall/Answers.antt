use Rattle.std.proofs.Common.{◌∙◌, ◌++◌, ◌∷◌, [], ℕ, List, ap, append_assoc, codes}
use Rattle.std.specs.String.{string_bytes}
use Rattle.dfu_output.specs.judge.Dfuse.{event_request_name}
use Rattle.dfu_output.proofs.judge.dfuse.push_may_stall.Goals as goal

pub returns : goal.returns
returns c =
    let old = string_bytes c.args.line.now in
    let end = codes " stall unchanged open" ++ 10 ∷ [] in
    let named = c.in_ok-field.ensures ∙ ap (λ (t : List ℕ). old ++ (codes "allowed any " ++ t)) c.request_name.ensures in
    c.in_ok-push.ensures ∙ ap (λ (t : List ℕ). t ++ end) named
    ∙ append_assoc old (codes "allowed any " ++ event_request_name c.args.event.now) end
