use Rattle.std.proofs.Common.{ℕ, ◌+◌, slice_index, ap, ◌∙◌}
use Rattle.dfu_slots.specs.Image.{gate_of}
use Rattle.dfu_slots.proofs.Parts.{generation_follows_gate}
use Rattle.dfu_slots.proofs.read.generation.Goals as goal

pub returns : goal.returns
returns g c =
    let m = g.M.Medium.state c.args.medium.now in
    c.byte_at.ensures ∙ ap (λ (n : ℕ). slice_index m.bytes (c.args.at + n)) c.gate_of.ensures
    ∙ generation_follows_gate (gate_of m) m.bytes c.args.at
