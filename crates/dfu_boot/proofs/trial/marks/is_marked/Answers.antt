use Rattle.std.proofs.Common.{◌≡◌, not, ◌+◌, ℕ, List, length, slice_range, ◌∙◌, ap, arith, replicate, take}
use Rattle.std.specs.List.{list_all}
use Rattle.std.proofs.lemmas.List.{length-take-le}
use Rattle.dfu_boot.specs.trial.Marks.{is_erased}
use Rattle.dfu_boot.proofs.trial.marks.is_marked.Goals as goal

pub returns : goal.returns
returns g c =
    let bytes : List ℕ = (g.M.Medium.state c.args.medium.now).bytes in
    let long : length (take c.args.len (replicate 256 0)) ≡ c.args.len =
    length-take-le {A = ℕ} c.args.len (replicate 256 0) (omega (arith, c.requires.most)) in
    ap not (c.is_blank.ensures ∙ ap (λ (l : List ℕ). list_all is_erased l)
    (c.read.ensures ∙ ap (λ (n : ℕ). slice_range bytes c.args.at (c.args.at + n)) long))
