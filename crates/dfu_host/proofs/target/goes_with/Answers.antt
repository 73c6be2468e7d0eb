use Rattle.std.proofs.Common.{◌≡◌, ◌==◌, false, refl}
use Rattle.std.proofs.lemmas.Bool.{ne_eqb}
use Rattle.dfu_host.proofs.target.goes_with.Goals as goal

pub returns-then-file-eq-ANY : goal.returns-then-file-eq-ANY
returns-then-file-eq-ANY c = rw c.if-file-eq-ANY.true refl

pub returns-else-file-eq-ANY : goal.returns-else-file-eq-ANY
returns-else-file-eq-ANY c =
    let e : (c.args.file == 0xFFFF) ≡ false = ne_eqb _ _ c.if-file-eq-ANY.false in
    rw e refl
