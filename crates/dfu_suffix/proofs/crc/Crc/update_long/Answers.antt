use Rattle.std.proofs.Common.{ℕ, ap, ◌∙◌, sym}
use Rattle.dfu_suffix.specs.Register.{after_bits, bits_of}
use Rattle.dfu_suffix.proofs.Tables.{register-append}
use Rattle.dfu_suffix.proofs.crc.Crc.update_long.Goals as goal

pub returns-clause-more : goal.returns-clause-more
returns-clause-more c = λ before e.
    c.after_bytes.ensures
    ∙ (ap (λ (r : ℕ). after_bits r (bits_of c.args.bytes.now)) (c.self.view_is ∙ e) ∙ sym (register-append before c.args.bytes.now))
