use Rattle.std.proofs.Common.{◌≡◌, ℕ, List, ◌+◌, slice_range, sym, ◌∙◌, ap, subst}
use Rattle.dfu_boot.specs.install.Area.{AreaStores}
use Rattle.dfu_boot.specs.install.Next.{IsNextDue}
use Rattle.dfu_boot.specs.declared.install.due.Due.{Due}
use Rattle.dfu_boot.specs.declared.install.due.Due.TheVariants.{Start}
use Rattle.dfu_boot.proofs.install_slots.next_active.Goals as goal

pub returns-clause-started : goal.returns-clause-started
returns-clause-started g c = λ image active is.
    let s = c.args.slots.now in
    let at : ℕ = c.image_at-at.result in
    let part : List ℕ = slice_range c.args.memory.now at (at + c.active_len.result) in
    let same : part ≡ image =
    ap (λ (m : List ℕ). slice_range m at (at + c.active_len.result)) c.requires.mapped
    ∙ ap (λ (n : ℕ). slice_range s.medium.bytes at (at + n)) c.active_len.ensures.image
    ∙ c.image_at-at.ensures.bytes
    ∙ sym (c.active_image_is_one.ensures.only s image active) in
    let does : IsNextDue part c.args.run.now c.args.sector c.args.last Start =
    subst (λ (d : Due). IsNextDue part c.args.run.now c.args.sector c.args.last d) is c.next.ensures in
    subst (λ (l : List ℕ). AreaStores c.args.run.now l) same does.1
