use Rattle.std.proofs.Common.{◌*◌, ◌+◌, ℕ, length, sym, ◌∙◌, ap, subst, arith}
use Rattle.dfu_slots.specs.Medium.{MediumState}
use Rattle.dfu_boot.specs.declared.install.due.Due.TheVariants.{Refuse, Start}
use Rattle.dfu_boot.specs.declared.install.due.InstallRefusal.{InstallRefusal}
use Rattle.dfu_boot.specs.declared.install.due.InstallRefusal.TheVariants.{NoImage}
use Rattle.dfu_boot.specs.install.Next.{IsNextDue}
use Rattle.dfu_home.specs.Places.{last_in_data}
use Rattle.dfu_home.specs.Next.{program_bytes}
use Rattle.dfu_home.proofs.Units.{copies, filled_piece_is_program_bytes, header_due_is_copy_due, empty_image_has_copied_bytes}
use Rattle.dfu_home.proofs.copying.copy.Goals as goal

pub returns-in-Program-clause-bytes : goal.returns-in-Program-clause-bytes
returns-in-Program-clause-bytes g c =
    let m : MediumState = g.M.Medium.state c.args.medium.now in
    filled_piece_is_program_bytes m c.away_image-image.result.now c.piece.new.out c.in-Program.at c.away_image-image.ensures c.piece.ensures
    (omega (arith, c.piece.array_long, c.piece.array_long2))
    ∙ ap (λ (n : ℕ). program_bytes m (2 * n + c.in-Program.at)) (sym c.gate_of-gates.ensures)

pub returns-in-Start-clause-due : goal.returns-in-Start-clause-due
returns-in-Start-clause-due g c =
    let m : MediumState = g.M.Medium.state c.args.medium.now in
    let does = copies m c.away_image-image.result.now c.first_data-run.result.now c.sector.result c.args.last c.last_in_data.result Start
    c.away_image-image.ensures c.first_data-run.ensures c.sector.ensures
    (c.last_in_data.ensures ∙ ap (λ (n : ℕ). last_in_data (2 * n) c.args.last) c.gate_of-gates.ensures)
    c.in-Start.ensures in
    header_due_is_copy_due m c.args.last c.head.result does.1 c.head.ensures.due

pub returns-in-Refuse-NoImage-clause-due : goal.returns-in-Refuse-NoImage-clause-due
returns-in-Refuse-NoImage-clause-due g c =
    let m : MediumState = g.M.Medium.state c.args.medium.now in
    let found = c.in-Refuse-NoImage in
    let does : IsNextDue c.away_image-image.result.now c.first_data-run.result.now c.sector.result c.last_in_data.result (Refuse NoImage) =
    subst (λ (r : InstallRefusal). IsNextDue c.away_image-image.result.now c.first_data-run.result.now c.sector.result c.last_in_data.result (Refuse r))
    found.field-0-is found.ensures in
    header_due_is_copy_due m c.args.last c.head-in-Refuse-NoImage.result
    (empty_image_has_copied_bytes m (omega (arith, does.1, ap length c.away_image-image.ensures))) c.head-in-Refuse-NoImage.ensures.due
