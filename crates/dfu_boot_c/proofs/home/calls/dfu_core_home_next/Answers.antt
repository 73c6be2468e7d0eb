use Rattle.std.proofs.Common.{ℕ, List, w32, refl, ◌∙◌, ap, arith}
use Rattle.std.proofs.lemmas.Int.{to_z-of_z}
use Rattle.dfu_slots.specs.Medium.{MediumState}
use Rattle.dfu_asks.specs.Mapped.{grain_of, mapped_medium}
use Rattle.dfu_home.specs.declared.due.Due.TheVariants.{Refuse, Erase, Program}
use Rattle.dfu_home.specs.Next.{program_bytes}
use Rattle.dfu_core.specs.declared.records.DfuAsk.{DfuAsk}
use Rattle.dfu_boot_c.proofs.DueOperations.{due_meets_next_contract}
use Rattle.dfu_boot_c.proofs.home.calls.dfu_core_home_next.Goals as goal

pub returns-in-Refuse : goal.returns-in-Refuse
returns-in-Refuse c =
    let medium = c.in-Ok.medium in
    record {
      outcome =
          due_meets_next_contract c.args.config.now c.args.kept.now c.args.flash.now (mapped_medium (grain_of medium.unit medium.sector)
          medium.bytes.now)
          c.progress_of.result (Refuse c.in-Refuse.refusal) _ c.args.ask.now _ c.in-Ok.ensures.state c.progress_of.ensures
          c.in-Refuse.ensures.does (
            to_z-of_z w32 c.number_of.result (omega (arith, c.number_of.type_inv)) ∙ c.number_of.ensures,
            ap (λ (b : List ℕ). record c.args.ask.now { bytes = b }) c.in-Refuse.ensures.bytes,
          );
    }

pub returns-in-Erase : goal.returns-in-Erase
returns-in-Erase c =
    let medium = c.in-Ok.medium in
    record {
      outcome =
          due_meets_next_contract c.args.config.now c.args.kept.now c.args.flash.now (mapped_medium (grain_of medium.unit medium.sector)
          medium.bytes.now)
          c.progress_of.result (Erase c.in-Erase.at) _ c.args.ask.now _ c.in-Ok.ensures.state c.progress_of.ensures
          c.in-Erase.ensures.does (refl, refl, refl, refl, c.in-Erase.ensures.bytes);
    }

pub returns-in-Program : goal.returns-in-Program
returns-in-Program c =
    let medium = c.in-Ok.medium in
    let m : MediumState = mapped_medium (grain_of medium.unit medium.sector) medium.bytes.now in
    record {
      outcome = due_meets_next_contract c.args.config.now c.args.kept.now c.args.flash.now m c.progress_of.result (Program c.in-Program.at
          c.in-Program.len) _
          c.args.ask.now _ c.in-Ok.ensures.state c.progress_of.ensures c.in-Program.ensures.does (
            refl,
            refl,
            refl,
            refl,
            c.in-Program.ensures.bytes ∙ ap (λ (x : MediumState). program_bytes x c.in-Program.at) c.in-Ok.ensures.state,
          );
    }
