-- Names and case analyses for the commands and results of a session. Proofs of other crates need them because these types are private.
use Rattle.std.proofs.Common.{ℕ, Bool}
use Rattle.dfu_wire.specs.declared.statuses.Status.{Status}
use Rattle.dfu_wire.specs.declared.states.State.{State}
use Rattle.dfuse_host.specs.declared.command.Command.{Command}
use Rattle.dfuse_host.specs.declared.command.Command.TheVariants as command
use Rattle.dfuse_host.specs.declared.heard.Heard.{Heard}
use Rattle.dfuse_host.specs.declared.heard.Heard.TheVariants as heard

-- Type of commands, exported for the proofs of other crates.
abbrev pub AnyCommand : Type 0
AnyCommand = Command

-- Type of the meanings of results, exported for the proofs of other crates.
abbrev pub AnyHeard : Type 0
AnyHeard = Heard

-- Command that sets the pointer, exported for the proofs of other crates.
abbrev pub set_address : (at : ℕ) → Command
set_address at = command.SetAddress at

-- Command that erases a page, exported for the proofs of other crates.
abbrev pub erase_page : (at : ℕ) → Command
erase_page at = command.ErasePage at

-- Command that writes bytes, exported for the proofs of other crates.
abbrev pub write_bytes_at : (at : ℕ) → Command
write_bytes_at at = command.Write at

-- Result of a comparison of bytes, exported for the proofs of other crates.
abbrev pub heard_comparison : Bool → Heard
heard_comparison same = heard.Compared same

-- Result without a meaning, exported for the proofs of other crates.
abbrev pub heard_nothing : Heard
heard_nothing = heard.Nothing

-- A fact holds for every command if it holds for each kind of command.
abbrev pub commands_have_fact {ℓ} : (P : Command → Type ℓ) → ((at : ℕ) → P (command.SetAddress at)) → ((at : ℕ) →
    P (command.ErasePage at)) →
    ((at : ℕ) → P (command.Write at)) → (c : Command) → P c
commands_have_fact P set erase write (command.SetAddress at) = set at
commands_have_fact P set erase write (command.ErasePage at) = erase at
commands_have_fact P set erase write (command.Write at) = write at

-- A fact holds for every result if it holds for each kind of result.
abbrev pub heards_have_fact {ℓ} : (P : Heard → Type ℓ) → P heard.Acked → ((s : Status) → P (heard.Told s)) → ((s : State) →
    P (heard.StateIs s)) →
    ((same : Bool) → P (heard.Compared same)) → P heard.Stalled → P heard.Nothing → P heard.Waited → P heard.Restarted → (h : Heard) → P h
heards_have_fact P acked told state_is compared stalled nothing waited restarted heard.Acked = acked
heards_have_fact P acked told state_is compared stalled nothing waited restarted (heard.Told s) = told s
heards_have_fact P acked told state_is compared stalled nothing waited restarted (heard.StateIs s) = state_is s
heards_have_fact P acked told state_is compared stalled nothing waited restarted (heard.Compared same) = compared same
heards_have_fact P acked told state_is compared stalled nothing waited restarted heard.Stalled = stalled
heards_have_fact P acked told state_is compared stalled nothing waited restarted heard.Nothing = nothing
heards_have_fact P acked told state_is compared stalled nothing waited restarted heard.Waited = waited
heards_have_fact P acked told state_is compared stalled nothing waited restarted heard.Restarted = restarted
