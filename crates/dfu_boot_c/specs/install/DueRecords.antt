-- Operations of a run area, as records of a program in C.
use Rattle.std.specs.Prelude.{◌≡◌, ℕ, ℤ, pos, List}
use Rattle.dfu_boot.specs.declared.install.due.Due.{Due}
use Rattle.dfu_boot.specs.declared.install.due.Due.TheVariants.{Refuse, Erase, Program, Start}
use Rattle.dfu_boot.specs.install.Area.{program_piece}
use Rattle.dfu_core.specs.declared.records.DfuAsk.{DfuAsk}
use Rattle.dfu_core.specs.Numbers.{WRITE_PENDING_NUMBER}
use Rattle.dfu_boot_c.specs.install.Calls.{install_refusal_number}

-- The next operation is written into `after`, and the call returns DFU_WRITE_PENDING. For the start, the call returns 0, and for a refusal
-- its number; then `after` equals `before`.
abbrev pub InstallDueInAsk : List ℕ → ℕ → Due → ℤ → DfuAsk → DfuAsk → Type 0
InstallDueInAsk image sector (Refuse refusal) result before after = (result ≡ install_refusal_number refusal) × (after ≡ before)
InstallDueInAsk image sector Start result before after = (result ≡ pos 0) × (after ≡ before)
InstallDueInAsk image sector (Erase at) result before after =
    (result ≡ WRITE_PENDING_NUMBER) × (after.kind ≡ 1) × (after.at ≡ at) × (after.length ≡ sector) × (after.bytes ≡ before.bytes)
InstallDueInAsk image sector (Program at) result before after =
    (result ≡ WRITE_PENDING_NUMBER) × (after.kind ≡ 2) × (after.at ≡ at) × (after.length ≡ 256) × (after.bytes ≡ program_piece image at)
