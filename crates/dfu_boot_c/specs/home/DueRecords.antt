-- Operations of the copy between two areas, as records of a program in C.
use Rattle.std.specs.Prelude.{◌≡◌, ◌⊎◌, ℕ, ℤ, pos, negsuc, List, length, take, ◌==◌, if◌then◌else◌}
use Rattle.dfu_slots.specs.Medium.{MediumState}
use Rattle.dfu_home.specs.declared.due.Due.{Due}
use Rattle.dfu_home.specs.declared.due.Due.TheVariants.{Refuse, Home, Erase, Program}
use Rattle.dfu_home.specs.declared.due.CopyRefusal.{CopyRefusal}
use Rattle.dfu_home.specs.declared.due.CopyRefusal.TheVariants.{NoSectors, NoImage, NotWritten}
use Rattle.dfu_home.specs.Places.{IsActiveHome, IsActiveAway}
use Rattle.dfu_home.specs.Next.{IsNextDue, program_bytes}
use Rattle.dfu_core.specs.declared.config.DfuConfig.{DfuConfig}
use Rattle.dfu_core.specs.declared.records.DfuAsk.{DfuAsk}
use Rattle.dfu_core.specs.Numbers.{WRITE_PENDING_NUMBER}
use Rattle.dfu_boot_c.specs.declared.home.numbers.DfuHomeRecord.{DfuHomeRecord}
use Rattle.dfu_boot_c.specs.home.Flash.{home_medium_state, progress_of}

-- Number of a refusal: DFU_NO_SECTORS, DFU_NO_MEDIUM or DFU_NOT_WRITTEN.
abbrev pub home_refusal_number : CopyRefusal → ℤ
home_refusal_number NoSectors = negsuc 15
home_refusal_number NoImage = negsuc 2
home_refusal_number NotWritten = negsuc 7

-- The next operation is written into `after`, and the call returns DFU_WRITE_PENDING. If the image is in the first slot, the call returns
-- 0, and for a refusal its number; then `after` equals `before`.
abbrev pub HomeDueInAsk : MediumState → Due → ℤ → DfuAsk → DfuAsk → Type 0
HomeDueInAsk m (Refuse refusal) result before after = (result ≡ home_refusal_number refusal) × (after ≡ before)
HomeDueInAsk m Home result before after = (result ≡ pos 0) × (after ≡ before)
HomeDueInAsk m (Erase at) result before after =
    (result ≡ WRITE_PENDING_NUMBER) × (after.kind ≡ 1) × (after.at ≡ at) × (after.length ≡ m.grain.sector) × (after.bytes ≡ before.bytes)
HomeDueInAsk m (Program at len) result before after =
    (result ≡ WRITE_PENDING_NUMBER) × (after.kind ≡ 2) × (after.at ≡ at) × (after.length ≡ len)
    × (take len after.bytes ≡ program_bytes m at)

-- dfu_core_home_next returns the next operation for the progress in the record.
pub record HomeNextResult (c : DfuConfig) (r : DfuHomeRecord) (flash : List ℕ) (result : ℤ) (before after : DfuAsk) : Type 0 where
  pub due : Due
  pub does : IsNextDue (home_medium_state c flash) (progress_of r) due
  pub tells : HomeDueInAsk (home_medium_state c flash) due result before after

-- Operation in the record: an erase for kind 1, a program for kind 2, and `Home`, which is not an operation, for any other kind.
abbrev pub due_of_ask : DfuAsk → Due
due_of_ask a = if a.kind == 1 then Erase a.at else if a.kind == 2 then Program a.at a.length else Home

-- Result of dfu_core_home_may_download: 1 if a download is written to the second slot, so that it may be accepted; 0 if it would be written
-- to the first slot.
abbrev pub DownloadAllowedResult : MediumState → ℤ → Type 0
DownloadAllowedResult m result = ((result ≡ pos 1) × IsActiveHome m) ⊎ ((result ≡ pos 0) × IsActiveAway m)
