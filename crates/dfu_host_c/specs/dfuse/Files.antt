-- A DfuSe file, as records for C.
use Rattle.std.specs.Prelude.{◌≡◌, ℕ, ℤ, List, length, Option, Some, None}
use Rattle.dfu_formats.specs.declared.dfuse.element.Element.{Element}
use Rattle.dfu_formats.specs.dfuse.Reading.{DfuseContent}
use Rattle.dfu_formats.specs.dfuse.Grammar.{IsDfuSe, FirstFileFault}
use Rattle.dfu_formats.specs.dfuse.Images.{elements_for, image_fault, one_setting, ElementsListedBehind}
use Rattle.dfu_host_c.specs.Refusals.{IsRefusedFor}
use Rattle.dfu_host_c.specs.declared.refusals.HostRefusal.TheVariants as refusal
use Rattle.dfu_host_c.specs.declared.dfuse.file.DfuseFile.{DfuseFile}

-- Number of the alternate setting that all targets share; 256 if they have several.
abbrev pub setting_number : Option ℕ → ℕ
setting_number (Some setting) = setting
setting_number None = 256

-- Record of a DfuSe file: the number of its targets, their setting, and the identifiers in its suffix.
abbrev pub file_record : DfuseContent → DfuseFile
file_record f = record {
  targets = length f.targets;
  setting = setting_number (one_setting f.targets);
  device = f.ids.device;
  product = f.ids.product;
  vendor = f.ids.vendor;
}

-- The bytes are not a DfuSe file, and `result` is the number of their first fault.
abbrev pub IsNoDfuSe : (bytes : List ℕ) → (result : ℤ) → Type 0
IsNoDfuSe bytes result = IsRefusedFor refusal.DfuseFile (λ fault. FirstFileFault fault bytes) result

-- The bytes are a DfuSe file with this record.
pub record HasFileRecord (bytes : List ℕ) (r : DfuseFile) : Type 0 where
  pub file : DfuseContent
  pub is_file : IsDfuSe file bytes
  pub says : r ≡ file_record file

-- The bytes are a DfuSe file, and the first `count` entries list all elements of its image for the setting, in the order of the file.
pub record HasFileElements (bytes : List ℕ) (setting : ℕ) (old new : List Element) (count : ℕ) : Type 0 where
  pub file : DfuseContent
  pub is_file : IsDfuSe file bytes
  pub listed : ElementsListedBehind 0 (elements_for setting file.targets) old (Some count) new

-- The bytes are a DfuSe file, but its image for the setting can't be listed in `places` entries; `result` is the number of that fault.
pub record HasNoElements (bytes : List ℕ) (setting : ℕ) (places : ℕ) (result : ℤ) : Type 0 where
  pub file : DfuseContent
  pub is_file : IsDfuSe file bytes
  pub refused : IsRefusedFor refusal.Image (λ fault. image_fault places setting file.targets ≡ Some fault) result
