-- Refusals of a session that a program in C tries to begin.
use Rattle.std.specs.Prelude.{◌≡◌, ◌⊎◌, ℕ, ℤ, List, Option, Some}
use Rattle.dfu_wire.specs.declared.functionals.Functional.{Functional}
use Rattle.dfu_wire.specs.declared.ids.Ids.{Ids}
use Rattle.dfu_wire.specs.Functional.{IsFunctional, FirstFunctionalFault}
use Rattle.dfu_suffix.specs.Grammar.{Content, First}
use Rattle.dfu_host.specs.declared.fault.HostFault.{HostFault}
use Rattle.dfu_host_core.specs.BeginCalls.{IsContent}
use Rattle.dfu_host_c.specs.Refusals.{IsRefusedFor}
use Rattle.dfu_host_c.specs.declared.refusals.HostRefusal.TheVariants as refusal

-- The bytes are not a DFU file, and `result` is the number of their first fault.
abbrev pub IsNoDfuFile : (file : List ℕ) → (result : ℤ) → Type 0
IsNoDfuFile file result = IsRefusedFor refusal.File (λ fault. First fault file) result

-- The bytes are not a functional descriptor, and `result` is the number of their first fault.
abbrev pub IsNoDescriptor : (descriptor : List ℕ) → (result : ℤ) → Type 0
IsNoDescriptor descriptor result = IsRefusedFor refusal.Wire (λ fault. FirstFunctionalFault fault descriptor) result

-- The file is faulty, or the file has no fault and the descriptor is faulty; `result` is the number of the first fault.
abbrev pub FileOrDescriptorIsFaulty : (file descriptor : List ℕ) → (result : ℤ) → Type 0
FileOrDescriptorIsFaulty file descriptor result =
    IsNoDfuFile file result ⊎ ((content : Content) × IsContent content file × IsNoDescriptor descriptor result)

-- The file and the descriptor were read, and the host refuses the session; `result` is the number of its first fault.
pub record HostRefuses (first : Content → Functional → Ids → Option HostFault) (file descriptor : List ℕ) (device : Ids)
    (result : ℤ) : Type 0 where
  pub content : Content
  pub functional : Functional
  pub is_content : IsContent content file
  pub is_functional : IsFunctional functional descriptor
  pub refused : IsRefusedFor refusal.Host (λ fault. first content functional device ≡ Some fault) result

-- The descriptor was read, and the host refuses the upload; `result` is the number of its first fault.
pub record HostRefusesUpload (first : Functional → Option HostFault) (descriptor : List ℕ) (result : ℤ) : Type 0 where
  pub functional : Functional
  pub is_functional : IsFunctional functional descriptor
  pub refused : IsRefusedFor refusal.Host (λ fault. first functional ≡ Some fault) result
