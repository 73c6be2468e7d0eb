-- Results of the calls that begin a session in C.
use Rattle.std.specs.Prelude.{◌≡◌, ◌+◌, ℕ, ℤ, pos, List, length, Option, None}
use Rattle.std.specs.Borrow.{Bor}
use Rattle.dfu_wire.specs.declared.functionals.Functional.{Functional}
use Rattle.dfu_wire.specs.declared.ids.Ids.{Ids}
use Rattle.dfu_wire.specs.Functional.{IsFunctional}
use Rattle.dfu_suffix.specs.Grammar.{Content, IsFile}
use Rattle.dfu_host.specs.declared.fault.HostFault.{HostFault}
use Rattle.dfu_host.specs.declared.limits.Limits.{Limits}
use Rattle.dfu_host.specs.declared.parts.Parts.{Parts}
use Rattle.dfu_host.specs.Goals.{CarriesPayload}
use Rattle.dfu_host.specs.Host.{HostState, host_for_goal}
use Rattle.dfu_host.specs.InParts.{host_of}
use Rattle.dfu_host.specs.Phases.{Goal}
use Rattle.dfu_host_core.specs.Sessions.{IsRecord, HasWrittenNumbers}
use Rattle.dfu_host_core.specs.declared.session.DfuSession.{DfuSession}

-- With any payload that its goal carries, the record holds a new session, with the host `start` and no kept bytes.
pub record IsInitialRecord (r : DfuSession) (start : HostState) : Type 0 where
  pub parts : Parts
  pub stands : (payload : Bor (List ℕ)) → CarriesPayload payload parts.goal → IsRecord r payload parts
  pub written : HasWrittenNumbers r parts
  pub nothing : r.kept ≡ 0
  pub begins : (memory : List ℕ) → host_of memory parts ≡ start

-- The bytes are a file with this content.
abbrev pub IsContent : Content → List ℕ → Type 0
IsContent c bytes = (extra : List ℕ) × IsFile c.payload c.ids c.dfu extra bytes × (c.suffix ≡ 16 + length extra)

-- A call that began a session returned 0: the file and the descriptor were read, `first` finds no fault, and the record is that of a new
-- session with the goal `to` of the file's payload.
pub record BeginResult (to : List ℕ → Goal) (first : Content → Functional → Ids → Option HostFault) (file descriptor : List ℕ)
    (device : Ids)
    (limits : Limits) (result : ℤ) (r' : DfuSession) : Type 0 where
  pub content : Content
  pub functional : Functional
  pub is_content : IsContent content file
  pub is_functional : IsFunctional functional descriptor
  pub accepted : first content functional device ≡ None
  pub begun : IsInitialRecord r' (host_for_goal functional (to content.payload) limits)
  pub number_is : result ≡ pos 0

-- A call that began an upload returned 0: the descriptor was read, `first` finds no fault, and the record is that of a new session with the
-- goal `to`.
pub record BeginUploadResult (to : Goal) (first : Functional → Option HostFault) (descriptor : List ℕ) (limits : Limits) (result : ℤ)
    (r' : DfuSession) : Type 0 where
  pub functional : Functional
  pub is_functional : IsFunctional functional descriptor
  pub accepted : first functional ≡ None
  pub begun : IsInitialRecord r' (host_for_goal functional to limits)
  pub number_is : result ≡ pos 0
