-- Results of the calls that begin a session, after its file and its descriptor were read.
use Rattle.std.proofs.Common.{◌≡◌, ◌↔◌, ℕ, ℤ, pos, List, Option, Some, None, Result, Ok, Err, refl, subst}
use Rattle.dfu_wire.specs.declared.functionals.Functional.{Functional}
use Rattle.dfu_wire.specs.declared.ids.Ids.{Ids}
use Rattle.dfu_wire.specs.Functional.{IsFunctional}
use Rattle.dfu_suffix.specs.Grammar.{Content}
use Rattle.dfu_host.specs.declared.fault.HostFault.{HostFault}
use Rattle.dfu_host.specs.declared.limits.Limits.{Limits}
use Rattle.dfu_host.specs.Host.{host_for_goal}
use Rattle.dfu_host.specs.Phases.{Goal}
use Rattle.dfu_host_core.specs.BeginCalls.{BeginResult, IsInitialRecord, IsContent}
use Rattle.dfu_host_c.specs.Refusing.{HostRefuses}
use Rattle.dfu_host_c.specs.Refusals.{refused_number}
use Rattle.dfu_host_c.specs.declared.refusals.HostRefusal.TheVariants as refusal
use Rattle.dfu_host_core.specs.declared.session.DfuSession.{DfuSession}
use Rattle.dfu_host_c.proofs.Refused.{call_is_refused_by_first_fault}

-- A call that fails exactly with its first fault has no fault if it succeeds.
pub successful_call_has_no_fault : {T : Type 0} (result : Result T HostFault) (value : T) (first : Option HostFault) → result ≡ Ok value
    → ((fault : HostFault) → (result ≡ Err fault) ↔ (first ≡ Some fault)) → first ≡ None
successful_call_has_no_fault result value None is refused = refl
successful_call_has_no_fault result value (Some fault) is refused = let e : result ≡ Err fault = (refused fault).1 refl in absurd cc

-- If the file and the descriptor were read and the host accepts the session, the call begins that session.
pub begins : {T : Type 0} {file descriptor : List ℕ} {asked device : Ids} {limits : Limits} {result : ℤ} {r' : DfuSession}
    {content : Content} {functional : Functional} {host : T} (to : List ℕ → Goal)
    (first : Content → Functional → Ids → Option HostFault) (made : Result T HostFault)
    → IsContent content file → IsFunctional functional descriptor → asked ≡ device → made ≡ Ok host
    → ((fault : HostFault) → (made ≡ Err fault) ↔ (first content functional asked ≡ Some fault))
    → IsInitialRecord r' (host_for_goal functional (to content.payload) limits) → result ≡ pos 0
    → BeginResult to first file descriptor device limits result r'
begins {content = content} {functional = functional} to first made is_content is_functional same is refused begun number = record {
  content = content;
  functional = functional;
  is_content = is_content;
  is_functional = is_functional;
  accepted = subst (λ (d : Ids). first content functional d ≡ None) same (successful_call_has_no_fault _ _ _ is refused);
  begun = begun;
  number_is = number;
}

-- If the file and the descriptor were read and the host refuses the session, the call returns the number of the host's first fault.
pub refused_call_has_first_fault : {T : Type 0} {file descriptor : List ℕ} {asked device : Ids} {result : ℤ} {content : Content}
    {functional : Functional}
    {fault : HostFault} (first : Content → Functional → Ids → Option HostFault) (made : Result T HostFault)
    → IsContent content file → IsFunctional functional descriptor → asked ≡ device → made ≡ Err fault
    → ((fault : HostFault) → (made ≡ Err fault) ↔ (first content functional asked ≡ Some fault))
    → result ≡ refused_number (refusal.Host fault) → HostRefuses first file descriptor device result
refused_call_has_first_fault {content = content} {functional = functional} {fault = fault} first made is_content is_functional same is
    refused
    number = record {
      content = content;
      functional = functional;
      is_content = is_content;
      is_functional = is_functional;
      refused = call_is_refused_by_first_fault made fault is
          (subst (λ (d : Ids). (fault : HostFault) → (made ≡ Err fault) ↔ (first content functional d ≡ Some fault)) same refused) number;
    }
