-- The lines of refusals, and the text of `show` before the image, have no line feed before their end.
use Rattle.std.proofs.Common.{◌≡◌, ℕ, List, ◌++◌, refl, true}
use Rattle.std.specs.Prelude.{codes}
use Rattle.dfu_wire.specs.declared.codes.Code.{Code}
use Rattle.dfu_wire.specs.declared.codes.Code.TheVariants as code
use Rattle.dfu_wire.specs.declared.states.State.{State}
use Rattle.dfu_wire.specs.declared.states.State.TheVariants as state
use Rattle.dfu_wire.specs.Code.{code_name}
use Rattle.dfu_wire.specs.State.{state_name}
use Rattle.dfu_suffix.specs.declared.fault.SuffixFault.{SuffixFault}
use Rattle.dfu_suffix.specs.declared.fault.SuffixFault.TheVariants as suffix
use Rattle.dfu_suffix.specs.FaultName.{suffix_fault_name}
use Rattle.dfu_host.specs.declared.fault.HostFault.{HostFault}
use Rattle.dfu_host.specs.declared.fault.HostFault.TheVariants as host
use Rattle.dfu_host.specs.FaultName.{host_fault_name}
use Rattle.dfu_device.specs.DeviceView.{DeviceView}
use Rattle.dfu_device.specs.Stage.{state_of, code_of}
use Rattle.dfu_sim.specs.declared.fault.OfferFault.{OfferFault}
use Rattle.dfu_sim.specs.declared.fault.OfferFault.TheVariants as offer
use Rattle.dfu_sim.specs.declared.fault.LinkFault.{LinkFault}
use Rattle.dfu_sim.specs.declared.fault.LinkFault.TheVariants as link
use Rattle.dfu_link.specs.Words.{has_no_newline}
use Rattle.dfu_link.specs.Texts.{offer_fault_name, refusal_line}
use Rattle.dfu_link.specs.Printed.{refused_event_line}
use Rattle.dfu_link.proofs.LineLaws.{joined_have_no_newline}

-- The name of a suffix's fault has no line feed.
suffix_fault_name_is_one_line : (fault : SuffixFault) → has_no_newline (suffix_fault_name fault) ≡ true
suffix_fault_name_is_one_line suffix.TooShort = refl
suffix_fault_name_is_one_line fault = refl

-- The name of a session's fault has no line feed.
host_fault_name_is_one_line : (fault : HostFault) → has_no_newline (host_fault_name fault) ≡ true
host_fault_name_is_one_line host.EmptyPayload = refl
host_fault_name_is_one_line fault = refl

-- The name of an offer's fault has no line feed.
offer_fault_name_is_one_line : (fault : OfferFault) → has_no_newline (offer_fault_name fault) ≡ true
offer_fault_name_is_one_line (offer.Suffix fault) = suffix_fault_name_is_one_line fault
offer_fault_name_is_one_line (offer.Host fault) = host_fault_name_is_one_line fault

-- The line of a refusal is that of a refused event, with a reason that has no line feed.
pub record PrintedRefusal (fault : LinkFault) : Type 0 where
  pub reason : List ℕ
  pub reason_is_one_line : has_no_newline reason ≡ true
  pub is : refusal_line fault ≡ refused_event_line reason

-- The line of each refusal has a reason without a line feed.
pub refusal : (fault : LinkFault) → PrintedRefusal fault
refusal link.HostBusy = record { reason = codes "HostBusy"; reason_is_one_line = refl; is = refl }
refusal link.NoHost = record { reason = codes "NoHost"; reason_is_one_line = refl; is = refl }
refusal (link.BadOffer fault) = record {
  reason = codes "BadOffer " ++ offer_fault_name fault;
  reason_is_one_line = joined_have_no_newline (codes "BadOffer ") (offer_fault_name fault) refl (offer_fault_name_is_one_line fault);
  is = refl;
}
refusal link.NoMemory = record { reason = codes "NoMemory"; reason_is_one_line = refl; is = refl }

-- The name of a state has no line feed.
state_name_is_one_line : (s : State) → has_no_newline (state_name s) ≡ true
state_name_is_one_line state.AppIdle = refl
state_name_is_one_line s = refl

-- The name of a status code has no line feed.
pub code_name_is_one_line : (c : Code) → has_no_newline (code_name c) ≡ true
code_name_is_one_line code.Ok = refl
code_name_is_one_line c = refl

-- Text that `show` prints between the word `state ` and the image.
abbrev pub state_words : DeviceView → List ℕ
state_words device = (state_name (state_of device.stage) ++ codes " status ") ++ (code_name (code_of device.stage) ++ codes " ")

-- The text of the state has no line feed.
pub state_words_are_one_line : (device : DeviceView) → has_no_newline (state_words device) ≡ true
state_words_are_one_line device =
    let name = state_name (state_of device.stage) in
    let code = code_name (code_of device.stage) in
    joined_have_no_newline (name ++ codes " status ") (code ++ codes " ")
    (joined_have_no_newline name (codes " status ") (state_name_is_one_line (state_of device.stage)) refl)
    (joined_have_no_newline code (codes " ") (code_name_is_one_line (code_of device.stage)) refl)
