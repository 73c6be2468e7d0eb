-- Bytes encode at most one value of each format.
use Rattle.std.proofs.Common.{◌≡◌, ℕ, List, [], ◌∷◌, slice_index_or, refl, sym, ap, ◌∙◌, arith}
use Rattle.dfu_wire.specs.declared.fault.WireFault.{WireFault}
use Rattle.dfu_wire.specs.declared.setups.Setup.{Setup}
use Rattle.dfu_wire.specs.declared.states.State.{State}
use Rattle.dfu_wire.specs.declared.states.State.TheVariants as state
use Rattle.dfu_wire.specs.Setup.{IsSetup}
use Rattle.dfu_wire.specs.State.{state_byte}
use Rattle.dfu_wire.specs.Status.{StatusFields, IsStatus}

-- Bytes encode at most one value of the format.
abbrev pub OneValue : (A : Type 0) → (A → List ℕ → Type 0) → Type 0
OneValue A Is = (x y : A) (b : List ℕ) → Is x b → Is y b → x ≡ y

-- Bytes that encode a value of the format have none of the faults.
abbrev pub NoFault : (A : Type 0) → (A → List ℕ → Type 0) → (WireFault → List ℕ → Type 0) → Type 0
NoFault A Is Fails = (x : A) (e : WireFault) (b : List ℕ) → Is x b → Fails e b → ⊥

-- Bytes encode at most one setup.
pub bytes_encode_one_setup : OneValue Setup IsSetup
bytes_encode_one_setup s t b x y = λ k. record {
  kind = (x.kind ∙ sym y.kind) k;
  request = (x.request ∙ sym y.request) k;
  value = (x.value ∙ sym y.value) k;
  index = (x.index ∙ sym y.index) k;
  length = (x.size ∙ sym y.size) k;
}

-- Bytes encode at most one status.
pub bytes_encode_one_status : OneValue StatusFields IsStatus
bytes_encode_one_status s t b x y = grind arith

-- All states, in the order of their numbers.
abbrev states : List State
states =
    state.AppIdle ∷ state.AppDetach ∷ state.DfuIdle ∷ state.DownloadSync ∷ state.DownloadBusy ∷ state.DownloadIdle
    ∷ state.ManifestSync ∷ state.Manifest ∷ state.ManifestWaitReset ∷ state.UploadIdle ∷ state.Error ∷ []

-- State with this number, or dfuERROR if the number is over 10.
abbrev state_of_number : ℕ → State
state_of_number n = slice_index_or states n state.Error

-- A state's number determines the state.
state_has_its_number : (s : State) → state_of_number (state_byte s) ≡ s
state_has_its_number state.AppIdle = refl
state_has_its_number state.AppDetach = refl
state_has_its_number state.DfuIdle = refl
state_has_its_number state.DownloadSync = refl
state_has_its_number state.DownloadBusy = refl
state_has_its_number state.DownloadIdle = refl
state_has_its_number state.ManifestSync = refl
state_has_its_number state.Manifest = refl
state_has_its_number state.ManifestWaitReset = refl
state_has_its_number state.UploadIdle = refl
state_has_its_number state.Error = refl

-- States with equal numbers are equal.
pub state_byte_is_injective : (s t : State) → state_byte s ≡ state_byte t → s ≡ t
state_byte_is_injective s t e = sym (state_has_its_number s) ∙ ap state_of_number e ∙ state_has_its_number t
