-- Numbers and names of a device's states (USB DFU 1.1, section 6.1.2).
use Rattle.std.specs.Prelude.{ℕ, List, codes}
use Rattle.dfu_wire.specs.declared.states.State.{State}
use Rattle.dfu_wire.specs.declared.states.State.TheVariants as state

-- Number of a state in bState.
abbrev pub state_byte : State → ℕ
state_byte state.AppIdle = 0
state_byte state.AppDetach = 1
state_byte state.DfuIdle = 2
state_byte state.DownloadSync = 3
state_byte state.DownloadBusy = 4
state_byte state.DownloadIdle = 5
state_byte state.ManifestSync = 6
state_byte state.Manifest = 7
state_byte state.ManifestWaitReset = 8
state_byte state.UploadIdle = 9
state_byte state.Error = 10

-- Name of a state in the standard.
abbrev pub state_name : State → List ℕ
state_name state.AppIdle = codes "appIDLE"
state_name state.AppDetach = codes "appDETACH"
state_name state.DfuIdle = codes "dfuIDLE"
state_name state.DownloadSync = codes "dfuDNLOAD-SYNC"
state_name state.DownloadBusy = codes "dfuDNBUSY"
state_name state.DownloadIdle = codes "dfuDNLOAD-IDLE"
state_name state.ManifestSync = codes "dfuMANIFEST-SYNC"
state_name state.Manifest = codes "dfuMANIFEST"
state_name state.ManifestWaitReset = codes "dfuMANIFEST-WAIT-RESET"
state_name state.UploadIdle = codes "dfuUPLOAD-IDLE"
state_name state.Error = codes "dfuERROR"
