-- Types of the device table: the requests of a host, the replies of a device, and the stages with the values that each keeps (USB DFU 1.1,
-- sections 3 and 6.1.2).
use Rattle.std.specs.Prelude.{ℕ, Bool, List, length}
use Rattle.dfu_wire.specs.declared.states.State.{State}
use Rattle.dfu_wire.specs.declared.states.State.TheVariants.{AppIdle, AppDetach, DfuIdle, DownloadSync, DownloadBusy, DownloadIdle, ManifestSync, Manifest, ManifestWaitReset, UploadIdle, Error}
use Rattle.dfu_wire.specs.declared.codes.Code.{Code}
use Rattle.dfu_wire.specs.declared.codes.Code.TheVariants.{Ok as NoFault}
use Rattle.dfu_device.specs.declared.config.Pace.{Pace}
use Rattle.dfu_device.specs.Pace.{block_ms, image_ms}

-- Request of a host: one of the seven DFU class requests, with the parts that the table reads, or another request of the class.
pub data Request : Type 0 where
  -- DETACH, with wTimeout in milliseconds.
  Detach : (timeout : ℕ) → Request
  -- DNLOAD, with the block number and the bytes of the block.
  Dnload : (number : ℕ) (body : List ℕ) → Request
  -- UPLOAD, with the block number and wLength.
  Upload : (number size : ℕ) → Request
  GetStatus : Request
  ClrStatus : Request
  GetState : Request
  Abort : Request
  OtherRequest : Request

-- Reply of a device: an acknowledgement, a status or a state, bytes of its image, or a stall.
pub data Reply : Type 0 where
  Ack : Reply
  StatusOf : Code → (poll : ℕ) → State → Reply
  StateOf : State → Reply
  Data : List ℕ → Reply
  Stall : Reply

-- Fixed values that the table reads: some settings of the device, and the largest length of an image, which depends on the medium. Times
-- are in milliseconds, sizes in bytes.
pub record Profile : Type 0 where
  -- The next four fields are bitCanDnload, bitCanUpload, bitManifestationTolerant and bitWillDetach.
  pub can_download : Bool
  pub can_upload : Bool
  pub tolerant : Bool
  pub will_detach : Bool
  -- wDetachTimeOut: the longest time in appDETACH, in milliseconds.
  pub detach_ms : ℕ
  -- wTransferSize: the largest length of a block.
  pub transfer : ℕ
  -- Smallest length of an image.
  pub least : ℕ
  -- Times of a block (`busy`) and of an image (`manifest`), without the erases and programs of the flash. If the time is 0, the block is
  -- written or the image becomes active before GETSTATUS is answered.
  pub busy : ℕ
  pub manifest : ℕ
  -- Times of an erase and of a program.
  pub pace : Pace
  -- Largest length of an image.
  pub capacity : ℕ

-- A state with the values that the device keeps there. A device that enters a stage keeps only the values of that stage. `number` is the
-- number of the next block, `passed` the milliseconds that passed in the state.
pub data Stage : Type 0 where
  InAppIdle : Stage  -- appIDLE: the application runs
  InAppDetach : (timer passed : ℕ) → Stage  -- appDETACH: the device received DETACH; `timer` in milliseconds
  InDfuIdle : Stage  -- dfuIDLE: no download or upload is in progress
  InDownloadSync : (before block : List ℕ) (number : ℕ) → Stage  -- dfuDNLOAD-SYNC: `before` is written, `block` is not
  InDownloadSyncWritten : (taken : List ℕ) (number : ℕ) → Stage  -- dfuDNLOAD-SYNC: all accepted bytes are put into the slot store
  InDownloadBusy : (before block : List ℕ) (number passed : ℕ) → Stage  -- dfuDNBUSY: `block` is written when its time has passed
  InDownloadIdle : (taken : List ℕ) (number : ℕ) → Stage  -- dfuDNLOAD-IDLE: the device is ready for the next block
  InManifestSync : (taken : List ℕ) → Stage  -- dfuMANIFEST-SYNC, not complete: the host closed the download
  InManifestSyncComplete : Stage  -- dfuMANIFEST-SYNC, complete: the accepted bytes are the active image
  InManifest : (taken : List ℕ) (passed : ℕ) → Stage  -- dfuMANIFEST: the bytes become the active image later
  InManifestWaitReset : Stage  -- dfuMANIFEST-WAIT-RESET: the device waits for a reset
  InUploadIdle : (place number : ℕ) → Stage  -- dfuUPLOAD-IDLE: `place` bytes of the image were sent
  InError : Code → Stage  -- dfuERROR, with its status code

-- State of the standard to which a stage belongs.
abbrev pub state_of : Stage → State
state_of InAppIdle = AppIdle
state_of (InAppDetach timer passed) = AppDetach
state_of InDfuIdle = DfuIdle
state_of (InDownloadSync before block number) = DownloadSync
state_of (InDownloadSyncWritten taken number) = DownloadSync
state_of (InDownloadBusy before block number passed) = DownloadBusy
state_of (InDownloadIdle taken number) = DownloadIdle
state_of (InManifestSync taken) = ManifestSync
state_of InManifestSyncComplete = ManifestSync
state_of (InManifest taken passed) = Manifest
state_of InManifestWaitReset = ManifestWaitReset
state_of (InUploadIdle place number) = UploadIdle
state_of (InError code) = Error

-- Status code of a stage: OK in every state except dfuERROR.
abbrev pub code_of : Stage → Code
code_of (InError code) = code
code_of stage = NoFault

-- Poll time of a stage: the milliseconds that a host must wait in dfuDNBUSY for its block and in dfuMANIFEST for its image, and 0 in every
-- other state.
abbrev pub poll_of_stage : Profile → Stage → ℕ
poll_of_stage c (InDownloadBusy before block number passed) = block_ms c.pace c.busy (length before) (length block)
poll_of_stage c (InManifest taken passed) = image_ms c.pace c.manifest (length taken)
poll_of_stage c stage = 0

-- Status of a stage, as a reply.
abbrev pub status_of : Profile → Stage → Reply
status_of c stage = StatusOf (code_of stage) (poll_of_stage c stage) (state_of stage)
