-- Laws of the use of the slot store by a row, and of the image after it.
use Rattle.std.specs.Prelude.{◌≡◌, ◌⊎◌, ℕ, List, [], ◌∷◌, ◌++◌, length}
use Rattle.dfu_wire.specs.declared.codes.Code.{Code}
use Rattle.dfu_slots.specs.declared.fault.WriteFault.{WriteFault}
use Rattle.dfu_slots.specs.StoreView.{store_on, image_of, Commit, Ending, AllWorked, BrokenBy, CallsEnd}
use Rattle.dfu_device.specs.declared.answer.Answer.{Answer}
use Rattle.dfu_device.specs.Stage.{InError}
use Rattle.dfu_device.specs.Table.{write_code, commit_code}
use Rattle.dfu_device.specs.DeviceView.{DeviceView, situation, written_bytes_in}
use Rattle.dfu_device.specs.Rows.{block_calls, Cause, Row}
use Rattle.dfu_device.specs.AcceptedBytes.{accepted_of}

-- The device wrote the last block after the bytes written before. The image stays. If a write failed, the status code reports its fault.
pub record WroteLastBlock (w w' : DeviceView) : Type 0 where
  pub before : List ℕ
  pub block : List ℕ
  pub behind : before ≡ written_bytes_in w.stage
  pub all : before ++ block ≡ accepted_of (situation w)
  pub ending : Ending
  pub calls : CallsEnd w.slots (block_calls before block) ending w'.slots
  pub image : image_of w'.slots ≡ image_of w.slots
  pub failed : (fault : WriteFault) → ending ≡ BrokenBy fault → w'.stage ≡ InError (write_code fault)

-- The device committed the accepted bytes. If all writes worked, they are the image. If a write failed, the status code reports its fault,
-- and the image is the old one or the accepted bytes.
pub record CommittedBytesTaken (w w' : DeviceView) : Type 0 where
  pub ending : Ending
  pub calls : CallsEnd w.slots (Commit (length (accepted_of (situation w))) ∷ []) ending w'.slots
  pub image : ending ≡ AllWorked → image_of w'.slots ≡ accepted_of (situation w)
  pub failed : (fault : WriteFault) → ending ≡ BrokenBy fault → (w'.stage ≡ InError (commit_code fault))
      × ((image_of w'.slots ≡ image_of w.slots) ⊎ (image_of w'.slots ≡ accepted_of (situation w)))

-- The slot store is unchanged, or it was opened again on its medium.
abbrev pub StoreStaysOrReopens : DeviceView → DeviceView → Type 0
StoreStaysOrReopens w w' = (w'.slots ≡ w.slots) ⊎ (w'.slots ≡ store_on w.slots.medium)

-- In a row the device makes no call of the slot store or reopens it, so the image stays; or the device writes the last block; or it commits
-- the accepted bytes.
abbrev pub StoreUse : DeviceView → DeviceView → Type 0
StoreUse w w' = StoreStaysOrReopens w w' ⊎ WroteLastBlock w w' ⊎ CommittedBytesTaken w w'

-- In each row the device calls the slot store only for the accepted bytes, and only a commit of these bytes changes the image.
abbrev pub RowsUseStore : Type 0
RowsUseStore = (w : DeviceView) (cause : Cause) (a : Answer) (out : List ℕ) (w' : DeviceView) → Row w cause a out w' → StoreUse w w'

-- In dfuERROR each row leaves the slot store unchanged or opens it again on its medium, so the image stays.
abbrev pub ErrorRowsKeepStore : Type 0
ErrorRowsKeepStore = (code : Code) (w : DeviceView) (cause : Cause) (a : Answer) (out : List ℕ) (w' : DeviceView) → w.stage ≡ InError code
    → Row w cause a out w' → StoreStaysOrReopens w w'
