-- Result of dfu_core_candidate: the location of an image that was received and is not active yet.
use Rattle.std.specs.Prelude.{◌≡◌, ◌⊎◌, ◌+◌, ◌≤◌, ℕ, ℤ, pos, List, length, None}
use Rattle.dfu_device.specs.declared.candidate.Candidate.{Candidate}
use Rattle.dfu_device.specs.Candidate.{candidate_in, IsCandidate}
use Rattle.dfu_asks.specs.declared.asking.Asking.{Asking}
use Rattle.dfu_asks.specs.declared.reply.Refusal.{Refusal as Why}
use Rattle.dfu_asks.specs.Asks.{device_in}
use Rattle.dfu_asks.specs.Refused.{IsRefusedCall}
use Rattle.dfu_core.specs.declared.config.DfuConfig.{DfuConfig}
use Rattle.dfu_core.specs.declared.records.DfuPlace.{DfuPlace}
use Rattle.dfu_core.specs.declared.record.DfuRecord.{DfuRecord}
use Rattle.dfu_core.specs.declared.numbers.CoreRefusal.{CoreRefusal}
use Rattle.dfu_core.specs.Calls.{DeviceNotFound, IsIntactBlock}
use Rattle.dfu_core.specs.RecordMeaning.{IsRecordOf, block_in_memory, held_memory, with_memory}
use Rattle.dfu_core.specs.Numbers.{NO_CANDIDATE_NUMBER, refusal_number, core_refusal_of}

-- The location of an image as a `Candidate` of dfu_device.
abbrev pub candidate_of_place : DfuPlace → Candidate
candidate_of_place place = record { at = place.at; stored = place.length }

-- The result is 0, and the location is within the flash. If the block memory and the flash are as the last call left them, the location is
-- that of the received image.
pub record CandidateResult (c : DfuConfig) (r : DfuRecord) (flash : List ℕ) (result : ℤ) (place : DfuPlace) : Type 0 where
  pub number_is : result ≡ pos 0
  pub asking : Asking
  pub is : IsRecordOf c r asking
  pub within : place.at + place.length ≤ length flash
  pub there : (block : List ℕ) → IsIntactBlock block flash asking
      → IsCandidate (device_in (with_memory block asking) flash) (candidate_of_place place)

-- The result is DFU_NO_CANDIDATE: the record's device has received no image that is not active yet.
pub record NoCandidateResult (c : DfuConfig) (r : DfuRecord) (flash : List ℕ) (result : ℤ) : Type 0 where
  pub number_is : result ≡ NO_CANDIDATE_NUMBER
  pub asking : Asking
  pub is : IsRecordOf c r asking
  pub none : (block : List ℕ) → candidate_in (device_in (with_memory block asking) flash).stage ≡ None

-- dfu_core_candidate is refused: the record represents no device with the largest block memory, 4,352 bytes; or writes are pending; or the
-- flash is not as the last call left it, for any block memory.
abbrev pub RefusesCandidate : DfuConfig → DfuRecord → List ℕ → ℤ → Type 0
RefusesCandidate c r flash result = ((e : CoreRefusal) × (result ≡ refusal_number e) × DeviceNotFound e c r 4352)
    ⊎ ((a : Asking) × IsRecordOf c r a × (e : Why) × (result ≡ refusal_number (core_refusal_of e))
    × ((block : List ℕ) → IsRefusedCall e a (block_in_memory a block) (held_memory a block) flash 0 0))
