-- Bytes of a received image, on the medium and in the buffer of the store.
use Rattle.std.specs.Prelude.{ℕ, ◌+◌, List, ◌++◌, slice_range}
use Rattle.dfu_slots.specs.StoreView.{SlotsState}
use Rattle.dfu_device.specs.declared.candidate.Candidate.{Candidate}

-- Bytes of a received image: the first `stored` bytes from the medium at `at`, then the bytes that the store holds in its buffer.
abbrev pub candidate_bytes_of : SlotsState → Candidate → List ℕ
candidate_bytes_of s c = slice_range s.medium.bytes c.at (c.at + c.stored) ++ s.held
