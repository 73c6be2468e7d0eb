-- State of a medium, and the effects that a write may have on it.
use Rattle.std.specs.Prelude.{◌≡◌, ◌≢◌, ◌⊎◌, ℕ, ◌+◌, ◌-◌, ◌^◌, ◌%◌, ◌≤◌, ◌<◌, min, max, Bool, true, false, List, [], ◌∷◌, ◌++◌, length, take, drop, replicate, slice_index, slice_range}
use Rattle.dfu_slots.specs.Units.{Grain}
use Rattle.dfu_slots.specs.declared.fault.WriteFault.{WriteFault}
use Rattle.dfu_slots.specs.declared.fault.WriteFault.TheVariants.{Failed, NotVerified}

-- Fuse of a medium: the known behaviour of its next writes.
pub data Fuse : Type 0 where
  -- Nothing is known about the next writes: any of them may fail.
  Unknown : Fuse
  -- No write fails.
  Whole : Fuse
  -- The next `writes` writes work, and the one after them fails. The failed write stores the first bytes of `tear`, as many as fit into its
  -- range. With `stop` every later write fails too and leaves the old bytes; without `stop` the later ones work.
  Armed : (writes : ℕ) (tear : List ℕ) (stop : Bool) → Fuse
  -- The next `writes` writes work, and the one after them lies: it returns Ok, but stores only the first bytes of `tear`, as many as fit
  -- into its range. The later writes work.
  Lying : (writes : ℕ) (tear : List ℕ) → Fuse
  -- Every write fails and leaves the old bytes.
  Stopped : Fuse

-- State of a medium: its bytes, its count of writes that failed or lied, its fuse, its grain, and a tag that its implementer chooses.
pub record MediumState : Type 0 where
  pub bytes : List ℕ
  pub failures : ℕ
  pub fuse : Fuse
  pub grain : Grain
  pub tag : List ℕ

-- Medium of `len` bytes FFh whose fuse is `Whole`, and on which no write has failed.
abbrev pub blank_medium : Grain → ℕ → MediumState
blank_medium grain len = record { bytes = replicate len 255; failures = 0; fuse = Whole; grain = grain; tag = [] }

-- Bytes of a medium after `new` was written over the bytes `old` at offset `at`.
abbrev pub written : List ℕ → ℕ → List ℕ → List ℕ
written old at new = take at old ++ new ++ drop (at + length new) old

-- The n bytes from `at` on are blank: each is FFh, as after an erase.
abbrev pub IsBlank : List ℕ → ℕ → ℕ → Type 0
IsBlank bytes at n = slice_range bytes at (at + n) ≡ replicate n 255

-- Each byte of the medium from `at` on is FFh, up to the first sector that begins at `to` or later.
abbrev pub IsErasedToSector : ℕ → List ℕ → ℕ → ℕ → Type 0
IsErasedToSector sector bytes at to = (p : ℕ) → at ≤ p → p < length bytes → ((q : ℕ) → to ≤ q → q ≤ p → q % sector ≢ 0) →
    slice_index bytes p ≡ 255

-- The next write may begin at offset `at`: the medium has no sectors, or every byte from `at` up to the next sector is FFh.
abbrev pub IsWritableAhead : MediumState → ℕ → Type 0
IsWritableAhead m at = 0 < m.grain.sector → IsErasedToSector m.grain.sector m.bytes at at

-- A range is writable if the medium has no sectors, or every byte of the range is FFh.
abbrev pub IsWritable : MediumState → ℕ → ℕ → Type 0
IsWritable m at n = 0 < m.grain.sector → (p : ℕ) → at ≤ p → p < at + n → slice_index m.bytes p ≡ 255

-- Bytes changed only in the range from `from` up to, not including, `to`.
pub record ChangedWithin (from to : ℕ) (old now : List ℕ) : Type 0 where
  pub size : length now ≡ length old
  pub before : take from now ≡ take from old
  pub after : drop to now ≡ drop to old

-- A write was torn: its range may hold any bytes, and all other bytes are the old ones.
abbrev pub Torn : List ℕ → ℕ → List ℕ → List ℕ → Type 0
Torn old at new left = ChangedWithin at (at + length new) old left

-- The count of failures rose, or it stays at its maximum, 2^64 - 1.
abbrev pub CountRose : ℕ → ℕ → Type 0
CountRose before now = max before (min (before + 1) (2 ^ 64 - 1)) ≤ now

-- Bytes after a torn write: its range begins with the first bytes of the tear, at most as many as the write has, and holds the old bytes
-- after them.
abbrev pub torn_bytes : List ℕ → ℕ → List ℕ → List ℕ → List ℕ
torn_bytes old at new tear = written old at (take (length new) tear)

-- A write with this fuse may work and leave the fuse `next`. A lie that stores all bytes correctly counts as a write that worked.
abbrev pub WriteMayWork : Fuse → List ℕ → ℕ → List ℕ → Fuse → Type 0
WriteMayWork Unknown old at new next = next ≡ Unknown
WriteMayWork Whole old at new next = next ≡ Whole
WriteMayWork (Armed writes tear stop) old at new next = (more : ℕ) × (writes ≡ more + 1) × (next ≡ Armed more tear stop)
WriteMayWork (Lying writes tear) old at new next = ((more : ℕ) × (writes ≡ more + 1) × (next ≡ Lying more tear))
    ⊎ ((writes ≡ 0) × (torn_bytes old at new tear ≡ written old at new) × (next ≡ Whole))
WriteMayWork Stopped old at new next = ⊥

-- A write on a medium with this fuse may have this fault, and leave the bytes `left` and the fuse `next`.
abbrev pub WriteMayFail : Fuse → WriteFault → List ℕ → ℕ → List ℕ → List ℕ → Fuse → Type 0
WriteMayFail Unknown fault old at new left next = next ≡ Unknown
WriteMayFail Whole fault old at new left next = ⊥
WriteMayFail (Armed writes tear true) Failed old at new left next = (writes ≡ 0) × (left ≡ torn_bytes old at new tear) × (next ≡ Stopped)
WriteMayFail (Armed writes tear false) Failed old at new left next = (writes ≡ 0) × (left ≡ torn_bytes old at new tear) × (next ≡ Whole)
WriteMayFail (Armed writes tear stop) NotVerified old at new left next = ⊥
WriteMayFail (Lying writes tear) Failed old at new left next = ⊥
WriteMayFail (Lying writes tear) NotVerified old at new left next =
    (writes ≡ 0) × (left ≡ torn_bytes old at new tear) × (left ≢ written old at new) × (next ≡ Whole)
WriteMayFail Stopped Failed old at new left next = (left ≡ old) × (next ≡ Stopped)
WriteMayFail Stopped NotVerified old at new left next = ⊥

-- A write worked: its range holds exactly the written bytes, and the count of failures did not fall.
pub record WroteBytes (old : MediumState) (at : ℕ) (new : List ℕ) (now : MediumState) : Type 0 where
  pub bytes : now.bytes ≡ written old.bytes at new
  pub failures : old.failures ≤ now.failures
  pub fuse : WriteMayWork old.fuse old.bytes at new now.fuse
  pub grain : now.grain ≡ old.grain
  pub tag : now.tag ≡ old.tag

-- A write returned Failed, or it lied. Its range may be torn, and the count of failures rose or is at its maximum.
pub record FailedWrite (fault : WriteFault) (old : MediumState) (at : ℕ) (new : List ℕ) (now : MediumState) : Type 0 where
  pub bytes : Torn old.bytes at new now.bytes
  pub failures : CountRose old.failures now.failures
  pub fuse : WriteMayFail old.fuse fault old.bytes at new now.bytes now.fuse
  pub grain : now.grain ≡ old.grain
  pub tag : now.tag ≡ old.tag

-- A write returned Ok: it worked, or it lied.
abbrev pub WroteOrLied : MediumState → ℕ → List ℕ → MediumState → Type 0
WroteOrLied old at new now = WroteBytes old at new now ⊎ FailedWrite NotVerified old at new now

-- A write: its offset and its bytes.
pub record Write : Type 0 where
  pub at : ℕ
  pub bytes : List ℕ

-- All writes of a list worked, one after the other.
abbrev pub AllWrites : MediumState → List Write → MediumState → Type 0
AllWrites old [] now = now ≡ old
AllWrites old (w ∷ ws) now = (next : MediumState) × WroteBytes old w.at w.bytes next × AllWrites next ws now

-- The writes of a list worked up to one that had this fault, and no later write was made.
abbrev pub BrokenWrites : WriteFault → MediumState → List Write → MediumState → Type 0
BrokenWrites fault old [] now = ⊥
BrokenWrites fault old (w ∷ ws) now = FailedWrite fault old w.at w.bytes now
    ⊎ ((next : MediumState) × WroteBytes old w.at w.bytes next × BrokenWrites fault next ws now)
