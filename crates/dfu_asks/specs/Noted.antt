-- Notes of the active image, and the offsets in a medium that follow from them.
use Rattle.std.specs.Prelude.{◌≡◌, ℕ, ◌+◌, ◌≤◌, List, length, if◌then◌else◌}
use Rattle.dfu_slots.specs.Medium.{MediumState}
use Rattle.dfu_slots.specs.Layout.{OPEN, slot_size, header_length}
use Rattle.dfu_slots.specs.Image.{gate_of, slot_of, capacity_of, active_at, IsSizedMedium}
use Rattle.dfu_asks.specs.declared.noted.Noted.{Noted}
use Rattle.dfu_asks.specs.declared.noted.View.{View}

-- Offset of the noted slot: half the size of the flash if the note names the second slot, else 0.
abbrev pub noted_slot_place : Noted → List ℕ → ℕ
noted_slot_place n bytes = if n.second then slot_size bytes else 0

-- Offset of the slot that is not noted: 0 if the note names the second slot, else half the size of the flash.
abbrev pub other_slot_place : Noted → List ℕ → ℕ
other_slot_place n bytes = if n.second then 0 else slot_size bytes

-- The note describes the medium: it names the active slot, and contains that slot's header.
pub record IsNoteOfMedium (n : Noted) (m : MediumState) : Type 0 where
  pub place : noted_slot_place n m.bytes ≡ active_at (gate_of m) m.bytes
  pub header : n.header ≡ (slot_of m (active_at (gate_of m) m.bytes)).header

-- The medium consists of two slots. The noted slot is open, has the noted header, and can hold an image of the header's length.
pub record NotedIsOnFlash (n : Noted) (m : MediumState) : Type 0 where
  pub sized : IsSizedMedium m
  pub is_open : (slot_of m (noted_slot_place n m.bytes)).gate ≡ OPEN
  pub header : (slot_of m (noted_slot_place n m.bytes)).header ≡ n.header
  pub fits : header_length (slot_of m (noted_slot_place n m.bytes)) ≤ capacity_of m

-- The view contains the offsets and lengths that follow from the note of the medium.
pub record IsNoteView (v : View) (n : Noted) (m : MediumState) : Type 0 where
  pub stands : NotedIsOnFlash n m
  pub active : v.active ≡ noted_slot_place n m.bytes
  pub spare : v.spare ≡ other_slot_place n m.bytes
  pub room : v.room ≡ capacity_of m
  pub len : v.len ≡ header_length (slot_of m (noted_slot_place n m.bytes))
  pub active_end : v.active + slot_size m.bytes ≤ length m.bytes
  pub spare_end : v.spare + slot_size m.bytes ≤ length m.bytes
