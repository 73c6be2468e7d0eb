-- Text of a plan, as lines of words, as JSON objects, or as an initialiser in C.
use Rattle.std.specs.Prelude.{ℕ, ◌+◌, ◌*◌, ◌==◌, List, [], ◌∷◌, ◌++◌, length, codes, Option, Some, None, if◌then◌else◌}
use Rattle.std.specs.Fmt.{decimal}
use Rattle.dfu_places.specs.declared.placement.Placement.{Placement}
use Rattle.dfu_places.specs.declared.placement.SlotPlaces.{SlotPlaces}
use Rattle.dfu_places.specs.declared.region.Span.{Span}
use Rattle.dfu_plan.specs.declared.text.Form.{Form}
use Rattle.dfu_plan.specs.declared.text.Form.TheVariants.{Words, Objects, Arguments}
use Rattle.dfu_plan.specs.declared.text.Plan.{Plan}
use Rattle.dfu_plan.specs.Pieces.{hexadecimal, texts_joined}

-- Number of areas: two, or three with a run area.
abbrev pub area_count : Option Span → ℕ
area_count None = 2
area_count (Some span) = 3

-- First lines of a plan: the part, the length of the bootloader, the number of areas, the largest image and the sector. In C, the text
-- before the spans.
unfoldable pub head_text : Form → (areas : ℕ) → Plan → List ℕ
head_text Words areas p = texts_joined (codes "part " ∷ p.part.now ∷ codes " boot " ∷ decimal p.boot.len ∷ codes " areas " ∷ decimal areas
    ∷ codes " image " ∷ decimal p.placement.first.data.len ∷ codes " sector " ∷ decimal p.placement.sector ∷ codes "\n" ∷ [])
head_text Objects areas p = texts_joined (codes "{\"part\":\"" ∷ p.part.now ∷ codes "\",\"boot\":" ∷ decimal p.boot.len
    ∷ codes ",\"areas\":" ∷ decimal areas ∷ codes ",\"image\":" ∷ decimal p.placement.first.data.len ∷ codes ",\"sector\":" ∷ decimal p.placement.sector
    ∷ codes "}\n" ∷ [])
head_text Arguments areas p = texts_joined (codes "\n/* dfu plan --part " ∷ p.part.now ∷ codes " --boot " ∷ decimal p.boot.len
    ∷ codes " --areas " ∷ decimal areas ∷ codes " */\nDFU_PLACEMENT(places, " ∷ decimal p.placement.sector ∷ codes ", "
    ∷ decimal p.placement.first.data.len ∷ codes ", 256, /* virtual sector, data of a slot, any unit */\n    0x"
    ∷ hexadecimal p.boot.at ∷ codes ", " ∷ decimal p.boot.len ∷ codes ", /* bootloader */\n" ∷ [])

-- Note on the source of the sectors; empty if there is none.
unfoldable pub note_line : List ℕ → List ℕ
note_line note = if length note == 0 then [] else texts_joined (codes "sectors " ∷ note ∷ codes "\n" ∷ [])

-- Line of a span: its name, its address and its length on the part. Its address in the virtual flash follows, except in C.
unfoldable pub place_line : Form → (name : List ℕ) → Span → (place : ℕ) → List ℕ
place_line Words name span place = texts_joined (name ∷ codes " at " ∷ hexadecimal span.at ∷ codes " bytes " ∷ decimal span.len
    ∷ codes " virtual " ∷ hexadecimal place ∷ codes "\n" ∷ [])
place_line Objects name span place = texts_joined (codes "{\"place\":\"" ∷ name ∷ codes "\",\"at\":\"" ∷ hexadecimal span.at
    ∷ codes "\",\"bytes\":" ∷ decimal span.len ∷ codes ",\"virtual\":\"" ∷ hexadecimal place ∷ codes "\"}\n" ∷ [])
place_line Arguments name span place =
    texts_joined (codes "    0x" ∷ hexadecimal span.at ∷ codes ", " ∷ decimal span.len ∷ codes ", /* " ∷ name ∷ codes " */\n" ∷ [])

-- Line of the data of a slot. In C, `end` follows the address, and the length is left out, because it is printed once before all spans.
abbrev pub data_line : Form → (name end : List ℕ) → Span → (place : ℕ) → List ℕ
data_line Words name end span place = place_line Words name span place
data_line Objects name end span place = place_line Objects name span place
data_line Arguments name end span place =
    texts_joined (codes "    0x" ∷ hexadecimal span.at ∷ end ∷ codes " /* " ∷ name ∷ codes " */\n" ∷ [])

-- Lines of the first slot.
abbrev pub first_slot_lines : Form → SlotPlaces → (sector : ℕ) → List ℕ
first_slot_lines form slot sector =
    place_line form (codes "first gate") slot.gate 0 ++ place_line form (codes "first header") slot.header sector
    ++ data_line form (codes "first data") (codes ",") slot.data (2 * sector)

-- Lines of the second slot, which begins at offset `place` of the virtual flash.
abbrev pub second_slot_lines : Form → SlotPlaces → (place sector : ℕ) → List ℕ
second_slot_lines form slot place sector =
    place_line form (codes "second gate") slot.gate place ++ place_line form (codes "second header") slot.header (place + sector)
    ++ data_line form (codes "second data") (codes ");") slot.data (place + 2 * sector)

-- Lines of both slots.
abbrev pub places_text : Form → Placement → List ℕ
places_text form p =
    first_slot_lines form p.first p.sector ++ second_slot_lines form p.second (2 * p.sector + p.first.data.len) p.sector

-- Line of a run area, which has no address in the virtual flash.
unfoldable pub run_line : Form → Span → List ℕ
run_line Words span = texts_joined (codes "run area at " ∷ hexadecimal span.at ∷ codes " bytes " ∷ decimal span.len ∷ codes "\n" ∷ [])
run_line Objects span = texts_joined (codes "{\"place\":\"run area\",\"at\":\"" ∷ hexadecimal span.at ∷ codes "\",\"bytes\":"
    ∷ decimal span.len ∷ codes "}\n" ∷ [])
run_line Arguments span = texts_joined (codes "#define RUN_AREA 0x" ∷ hexadecimal span.at ∷ codes "u\n" ∷ [])

-- Line of the run area; empty if there is none.
abbrev pub run_text : Form → Option Span → List ℕ
run_text form None = []
run_text form (Some span) = run_line form span

-- Lines of a plan, without the note.
abbrev pub plan_lines : Form → Plan → List ℕ
plan_lines form p = head_text form (area_count p.placement.run) p ++ places_text form p.placement ++ run_text form p.placement.run

-- Text of a plan: its lines, the note, and the initialiser in C.
abbrev pub plan_text : Plan → List ℕ
plan_text p = plan_lines Words p ++ note_line p.note.now ++ plan_lines Arguments p

-- JSON objects of a plan.
abbrev pub plan_objects : Plan → List ℕ
plan_objects p = plan_lines Objects p
