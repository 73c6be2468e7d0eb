-- Parts of an upload that a room refuses, and their meanings for the host.
use Rattle.std.specs.Prelude.{◌≡◌, ℕ, Bool, if◌then◌else◌, List, length}
use Rattle.dfu_host.specs.declared.phase.Phase.{Phase}
use Rattle.dfu_host.specs.declared.phase.Phase.TheVariants as phase
use Rattle.dfu_host.specs.declared.heard.Heard.{Heard}
use Rattle.dfu_host.specs.declared.heard.Heard.TheVariants as heard
use Rattle.dfu_host.specs.declared.seen.Seen.{Seen}
use Rattle.dfu_host.specs.declared.seen.Seen.TheVariants as seen
use Rattle.dfu_host.specs.InParts.{bytes_kept_for_part}
use Rattle.dfu_host.specs.Rooms.{part_overflows}

-- A part that the host requested in this phase was refused exactly if the part overflows a room of `room` bytes.
abbrev pub RefusesBytesByRoom : (room t : ℕ) → Phase → (memory bytes : List ℕ) → (refused : Bool) → Type 0
RefusesBytesByRoom room t (phase.Fetch k) memory bytes refused = refused ≡ part_overflows room t k (bytes_kept_for_part k memory) bytes
RefusesBytesByRoom room t other memory bytes refused = Unit {0}

-- The bytes of an answer were refused by the rule of `RefusesBytesByRoom`. Answers without bytes are not constrained here.
abbrev pub RefusesAnswerByRoom : (room t : ℕ) → Phase → (memory : List ℕ) → Seen → (refused : Bool) → Type 0
RefusesAnswerByRoom room t phase memory (seen.Bytes bytes) refused = RefusesBytesByRoom room t phase memory bytes.now refused
RefusesAnswerByRoom room t phase memory seen.Ack refused = Unit {0}
RefusesAnswerByRoom room t phase memory seen.Stall refused = Unit {0}
RefusesAnswerByRoom room t phase memory seen.Nothing refused = Unit {0}
RefusesAnswerByRoom room t phase memory seen.Waited refused = Unit {0}
RefusesAnswerByRoom room t phase memory seen.WasReset refused = Unit {0}
RefusesAnswerByRoom room t phase memory seen.Restarted refused = Unit {0}
RefusesAnswerByRoom room t phase memory seen.Left refused = Unit {0}

-- A part of `size` bytes that the host requested in this phase means NoRoom if it was refused, else the part.
abbrev pub BytesMeaningIn : Phase → (size : ℕ) → (refused : Bool) → Heard → Type 0
BytesMeaningIn (phase.Fetch k) size refused word = word ≡ (if refused then heard.NoRoom else heard.Part size)
BytesMeaningIn other size refused word = Unit {0}

-- An answer of bytes has the meaning that `BytesMeaningIn` gives. Answers without bytes are not constrained here.
abbrev pub SeenMeaningIn : Phase → Seen → (refused : Bool) → Heard → Type 0
SeenMeaningIn phase (seen.Bytes bytes) refused word = BytesMeaningIn phase (length bytes.now) refused word
SeenMeaningIn phase seen.Ack refused word = Unit {0}
SeenMeaningIn phase seen.Stall refused word = Unit {0}
SeenMeaningIn phase seen.Nothing refused word = Unit {0}
SeenMeaningIn phase seen.Waited refused word = Unit {0}
SeenMeaningIn phase seen.WasReset refused word = Unit {0}
SeenMeaningIn phase seen.Restarted refused word = Unit {0}
SeenMeaningIn phase seen.Left refused word = Unit {0}
