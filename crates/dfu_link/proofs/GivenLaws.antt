-- Lines that a source reads, in their order.
use Rattle.std.proofs.Common.{◌≡◌, ℕ, ◌-◌, List, [], ◌++◌, length, Option, Some, None, refl, sym, ap, ◌∙◌, subst, append_assoc, arith, length-append}
use Rattle.std.specs.Prelude.{IfSome}
use Rattle.dfu_link.specs.Words.{lines_of}
use Rattle.dfu_link.specs.TextLimit.{ReadingIsStopped, ReadingStopsAfter}
use Rattle.dfu_link.specs.inside.Source.{SourceState, LinesRead, LinesReadFrom, SourceLines}
use Rattle.dfu_link.specs.declared.scripting.fault.ScriptFault.{ScriptFault}

-- If an optional value is x, and a property holds for the optional value, the property holds for x.
pub value_has_property : {A : Type 0} (o : Option A) (P : A → Type 0) (x : A) → o ≡ Some x → IfSome o P → P x
value_has_property {A = A} o P x e h = subst (λ (p : Option A). IfSome p P) e h

-- Reading no line leaves a text unchanged.
no_lines_keep_text : (text : List ℕ) (room : ℕ) → LinesRead text room [] text room
no_lines_keep_text text room = record { front = []; split = refl; are = refl; rooms = omega arith }

-- Two lists of lines that are read one after the other are read as one list.
pub lines_read_join : {text mid left : List ℕ} {room room1 room2 : ℕ} {xs ys : List (List ℕ)} → LinesRead text room xs mid room1
    → LinesRead mid room1 ys left room2 → LinesRead text room (xs ++ ys) left room2
lines_read_join {left = left} {xs = xs} {ys = ys} a b = record {
  front = a.front ++ b.front;
  split = a.split ∙ (ap (λ (zs : List ℕ). a.front ++ zs) b.split ∙ sym (append_assoc a.front b.front left));
  are = a.are ∙ (ap (λ (zs : List (List ℕ)). xs ++ zs) b.are ∙ sym (append_assoc xs ys (lines_of left)));
  rooms = omega (arith, a.rooms, b.rooms, length-append a.front b.front);
}

-- Reading no line leaves the rest of a text unchanged.
no_lines_keep_rest : (left : Option (List ℕ)) (room : ℕ) → LinesReadFrom left room [] left room
no_lines_keep_rest None room = tt
no_lines_keep_rest (Some text) room = no_lines_keep_text text room

-- If the text is known, two lists of lines that are read one after the other are read as one list.
lines_read_from_join : (a b c : Option (List ℕ)) (room room1 room2 : ℕ) (xs ys : List (List ℕ)) → LinesReadFrom a room xs b room1 →
    LinesReadFrom b room1 ys c room2
    → LinesReadFrom a room (xs ++ ys) c room2
lines_read_from_join None b c room room1 room2 xs ys h k = tt
lines_read_from_join (Some a) None c room room1 room2 xs ys h k = absurd h
lines_read_from_join (Some a) (Some b) None room room1 room2 xs ys h k = absurd k
lines_read_from_join (Some a) (Some b) (Some c) room room1 room2 xs ys h k = lines_read_join h k

-- A source that reads no line does not change.
pub source_gives_no_line : (s : SourceState) → SourceLines s [] s
source_gives_no_line s = record { count = omega arith; takes = no_lines_keep_rest s.left s.room }

-- If a source reads two lists of lines one after the other, it reads both joined as one list.
pub source_lines_join : {r s t : SourceState} {xs ys : List (List ℕ)} → SourceLines r xs s → SourceLines s ys t → SourceLines r (xs
    ++ ys) t
source_lines_join {r = r} {s = s} {t = t} {xs = xs} {ys = ys} a b = record {
  count = omega (arith, a.count, b.count, length-append xs ys);
  takes = lines_read_from_join r.left s.left t.left r.room s.room t.room xs ys a.takes b.takes;
}

-- If a text is known, the lines are read from it, and the rest is known too.
known_text_is_read : {text : List ℕ} (a b : Option (List ℕ)) (room room' : ℕ) (xs : List (List ℕ)) →
    LinesReadFrom a room xs b room' → a ≡ Some text
    → (left : List ℕ) × (b ≡ Some left) × LinesRead text room xs left room'
known_text_is_read None b room room' xs h e = cc
known_text_is_read (Some a) None room room' xs h e = absurd h
known_text_is_read {text = text} (Some a) (Some b) room room' xs h e =
    let same : a ≡ text = cc in
    (b, refl, subst (λ (t : List ℕ). LinesRead t room xs b room') same h)

-- If the text is known, the lines of its source are read from it, and the rest is known too.
pub source_reads_named_text : {text : List ℕ} (s s' : SourceState) (xs : List (List ℕ)) → SourceLines s xs s' → s.left ≡ Some text
    → (left : List ℕ) × (s'.left ≡ Some left) × LinesRead text s.room xs left s'.room
source_reads_named_text s s' xs g e = known_text_is_read s.left s'.left s.room s'.room xs g.takes e

-- If lines were read from a text, and reading is stopped in the rest of the text, reading the text stops in the line after these lines.
pub reading_stops_after : {text left : List ℕ} {xs : List (List ℕ)} {room : ℕ} (fault : ScriptFault) → LinesRead text 16777216 xs left room
    → ReadingIsStopped room left fault → ReadingStopsAfter text xs fault
reading_stops_after {left = left} {room = room} fault t stopped =
    let same : room ≡ 16777216 - length t.front = omega (arith, t.rooms) in (
      record { front = t.front; left = left; split = t.split; are = t.are; within = omega (arith, t.rooms) },
      subst (λ (n : ℕ). ReadingIsStopped n left fault) same stopped,
    )
