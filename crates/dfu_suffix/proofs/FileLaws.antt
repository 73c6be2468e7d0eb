-- If content is read from the end of a file, the file follows the grammar.
use Rattle.std.proofs.Common.{◌≡◌, ℕ, ◌+◌, ◌-◌, List, length, drop, Option, Some, None, Result, Ok, Err, refl, sym, ap, ◌∙◌, subst, arith, length-append}
use Rattle.std.specs.Prelude.{find}
use Rattle.std.specs.Int.{w32, to_le_bytes}
use Rattle.std.proofs.Common.{IfOk}
use Rattle.std.proofs.lemmas.List.{drop_at}
use Rattle.byteorder.specs.Endian.{little_number}
use Rattle.dfu_suffix.specs.Register.{register}
use Rattle.dfu_suffix.specs.Laws.{AreBytes}
use Rattle.dfu_suffix.specs.Grammar.{Content, IsFile, before_crc, has_fault, fault_order}
use Rattle.dfu_suffix.specs.inside.Reading.{content_of, content_unless_fault, read_content}
use Rattle.dfu_wire.specs.declared.ids.Ids.{Ids}
use Rattle.dfu_suffix.specs.declared.fault.SuffixFault.{SuffixFault}
use Rattle.dfu_suffix.proofs.OneReading.{register-fits, four_bytes_give_number_back}
use Rattle.dfu_suffix.proofs.NoFault.{faultless_bytes_are_sound, suffix_length_counts_extra, extra_bytes_of, faultless_bytes_are_file}

-- If `content_unless_fault` returns content, the option contains no fault, and the content is the given one.
ok_content_has_no_fault : (o : Option SuffixFault) (c d : Content) → content_unless_fault o c ≡ Ok d → (o ≡ None) × (c ≡ d)
ok_content_has_no_fault None c d h = (refl, cc)
ok_content_has_no_fault (Some x) c d h = (cc, cc)

-- ---- the laws of reading

-- The bytes are a file of the grammar with this content, for some extra bytes.
abbrev pub IsContentOf : List ℕ → Content → Type 0
IsContentOf b c = (extra : List ℕ) × IsFile c.payload c.ids c.dfu extra b × (c.suffix ≡ 16 + length extra)

-- If content is read from bytes, they are a file of the grammar with this content.
pub read_content_is_of_file : (b : List ℕ) (c : Content) → AreBytes b → read_content b ≡ Ok c → IsContentOf b c
unfolding read_content
read_content_is_of_file b c f h =
    let p = ok_content_has_no_fault (find (has_fault b) fault_order) (content_of b) c h in
    let s = faultless_bytes_are_sound b p.0 in
    subst (λ (d : Content). IsContentOf b d) p.1 (
      extra_bytes_of b,
      faultless_bytes_are_file b s f,
      sym (suffix_length_counts_extra b
          s.formed),
    )

-- `IfOk r P` holds if `P` holds for the value of `r` whenever `r` is `Ok`.
pub each_value_gives_if_ok : {T E : Type 0} (r : Result T E) (P : T → Type 0) → ((x : T) → r ≡ Ok x → P x) → IfOk r P
each_value_gives_if_ok (Ok x) P f = f x refl
each_value_gives_if_ok (Err e) P f = tt

-- ---- the end of a file of the grammar

-- The last four bytes of a file are its dwCRC.
pub file_ends_in_its_crc : (payload : List ℕ) (ids : Ids) (dfu : ℕ) (extra b : List ℕ) → IsFile payload ids dfu extra b →
    little_number 4 (drop (length b - 4) b) ≡ register (before_crc payload ids dfu extra)
file_ends_in_its_crc payload ids dfu extra b h =
    let front = before_crc payload ids dfu extra in
    let q = to_le_bytes w32 (register front) in
    let len : length front ≡ length b - 4 = omega (arith, ap length h.spelled, length-append front q) in
    let last : drop (length b - 4) b ≡ q = ap (drop (length b - 4)) h.spelled ∙ drop_at front q (length b - 4) len in
    ap (little_number 4) last ∙ four_bytes_give_number_back (register front) (register-fits front)
