-- A text is written piece by piece.
use Rattle.std.proofs.Common.{◌≡◌, ℕ, ◌<◌, List, [], ◌++◌, length, take, drop, Option, sym, ap, ◌∙◌, subst}
use Rattle.std.proofs.KnownBytes.{Appends-nil, Appends-trans, Appends-kept}
use Rattle.std.proofs.lemmas.List.{append_assoc, take-append-drop, append-nil}
use Rattle.std.specs.Io.KnownBytes.{Appends, Keeps}
use Rattle.dfu_suffix.specs.Writing.{IsPartlyWritten}

-- A prefix of `text` has been written, and `rest` is left.
abbrev pub WrittenSoFar : Option (List ℕ) → Option (List ℕ) → List ℕ → List ℕ → Type 0
WrittenSoFar old new text rest = (front : List ℕ) × (text ≡ front ++ rest) × Appends old new front

-- If the first `n` bytes of the rest are written, the bytes after them are left to write.
pub write_advances_progress : (old mid new : Option (List ℕ)) (text rest : List ℕ) (n : ℕ) →
    WrittenSoFar old mid text rest → Appends mid new (take n rest) → WrittenSoFar old new text (drop n rest)
write_advances_progress old mid new text rest n p k = (
  p.0 ++ take n rest,
  p.1 ∙ (ap (λ (zs : List ℕ). p.0 ++ zs) (sym (take-append-drop n rest))
      ∙ sym (append_assoc p.0 (take n rest) (drop n rest))),
  Appends-trans old mid new p.0 (take n rest) p.2 k,
)

-- If writing stops before the end, a prefix of the text is written, but not all of it.
pub stopped_text_is_partly_written : (old mid new : Option (List ℕ)) (text rest : List ℕ) →
    WrittenSoFar old mid text rest → 0 < length rest → Appends mid new [] → IsPartlyWritten old new text
stopped_text_is_partly_written old mid new text rest p some k = record {
  front = p.0;
  rest = rest;
  whole = p.1;
  left = some;
  told = subst (λ (zs : List ℕ). Appends old new zs) (append-nil p.0) (Appends-trans old mid new p.0 [] p.2 k);
}

-- If the contents of the writer are unchanged, no byte was written.
pub kept_contents_mean_no_bytes : (mid new : Option (List ℕ)) → Keeps mid new → Appends mid new []
kept_contents_mean_no_bytes mid new k = Appends-kept mid mid new [] (Appends-nil mid) k
