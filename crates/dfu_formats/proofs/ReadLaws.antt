-- Lines, or parts of equal size, are read one after the other.
use Rattle.std.proofs.Common.{◌≡◌, ℕ, suc, take, drop, ◌+◌, true, false, List, [], ◌∷◌, refl, sym, ap, ◌∙◌, subst, Result, Ok, Err}
use Rattle.dfu_formats.specs.declared.images.fault.ImageFault.{ImageFault}
use Rattle.dfu_formats.specs.declared.images.fault.ImageFault.TheVariants as fault
use Rattle.dfu_formats.specs.images.Reading.{◌>>=◌, parts_read, IsReadFault}
use Rattle.dfu_formats.specs.images.Lines.{State, bare_line, lines_read}

-- If the first of two steps in sequence returns a fault, both together return this fault.
pub failed_step_fails_all : {A B : Type 0} (fault : ImageFault) (r : Result A ImageFault) (f : A → Result B ImageFault) →
    IsReadFault fault r →
    IsReadFault fault (r >>= f)
failed_step_fails_all fault.NoMemory r f h = tt
failed_step_fails_all fault r f h = rw h refl

lines_read_of_first : (read : ℕ → State → List ℕ → Result State ImageFault) (at : ℕ) (s : State) (line : List ℕ) (more : List (List ℕ)) →
    lines_read read at s (line ∷ more) ≡ (read at s (bare_line line) >>= λ (t : State). lines_read read (at + 1) t more)
unfolding lines_read
lines_read_of_first read at s line more = refl

-- After a line is read, the result for the other lines, read from the new state, is the result for the whole text.
pub read_line_leaves_rest : (read : ℕ → State → List ℕ → Result State ImageFault) (at : ℕ) (s t : State) (line kept : List ℕ) (more all :
    List (List ℕ)) (whole : Result State ImageFault) → all ≡ line ∷ more →
    kept ≡ bare_line line → read at s kept ≡ Ok t → lines_read read at s all ≡ whole → lines_read read (at + 1) t more ≡ whole
read_line_leaves_rest read at s t line kept more all whole e k h so_far =
    sym (ap (lines_read read at s) e ∙ (lines_read_of_first read at s line more
    ∙ ap (λ (r : Result State ImageFault). r >>= λ (t : State). lines_read read (at + 1) t more) (ap (read at s) (sym k) ∙ h))) ∙ so_far

-- If reading the next line fails, the fault of this line is the result for the whole text.
pub line_fault_is_text_fault : (read : ℕ → State → List ℕ → Result State ImageFault) (fault : ImageFault) (at : ℕ) (s : State) (line kept :
    List ℕ) (more all : List (List ℕ)) (whole : Result State ImageFault) → all ≡ line ∷ more →
    kept ≡ bare_line line → IsReadFault fault (read at s kept) → lines_read read at s all ≡ whole → IsReadFault fault whole
line_fault_is_text_fault read fault at s line kept more all whole e k h so_far =
    let f = failed_step_fails_all fault (read at s (bare_line line)) (λ (t : State). lines_read read (at + 1) t more)
    (subst (λ (kept : List ℕ). IsReadFault fault (read at s kept)) k h) in
    subst (IsReadFault fault) (sym (lines_read_of_first read at s line more) ∙ (sym (ap (lines_read read at s) e) ∙ so_far)) f

-- With no line left, the result is the state, if the text may end there.
whole_text_ends : (read : ℕ → State → List ℕ → Result State ImageFault) (at : ℕ) (s : State) → s.is_whole ≡ true →
    lines_read read at s [] ≡ Ok s
unfolding lines_read
whole_text_ends read at s h = rw h refl

-- With no line left, the result is `NoEnd`, unless the text may end there.
text_needs_end_record : (read : ℕ → State → List ℕ → Result State ImageFault) (at : ℕ) (s : State) → s.is_whole ≡ false →
    lines_read read at s [] ≡ Err fault.NoEnd
unfolding lines_read
text_needs_end_record read at s h = rw h refl

-- If the text may end after its last line, the result is the state there.
pub whole_end_gives_state : (read : ℕ → State → List ℕ → Result State ImageFault) (at : ℕ) (s : State) (whole : Result State ImageFault)
    → s.is_whole ≡ true → lines_read read at s [] ≡ whole → whole ≡ Ok s
whole_end_gives_state read at s whole h so_far = sym so_far ∙ whole_text_ends read at s h

-- If the text may not end after its last line, the result is `NoEnd`.
pub missing_end_is_fault : (read : ℕ → State → List ℕ → Result State ImageFault) (at : ℕ) (s : State) (whole : Result State ImageFault) →
    s.is_whole ≡ false → lines_read read at s [] ≡ whole → whole ≡ Err fault.NoEnd
missing_end_is_fault read at s whole h so_far = sym so_far ∙ text_needs_end_record read at s h

parts_read_of_next : {S : Type 0} (size : ℕ) (read : ℕ → S → List ℕ → Result S ImageFault) (n index : ℕ) (s : S) (bytes : List ℕ) →
    parts_read size read (suc n) index s bytes ≡ (read index s (take size bytes) >>= λ (t : S). parts_read size read n (index + 1) t (drop size bytes))
unfolding parts_read
parts_read_of_next size read n index s bytes = refl

-- After a part is read, the result for the other parts, read from the new state, is the result for all parts.
pub read_part_leaves_rest : {S : Type 0} (size : ℕ) (read : ℕ → S → List ℕ → Result S ImageFault) (left n index : ℕ) (s t : S)
    (bytes part behind : List ℕ)
    (whole : Result S ImageFault) → left ≡ suc n → part ≡ take size bytes → behind ≡ drop size bytes → read index s part ≡ Ok t →
    parts_read size read left index s bytes ≡ whole → parts_read size read n (index + 1) t behind ≡ whole
read_part_leaves_rest {S = S} size read left n index s t bytes part behind whole e p b h so_far =
    let all = ap (λ (k : ℕ). parts_read size read k index s bytes) e ∙ (parts_read_of_next size read n index s bytes
    ∙ ap (λ (r : Result S ImageFault). r >>= λ (t : S). parts_read size read n (index + 1) t (drop size bytes)) (ap (read index s) (sym p) ∙ h)) in
    ap (parts_read size read n (index + 1) t) b ∙ (sym all ∙ so_far)

-- If reading the next part fails, the fault of this part is the result for all parts.
pub part_fault_is_file_fault : {S : Type 0} (size : ℕ) (read : ℕ → S → List ℕ →
    Result S ImageFault) (fault : ImageFault) (left n index : ℕ) (s : S)
    (bytes part : List ℕ) (whole : Result S ImageFault) → left ≡ suc n → part ≡ take size bytes → IsReadFault fault (read index s part) →
    parts_read size read left index s bytes ≡ whole → IsReadFault fault whole
part_fault_is_file_fault {S = S} size read fault left n index s bytes part whole e p h so_far =
    let f = failed_step_fails_all fault (read index s (take size bytes)) (λ (t : S). parts_read size read n (index + 1) t (drop size bytes))
    (subst (λ (part : List ℕ). IsReadFault fault (read index s part)) p h) in
    subst (IsReadFault fault) (sym (parts_read_of_next size read n index s bytes)
    ∙ (sym (ap (λ (k : ℕ). parts_read size read k index s bytes) e) ∙ so_far)) f

no_parts_leave_state : {S : Type 0} (size : ℕ) (read : ℕ → S → List ℕ → Result S ImageFault) (index : ℕ) (s : S) (bytes : List ℕ) →
    parts_read size read 0 index s bytes ≡ Ok s
unfolding parts_read
no_parts_leave_state size read index s bytes = refl

-- Once no part is left, the result is the state.
pub last_state_is_result : {S : Type 0} (size : ℕ) (read : ℕ → S → List ℕ → Result S ImageFault) (left index : ℕ) (s : S) (bytes : List ℕ)
    (whole : Result S ImageFault) → left ≡ 0 → parts_read size read left index s bytes ≡ whole → whole ≡ Ok s
last_state_is_result size read left index s bytes whole e so_far =
    sym so_far ∙ (ap (λ (k : ℕ). parts_read size read k index s bytes) e ∙ no_parts_leave_state size read index s bytes)
