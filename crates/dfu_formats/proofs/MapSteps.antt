-- If a map is read without a fault, none of the steps has a fault.
use Rattle.std.proofs.Common.{◌≡◌, ℕ, ◌≤◌, Bool, true, false, cond, eqb, List, [], ◌∷◌, refl, Option, Some, None, Result, Ok, Err, zero, suc, arith}
use Rattle.std.proofs.lemmas.Bool.{eqb-true}
use Rattle.dfu_formats.specs.declared.memory.fault.MapFault.{MapFault}
use Rattle.dfu_formats.specs.memory.Reading.{NumberRead, ◌>>=◌, value_or_map_fault, nonzero_count, text_after_byte}

-- A number that fails the test for 0 is at least 1.
pub nonzero_number_positive : (n : ℕ) → eqb n 0 ≡ false → 1 ≤ n
nonzero_number_positive zero h = absurd (cc)
nonzero_number_positive (suc n) h = omega arith

-- If two steps in sequence return a value, the first step returned a value, and the second step computed the result from it.
pub both_steps_ok : {A B : Type 0} (r : Result A MapFault) (f : A → Result B MapFault) (y : B) → (r >>= f) ≡ Ok y → (x : A) × (r
    ≡ Ok x) × (f x ≡ Ok y)
both_steps_ok (Ok x) f y h = (x, refl, h)
both_steps_ok (Err fault) f y h = cc

-- If `value_or_map_fault` returns a value, the option contains this value.
pub value_or_fault_was_some : {A : Type 0} (fault : MapFault) (o : Option A) (x : A) → value_or_map_fault fault o ≡ Ok x → o ≡ Some x
value_or_fault_was_some fault None x h = cc
value_or_fault_was_some fault (Some y) x h = cc

-- If the test for 0 doesn't return the fault, it returns the number unchanged, and the number isn't 0.
nonzero_count_by_test : (fault : MapFault) (n m : NumberRead) (t : Bool) → eqb n.value 0 ≡ t →
    ◌≡◌ {A = Result NumberRead MapFault} (cond t (Err fault) (Ok n)) (Ok m) → (n ≡ m) × (eqb n.value 0 ≡ false)
nonzero_count_by_test fault n m true e h = cc
nonzero_count_by_test fault n m false e h = (cc, e)

-- A number that passed `nonzero_count` is unchanged, and at least 1.
pub nonzero_count_is_positive : (fault : MapFault) (n m : NumberRead) → nonzero_count fault n ≡ Ok m → (n ≡ m) × (1 ≤ n.value)
nonzero_count_is_positive fault n m h =
    let b = nonzero_count_by_test fault n m (eqb n.value 0) refl h in (b.0, nonzero_number_positive n.value b.1)

-- If the text after the first byte is returned because this byte is `b`, the text begins with `b`.
byte_taken_by_test : (b c : ℕ) (cs rest : List ℕ) (t : Bool) → eqb c b ≡ t → cond t (Some cs) None ≡ Some rest → c ∷ cs ≡ b ∷ rest
byte_taken_by_test b c cs rest true e h =
    let byte = eqb-true c b e in
    let same : cs ≡ rest = cc in
    cc
byte_taken_by_test b c cs rest false e h = cc

-- If `text_after_byte` returns the text after byte `b`, the text begins with `b`.
pub byte_taken_was_first : (b : ℕ) (text rest : List ℕ) → text_after_byte b text ≡ Some rest → text ≡ b ∷ rest
unfolding text_after_byte
byte_taken_was_first b [] rest h = cc
byte_taken_was_first b (c ∷ cs) rest h = byte_taken_by_test b c cs rest (eqb c b) refl h
