-- Facts about the steps that read a DfuSe file one after the other.
use Rattle.std.proofs.Common.{◌≡◌, ◌≢◌, ℕ, zero, suc, ◌-◌, ◌≤◌, Bool, true, false, cond, eqb, Result, Ok, Err, inl, inr, refl, arith}
use Rattle.std.proofs.lemmas.Bool.Decides.{eqb_tells}
use Rattle.dfu_formats.specs.declared.dfuse.fault.FileFault.{FileFault}
use Rattle.dfu_formats.specs.dfuse.Reading.{◌>>=◌}

-- If two steps in sequence return a value, the first step returned a value, and the second step computed the result from it.
pub ok_sequence_has_ok_steps : {A B : Type 0} (r : Result A FileFault) (k : A → Result B FileFault) (x : B) → (r >>= k) ≡ Ok x →
    (y : A) × (r ≡ Ok y) × (k y ≡ Ok x)
ok_sequence_has_ok_steps (Ok y) k x h = (y, refl, h)
ok_sequence_has_ok_steps (Err fault) k x h = cc

-- If the first of two steps in sequence returns a fault, they return no value.
pub faulty_step_gives_no_value : {A B : Type 0} (r : Result A FileFault) (k : A → Result B FileFault) (fault : FileFault) (x : B) → r
    ≡ Err fault →
    (r >>= k) ≡ Ok x → ⊥
faulty_step_gives_no_value (Ok y) k fault x is h = cc
faulty_step_gives_no_value (Err other) k fault x is h = cc

-- If a check and the steps after it return a value, the check found no fault, and the steps returned this value.
pub passed_condition_is_false : {A : Type 0} (t : Bool) (fault : FileFault) (r : Result A FileFault) (x : A) → cond t (Err fault) r ≡ Ok x →
    (t ≡ false) × (r ≡ Ok x)
passed_condition_is_false true fault r x h = (cc, cc)
passed_condition_is_false false fault r x h = (refl, h)

-- If a check finds no fault, the result is that of the steps after it.
pub false_condition_is_skipped : {A : Type 0} (t : Bool) (fault : FileFault) (r s : Result A FileFault) → t ≡ false → r ≡ s →
    cond t (Err fault) r ≡ s
false_condition_is_skipped true fault r s h e = cc
false_condition_is_skipped false fault r s h e = e

-- If two results without faults are equal, their values are equal.
pub ok_values_equal : {A : Type 0} (x y : A) → ◌≡◌ {A = Result A FileFault} (Ok x) (Ok y) → x ≡ y
ok_values_equal x y h = cc

-- A number of at least 1 fails the test for 0.
pub positive_number_is_not_zero : (a : ℕ) → 1 ≤ a → eqb a 0 ≡ false
positive_number_is_not_zero a h = elim (eqb_tells a 0) [ inl p ↦ absurd (omega (arith, p.1)) | inr p ↦ p.0 ]

-- A number that fails the test for 0 is at least 1.
pub zero_test_false_means_positive : (a : ℕ) → eqb a 0 ≡ false → 1 ≤ a
zero_test_false_means_positive zero h = cc
zero_test_false_means_positive (suc n) h = omega arith

-- A number other than 0 is one more than its predecessor.
pub positive : (n : ℕ) → n ≢ 0 → n ≡ suc (n - 1)
positive zero h = absurd (h refl)
positive (suc n) h = omega arith
