-- States and their indices in the list of all twelve.
use Rattle.std.specs.Prelude.{◌≡◌, ℕ, ◌<◌, ◌==◌, true, if◌then◌else◌}
use Rattle.std.proofs.Common.{refl, sym, ap, ◌∙◌, lit<}
use Rattle.std.proofs.lemmas.Bool.{agree_below_at, eqb-true}
use Rattle.dfu_conformance.specs.declared.row.StandardState.{StandardState}
use Rattle.dfu_conformance.specs.declared.row.StandardState.TheVariants.{AppIdle, AppDetach, DfuIdle, DownloadSync, DownloadBusy, DownloadIdle, ManifestSync, Manifest, ManifestWaitReset, UploadIdle, Error, Fresh}
use Rattle.dfu_conformance.specs.RowMatches.{place_number}

-- State at an index in the list of all twelve, or `Fresh` for 11 and above.
abbrev pub place_of_number : ℕ → StandardState
place_of_number n =
    if n == 0 then AppIdle else
    if n == 1 then AppDetach else
    if n == 2 then DfuIdle else
    if n == 3 then DownloadSync else
    if n == 4 then DownloadBusy else
    if n == 5 then DownloadIdle else
    if n == 6 then ManifestSync else
    if n == 7 then Manifest else
    if n == 8 then ManifestWaitReset else
    if n == 9 then UploadIdle else
    if n == 10 then Error else
    Fresh

-- From the index of a state, `place_of_number` returns this state.
place_has_its_number : (p : StandardState) → place_of_number (place_number p) ≡ p
place_has_its_number AppIdle = refl
place_has_its_number p = refl

-- Two states with the same index are the same state.
pub equal_place_numbers_equal_place : (p q : StandardState) → place_number p ≡ place_number q → p ≡ q
equal_place_numbers_equal_place p q same = sym (place_has_its_number p) ∙ ap place_of_number same ∙ place_has_its_number q

-- An index below twelve is the index of the state that `place_of_number` returns for it.
pub number_has_its_place : (n : ℕ) → n < 12 → place_number (place_of_number n) ≡ n
number_has_its_place n below = eqb-true _ _ (agree_below_at (λ (k : ℕ). place_number (place_of_number k) == k) (λ (k : ℕ). true) 12 n refl
    below)

-- The index of a state is below twelve.
pub place_number_below_12 : (p : StandardState) → place_number p < 12
place_number_below_12 AppIdle = lit< tt
place_number_below_12 p = lit< tt
