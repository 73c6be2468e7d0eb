-- dfu_core_closes and dfu_core_refuse_close agree on the setups that close a download.
use Rattle.std.proofs.Common.{◌≡◌, ℤ, pos, ◌⊎◌, inl, inr, Bool, true, false, IsTrue, refl, ap, ◌∙◌}
use Rattle.dfu_laws.specs.in_c.Closes.{ClosesIfRefused}
use Rattle.dfu_core.specs.Numbers.{yes_no_number}

-- If a number is 0 or 1, and it is not 1, it is 0.
zero_if_not_one : (n : ℤ) → (n ≡ pos 0) ⊎ (n ≡ pos 1) → (n ≡ pos 1 → ⊥) → n ≡ pos 0
zero_if_not_one n (inl zero) not_one = zero
zero_if_not_one n (inr one) not_one = absurd (not_one one)

-- If the number of a yes-or-no answer is 1, the answer is yes.
number_one_is_yes : (said : Bool) (n : ℤ) → n ≡ yes_no_number said → n ≡ pos 1 → IsTrue said
number_one_is_yes true n is one = refl
number_one_is_yes false n is one = absurd (cc)

-- For each setup, dfu_core_closes agrees with dfu_core_refuse_close.
pub closes_if_refused : ClosesIfRefused
closes_if_refused c r r' setup status n refused idle is told two (inl (stall, idle2, is2, takes)) block flash a kept device =
    let closes = ((takes a kept).4 block flash device).1.2 in
    let says = told block flash a kept device in
    let one : n ≡ pos 1 = says.1 ∙ ap yes_no_number (says.2.closes.1 closes) in
    (((λ x. stall), (λ x. one)), ((λ zero. absurd (cc)), (λ x. absurd (cc))))
closes_if_refused c r r' setup status n refused idle is told two (inr (same, inl (none, idle2, is2, shut))) block flash a kept device =
    let says = told block flash a kept device in
    let zero : n ≡ pos 0 = zero_if_not_one n two (λ one. shut a kept block flash device (says.2.closes.0 (number_one_is_yes says.0 n says.1
    one))) in
    (((λ one. absurd (cc)), (λ x. absurd (cc))), ((λ x. none), (λ x. zero)))
closes_if_refused c r r' setup status n refused idle is told two (inr (same, inr (inl (number, idle2, isnt)))) block flash a kept device =
    absurd (isnt is)
closes_if_refused c r r' setup status n refused idle is told two (inr (same, inr (inr (inl (inl (number, no_config)))))) block flash a kept
    device = absurd (no_config idle.config)
closes_if_refused c r r' setup status n refused idle is told two (inr (same, inr (inr (inl (inr (number, set, none)))))) block flash a
    kept device = absurd (none idle.mode idle.has_mode)
closes_if_refused c r r' setup status n refused idle is told two (inr (same, inr (inr (inr (n2, set, mode, due))))) block flash a kept
    device = absurd (due idle.idle)
