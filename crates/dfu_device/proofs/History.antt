-- Lemmas about the bytes that a history gathers: after one more step, after any number of steps, and their uniqueness.
use Rattle.std.specs.Prelude.{◌≡◌, ℕ, Bool, true, false, List, [], ◌∷◌, ◌++◌}
use Rattle.std.proofs.Common.{refl, sym, ap, ◌∙◌, subst}
use Rattle.std.proofs.lemmas.List.{append_assoc, append-nil}
use Rattle.std.proofs.lemmas.Bool.{false≢true}
use Rattle.dfu_device.specs.DeviceView.{DeviceView}
use Rattle.dfu_device.specs.History.{HistoryStep, IsTableRow, IsHistory, joined_parts, AllStepsInside, Gathered, from_start, since}
use Rattle.dfu_device.proofs.Cases.{bool_has_two_cases}

-- All steps of a history except the first.
abbrev pub behind : List HistoryStep → List HistoryStep
behind [] = []
behind (s ∷ h) = h

module _ (inside : HistoryStep → Bool) (part : HistoryStep → List ℕ) where
  -- If `inside` is true for all steps of a history and for one more step, it is true for all steps of the longer history.
  inside_step_keeps_all_inside : (h : List HistoryStep) (s : HistoryStep) → AllStepsInside inside h → inside s ≡ true →
      AllStepsInside inside (h ++ s ∷ [])
  inside_step_keeps_all_inside [] s all on = (on, tt)
  inside_step_keeps_all_inside (x ∷ h) s all on = (all.0, inside_step_keeps_all_inside h s all.1 on)

  -- The joined parts of a history with one more step are those of the history, followed by the part of the step.
  further_step_joins_its_part : (h : List HistoryStep) (s : HistoryStep) → joined_parts part (h ++ s ∷ []) ≡ joined_parts part h ++ part s
  further_step_joins_its_part [] s = append-nil (part s)
  further_step_joins_its_part (x ∷ h) s = ap (λ (l : List ℕ). part x ++ l) (further_step_joins_its_part h s)
      ∙ sym (append_assoc (part x) (joined_parts part h) (part s))

  -- If `inside` is true for one more step, the step adds its part to the bytes that a history gathers.
  inside_step_joins_gathered : (h : List HistoryStep) (s : HistoryStep) (t : List ℕ) → Gathered inside part h t → inside s ≡ true
      → Gathered inside part (h ++ s ∷ []) (t ++ part s)
  inside_step_joins_gathered h s t (from_start all is) on = from_start (inside_step_keeps_all_inside h s all on) (ap (λ (l : List ℕ). l
      ++ part s) is ∙ sym (further_step_joins_its_part h s))
  inside_step_joins_gathered h s t (since old last recent split off all is) on =
      since old last (recent ++ s ∷ []) (ap (λ (l : List HistoryStep). l ++ s ∷ []) split ∙ append_assoc old (last ∷ recent) (s ∷ [])) off
      (inside_step_keeps_all_inside recent s all on) (ap (λ (l : List ℕ). l ++ part s) is ∙ sym (further_step_joins_its_part recent s))

  -- If `inside` is true for one more step, the history also gathers the step's part; if it is false, the history gathers no bytes.
  pub one_more_step_gathers : (h : List HistoryStep) (s : HistoryStep) (t now : List ℕ) → Gathered inside part h t →
      (inside s ≡ true → now ≡ t ++ part s)
      → (inside s ≡ false → now ≡ []) → Gathered inside part (h ++ s ∷ []) now
  one_more_step_gathers h s t now gathered on off =
      bool_has_two_cases (inside s)
      (λ yes. subst (λ (l : List ℕ). Gathered inside part (h ++ s ∷ []) l) (sym (on yes)) (inside_step_joins_gathered h s t gathered yes))
      (λ no. since h s [] refl no tt (off no))

  -- If each row keeps the bytes `of w` of a device equal to the bytes that its history gathers, any number of rows keeps them equal.
  pub history_gathers : (of : DeviceView → List ℕ)
      → ((h : List HistoryStep) (s : HistoryStep) → Gathered inside part h (of s.before) → IsTableRow s →
      Gathered inside part (h ++ s ∷ []) (of s.after))
      → (g h : List HistoryStep) (w w' : DeviceView) → Gathered inside part g (of w) → IsHistory w h w'
      → Gathered inside part (g ++ h) (of w')
  history_gathers of step g [] w w' gathered same =
      subst (λ (l : List HistoryStep). Gathered inside part l (of w')) (sym (append-nil g))
      (subst (λ (z : DeviceView). Gathered inside part g (of z)) (sym same) gathered)
  history_gathers of step g (s ∷ rest) w w' gathered (starts, row, more) =
      let before : Gathered inside part g (of s.before) = subst (λ (z : DeviceView). Gathered inside part g (of z)) (sym starts) gathered in
      subst (λ (l : List HistoryStep). Gathered inside part l (of w')) (append_assoc g (s ∷ []) rest)
      (history_gathers of step (g ++ s ∷ []) rest s.after w' (step g s before row) more)

  -- If `inside` is true for all steps of a history, it is false for none of them.
  inside_steps_have_no_outside : (old : List HistoryStep) (last : HistoryStep) (recent : List HistoryStep) → AllStepsInside inside (old
      ++ last ∷ recent) →
      inside last ≡ false → ⊥
  inside_steps_have_no_outside [] last recent all off = false≢true (sym off ∙ all.0)
  inside_steps_have_no_outside (x ∷ old) last recent all off = inside_steps_have_no_outside old last recent all.1 off

  -- In any two splits of a history, the steps after the last step for which `inside` is false are the same.
  recent_steps_are_unique : (old : List HistoryStep) (last : HistoryStep) (recent past : List HistoryStep) (end : HistoryStep) (late : List
      HistoryStep)
      → old ++ last ∷ recent ≡ past ++ end ∷ late → inside last ≡ false → inside end ≡ false → AllStepsInside inside recent
      → AllStepsInside inside late
      → recent ≡ late
  recent_steps_are_unique [] last recent [] end late e off out all every = ap behind e
  recent_steps_are_unique [] last recent (y ∷ past) end late e off out all every =
      absurd (inside_steps_have_no_outside past end late (subst (AllStepsInside inside) (ap behind e) all) out)
  recent_steps_are_unique (x ∷ old) last recent [] end late e off out all every =
      absurd (inside_steps_have_no_outside old last recent (subst (AllStepsInside inside) (sym (ap behind e)) every) off)
  recent_steps_are_unique (x ∷ old) last recent (y ∷ past) end late e off out all every =
      recent_steps_are_unique old last recent past end late (ap behind e) off out all every

  -- A history gathers only one list of bytes.
  pub gathered_bytes_are_unique : (h : List HistoryStep) (a b : List ℕ) → Gathered inside part h a → Gathered inside part h b → a ≡ b
  gathered_bytes_are_unique h a b (from_start all is) (from_start every same) = is ∙ sym same
  gathered_bytes_are_unique h a b (from_start all is) (since old last recent split off every same) =
      absurd (inside_steps_have_no_outside old last recent (subst (AllStepsInside inside) split all) off)
  gathered_bytes_are_unique h a b (since old last recent split off all is) (from_start every same) =
      absurd (inside_steps_have_no_outside old last recent (subst (AllStepsInside inside) split every) off)
  gathered_bytes_are_unique h a b (since old last recent split off all is) (since past end late parts out every same) =
      is ∙ ap (joined_parts part) (recent_steps_are_unique old last recent past end late (sym split ∙ parts) off out all every) ∙ sym same
