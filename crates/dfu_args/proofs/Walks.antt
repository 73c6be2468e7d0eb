-- After a walk without a fault, each row of an argument has a value, and the walk hasn't stopped at `help`.
use Rattle.std.proofs.Common.{◌≡◌, ◌&&◌, Bool, codes, cond, true, false, refl, List, [], ◌∷◌, Option, Some, None, is_some, ◌⊎◌, ⊎_elim}
use Rattle.std.specs.List.{fold, list_all}
use Rattle.std.specs.Option.{option_map_or}
use Rattle.std.specs.Str.{bytes_eq}
use Rattle.clap.specs.Lexer.{long_of, short_of}
use Rattle.clap.specs.Kinds.{or_else}
use Rattle.clap.specs.Faults.{flag_word_fault, other_fault, positional_fault, settle_fault, step_fault, stray_fault, turn_fault, walk_fault, word_fault}
use Rattle.clap.specs.Simple.{Shape}
use Rattle.clap.specs.Walk.{Held, Names, Outcome, Rule, Step, Text, Waiting, Walk, after_flag, after_step, arg_by_index, arg_by_long, bundle, done, idle, is_pending, long_met, long_or_other, next, option, plain, plain_word, positional, positional_held, refused, settled, short_or_plain, subcommand, subcommand_met, subcommand_or_other, takes_several, to_positional, trailing, value, waits, walked, walked_from, word_met}
use Rattle.clap.specs.declared.error.kind.ErrorKind.TheVariants as kind
use Rattle.dfu_args.proofs.Rows.{EachRowHasValue}
use Rattle.dfu_args.proofs.Uses.{first_is_faultless, second_is_faultless, sets_value, flag_word_keeps_rows_full, settled_rows_are_full}

-- The step doesn't enter the subcommand `help`.
abbrev pub StepAvoidsHelp : Step → Type 0
StepAvoidsHelp (subcommand name) = bytes_eq name (codes "help") ≡ false
StepAvoidsHelp _ = Unit {0}

-- The walk hasn't stopped at the subcommand `help`.
abbrev pub IsNotStoppedAtHelp : Option (Text × List Text) → Type 0
IsNotStoppedAtHelp None = Unit {0}
IsNotStoppedAtHelp (Some p) = bytes_eq p.0 (codes "help") ≡ false

plain_word_avoids_help : (c : List Rule) (waiting : Waiting) (word : Text) (h : Held) → StepAvoidsHelp (plain_word c waiting word h).1
plain_word_avoids_help c idle word h = tt
plain_word_avoids_help c positional word h = tt
plain_word_avoids_help c (option id) word h = tt

word_after_flag_avoids_help : (c : List Rule) (waiting : Waiting) (word : Text) (h : Held) (outcome : Outcome)
    → StepAvoidsHelp (after_flag c waiting word h outcome).1
word_after_flag_avoids_help c waiting word h done = tt
word_after_flag_avoids_help c waiting word h (waits id) = tt
word_after_flag_avoids_help c waiting word h plain = plain_word_avoids_help c waiting word h
word_after_flag_avoids_help c waiting word h refused = plain_word_avoids_help c waiting word h

other_word_avoids_help : (c : List Rule) (waiting : Waiting) (word : Text) (h : Held) →
    StepAvoidsHelp (long_or_other c waiting word (long_of word) h).1
other_word_avoids_help c waiting word h = go (long_of word)
  where
    short : (o : Option Text) → StepAvoidsHelp (short_or_plain c waiting word o h).1
    short None = plain_word_avoids_help c waiting word h
    short (Some flags) = word_after_flag_avoids_help c waiting word (bundle c flags h).0 (bundle c flags h).1

    go : (o : Option (Text × Option Text)) → StepAvoidsHelp (long_or_other c waiting word o h).1
    go (Some p) = word_after_flag_avoids_help c waiting word (long_met c (arg_by_long c p.0) p.1 h).0 (long_met c (arg_by_long c p.0) p.1
        h).1
    go None = short (short_of word)

no_word_meets_empty_names : (waiting : Waiting) (word name : Text) → subcommand_met [] waiting word ≡ Some name → ⊥
no_word_meets_empty_names idle word name e = cc
no_word_meets_empty_names positional word name e = cc
no_word_meets_empty_names (option id) word name e = cc

-- The command has the subcommand `help`, or the walk has no names of subcommands.
abbrev pub KnowsHelpOrNoSubcommand : Shape → Names → Type 0
KnowsHelpOrNoSubcommand s names = (s.disable_help_subcommand ≡ false) ⊎ (names ≡ [])

module _ (s : Shape) (all : list_all sets_value s.rules ≡ true) (names : Names) (knows : KnowsHelpOrNoSubcommand s names) where
  word_keeps_rows_full : (w : Walk) (word : Text) → word_fault s names w.is_trailing w.waiting word w.held ≡ [] →
      EachRowHasValue w.held.rows
      → (EachRowHasValue (word_met s.rules names w.is_trailing w.waiting w.position word w.held).0.rows)
      × StepAvoidsHelp (word_met s.rules names w.is_trailing w.waiting w.position word w.held).1
  word_keeps_rows_full w word e f = go w.is_trailing e
    where
      met_flag_word_keeps_rows_full : (b : Bool) → cond b [] (flag_word_fault s.rules s.args_override_self (long_of word) word w.held) ≡ []
          → (EachRowHasValue (cond b (w.held, trailing w.position) (long_or_other s.rules w.waiting word (long_of word) w.held)).0.rows)
          × StepAvoidsHelp (cond b (w.held, trailing w.position) (long_or_other s.rules w.waiting word (long_of word) w.held)).1
      met_flag_word_keeps_rows_full true e = (f, tt)
      met_flag_word_keeps_rows_full false e = (
        flag_word_keeps_rows_full s.rules all s.args_override_self w.waiting word w.held e f,
        other_word_avoids_help s.rules w.waiting word w.held,
      )

      help : (name : Text) (b : Bool) → cond (b && true) (kind.DisplayHelp ∷ kind.InvalidSubcommand ∷ []) [] ≡ [] → b ≡ false
      help name true e = cc
      help name false e = refl

      sub : (o : Option Text) → subcommand_met names w.waiting word ≡ o → other_fault s o word w.held ≡ []
          → (EachRowHasValue (subcommand_or_other s.rules o w.waiting w.position word w.held).0.rows) × StepAvoidsHelp
          (subcommand_or_other s.rules o w.waiting w.position word w.held).1
      sub (Some name) is e = (
        f,
        ⊎_elim (λ named. help name (bytes_eq name (codes "help")) (rw named at e))
            (λ none. absurd (no_word_meets_empty_names w.waiting word name (rw none at is))) knows,
      )
      sub None is e = met_flag_word_keeps_rows_full (bytes_eq word (45 ∷ 45 ∷ [])) e

      go : (b : Bool) → cond b [] (other_fault s (subcommand_met names w.waiting word) word w.held) ≡ []
          → (EachRowHasValue (word_met s.rules names b w.waiting w.position word w.held).0.rows) × StepAvoidsHelp
          (word_met s.rules names b w.waiting w.position word w.held).1
      go true e = (f, tt)
      go false e = sub (subcommand_met names w.waiting word) refl e

  positional_keeps_rows_full : (a : Rule) (word : Text) (h : Held) → positional_fault s.rules s.args_override_self a h ≡ [] →
      EachRowHasValue h.rows
      → EachRowHasValue (positional_held s.rules a word h).rows
  positional_keeps_rows_full a word h e f = go (is_pending a h.pending && takes_several a) e
    where
      go : (b : Bool) → cond b [] (settle_fault s.rules s.args_override_self h) ≡ [] → EachRowHasValue (cond b h (settled s.rules h)).rows
      go true e = f
      go false e = settled_rows_are_full s.rules all s.args_override_self h e f

  step_keeps_rows_full : (w : Walk) (word : Text) (h : Held) (step : Step) → step_fault s w.position h step ≡ [] →
      EachRowHasValue h.rows → StepAvoidsHelp step
      → IsNotStoppedAtHelp w.stopped
      → (EachRowHasValue (after_step s.rules word w h step).held.rows) × IsNotStoppedAtHelp (after_step s.rules word w h step).stopped
  step_keeps_rows_full w word h (next waiting) e f away n = (f, n)
  step_keeps_rows_full w word h (trailing position) e f away n = (f, n)
  step_keeps_rows_full w word h (subcommand name) e f away n = (f, away)
  step_keeps_rows_full w word h value e f away n = go (arg_by_index s.rules w.position) e
    where
      go : (o : Option Rule) → option_map_or (λ a. positional_fault s.rules s.args_override_self a h) o (stray_fault s) ≡ []
          → (EachRowHasValue (to_positional s.rules o word w h).held.rows) × IsNotStoppedAtHelp (to_positional s.rules o word w h).stopped
      go None e = (f, n)
      go (Some a) e = (positional_keeps_rows_full a word h e f, tt)

  turn_keeps_rows_full : (w : Walk) (word : Text) → turn_fault s names w word ≡ [] → EachRowHasValue w.held.rows →
      IsNotStoppedAtHelp w.stopped
      → (EachRowHasValue (walked s.rules names w word).held.rows) × IsNotStoppedAtHelp (walked s.rules names w word).stopped
  unfolding walked
  turn_keeps_rows_full w word e f n = go w.stopped n e
    where
      met : Held × Step
      met = word_met s.rules names w.is_trailing w.waiting w.position word w.held

      go : (o : Option (Text × List Text)) → IsNotStoppedAtHelp o
          → cond (is_some o) [] (or_else (word_fault s names w.is_trailing w.waiting word w.held) (step_fault s w.position met.0 met.1))
          ≡ []
          → (EachRowHasValue (walked_from s.rules names o w word).held.rows)
          × IsNotStoppedAtHelp (walked_from s.rules names o w word).stopped
      go (Some p) at e = (f, at)
      go None at e =
          let m = word_keeps_rows_full w word (first_is_faultless _ _ e) f in
          step_keeps_rows_full w word met.0 met.1 (second_is_faultless _ _ e) m.0 m.1 n

  -- If each row has a value and the walk hasn't stopped at `help`, both remain true after the walk takes more words without a fault.
  pub walk_keeps_rows_full : (w : Walk) (words : List Text) → walk_fault s names w words ≡ [] → EachRowHasValue w.held.rows →
      IsNotStoppedAtHelp w.stopped
      → (EachRowHasValue (fold (walked s.rules names) w words).held.rows) × IsNotStoppedAtHelp (fold (walked s.rules names) w words).stopped
  unfolding walk_fault
  walk_keeps_rows_full w [] e f n = (f, n)
  walk_keeps_rows_full w (x ∷ xs) e f n =
      let t = turn_keeps_rows_full w x (first_is_faultless _ _ e) f n in
      walk_keeps_rows_full (walked s.rules names w x) xs (second_is_faultless _ _ e) t.0 t.1
