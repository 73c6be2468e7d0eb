-- After a word without a fault, each row of an argument has a value.
use Rattle.std.proofs.Common.{◌≡◌, ◌<◌, ◌&&◌, ℕ, Bool, cond, true, false, not, zero, suc, refl, sym, arith, List, [], ◌∷◌, length, drop, Option, Some, None, is_some, nat_lt, true≢false}
use Rattle.std.specs.Prelude.{encode_utf8, slice_get}
use Rattle.std.specs.List.{find, list_all}
use Rattle.std.specs.Option.{option_map_or}
use Rattle.std.specs.Str.{chars}
use Rattle.clap.specs.Lexer.{long_of, short_of}
use Rattle.clap.specs.Facts.{unwrap_or_range}
use Rattle.clap.specs.Kinds.{Kinds, or_else, range_kinds}
use Rattle.clap.specs.Faults.{bundle_step_fault, flag_word_fault, flags_fault, long_fault, option_fault, react_fault, settle_fault, short_fault, use_fault}
use Rattle.clap.specs.Walk.{Held, Outcome, Row, Rule, Text, Waiting, action_of, after_flag, arg_by_id, arg_by_long, arg_by_short, attached_value, bundle, bundle_met, bundle_step, done, flag_met, idle, is_empty, long_met, long_or_other, most_values, option, option_met, option_word, plain, plain_word, positional, reacted, reading_by, refused, settled, settled_rows, short_met, short_or_plain, takes_values, used, used_as, used_by_id, values_or_missing, waits, without}
use Rattle.clap.specs.declared.builder.action.ArgAction.{ArgAction}
use Rattle.clap.specs.declared.builder.action.ArgAction.TheVariants.{Set, Append, SetTrue, SetFalse, Count, Help, HelpShort, HelpLong, Version}
use Rattle.clap.specs.declared.parser.matches.ValueSource.TheVariants.{CommandLine}
use Rattle.clap.specs.declared.error.kind.ErrorKind.TheVariants as kind
use Rattle.dfu_args.proofs.Rows.{EachRowHasValue, given_values_keep_rows_full, removal_keeps_rows_full}

-- If `or_else` of two lists of faults is empty, the first list is empty.
pub first_is_faultless : (a b : Kinds) → or_else a b ≡ [] → a ≡ []
first_is_faultless [] b e = refl
first_is_faultless (k ∷ ks) b e = e

-- If `or_else` of two lists of faults is empty, the second list is empty.
pub second_is_faultless : (a b : Kinds) → or_else a b ≡ [] → b ≡ []
second_is_faultless [] b e = e
second_is_faultless (k ∷ ks) b e = cc

-- If all elements pass the test `p`, the element that is found with the test `q` passes both.
pub found_element_passes : {X : Type 0} (p q : X → Bool) (xs : List X) (x : X) → list_all p xs ≡ true → find q xs ≡ Some x
    → (p x ≡ true) × (q x ≡ true)
found_element_passes p q [] x all is = (cc, cc)
found_element_passes p q (y ∷ ys) x all is = go (p y) (q y) refl refl all is (found_element_passes p q ys x)
  where
    go : (a b : Bool) → p y ≡ a → q y ≡ b → (a && list_all p ys) ≡ true → cond b (Some y) (find q ys) ≡ Some x
        → (list_all p ys ≡ true → find q ys ≡ Some x → (p x ≡ true) × (q x ≡ true)) → (p x ≡ true) × (q x ≡ true)
    go true true pa qb all is later = (cc, cc)
    go true false pa qb all is later = later all is
    go false b pa qb all is later = absurd (true≢false (sym all))

abbrev action_sets_value : ArgAction → ℕ → List Text → Bool
action_sets_value Set least missing = nat_lt 0 least
action_sets_value Append least missing = nat_lt 0 least
action_sets_value SetTrue least missing = not (is_empty missing)
action_sets_value Help least missing = true
action_sets_value Version least missing = true
action_sets_value _ least missing = false

-- True if each faultless use of the argument sets a value, or requests the help text or the version.
abbrev pub sets_value : Rule → Bool
sets_value a = action_sets_value (action_of a) (unwrap_or_range a.range).start_inclusive a.missing

values_in_range_are_not_empty : (a : Rule) (values : List Text) (least most : ℕ) → nat_lt 0 least ≡ true →
    range_kinds least most (length values) ≡ []
    → 0 < length (values_or_missing a values)
values_in_range_are_not_empty a [] least most some e = let bad : kind.InvalidValue ∷ [] ≡ [] = rw some at e in cc
values_in_range_are_not_empty a (v ∷ vs) least most some e = omega arith

missing_value_is_not_empty : (a : Rule) (values : List Text) → not (is_empty a.missing) ≡ true → 0 < length (values_or_missing a values)
missing_value_is_not_empty a [] some = go a.missing some
  where
    go : (vs : List Text) → not (is_empty vs) ≡ true → 0 < length vs
    go [] some = absurd (true≢false (sym some))
    go (v ∷ vs) some = omega arith
missing_value_is_not_empty a (v ∷ vs) some = omega arith

use_keeps_rows_full : (again : Bool) (a : Rule) (values : List Text) (rows : List Row) → sets_value a ≡ true
    → use_fault again a values rows ≡ [] → EachRowHasValue rows
    → EachRowHasValue (used a values rows)
use_keeps_rows_full again a values rows ok e f = go (action_of a) ok
  where
    range : range_kinds (unwrap_or_range a.range).start_inclusive (most_values a) (length values) ≡ []
    range = first_is_faultless _ _ e

    go : (x : ArgAction) → action_sets_value x (unwrap_or_range a.range).start_inclusive a.missing ≡ true
        → EachRowHasValue (used_as x a.id (reading_by a) (values_or_missing a values) rows)
    go Set ok = given_values_keep_rows_full a.id (reading_by a) CommandLine (values_or_missing a values) (without a.id rows)
        (values_in_range_are_not_empty a values _ (most_values a) ok range) (removal_keeps_rows_full a.id rows f)
    go SetTrue ok = given_values_keep_rows_full a.id (reading_by a) CommandLine (values_or_missing a values) (without a.id rows)
        (missing_value_is_not_empty a values ok) (removal_keeps_rows_full a.id rows f)
    go Help ok = f
    go Version ok = f
    go Append ok = given_values_keep_rows_full a.id (reading_by a) CommandLine (values_or_missing a values) rows
        (values_in_range_are_not_empty a values _ (most_values a) ok range) f
    go SetFalse ok = absurd (true≢false (sym ok))
    go Count ok = absurd (true≢false (sym ok))
    go HelpShort ok = absurd (true≢false (sym ok))
    go HelpLong ok = absurd (true≢false (sym ok))

module _ (c : List Rule) (all : list_all sets_value c ≡ true) (again : Bool) where
  -- If each row has a value, this remains true after the pending values are settled without a fault.
  pub settled_rows_are_full : (h : Held) → settle_fault c again h ≡ [] → EachRowHasValue h.rows → EachRowHasValue (settled c h).rows
  settled_rows_are_full h e f = go h.pending e
    where
      used_argument_keeps_rows_full : (p : Text × List Text) (o : Option Rule) → arg_by_id c p.0 ≡ o →
          option_map_or (λ a. use_fault again a p.1 h.rows) o [] ≡ []
          → EachRowHasValue (used_by_id o p.1 h.rows)
      used_argument_keeps_rows_full p None is e = f
      used_argument_keeps_rows_full p (Some a) is e = use_keeps_rows_full again a p.1 h.rows (found_element_passes sets_value _ c a all
          is).0 e f

      go : (p : Option (Text × List Text))
          → option_map_or (λ p. option_map_or (λ a. use_fault again a p.1 h.rows) (arg_by_id c p.0) []) p [] ≡ []
          → EachRowHasValue (settled_rows c p h.rows)
      go None e = f
      go (Some p) e = used_argument_keeps_rows_full p (arg_by_id c p.0) refl e

  reaction_keeps_rows_full : (a : Rule) (values : List Text) (h : Held) → sets_value a ≡ true → react_fault c again a values h ≡ [] →
      EachRowHasValue h.rows
      → EachRowHasValue (reacted c a values h).rows
  reaction_keeps_rows_full a values h ok e f =
      use_keeps_rows_full again a values (settled c h).rows ok (second_is_faultless _ _ e) (settled_rows_are_full h (first_is_faultless
      _ _ e) f)

  option_keeps_rows_full : (a : Rule) (v : Option Text) (h : Held) → sets_value a ≡ true → option_fault c again a v h ≡ [] →
      EachRowHasValue h.rows
      → EachRowHasValue (option_met c a v h).0.rows
  option_keeps_rows_full a (Some v) h ok e f = reaction_keeps_rows_full a (v ∷ []) h ok e f
  option_keeps_rows_full a None h ok e f = settled_rows_are_full h e f

  long_option_keeps_rows_full : (o : Option Rule) (v : Option Text) (h : Held) → ((a : Rule) → o ≡ Some a → sets_value a ≡ true)
      → long_fault c again o v h ≡ [] → EachRowHasValue h.rows
      → EachRowHasValue (long_met c o v h).0.rows
  long_option_keeps_rows_full None v h ok e f = f
  long_option_keeps_rows_full (Some a) v h ok e f = go (takes_values a) e
    where
      flag : (v : Option Text) → cond (is_some v) (kind.TooManyValues ∷ []) (react_fault c again a [] h) ≡ []
          → EachRowHasValue (flag_met c a v h).0.rows
      flag (Some x) e = f
      flag None e = reaction_keeps_rows_full a [] h (ok a refl) e f

      go : (b : Bool) → cond b (option_fault c again a v h) (cond (is_some v) (kind.TooManyValues ∷ []) (react_fault c again a [] h)) ≡ []
          → EachRowHasValue (cond b (option_met c a v h) (flag_met c a v h)).0.rows
      go true e = option_keeps_rows_full a v h (ok a refl) e f
      go false e = flag v e

  flag_bundle_keeps_rows_full : (k : ℕ) (flags : Text) (skip : ℕ) (so_far : Outcome) (h : Held) → flags_fault c again k flags skip h
      ≡ [] → EachRowHasValue h.rows
      → EachRowHasValue (bundle_met c k flags skip so_far h).0.rows
  unfolding flags_fault bundle_met
  flag_bundle_keeps_rows_full zero flags skip so_far h e f = f
  flag_bundle_keeps_rows_full (suc k) flags skip so_far h e f = go (slice_get (chars flags) 0) skip e (λ fl sk so x.
      flag_bundle_keeps_rows_full k fl sk so x)
    where
      takes : (a : Rule) (rest : Text) (b : Bool) → sets_value a ≡ true
          → cond b (option_fault c again a (attached_value rest) h) (or_else (react_fault c again a [] h) (flags_fault c again k rest 0
          (reacted c a [] h))) ≡ []
          → ((fl : Text) (sk : ℕ) (so : Outcome) (x : Held) → flags_fault c again k fl sk x ≡ [] → EachRowHasValue x.rows
          → EachRowHasValue (bundle_met c k fl sk so x).0.rows)
          → EachRowHasValue (cond b (option_met c a (attached_value rest) h) (bundle_met c k rest 0 done (reacted c a [] h))).0.rows
      takes a rest true ok e later = option_keeps_rows_full a (attached_value rest) h ok e f
      takes a rest false ok e later =
          later rest 0 done (reacted c a [] h) (second_is_faultless _ _ e) (reaction_keeps_rows_full a [] h ok (first_is_faultless _ _
          e) f)

      short : (rest : Text) (o : Option Rule) → ((a : Rule) → o ≡ Some a → sets_value a ≡ true)
          → short_fault c again o rest h (flags_fault c again k rest 0) ≡ []
          → ((fl : Text) (sk : ℕ) (so : Outcome) (x : Held) → flags_fault c again k fl sk x ≡ [] → EachRowHasValue x.rows
          → EachRowHasValue (bundle_met c k fl sk so x).0.rows)
          → EachRowHasValue (short_met c o rest h (bundle_met c k rest 0 done)).0.rows
      short rest None ok e later = f
      short rest (Some a) ok e later = takes a rest (takes_values a) (ok a refl) e later

      go : (o : Option ℕ) (skip : ℕ) → bundle_step_fault c again o flags skip h (flags_fault c again k) ≡ []
          → ((fl : Text) (sk : ℕ) (so : Outcome) (x : Held) → flags_fault c again k fl sk x ≡ [] → EachRowHasValue x.rows
          → EachRowHasValue (bundle_met c k fl sk so x).0.rows)
          → EachRowHasValue (bundle_step c o flags skip so_far h (bundle_met c k)).0.rows
      go None skip e later = f
      go (Some x) zero e later =
          short (drop (length (encode_utf8 x)) flags) (arg_by_short c x) (λ a is. (found_element_passes sets_value _ c a all is).0) e later
      go (Some x) (suc skip) e later = later (drop (length (encode_utf8 x)) flags) skip so_far h e f

  plain_word_keeps_rows_full : (waiting : Waiting) (word : Text) (h : Held) → EachRowHasValue h.rows →
      EachRowHasValue (plain_word c waiting word h).0.rows
  plain_word_keeps_rows_full idle word h f = f
  plain_word_keeps_rows_full positional word h f = f
  plain_word_keeps_rows_full (option id) word h f = go (arg_by_id c id)
    where
      go : (o : Option Rule) → EachRowHasValue (option_word o id word h).0.rows
      go None = f
      go (Some a) = f

  word_after_flag_keeps_rows_full : (waiting : Waiting) (word : Text) (h : Held) (outcome : Outcome) → EachRowHasValue h.rows
      → EachRowHasValue (after_flag c waiting word h outcome).0.rows
  word_after_flag_keeps_rows_full waiting word h done f = f
  word_after_flag_keeps_rows_full waiting word h (waits id) f = f
  word_after_flag_keeps_rows_full waiting word h plain f = plain_word_keeps_rows_full waiting word h f
  word_after_flag_keeps_rows_full waiting word h refused f = plain_word_keeps_rows_full waiting word h f

  -- If each row has a value, this remains true after a word without a fault that isn't a subcommand.
  pub flag_word_keeps_rows_full : (waiting : Waiting) (word : Text) (h : Held) → flag_word_fault c again (long_of word) word h ≡ [] →
      EachRowHasValue h.rows
      → EachRowHasValue (long_or_other c waiting word (long_of word) h).0.rows
  flag_word_keeps_rows_full waiting word h e f = go (long_of word) e
    where
      short : (o : Option Text)
          → option_map_or (λ flags. flags_fault c again (length flags) flags h.skip (record h { skip = 0 })) o [] ≡ []
          → EachRowHasValue (short_or_plain c waiting word o h).0.rows
      short None e = plain_word_keeps_rows_full waiting word h f
      short (Some flags) e = word_after_flag_keeps_rows_full waiting word (bundle c flags h).0 (bundle c flags h).1
          (flag_bundle_keeps_rows_full (length flags) flags h.skip plain (record h { skip = 0 }) e f)

      go : (o : Option (Text × Option Text)) → flag_word_fault c again o word h ≡ [] →
          EachRowHasValue (long_or_other c waiting word o h).0.rows
      go (Some p) e = word_after_flag_keeps_rows_full waiting word (long_met c (arg_by_long c p.0) p.1 h).0 (long_met c (arg_by_long c p.0)
          p.1 h).1
          (long_option_keeps_rows_full (arg_by_long c p.0) p.1 h (λ a is. (found_element_passes sets_value _ c a all is).0) e f)
      go None e = short (short_of word) e
