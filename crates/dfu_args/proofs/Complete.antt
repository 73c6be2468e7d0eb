-- The subcommand of a command line without a fault is complete: each of its sure arguments has a text.
use Rattle.std.proofs.Common.{◌≡◌, ◌∙◌, ◌&&◌, ◌||◌, Bool, codes, true, false, not, refl, sym, ap, subst, List, [], ◌∷◌, Option, Some, None, IfSome, is_some, inl, inr, true≢false}
use Rattle.std.specs.List.{find, list_all, list_any}
use Rattle.std.specs.Option.{option_map, option_map_or}
use Rattle.std.specs.Str.{bytes_eq}
use Rattle.std.proofs.lemmas.Slice.Eq.{bytes_eq-Decides}
use Rattle.clap.specs.Words.{App, Row, Text, fault_of, first_of, subcommand_of}
use Rattle.clap.specs.Kinds.{check_kinds, or_else}
use Rattle.clap.specs.Takes.{is_given}
use Rattle.clap.specs.Walk.{answers_to, Held, is_empty, nothing_held, rows_after, settled, walk, walk_from}
use Rattle.clap.specs.Faults.{built_fault, check_fault, defaults_fault, entered_fault, level_fault, settle_fault, walk_fault}
use Rattle.clap.specs.Simple.{Shape, argument_words, built, entered, label_of, names_of, rows_at}
use Rattle.dfu_args.specs.CommandLine.{dfu_app}
use Rattle.dfu_args.specs.Complete.{HasTexts, IsComplete, sure_arguments_of}
use Rattle.clap.proofs.SimpleLemmas.{is_nil}
use Rattle.clap.proofs.WalkLemmas.{both}
use Rattle.std.proofs.lemmas.Option.{same_Some}
use Rattle.dfu_args.proofs.Rows.{EachRowHasValue, default_argument_has_row, defaults_keep_rows_full, has_default, is_required_argument, required_argument_has_row, argument_with_row_has_text}
use Rattle.dfu_args.proofs.Uses.{first_is_faultless, found_element_passes, sets_value, settled_rows_are_full, second_is_faultless}
use Rattle.dfu_args.proofs.Walks.{IsNotStoppedAtHelp, walk_keeps_rows_full}

-- True if the argument is required or has a default.
abbrev is_required_or_defaulted : Shape → Text → Bool
is_required_or_defaulted s id = is_required_argument id s.rules || has_default id s.rules

no_kinds_means_none_missing : (help subcommand negates missing : Bool) →
    check_kinds help subcommand (not (negates && false) && missing) ≡ []
    → missing ≡ false
no_kinds_means_none_missing true subcommand negates missing e = cc
no_kinds_means_none_missing false true negates missing e = cc
no_kinds_means_none_missing false false true true e = cc
no_kinds_means_none_missing false false false true e = cc
no_kinds_means_none_missing false false negates false e = refl

module _ (s : Shape) (all : list_all sets_value s.rules ≡ true) (words : List Text)
    (ok : level_fault s [] nothing_held words false [] ≡ []) where
  abbrev end : Held
  end = (walk s.rules [] nothing_held words).held

  no_fault_after_walk : or_else (settle_fault s.rules s.args_override_self end)
      (or_else (defaults_fault (settled s.rules end).rows s.rules) (check_fault s (rows_after s.rules [] words) false)) ≡ []
  no_fault_after_walk = second_is_faultless (walk_fault s [] (walk_from nothing_held) words) _ ok

  rows_full : EachRowHasValue (rows_after s.rules [] words)
  rows_full =
      let w = walk_keeps_rows_full s all [] (inr refl) (walk_from nothing_held) words (first_is_faultless _ _ ok) tt tt in
      let h = settled_rows_are_full s.rules all s.args_override_self end (first_is_faultless _ _ no_fault_after_walk) w.0 in
      defaults_keep_rows_full s.rules (settled s.rules end).rows h

  missing : list_any (λ a. a.required && not (is_given a.id (rows_after s.rules [] words))) s.rules ≡ false
  missing = no_kinds_means_none_missing _ _ s.subcommand_negates_reqs _ (second_is_faultless (defaults_fault (settled s.rules end).rows
      s.rules) _
      (second_is_faultless _ _ no_fault_after_walk))

  sure_argument_has_text : (id : Text) → is_required_or_defaulted s id ≡ true → is_some (first_of id (rows_after s.rules [] words)) ≡ true
  sure_argument_has_text id e = go (is_required_argument id s.rules) refl e
    where
      go : (b : Bool) → is_required_argument id s.rules ≡ b → (b || has_default id s.rules) ≡ true
          → is_some (first_of id (rows_after s.rules [] words)) ≡ true
      go true is e = argument_with_row_has_text id (rows_after s.rules [] words) rows_full (required_argument_has_row id s.rules (rows_after
          s.rules [] words) missing is)
      go false is e = argument_with_row_has_text id (rows_after s.rules [] words) rows_full (default_argument_has_row id s.rules (settled
          s.rules end).rows e)

  sure_arguments_have_texts : (ids : List Text) → list_all (is_required_or_defaulted s) ids ≡ true →
      HasTexts ids (rows_after s.rules [] words)
  sure_arguments_have_texts [] e = tt
  sure_arguments_have_texts (id ∷ ids) e = let each = both _ _ e in (sure_argument_has_text id each.0, sure_arguments_have_texts ids each.1)

-- The subcommand has no aliases. Unless it is `help`, all its arguments set values, and it has sure arguments, each of which is required or
-- has a default.
has_sure_arguments : Shape → Bool
has_sure_arguments s = is_empty s.aliases && (bytes_eq s.name (codes "help") || (list_all sets_value s.rules
    && (not (is_empty (sure_arguments_of s.name)) && list_all (is_required_or_defaulted s) (sure_arguments_of s.name))))

dfu_subcommands_have_sure_args : list_all has_sure_arguments (built dfu_app).subs ≡ true
unfolding dfu_app has_sure_arguments
dfu_subcommands_have_sure_args = refl

dfu_arguments_set_values : list_all sets_value (built dfu_app).top.rules ≡ true
unfolding dfu_app
dfu_arguments_set_values = refl

dfu_has_help_subcommand : (built dfu_app).top.disable_help_subcommand ≡ false
unfolding dfu_app
dfu_has_help_subcommand = refl

answering_name_is_word : (name word : Text) (aliases : List Text) → is_empty aliases ≡ true
    → (bytes_eq name word || list_any (λ alias. bytes_eq alias word) aliases) ≡ true
    → name ≡ word
answering_name_is_word name word aliases none e = (bytes_eq-Decides name word).0 (go (bytes_eq name word) (rw (is_nil aliases none) at e))
  where
    go : (b : Bool) → (b || false) ≡ true → b ≡ true
    go true e = refl
    go false e = e

untrue_test_is_false : (b : Bool) → not b ≡ true → b ≡ false
untrue_test_is_false true e = sym e
untrue_test_is_false false e = refl

sure_subcommand_is_complete : (s : Shape) (word : Text) (words : List Text) → has_sure_arguments s ≡ true → answers_to word (label_of s)
    ≡ true
    → bytes_eq word (codes "help") ≡ false
    → level_fault s [] nothing_held words false [] ≡ [] → IsComplete s.name (rows_after s.rules [] words)
unfolding has_sure_arguments
sure_subcommand_is_complete s word words fit answers other ok = go (bytes_eq s.name (codes "help")) refl (both (is_empty s.aliases) _ fit).1
  where
    same : s.name ≡ word
    same = answering_name_is_word s.name word s.aliases (both (is_empty s.aliases) _ fit).0 answers

    go : (b : Bool) → bytes_eq s.name (codes "help") ≡ b → (b || (list_all sets_value s.rules
        && (not (is_empty (sure_arguments_of s.name)) && list_all (is_required_or_defaulted s) (sure_arguments_of s.name)))) ≡ true
        → IsComplete s.name (rows_after s.rules [] words)
    go true is rest = absurd (true≢false (sym is ∙ ap (λ t. bytes_eq t (codes "help")) same ∙ other))
    go false is rest =
        let sets = both (list_all sets_value s.rules) _ rest in
        let sure = both (not (is_empty (sure_arguments_of s.name))) _ sets.1 in
        (untrue_test_is_false _ sure.0, sure_arguments_have_texts s sets.0 words ok (sure_arguments_of s.name) sure.1)

module _ (a : App) (fit : list_all has_sure_arguments a.subs ≡ true) (sets : list_all sets_value a.top.rules
    ≡ true) (knows : a.top.disable_help_subcommand ≡ false) where
  entered_subcommand_is_complete : (stop : Option (Text × List Text)) (p : Text × List Row) → IsNotStoppedAtHelp stop →
      entered_fault a stop ≡ []
      → entered a stop ≡ Some p
      → IsComplete p.0 p.1
  entered_subcommand_is_complete None p other e is = cc
  entered_subcommand_is_complete (Some q) p other e is = go (find (λ s. answers_to q.0 (label_of s)) a.subs) refl e is
    where
      go : (o : Option Shape) → find (λ s. answers_to q.0 (label_of s)) a.subs ≡ o
          → option_map_or (λ s. level_fault s [] nothing_held q.1 false []) o [] ≡ []
          → option_map (λ s. rows_at s q.1) o ≡ Some p → IsComplete p.0 p.1
      go None at e is = cc
      go (Some s) at e is =
          let f = found_element_passes has_sure_arguments (λ x. answers_to q.0 (label_of x)) a.subs s fit at in
          subst (λ (x : Text × List Row). IsComplete x.0 x.1) (same_Some (rows_at s q.1) p is) (sure_subcommand_is_complete s q.0 q.1 f.0
          f.1 other e)

  built_command_is_complete : (words : List Text) (p : Text × List Row) → built_fault a nothing_held words ≡ []
      → entered a (walk a.top.rules (names_of a) nothing_held words).stopped ≡ Some p → IsComplete p.0 p.1
  built_command_is_complete words p e is =
      let stop = (walk a.top.rules (names_of a) nothing_held words).stopped in
      let w = walk_keeps_rows_full a.top sets (names_of a) (inl knows) (walk_from nothing_held) words (first_is_faultless _ _ e) tt tt in
      entered_subcommand_is_complete stop p w.1 (first_is_faultless (entered_fault a stop) _ (second_is_faultless (walk_fault a.top
      (names_of a)
      (walk_from nothing_held) words) _ e)) is

-- If a command line has no fault, its subcommand has a text for each of its sure arguments.
pub faultless_words_are_complete : (words : List Text) (o : Option (Text × List Row)) → fault_of dfu_app words ≡ [] → o
    ≡ subcommand_of dfu_app words
    → IfSome o (λ p. IsComplete p.0 p.1)
faultless_words_are_complete words None e is = tt
faultless_words_are_complete words (Some p) e is = built_command_is_complete (built dfu_app) dfu_subcommands_have_sure_args
    dfu_arguments_set_values dfu_has_help_subcommand (argument_words dfu_app words) p e (sym is)
