-- If the first argument is the name of a subcommand, the command with this subcommand alone parses the command line as the whole command
-- does.
use Rattle.std.proofs.Common.{◌≡◌, ◌∙◌, ◌≤◌, ap, arith, codes, get_or, length, map, refl, subst, sym, true, IfOk, List, [], ◌∷◌, Bool, Option, Some, Result, Ok, Err, false}
use Rattle.std.specs.Option.{option_map}
use Rattle.std.specs.Str.{bytes_eq}
use Rattle.clap.specs.Words.{App, Text, is_simple, is_simple_and_free, with_subcommand}
use Rattle.clap.specs.Simple.{Shape, built, names_of, rows_at}
use Rattle.clap.specs.Walk.{finished, idle, nothing_held, subcommand_met}
use Rattle.dfu_args.specs.Alone.{ParsesAsWhole}
use Rattle.dfu_args.specs.CommandLine.{add_app, check_app, dfu_app, extract_app, judge_app, plan_app, run_app, set_app, show_app, top_app}
use Rattle.dfu_args.specs.Refusals.{parse_fault_kinds}
use Rattle.dfu_args.specs.Tables.{with_listed_command}
use Rattle.dfu_args.specs.declared.commands.ListedCommand.{ListedCommand}
use Rattle.dfu_args.proofs.FirstWord.{CommandMeetsName, fault_is_of_met, kinds_of_met_subcommand, rows_are_of_met, subcommand_named, own_rows_are_of_no_words}

-- The whole command satisfies ParsesAsWhole for every command line.
pub whole_parses_as_whole : (words : List Text) → ParsesAsWhole words dfu_app
unfolding dfu_app parse_fault_kinds
whole_parses_as_whole words = record { simple = refl; free = refl; required = refl; top = refl; rows = refl; faults = refl }

-- The command `dfu` with `sub` as its only subcommand.
abbrev app_of_subcommand_alone : App → App
app_of_subcommand_alone sub = with_subcommand top_app sub.top

-- Facts of a command that decide how it parses a command line that begins with the name of a subcommand other than `help`.
record CommandFacts : Type 0 where
  simple : Bool
  free : Bool
  required : Bool
  has_no_name : Bool
  met : Option Text
  top : Shape
  found : Option Shape

facts_of_command : App → Text → CommandFacts
facts_of_command app name = record {
  simple = is_simple app;
  free = is_simple_and_free app;
  required = app.top.subcommand_required;
  has_no_name = app.top.no_binary_name;
  met = subcommand_met (names_of (built app)) idle name;
  top = (built app).top;
  found = subcommand_named (built app) name;
}

-- Facts of a simple command whose subcommand with this name equals that of the whole command.
facts_of_subcommand : Text → CommandFacts
facts_of_subcommand name = record {
  simple = true;
  free = true;
  required = true;
  has_no_name = false;
  met = Some name;
  top = (built dfu_app).top;
  found = subcommand_named (built dfu_app) name;
}

module _ (sub : App) (name : Text) (one : facts_of_command (app_of_subcommand_alone sub) name
    ≡ facts_of_subcommand name) (all : facts_of_command dfu_app name ≡ facts_of_subcommand name)
    (other : bytes_eq name (codes "help") ≡ false) where
  same_facts_meet_name : (app : App) → facts_of_command app name ≡ facts_of_subcommand name → CommandMeetsName app name
  unfolding facts_of_command facts_of_subcommand
  same_facts_meet_name app is = record {
    named = ap (λ (f : CommandFacts). f.has_no_name) is;
    met = ap (λ (f : CommandFacts). f.met) is;
    other = other;
  }

  alone_top_is_whole_top : (built (app_of_subcommand_alone sub)).top ≡ (built dfu_app).top
  unfolding facts_of_command facts_of_subcommand
  alone_top_is_whole_top = ap (λ (f : CommandFacts). f.top) one

  alone_subcommand_is_of_whole : subcommand_named (built (app_of_subcommand_alone sub)) name ≡ subcommand_named (built dfu_app) name
  unfolding facts_of_command facts_of_subcommand
  alone_subcommand_is_of_whole = ap (λ (f : CommandFacts). f.found) one

  alone_app_parses_as_whole : (program : Text) (words : List Text) → ParsesAsWhole (program ∷ name ∷ words) (app_of_subcommand_alone sub)
  unfolding facts_of_command facts_of_subcommand parse_fault_kinds
  alone_app_parses_as_whole program words = record {
    simple = ap (λ (f : CommandFacts). f.simple) one;
    free = ap (λ (f : CommandFacts). f.free) one;
    required = ap (λ (f : CommandFacts). f.required) one;
    top = own_rows_are_of_no_words (app_of_subcommand_alone sub) name (same_facts_meet_name (app_of_subcommand_alone sub) one) program words
        ∙ (ap (λ (s : Shape). finished s.rules nothing_held) alone_top_is_whole_top
        ∙ sym (own_rows_are_of_no_words dfu_app name (same_facts_meet_name dfu_app all) program words));
    rows = rows_are_of_met (app_of_subcommand_alone sub) name (same_facts_meet_name (app_of_subcommand_alone sub) one) program words
        ∙ (ap (option_map (λ s. rows_at s words)) alone_subcommand_is_of_whole
        ∙ sym (rows_are_of_met dfu_app name (same_facts_meet_name dfu_app all) program words));
    faults = fault_is_of_met (app_of_subcommand_alone sub) name (same_facts_meet_name (app_of_subcommand_alone sub) one) program words
        ∙ (ap (λ (s : Shape). kinds_of_met_subcommand s (subcommand_named (built (app_of_subcommand_alone sub)) name) words)
        alone_top_is_whole_top
        ∙ (ap (λ (o : Option Shape). kinds_of_met_subcommand (built dfu_app).top o words) alone_subcommand_is_of_whole
        ∙ sym (fault_is_of_met dfu_app name (same_facts_meet_name dfu_app all) program words)));
  }

module _ (program : Text) (words : List Text) where
  pub check_alone_parses_as_whole : ParsesAsWhole (program ∷ codes "check" ∷ words) (with_subcommand top_app check_app.top)
  unfolding dfu_app facts_of_command facts_of_subcommand
  check_alone_parses_as_whole = alone_app_parses_as_whole check_app (codes "check") refl refl refl program words

  pub add_alone_parses_as_whole : ParsesAsWhole (program ∷ codes "add" ∷ words) (with_subcommand top_app add_app.top)
  unfolding dfu_app facts_of_command facts_of_subcommand
  add_alone_parses_as_whole = alone_app_parses_as_whole add_app (codes "add") refl refl refl program words

  pub extract_alone_parses_as_whole : ParsesAsWhole (program ∷ codes "extract" ∷ words) (with_subcommand top_app extract_app.top)
  unfolding dfu_app facts_of_command facts_of_subcommand
  extract_alone_parses_as_whole = alone_app_parses_as_whole extract_app (codes "extract") refl refl refl program words

  pub set_alone_parses_as_whole : ParsesAsWhole (program ∷ codes "set" ∷ words) (with_subcommand top_app set_app.top)
  unfolding dfu_app facts_of_command facts_of_subcommand
  set_alone_parses_as_whole = alone_app_parses_as_whole set_app (codes "set") refl refl refl program words

  pub show_alone_parses_as_whole : ParsesAsWhole (program ∷ codes "show" ∷ words) (with_subcommand top_app show_app.top)
  unfolding dfu_app facts_of_command facts_of_subcommand
  show_alone_parses_as_whole = alone_app_parses_as_whole show_app (codes "show") refl refl refl program words

  pub run_alone_parses_as_whole : ParsesAsWhole (program ∷ codes "run" ∷ words) (with_subcommand top_app run_app.top)
  unfolding dfu_app facts_of_command facts_of_subcommand
  run_alone_parses_as_whole = alone_app_parses_as_whole run_app (codes "run") refl refl refl program words

  pub judge_alone_parses_as_whole : ParsesAsWhole (program ∷ codes "judge" ∷ words) (with_subcommand top_app judge_app.top)
  unfolding dfu_app facts_of_command facts_of_subcommand
  judge_alone_parses_as_whole = alone_app_parses_as_whole judge_app (codes "judge") refl refl refl program words

  pub plan_alone_parses_as_whole : ParsesAsWhole (program ∷ codes "plan" ∷ words) (with_subcommand top_app plan_app.top)
  unfolding dfu_app facts_of_command facts_of_subcommand
  plan_alone_parses_as_whole = alone_app_parses_as_whole plan_app (codes "plan") refl refl refl program words

-- If ParsesAsWhole holds for every program's name followed by the subcommand's name, it holds for a list whose second word is the
-- subcommand's name.
pub second_word_parses_as_whole : {X : Type 0} (text : X → Text) (app : App) (name : Text)
    → ((program : Text) (words : List Text) → ParsesAsWhole (program ∷ name ∷ words) app) → (xs : List X) (y : X) → 2 ≤ length xs
    → y ≡ get_or xs 1 y → name ≡ text y → ParsesAsWhole (map text xs) app
second_word_parses_as_whole text app name says [] y le is same = absurd (omega (arith, le))
second_word_parses_as_whole text app name says (x ∷ []) y le is same = absurd (omega (arith, le))
second_word_parses_as_whole text app name says (x ∷ z ∷ xs) y le is same =
    subst (λ (n : Text). ParsesAsWhole (text x ∷ n ∷ map text xs) app) (same ∙ ap text is) (says (text x) (map text xs))

-- A command that was built successfully satisfies ParsesAsWhole if the command that it equals does.
pub made_command_parses_as_whole : {T E : Type 0} (app : T → App) (made : Result T E) (words : List Text) (l : ListedCommand) (top : App)
    → IfOk made (λ c. app c ≡ with_listed_command top l) → top ≡ top_app → ParsesAsWhole words (with_listed_command top_app l)
    → IfOk made (λ c. ParsesAsWhole words (app c))
made_command_parses_as_whole app (Ok c) words l top over is says =
    subst (λ (a : App). ParsesAsWhole words a) (sym (over ∙ ap (λ (t : App). with_listed_command t l) is)) says
made_command_parses_as_whole app (Err e) words l top over is says = tt
