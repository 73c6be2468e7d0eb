-- If a command line begins with the name of a subcommand, the walk stops there, and the result depends only on this subcommand.
use Rattle.std.proofs.Common.{◌≡◌, ◌∙◌, ◌&&◌, ap, codes, cond, false, not, refl, sym, append-nil, append_assoc, Bool, List, [], ◌∷◌, ◌++◌, Option, Some, is_some}
use Rattle.std.specs.List.{find, fold}
use Rattle.std.specs.Option.{option_map, option_map_or}
use Rattle.std.specs.Str.{bytes_eq}
use Rattle.clap.specs.Words.{App, Rule, Text, matches_of, subcommand_of}
use Rattle.clap.specs.Kinds.{Kinds, or_else}
use Rattle.clap.specs.Faults.{built_fault, check_fault, defaults_fault, entered_fault, fault_of, level_fault, other_fault, settle_fault, step_fault, walk_fault}
use Rattle.clap.specs.Simple.{Shape, argument_words, built, entered, label_of, names_of, rows_at}
use Rattle.clap.specs.Walk.{Names, Walk, after_step, answers_to, finished, idle, nothing_held, settled, subcommand_met, subcommand_or_other, walk, walk_from, walked}
use Rattle.clap.specs.declared.error.kind.ErrorKind.TheVariants as kind

-- Walk that has stopped at the subcommand with this name and has taken these words after it.
abbrev walk_stopped_at : Text → List Text → Walk
walk_stopped_at name words = record (walk_from nothing_held) { stopped = Some (name, words) }

stopped_walk_takes_words : (c : List Rule) (names : Names) (name : Text) (done words : List Text)
    → fold (walked c names) (walk_stopped_at name done) words ≡ walk_stopped_at name (done ++ words)
unfolding walked
stopped_walk_takes_words c names name done [] = ap (walk_stopped_at name) (sym (append-nil done))
stopped_walk_takes_words c names name done (word ∷ words) =
    stopped_walk_takes_words c names name (done ++ word ∷ []) words ∙ ap (walk_stopped_at name) (append_assoc done (word ∷ []) words)

stopped_walk_has_no_fault : (s : Shape) (names : Names) (name : Text) (done words : List Text) →
    walk_fault s names (walk_stopped_at name done) words ≡ []
unfolding walk_fault walked
stopped_walk_has_no_fault s names name done [] = refl
stopped_walk_has_no_fault s names name done (word ∷ words) = stopped_walk_has_no_fault s names name (done ++ word ∷ []) words

module _ (s : Shape) (names : Names) (name : Text) (words : List Text) (is : subcommand_met names idle name ≡ Some name) where
  walk_stops_at_name : walked s.rules names (walk_from nothing_held) name ≡ walk_stopped_at name []
  unfolding walked
  walk_stops_at_name = ap (λ (o : Option Text). after_step s.rules name (walk_from nothing_held)
      (subcommand_or_other s.rules o idle 1 name nothing_held).0 (subcommand_or_other s.rules o idle 1 name nothing_held).1) is

  walk_meets_first_word : walk s.rules names nothing_held (name ∷ words) ≡ walk_stopped_at name words
  walk_meets_first_word = ap (λ (w : Walk). fold (walked s.rules names) w words) walk_stops_at_name
      ∙ stopped_walk_takes_words s.rules names name [] words

  later : walk_fault s names (walked s.rules names (walk_from nothing_held) name) words ≡ []
  later = ap (λ (w : Walk). walk_fault s names w words) walk_stops_at_name ∙ stopped_walk_has_no_fault s names name [] words

  walk_to_name_has_no_fault : bytes_eq name (codes "help") ≡ false → walk_fault s names (walk_from nothing_held) (name ∷ words) ≡ []
  unfolding walk_fault
  walk_to_name_has_no_fault other = ap (λ (o : Option Text). or_else (or_else (other_fault s o name nothing_held)
      (step_fault s 1 (subcommand_or_other s.rules o idle 1 name nothing_held).0
      (subcommand_or_other s.rules o idle 1 name nothing_held).1))
      (walk_fault s names (walked s.rules names (walk_from nothing_held) name) words)) is
      ∙ (ap (λ (b : Bool). or_else (or_else (cond (b && not s.disable_help_subcommand)
      (kind.DisplayHelp ∷ kind.InvalidSubcommand ∷ []) []) [])
      (walk_fault s names (walked s.rules names (walk_from nothing_held) name) words)) other ∙ later)

-- Kinds of error for words that begin with the name of a subcommand, from the shapes of the command and of the subcommand.
abbrev pub kinds_of_met_subcommand : Shape → Option Shape → List Text → Kinds
kinds_of_met_subcommand top sub words = or_else (option_map_or (λ s. level_fault s [] nothing_held words false []) sub [])
    (or_else (settle_fault top.rules top.args_override_self nothing_held)
    (or_else (defaults_fault (settled top.rules nothing_held).rows top.rules)
    (check_fault top (finished top.rules nothing_held) (is_some (option_map (λ s. rows_at s words) sub)))))

-- Subcommand of a built command that has this name or alias.
abbrev pub subcommand_named : App → Text → Option Shape
subcommand_named b name = find (λ s. answers_to name (label_of s)) b.subs

module _ (b : App) (name : Text) (words : List Text) (is : subcommand_met (names_of b) idle name ≡ Some name) where
  built_fault_is_of_met : bytes_eq name (codes "help") ≡ false → built_fault b nothing_held (name ∷ words)
      ≡ kinds_of_met_subcommand b.top (subcommand_named b name) words
  built_fault_is_of_met other = ap (λ (w : Walk). by w (walk_fault b.top (names_of b) (walk_from nothing_held) (name ∷ words)))
      (walk_meets_first_word b.top (names_of b) name words is)
      ∙ ap (by (walk_stopped_at name words)) (walk_to_name_has_no_fault b.top (names_of b) name words is other)
    where
      by : Walk → Kinds → Kinds
      by w k = or_else k (or_else (entered_fault b w.stopped) (or_else (settle_fault b.top.rules b.top.args_override_self w.held)
          (or_else (defaults_fault (settled b.top.rules w.held).rows b.top.rules)
          (check_fault b.top (finished b.top.rules w.held) (is_some (entered b w.stopped))))))

  entered_rows_are_of_met : entered b (walk b.top.rules (names_of b) nothing_held (name ∷ words)).stopped
      ≡ option_map (λ s. rows_at s words) (subcommand_named b name)
  entered_rows_are_of_met = ap (λ (w : Walk). entered b w.stopped) (walk_meets_first_word b.top (names_of b) name words is)

  finished_rows_are_of_no_words : finished b.top.rules (walk b.top.rules (names_of b) nothing_held (name ∷ words)).held
      ≡ finished b.top.rules nothing_held
  finished_rows_are_of_no_words = ap (λ (w : Walk). finished b.top.rules w.held) (walk_meets_first_word b.top (names_of b) name words is)

-- The command expects the program's name before its words, and has a subcommand with this name, which isn't `help`.
pub record CommandMeetsName (a : App) (name : Text) : Type 0 where
  pub named : a.top.no_binary_name ≡ false
  pub met : subcommand_met (names_of (built a)) idle name ≡ Some name
  pub other : bytes_eq name (codes "help") ≡ false

module _ (a : App) (name : Text) (meets : CommandMeetsName a name) (program : Text) (words : List Text) where
  arguments : argument_words a (program ∷ name ∷ words) ≡ name ∷ words
  arguments = ap (λ (b : Bool). cond b (program ∷ name ∷ words) (name ∷ words)) meets.named

  pub fault_is_of_met : fault_of a (program ∷ name ∷ words)
      ≡ kinds_of_met_subcommand (built a).top (subcommand_named (built a) name) words
  fault_is_of_met = ap (built_fault (built a) nothing_held) arguments ∙ built_fault_is_of_met (built a) name words meets.met meets.other

  pub rows_are_of_met : subcommand_of a (program ∷ name ∷ words)
      ≡ option_map (λ s. rows_at s words) (subcommand_named (built a) name)
  rows_are_of_met = ap (λ (ws : List Text). entered (built a) (walk (built a).top.rules (names_of (built a)) nothing_held
      ws).stopped) arguments
      ∙ entered_rows_are_of_met (built a) name words meets.met

  pub own_rows_are_of_no_words : matches_of a (program ∷ name ∷ words) ≡ finished (built a).top.rules nothing_held
  own_rows_are_of_no_words = ap (λ (ws : List Text). finished (built a).top.rules
      (walk (built a).top.rules (names_of (built a)) nothing_held ws).held) arguments
      ∙ finished_rows_are_of_no_words (built a) name words meets.met
