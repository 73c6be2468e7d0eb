-- After a walk without a fault, each row of an argument has a value.
use Rattle.std.proofs.Common.{◌≡◌, ◌<◌, ◌&&◌, ◌||◌, Bool, cond, true, false, not, refl, sym, ap, subst, arith, List, [], ◌∷◌, ◌++◌, length, Some, None, is_some, true≢false}
use Rattle.std.specs.Prelude.{slice_get}
use Rattle.std.specs.List.{find, fold, list_any}
use Rattle.std.specs.Option.{option_and_then, option_map_or}
use Rattle.std.specs.Str.{bytes_eq}
use Rattle.clap.specs.Facts.{explicit_source}
use Rattle.clap.specs.Walk.{Row, Rule, Text, at_row, default_rows, first_of, has_row, is_empty, more_values, reading_by, with_default, with_values, without}
use Rattle.clap.specs.Takes.{is_given}
use Rattle.clap.specs.declared.builder.value_parser.Reading.{Reading}
use Rattle.clap.specs.declared.parser.matches.ValueSource.{ValueSource}
use Rattle.clap.specs.declared.parser.matches.ValueSource.TheVariants.{DefaultValue}
use Rattle.std.proofs.lemmas.Slice.Eq.{bytes_eq-Decides}

-- Each row has at least one value.
abbrev pub EachRowHasValue : List Row → Type 0
EachRowHasValue [] = Unit {0}
EachRowHasValue (r ∷ rs) = (0 < length r.values) × EachRowHasValue rs

joined_rows_have_values : (xs ys : List Row) → EachRowHasValue xs → EachRowHasValue ys → EachRowHasValue (xs ++ ys)
joined_rows_have_values [] ys f g = g
joined_rows_have_values (x ∷ xs) ys f g = (f.0, joined_rows_have_values xs ys f.1 g)

changed_row_keeps_values : (id : Text) (change : Row → List Row) (missing rows : List Row) → ((r : Row) → 0 < length r.values →
    EachRowHasValue (change r))
    → EachRowHasValue missing → EachRowHasValue rows
    → EachRowHasValue (at_row id change missing rows)
changed_row_keeps_values id change missing [] changed added f = added
changed_row_keeps_values id change missing (r ∷ rs) changed added f = go (bytes_eq r.id id) (changed_row_keeps_values id change missing rs
    changed added f.1)
  where
    go : (b : Bool) → EachRowHasValue (at_row id change missing rs) → EachRowHasValue (cond b (change r
        ++ rs) (r ∷ at_row id change missing rs))
    go true rest = joined_rows_have_values (change r) rs (changed r f.0) f.1
    go false rest = (f.0, rest)

added_values_make_some : (xs ys : List Text) → 0 < length ys → 0 < length (xs ++ ys)
added_values_make_some [] ys lt = lt
added_values_make_some (x ∷ xs) ys lt = omega arith

-- If each row has a value, this remains true after values are added to the row of an argument. A missing row is created.
pub given_values_keep_rows_full : (id : Text) (how : Reading) (s : ValueSource) (values : List Text) (rows : List Row) →
    0 < length values → EachRowHasValue rows
    → EachRowHasValue (with_values id how s values rows)
given_values_keep_rows_full id how s values rows lt f = changed_row_keeps_values id (more_values s values) _ rows (λ r _. (
  added_values_make_some r.values
      values lt,
  tt,
)) (lt, tt) f

-- If each row has a value, this remains true after the first row of an argument is removed.
pub removal_keeps_rows_full : (id : Text) (rows : List Row) → EachRowHasValue rows → EachRowHasValue (without id rows)
removal_keeps_rows_full id rows f = changed_row_keeps_values id (λ _. []) [] rows (λ _ _. tt) tt f

default_keeps_rows_full : (rows : List Row) (a : Rule) → EachRowHasValue rows → EachRowHasValue (with_default rows a)
default_keeps_rows_full rows a f = go (has_row a.id rows)
  where
    given : (vs : List Text) → EachRowHasValue (default_rows a.id (reading_by a) vs rows)
    given [] = f
    given (v ∷ vs) = given_values_keep_rows_full a.id (reading_by a) DefaultValue (v ∷ vs) rows (omega arith) f

    go : (b : Bool) → EachRowHasValue (cond b rows (default_rows a.id (reading_by a) a.defaults rows))
    go true = f
    go false = given a.defaults

-- If each row has a value, this remains true after the defaults are added.
pub defaults_keep_rows_full : (rules : List Rule) (rows : List Row) → EachRowHasValue rows → EachRowHasValue (fold with_default rows rules)
defaults_keep_rows_full [] rows f = f
defaults_keep_rows_full (a ∷ rest) rows f = defaults_keep_rows_full rest (with_default rows a) (default_keeps_rows_full rows a f)

changed_row_keeps_row : (id other : Text) (s : ValueSource) (values : List Text) (missing rows : List Row) → has_row id rows ≡ true
    → has_row id (at_row other (more_values s values) missing rows) ≡ true
changed_row_keeps_row id other s values missing [] e = absurd (true≢false (sym e))
changed_row_keeps_row id other s values missing (r ∷ rs) e = go (bytes_eq r.id other) (tail (bytes_eq r.id id) (changed_row_keeps_row id
    other s values missing rs) e)
  where
    tail : (b : Bool) → (has_row id rs ≡ true → has_row id (at_row other (more_values s values) missing rs) ≡ true)
        → (b || has_row id rs) ≡ true
        → (b || has_row id (at_row other (more_values s values) missing rs)) ≡ true
    tail true rest e = refl
    tail false rest e = rest e

    go : (b : Bool) → has_row id (r ∷ at_row other (more_values s values) missing rs) ≡ true
        → has_row id (cond b (more_values s values r ++ rs) (r ∷ at_row other (more_values s values) missing rs)) ≡ true
    go true rest = e
    go false rest = rest

default_keeps_row : (id : Text) (rows : List Row) (a : Rule) → has_row id rows ≡ true → has_row id (with_default rows a) ≡ true
default_keeps_row id rows a e = go (has_row a.id rows)
  where
    given : (vs : List Text) → has_row id (default_rows a.id (reading_by a) vs rows) ≡ true
    given [] = e
    given (v ∷ vs) = changed_row_keeps_row id a.id DefaultValue (v ∷ vs) _ rows e

    go : (b : Bool) → has_row id (cond b rows (default_rows a.id (reading_by a) a.defaults rows)) ≡ true
    go true = e
    go false = given a.defaults

defaults_keep_row : (id : Text) (rules : List Rule) (rows : List Row) → has_row id rows ≡ true →
    has_row id (fold with_default rows rules) ≡ true
defaults_keep_row id [] rows e = e
defaults_keep_row id (a ∷ rest) rows e = defaults_keep_row id rest (with_default rows a) (default_keeps_row id rows a e)

text_equals_itself : (id : Text) → bytes_eq id id ≡ true
text_equals_itself id = (bytes_eq-Decides id id).1 refl

added : (id : Text) (how : Reading) (s : ValueSource) (values : List Text) (rows : List Row)
    → has_row id (with_values id how s values rows) ≡ true
added id how s values [] = ap (λ b. b || false) (text_equals_itself id)
added id how s values (r ∷ rs) = go (bytes_eq r.id id) refl (added id how s values rs)
  where
    missing : List Row
    missing = record { id = id; values = values; count = None; source = Some s; reading = how } ∷ []

    go : (b : Bool) → bytes_eq r.id id ≡ b → has_row id (at_row id (more_values s values) missing rs) ≡ true
        → has_row id (cond b (more_values s values r ++ rs) (r ∷ at_row id (more_values s values) missing rs)) ≡ true
    go true is rest = ap (λ b. b || has_row id rs) is
    go false is rest = rw is rest

-- True if an argument with this id has a default.
abbrev pub has_default : Text → List Rule → Bool
has_default id rules = list_any (λ a. bytes_eq a.id id && not (is_empty a.defaults)) rules

default_adds_row : (rows : List Row) (a : Rule) → is_empty a.defaults ≡ false → has_row a.id (with_default rows a) ≡ true
default_adds_row rows a some = go (has_row a.id rows) refl
  where
    given : (vs : List Text) → is_empty vs ≡ false → has_row a.id (default_rows a.id (reading_by a) vs rows) ≡ true
    given [] some = absurd (true≢false some)
    given (v ∷ vs) some = added a.id (reading_by a) DefaultValue (v ∷ vs) rows

    go : (b : Bool) → has_row a.id rows ≡ b → has_row a.id (cond b rows (default_rows a.id (reading_by a) a.defaults rows)) ≡ true
    go true is = is
    go false is = given a.defaults some

-- After the defaults are added, each argument with a default has a row.
pub default_argument_has_row : (id : Text) (rules : List Rule) (rows : List Row) → has_default id rules ≡ true
    → has_row id (fold with_default rows rules) ≡ true
default_argument_has_row id [] rows e = absurd (true≢false (sym e))
default_argument_has_row id (a ∷ rest) rows e = go (bytes_eq a.id id) (is_empty a.defaults) refl refl e (default_argument_has_row id rest
    (with_default rows a))
  where
    go : (b none : Bool) → bytes_eq a.id id ≡ b → is_empty a.defaults ≡ none → ((b && not none) || has_default id rest) ≡ true
        → (has_default id rest ≡ true → has_row id (fold with_default (with_default rows a) rest) ≡ true)
        → has_row id (fold with_default (with_default rows a) rest) ≡ true
    go true false is some e later =
        defaults_keep_row id rest (with_default rows a) (subst (λ t. has_row t (with_default rows a)
        ≡ true) ((bytes_eq-Decides a.id id).0 is) (default_adds_row rows a some))
    go true true is some e later = later e
    go false none is some e later = later e

-- True if an argument with this id is required.
abbrev pub is_required_argument : Text → List Rule → Bool
is_required_argument id rules = list_any (λ a. bytes_eq a.id id && a.required) rules

given_argument_has_row : (id : Text) (rows : List Row) → is_given id rows ≡ true → has_row id rows ≡ true
given_argument_has_row id [] g = absurd (true≢false (sym g))
given_argument_has_row id (r ∷ rs) g = go (bytes_eq r.id id) g (given_argument_has_row id rs)
  where
    go : (b : Bool) → option_map_or (λ (x : Row). explicit_source x.source) (cond b (Some r) (find (λ x. bytes_eq x.id id) rs)) false
        ≡ true
        → (is_given id rs ≡ true → has_row id rs ≡ true) → (b || has_row id rs) ≡ true
    go true g later = refl
    go false g later = later g

-- If no required argument is missing, each required argument has a row.
pub required_argument_has_row : (id : Text) (rules : List Rule) (rows : List Row)
    → list_any (λ a. a.required && not (is_given a.id rows)) rules ≡ false → is_required_argument id rules ≡ true
    → has_row id rows ≡ true
required_argument_has_row id [] rows none e = absurd (true≢false (sym e))
required_argument_has_row id (a ∷ rest) rows none e = go (bytes_eq a.id id) a.required (is_given a.id rows) refl refl none e
    (required_argument_has_row id rest rows)
  where
    go : (b needed given : Bool) → bytes_eq a.id id ≡ b → is_given a.id rows ≡ given
        → ((needed && not given) || list_any (λ x. x.required && not (is_given x.id rows)) rest) ≡ false
        → ((b && needed) || is_required_argument id rest) ≡ true
        → (list_any (λ x. x.required && not (is_given x.id rows)) rest ≡ false → is_required_argument id rest ≡ true → has_row id rows
        ≡ true)
        → has_row id rows ≡ true
    go true true true is g none e later = given_argument_has_row id rows (subst (λ t. is_given t rows
        ≡ true) ((bytes_eq-Decides a.id id).0 is) g)
    go true true false is g none e later = absurd (true≢false none)
    go true false given is g none e later = later none e
    go false true true is g none e later = later none e
    go false true false is g none e later = absurd (true≢false none)
    go false false given is g none e later = later none e

-- If each row has a value, an argument with a row has a text.
pub argument_with_row_has_text : (id : Text) (rows : List Row) → EachRowHasValue rows → has_row id rows ≡ true →
    is_some (first_of id rows) ≡ true
argument_with_row_has_text id [] f e = absurd (true≢false (sym e))
argument_with_row_has_text id (r ∷ rs) f e = go (bytes_eq r.id id) e (argument_with_row_has_text id rs f.1)
  where
    first : (vs : List Text) → 0 < length vs → is_some (slice_get vs 0) ≡ true
    first [] lt = absurd (omega arith)
    first (v ∷ vs) lt = refl

    go : (b : Bool) → (b || has_row id rs) ≡ true → (has_row id rs ≡ true → is_some (first_of id rs) ≡ true)
        → is_some (option_and_then (λ (x : Row). slice_get x.values 0) (cond b (Some r) (find (λ x. bytes_eq x.id id) rs))) ≡ true
    go true e later = first r.values f.0
    go false e later = later e
