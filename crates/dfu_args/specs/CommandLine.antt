-- The command line of `dfu`, in terms of the specification of clap.
use Rattle.std.specs.Prelude.{◌≡◌, ◌||◌, Bool, true, false, List, [], ◌∷◌, Option, Some, None, codes, map}
use Rattle.std.specs.List.{fold}
use Rattle.std.specs.Option.{option_map}
use Rattle.std.specs.Str.{bytes_eq}
use Rattle.std.specs.String.{string_bytes}
use Rattle.clap.specs.Words.{App, Row, Rule, Text, all_of, first_of, matches_of, new_app, new_rule, subcommand_of, with_rule, with_subcommand}
use Rattle.clap.specs.declared.builder.ArgAction.TheVariants.{Append, Set, SetTrue}
use Rattle.dfu_args.specs.declared.subcommand.Subcommand.{Subcommand}
use Rattle.dfu_args.specs.declared.subcommand.Subcommand.TheVariants.{Check, Add, Extract, Change, Show, Run, Judge, Plan}

-- Rule of a required positional argument with one value.
abbrev pub required_rule : Text → Rule
required_rule id = record (new_rule id) { required = true; action = Some Set; value_names = 1 }

-- Rule of a required positional argument with one or more values.
abbrev pub repeated_rule : Text → Rule
repeated_rule id = record (new_rule id) { required = true; action = Some Append; value_names = 1 }

-- Rule of an optional positional argument with one or more values, or with its default if none is given.
abbrev pub optional_rule : Text → Text → Rule
optional_rule id default = record (new_rule id) { action = Some Append; value_names = 1; defaults = default ∷ [] }

-- Rule of an option `--ID` with a value and a default.
abbrev pub option_rule : Text → Text → Rule
option_rule id default = record (new_rule id) { long = Some id; action = Some Set; defaults = default ∷ [] }

-- Rule of an option `--ID` with a value and without a default.
abbrev pub unset_option_rule : Text → Rule
unset_option_rule id = record (new_rule id) { long = Some id; action = Some Set }

-- Rule of a required option `--ID` with one value.
abbrev pub required_option_rule : Text → Rule
required_option_rule id = record (new_rule id) { long = Some id; required = true; action = Some Set }

-- Rule of a flag `--ID`, which has no value and is off unless it is given.
abbrev pub flag_rule : Text → Rule
flag_rule id = record (new_rule id) { long = Some id; action = Some SetTrue }

-- Command with the flag `--explain`, which all commands accept.
abbrev pub with_explain_flag : App → App
with_explain_flag app = with_rule app (flag_rule (codes "explain"))

-- Command with this name, with arguments by these rules, and with the flag `--explain`.
abbrev pub command_with_rules : Text → List Rule → App
command_with_rules name rules = with_explain_flag (fold with_rule (new_app name) rules)

-- The command `check` takes at least one FILE and the flag `--json`.
abbrev pub check_app : App
check_app = command_with_rules (codes "check") (repeated_rule (codes "file") ∷ flag_rule (codes "json") ∷ [])

-- The command `add` takes FILE, OUT, the options `--vid`, `--pid` and `--did` with the default `ffff`, and the options `--format` and
-- `--fill`.
abbrev pub add_app : App
add_app = command_with_rules (codes "add") (required_rule (codes "file") ∷ required_rule (codes "to") ∷ option_rule (codes "vid") (codes "ffff")
    ∷ option_rule (codes "pid") (codes "ffff") ∷ option_rule (codes "did") (codes "ffff") ∷ unset_option_rule (codes "format") ∷ unset_option_rule (codes "fill") ∷ [])

-- The command `extract` takes FILE and OUT.
abbrev pub extract_app : App
extract_app = command_with_rules (codes "extract") (required_rule (codes "file") ∷ required_rule (codes "to") ∷ [])

-- The command `set` takes FILE and the options `--vid`, `--pid` and `--did`.
abbrev pub set_app : App
set_app = command_with_rules (codes "set") (required_rule (codes "file") ∷ unset_option_rule (codes "vid") ∷ unset_option_rule (codes "pid") ∷ unset_option_rule (codes "did") ∷ [])

-- The command `show` takes KIND, at least one HEX and the flag `--json`.
abbrev pub show_app : App
show_app = command_with_rules (codes "show") (required_rule (codes "kind") ∷ repeated_rule (codes "hex") ∷ flag_rule (codes "json") ∷ [])

-- The command `run` takes SCRIPT, the flag `--trace` and the option `--file`.
abbrev pub run_app : App
run_app = command_with_rules (codes "run") (required_rule (codes "script") ∷ flag_rule (codes "trace") ∷ unset_option_rule (codes "file") ∷ [])

-- The command `judge` takes FILEs with the default `-`, the option `--interface` with the default `0`, the option `--device` with the
-- default `only`, and the flags `--dfuse` and `--json`.
abbrev pub judge_app : App
judge_app = command_with_rules (codes "judge") (optional_rule (codes "file") (codes "-") ∷ option_rule (codes "interface") (codes "0")
    ∷ option_rule (codes "device") (codes "only") ∷ flag_rule (codes "dfuse") ∷ flag_rule (codes "json") ∷ [])

-- The command `plan` takes the required options `--part` and `--boot`, the option `--areas` with the default `2`, the option `--parts`, and
-- the flag `--json`.
abbrev pub plan_app : App
plan_app = command_with_rules (codes "plan") (required_option_rule (codes "part") ∷ required_option_rule (codes "boot")
    ∷ option_rule (codes "areas") (codes "2") ∷ unset_option_rule (codes "parts") ∷ flag_rule (codes "json") ∷ [])

-- The command `dfu` without its subcommands. It requires a subcommand and has a version.
abbrev pub app_without_subcommands : App
app_without_subcommands = record (new_app (codes "dfu")) {
  top = record (new_app (codes "dfu")).top { subcommand_required = true; has_version = true };
}

-- The command `dfu` without its subcommands, but with the flag `--explain`, which may precede a subcommand.
abbrev pub top_app : App
top_app = with_explain_flag app_without_subcommands

-- The whole command `dfu`, with all its subcommands.
unfoldable pub dfu_app : App
dfu_app =
    with_subcommand (with_subcommand (with_subcommand (with_subcommand (with_subcommand (with_subcommand (with_subcommand
    (with_subcommand top_app check_app.top) add_app.top) extract_app.top) set_app.top) show_app.top) run_app.top) judge_app.top)
    plan_app.top

-- True if a flag is on, which means that its text is `true`.
abbrev pub is_on : Option Text → Bool
is_on None = false
is_on (Some text) = bytes_eq text (codes "true")

-- The subcommand is the one that clap's specification names. Each of its fields holds the text, the texts or the flag of its own argument.
abbrev pub IsStatedSubcommand : Option (Text × List Row) → Subcommand → Type 0
IsStatedSubcommand None subcommand = ⊥
IsStatedSubcommand (Some p) (Check files json) = (p.0 ≡ codes "check") × (all_of (codes "file") p.1 ≡ Some (map string_bytes files.items))
    × (json ≡ is_on (first_of (codes "json") p.1))
IsStatedSubcommand (Some p) (Add file to vid pid did format fill) =
    (p.0 ≡ codes "add") × (first_of (codes "file") p.1 ≡ Some (string_bytes file)) × (first_of (codes "to") p.1 ≡ Some (string_bytes to))
    × (first_of (codes "vid") p.1 ≡ Some (string_bytes vid)) × (first_of (codes "pid") p.1 ≡ Some (string_bytes pid))
    × (first_of (codes "did") p.1 ≡ Some (string_bytes did)) × (first_of (codes "format") p.1 ≡ option_map string_bytes format)
    × (first_of (codes "fill") p.1 ≡ option_map string_bytes fill)
IsStatedSubcommand (Some p) (Extract file to) = (p.0 ≡ codes "extract") × (first_of (codes "file") p.1 ≡ Some (string_bytes file))
    × (first_of (codes "to") p.1 ≡ Some (string_bytes to))
IsStatedSubcommand (Some p) (Change file vid pid did) =
    (p.0 ≡ codes "set") × (first_of (codes "file") p.1 ≡ Some (string_bytes file))
    × (first_of (codes "vid") p.1 ≡ option_map string_bytes vid) × (first_of (codes "pid") p.1 ≡ option_map string_bytes pid)
    × (first_of (codes "did") p.1 ≡ option_map string_bytes did)
IsStatedSubcommand (Some p) (Show kind hex json) = (p.0 ≡ codes "show") × (first_of (codes "kind") p.1 ≡ Some (string_bytes kind))
    × (all_of (codes "hex") p.1 ≡ Some (map string_bytes hex.items)) × (json ≡ is_on (first_of (codes "json") p.1))
IsStatedSubcommand (Some p) (Run script trace file) = (p.0 ≡ codes "run") × (first_of (codes "script") p.1 ≡ Some (string_bytes script))
    × (trace ≡ is_on (first_of (codes "trace") p.1)) × (first_of (codes "file") p.1 ≡ option_map string_bytes file)
IsStatedSubcommand (Some p) (Judge files interface device dfuse json) =
    (p.0 ≡ codes "judge") × (all_of (codes "file") p.1 ≡ Some (map string_bytes files.items))
    × (first_of (codes "interface") p.1 ≡ Some (string_bytes interface)) × (first_of (codes "device") p.1 ≡ Some (string_bytes device))
    × (dfuse ≡ is_on (first_of (codes "dfuse") p.1)) × (json ≡ is_on (first_of (codes "json") p.1))
IsStatedSubcommand (Some p) (Plan part boot areas parts json) =
    (p.0 ≡ codes "plan") × (first_of (codes "part") p.1 ≡ Some (string_bytes part)) × (first_of (codes "boot") p.1 ≡ Some (string_bytes boot))
    × (first_of (codes "areas") p.1 ≡ Some (string_bytes areas)) × (first_of (codes "parts") p.1 ≡ option_map string_bytes parts)
    × (json ≡ is_on (first_of (codes "json") p.1))

-- Rows of a subcommand; none if there is no subcommand.
abbrev pub rows_of_subcommand : Option (Text × List Row) → List Row
rows_of_subcommand None = []
rows_of_subcommand (Some p) = p.1

-- True if the command line has the flag `--explain`, before or after the subcommand.
abbrev pub wants_reason : List Text → Bool
wants_reason words =
    is_on (first_of (codes "explain") (matches_of dfu_app words))
    || is_on (first_of (codes "explain") (rows_of_subcommand (subcommand_of dfu_app words)))
