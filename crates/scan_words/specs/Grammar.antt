-- The commands that read the words of each mode, and what such a command makes of them.
use Rattle.std.specs.Prelude.{◌≡◌, true, codes, List, [], ◌∷◌, fold, Option, Some, None, Result, Ok, Err, ⊤}
use Rattle.clap.specs.Words.{App, Kinds, Row, Rule, Text, matches_of, new_app, new_rule, with_rule, fault_of, rows_of, found_of}
use Rattle.clap.specs.declared.builder.ArgAction.TheVariants.{SetTrue}
use Rattle.clap.specs.declared.error.ErrorKind.{ErrorKind}
use Rattle.clap.specs.declared.error.ErrorKind.TheVariants.{OutOfMemory}
use Rattle.clap.specs.declared.parser.matches.ArgMatches.{ArgMatches}
use Rattle.scan_words.specs.declared.commands.WordsError.{WordsError}
use Rattle.scan_words.specs.declared.commands.WordsError.TheVariants.{Usage, Memory}

-- a positional argument, which has to be there
abbrev pub positional_rule : Text → Rule
positional_rule id = record (new_rule id) { required = true }

-- an option with one text, `--id TEXT` or `--id=TEXT`
abbrev pub option_rule : Text → Rule
option_rule id = record (new_rule id) { long = Some id }

-- an option with no text
abbrev pub flag_rule : Text → Rule
flag_rule id = record (new_rule id) { long = Some id; action = Some SetTrue }

-- a command of these arguments alone: all its words are arguments, and it has no help
abbrev pub bare_app : Text → App
bare_app name = record (new_app name) { top = record (new_app name).top { no_binary_name = true; disable_help_flag = true } }

abbrev pub app : Text → List Rule → App
app name rules = fold with_rule (bare_app name) rules

-- scan SEGMENTS REQUEST [--workers N] [--unordered] [--idle N]
unfoldable pub scan_app : App
scan_app = app (codes "scan") (positional_rule (codes "segments") ∷ positional_rule (codes "request") ∷ option_rule (codes "workers")
    ∷ flag_rule (codes "unordered") ∷ option_rule (codes "idle") ∷ [])

-- read SEGMENTS REQUEST [--split RULE] [--idle N]
unfoldable pub read_app : App
read_app = app (codes "read") (positional_rule (codes "segments") ∷ positional_rule (codes "request") ∷ option_rule (codes "split")
    ∷ option_rule (codes "idle") ∷ [])

-- tree REQUEST
unfoldable pub tree_app : App
tree_app = app (codes "tree") (positional_rule (codes "request") ∷ [])

-- demo N
unfoldable pub demo_app : App
demo_app = app (codes "demo") (positional_rule (codes "number") ∷ [])

-- what a parse holds, where there is no kind of fault that it can end in
abbrev pub rows_unless : Kinds → List Row → Option (List Row)
rows_unless [] rows = Some rows
rows_unless (kind ∷ kinds) rows = None

-- what the command holds after the words, where it takes them
unfoldable pub parse_rows : App → List Text → Option (List Row)
parse_rows app words = rows_unless (fault_of app words) (matches_of app words)

abbrev pub rows_in : ArgMatches → List Row
rows_in matches = rows_of (found_of matches)

-- the matches of these rows where there are some, and `Usage` where there are none; want of memory may come in place of
-- either
abbrev pub HoldsRows : Option (List Row) → Result ArgMatches WordsError → Type 0
HoldsRows there (Ok matches) = there ≡ Some (rows_in matches)
HoldsRows there (Err Usage) = there ≡ None
HoldsRows there (Err Memory) = ⊤

abbrev pub Parses : App → List Text → Result ArgMatches WordsError → Type 0
Parses app words = HoldsRows (parse_rows app words)

-- why a parse failed, as the program tells it
abbrev pub refusal_of : ErrorKind → WordsError
refusal_of OutOfMemory = Memory
refusal_of other = Usage
