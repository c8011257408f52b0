-- What the words of a command line ask.
use Rattle.std.specs.Prelude.{ℕ, Bool, false, true, if◌then◌else◌, codes, List, [], ◌∷◌, Option, Some, None, option_map}
use Rattle.std.specs.Option.{option_map_or}
use Rattle.std.specs.Str.{bytes_eq}
use Rattle.clap.specs.Words.{Row, Text, first_of}
use Rattle.scan_words.specs.declared.commands.Command.{Command}
use Rattle.scan_words.specs.declared.commands.Command.TheVariants.{Scan, Read, Tree, Demo}
use Rattle.vx_split_rules.specs.Limits.{default_span}
use Rattle.vx_split_rules.specs.declared.split_rules.SplitBy.{SplitBy}
use Rattle.vx_split_rules.specs.declared.split_rules.SplitBy.TheVariants.{LayoutSubSplitting}
use Rattle.scan_words.specs.Grammar.{demo_app, parse_rows, read_app, scan_app, tree_app}
use Rattle.scan_words.specs.Limits.{default_idle, most_demo_rows, most_workers}
use Rattle.scan_words.specs.Numbers.{number_between}
use Rattle.scan_words.specs.SplitRules.{size, split_rule}

infixl 10 ◌>>=◌
abbrev pub ◌>>=◌ : {A B : Type 0} → Option A → (A → Option B) → Option B
None >>= f = None
(Some x) >>= f = f x

-- ---- what the texts say

-- what the text of an option says, and what stands in its place where the option is absent
abbrev pub text_or : {A : Type 0} → A → (Text → Option A) → Option Text → Option A
text_or absent read None = Some absent
text_or absent read (Some text) = read text

-- the flag is there
abbrev pub has_flag : Text → List Row → Bool
has_flag id rows = option_map_or (λ text. bytes_eq text (codes "true")) (first_of id rows) false

abbrev pub some_count : Text → Option (Option ℕ)
some_count text = option_map Some (number_between 1 most_workers text)

unfoldable pub worker_count : List Row → Option (Option ℕ)
worker_count rows = text_or None some_count (first_of (codes "workers") rows)

unfoldable pub idle_limit : List Row → Option ℕ
idle_limit rows = text_or default_idle size (first_of (codes "idle") rows)

unfoldable pub split_choice : List Row → Option SplitBy
split_choice rows = text_or (LayoutSubSplitting default_span) split_rule (first_of (codes "split") rows)

-- ---- what the rows of each mode ask

unfoldable pub scan_command : List Row → Option Command
scan_command rows = first_of (codes "segments") rows >>= λ segments. first_of (codes "request") rows
    >>= λ request. worker_count rows >>= λ workers. idle_limit rows >>= λ idle. Some (Scan segments request workers (has_flag (codes "unordered") rows) idle)

unfoldable pub read_command : List Row → Option Command
read_command rows = first_of (codes "segments") rows >>= λ segments. first_of (codes "request") rows
    >>= λ request. split_choice rows >>= λ split. idle_limit rows >>= λ idle. Some (Read segments request split idle)

unfoldable pub tree_command : List Row → Option Command
tree_command rows = first_of (codes "request") rows >>= λ request. Some (Tree request)

unfoldable pub demo_command : List Row → Option Command
demo_command rows = first_of (codes "number") rows >>= λ text. number_between 0 most_demo_rows text >>= λ number. Some (Demo number)

-- ---- the words

-- a word that is `-` stands before any `--`
abbrev pub has_lone_dash : List Text → Bool
has_lone_dash [] = false
has_lone_dash (word ∷ words) = if bytes_eq word (codes "--") then false else (if bytes_eq word (codes "-") then true else has_lone_dash words)

-- what the words after each mode ask

abbrev pub scan_asked : List Text → Option Command
scan_asked words = parse_rows scan_app words >>= scan_command

abbrev pub read_asked : List Text → Option Command
read_asked words = parse_rows read_app words >>= read_command

abbrev pub tree_asked : List Text → Option Command
tree_asked words = parse_rows tree_app words >>= tree_command

abbrev pub demo_asked : List Text → Option Command
demo_asked words = parse_rows demo_app words >>= demo_command

unfoldable pub mode_command : Text → List Text → Option Command
mode_command mode words =
    if bytes_eq mode (codes "scan") then scan_asked words
    else (if bytes_eq mode (codes "read") then read_asked words
    else (if bytes_eq mode (codes "tree") then tree_asked words
    else (if bytes_eq mode (codes "demo") then demo_asked words
    else None)))

-- what the words ask, of which the first is the mode
abbrev pub command_of : List Text → Option Command
command_of [] = None
command_of (mode ∷ words) = if has_lone_dash words then None else mode_command mode words
