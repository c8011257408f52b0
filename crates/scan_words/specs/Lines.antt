-- Command lines that were worked out by hand, with what their words ask. A bar stands between two words.
use Rattle.std.specs.Prelude.{◌≡◌, ◌==◌, ℕ, false, true, if◌then◌else◌, codes, List, [], ◌∷◌, map, Some, None}
use Rattle.clap.specs.Words.{Text}
use Rattle.scan_words.specs.declared.commands.Command.{Command}
use Rattle.scan_words.specs.declared.commands.Command.TheVariants.{Scan, Read, Tree, Demo}
use Rattle.vx_split_rules.specs.declared.split_rules.SplitBy.TheVariants.{Layout, LayoutSubSplitting, RowCount}
use Rattle.scan_words.specs.Words.{command_of}

abbrev pub with_first : ℕ → List Text → List Text
with_first byte [] = (byte ∷ []) ∷ []
with_first byte (word ∷ words) = (byte ∷ word) ∷ words

-- the words between the bars (124)
abbrev pub words_between : Text → List Text
words_between [] = [] ∷ []
words_between (byte ∷ bytes) = if byte == 124 then [] ∷ words_between bytes else with_first byte (words_between bytes)

-- options stand anywhere, `--x v` or `--x=v`, until `--` ends them; a number is ASCII digits
abbrev pub asking_lines : List (Text × Command)
asking_lines =
    (codes "demo|0", Demo 0) ∷
    (codes "demo|1000000", Demo 1000000) ∷
    (codes "demo|007", Demo 7) ∷
    (codes "demo|--|5", Demo 5) ∷
    (codes "demo|5|--", Demo 5) ∷
    (codes "tree|r", Tree (codes "r")) ∷
    (codes "tree|--|-r", Tree (codes "-r")) ∷
    (codes "tree|--|--", Tree (codes "--")) ∷
    (codes "tree|", Tree (codes "")) ∷
    (codes "tree|help", Tree (codes "help")) ∷
    (codes "tree|a=b", Tree (codes "a=b")) ∷
    (codes "tree|--|-", Tree (codes "-")) ∷
    (codes "scan|s|r", Scan (codes "s") (codes "r") None false 1000000) ∷
    (codes "scan|s|r|--workers|4", Scan (codes "s") (codes "r") (Some 4) false 1000000) ∷
    (codes "scan|s|r|--workers|9", Scan (codes "s") (codes "r") (Some 9) false 1000000) ∷
    (codes "scan|--workers|4|s|r", Scan (codes "s") (codes "r") (Some 4) false 1000000) ∷
    (codes "scan|s|--workers|4|r", Scan (codes "s") (codes "r") (Some 4) false 1000000) ∷
    (codes "scan|s|r|--workers=4", Scan (codes "s") (codes "r") (Some 4) false 1000000) ∷
    (codes "scan|--workers=4|s|r", Scan (codes "s") (codes "r") (Some 4) false 1000000) ∷
    (codes "scan|--unordered|s|--idle|7|r|--workers=64", Scan (codes "s") (codes "r") (Some 64) true 7) ∷
    (codes "scan|s|r|--idle=18446744073709551615", Scan (codes "s") (codes "r") None false 18446744073709551615) ∷
    (codes "scan|s|r|--idle|0001", Scan (codes "s") (codes "r") None false 1) ∷
    (codes "scan|s|r|--workers|00000000000000000000000000000004", Scan (codes "s") (codes "r") (Some 4) false 1000000) ∷
    (codes "scan|--|s|r", Scan (codes "s") (codes "r") None false 1000000) ∷
    (codes "scan|s|r|--", Scan (codes "s") (codes "r") None false 1000000) ∷
    (codes "scan|s|--|r", Scan (codes "s") (codes "r") None false 1000000) ∷
    (codes "scan|--workers|2|--|-s|--idle", Scan (codes "-s") (codes "--idle") (Some 2) false 1000000) ∷
    (codes "scan|s|--|-", Scan (codes "s") (codes "-") None false 1000000) ∷
    (codes "scan|--unordered|--|s|r", Scan (codes "s") (codes "r") None true 1000000) ∷
    (codes "scan||", Scan (codes "") (codes "") None false 1000000) ∷
    (codes "scan|scan|--workers|1|scan", Scan (codes "scan") (codes "scan") (Some 1) false 1000000) ∷
    (codes "scan|s|--|--workers", Scan (codes "s") (codes "--workers") None false 1000000) ∷
    (codes "scan|s|--|--", Scan (codes "s") (codes "--") None false 1000000) ∷
    (codes "scan|s|r-", Scan (codes "s") (codes "r-") None false 1000000) ∷
    (codes "read|s|r", Read (codes "s") (codes "r") (LayoutSubSplitting 100000) 1000000) ∷
    (codes "read|s|r|--split|layout", Read (codes "s") (codes "r") Layout 1000000) ∷
    (codes "read|--split=rows:3|s|r|--idle=9", Read (codes "s") (codes "r") (RowCount 3) 9) ∷
    (codes "read|s|r|--split|sub:1", Read (codes "s") (codes "r") (LayoutSubSplitting 1) 1000000) ∷
    (codes "read|s|r|--split=sub:18446744073709551615", Read (codes "s") (codes "r") (LayoutSubSplitting 18446744073709551615) 1000000) ∷
    (codes "read|s|r|--split|rows:010", Read (codes "s") (codes "r") (RowCount 10) 1000000) ∷
    []

-- a word that is missing or too many; an option that isn't there, comes twice, is cut short or lacks its text; a word
-- with a dash before `--`; help; a number or a rule that is none
abbrev pub faulty_lines : List Text
faulty_lines =
    codes "help" ∷
    codes "--help" ∷
    codes "-h" ∷
    codes "--version" ∷
    codes "-V" ∷
    codes "-" ∷
    codes "--" ∷
    codes "Scan|s|r" ∷
    codes "sca|s|r" ∷
    codes "scan" ∷
    codes "scan|s" ∷
    codes "scan|s|r|x" ∷
    codes "scan|s|r|" ∷
    codes "scan|s|r|--help" ∷
    codes "scan|s|r|-h" ∷
    codes "scan|--help" ∷
    codes "scan|help" ∷
    codes "scan|s|r|--version" ∷
    codes "scan|s|r|-V" ∷
    codes "scan|s|r|--workers" ∷
    codes "scan|s|r|--workers=" ∷
    codes "scan|s|r|--workers|" ∷
    codes "scan|s|r|--workers|0" ∷
    codes "scan|s|r|--workers|65" ∷
    codes "scan|s|r|--workers|+4" ∷
    codes "scan|s|r|--workers|-4" ∷
    codes "scan|s|r|--workers=-4" ∷
    codes "scan|s|r|--workers|4x" ∷
    codes "scan|s|r|--workers| 4" ∷
    codes "scan|s|r|--workers|4|--workers|5" ∷
    codes "scan|s|r|--workers|4|--workers=4" ∷
    codes "scan|s|r|--idle=4|--idle=4" ∷
    codes "scan|s|r|--unordered|--unordered" ∷
    codes "scan|s|r|--unordered=true" ∷
    codes "scan|s|r|--unordered=" ∷
    codes "scan|s|r|--unordered|true" ∷
    codes "scan|s|r|--work|4" ∷
    codes "scan|s|r|--unorder" ∷
    codes "scan|s|r|--Workers|4" ∷
    codes "scan|s|r|-w|4" ∷
    codes "scan|s|r|-workers|4" ∷
    codes "scan|s|r|-u" ∷
    codes "scan|s|r|--|--workers|4" ∷
    codes "scan|--|s|r|--workers|4" ∷
    codes "scan|-|r" ∷
    codes "scan|s|-" ∷
    codes "scan|s|r|--workers|-" ∷
    codes "scan|s|r|--workers=-" ∷
    codes "scan|-s|r" ∷
    codes "scan|s|--r" ∷
    codes "scan|--workers|--|4|s|r" ∷
    codes "scan|s|r|--workers|--" ∷
    codes "scan|s|r|--workers|--idle|4" ∷
    codes "scan|s|r|--workers|--unordered" ∷
    codes "scan|s|r|--idle|0" ∷
    codes "scan|s|r|--idle|18446744073709551616" ∷
    codes "scan|s|r|--idle|99999999999999999999999999" ∷
    codes "scan|s|r|--split|layout" ∷
    codes "read|s|r|--workers|4" ∷
    codes "read|s|r|--unordered" ∷
    codes "read|s|r|--split" ∷
    codes "read|s|r|--split|" ∷
    codes "read|s|r|--split=" ∷
    codes "read|s|r|--split|sub:" ∷
    codes "read|s|r|--split|sub:0" ∷
    codes "read|s|r|--split|rows:0" ∷
    codes "read|s|r|--split|rows:+1" ∷
    codes "read|s|r|--split|sub:18446744073709551616" ∷
    codes "read|s|r|--split|Layout" ∷
    codes "read|s|r|--split|layout " ∷
    codes "read|s|r|--split|rows" ∷
    codes "read|s|r|--split|layout|--split|layout" ∷
    codes "demo" ∷
    codes "demo|" ∷
    codes "demo|1000001" ∷
    codes "demo|-5" ∷
    codes "demo|+5" ∷
    codes "demo|5|6" ∷
    codes "demo|5|--idle|4" ∷
    codes "demo|--number|5" ∷
    codes "demo|--number=5" ∷
    codes "tree" ∷
    codes "tree|a|b" ∷
    codes "tree|-r" ∷
    codes "tree|-1" ∷
    codes "tree|-" ∷
    codes "tree|--|r|--" ∷
    codes "tree|--|--|r" ∷
    codes "scan|s|r|--=4" ∷
    codes "scan|s|r|---workers|4" ∷
    codes "scan|s|r|--workers 4" ∷
    codes "scan|s|r|--segments|x" ∷
    codes "scan|s|r|-|--|x" ∷
    []

abbrev pub AskAsTold : Type 0
AskAsTold = map (λ line. command_of (words_between line.0)) asking_lines ≡ map (λ line. Some line.1) asking_lines

abbrev pub AskNothing : Type 0
AskNothing = map (λ line. command_of (words_between line)) faulty_lines ≡ map (λ line. None) faulty_lines
