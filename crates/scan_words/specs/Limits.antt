-- The numbers of the command line that are promises.
use Rattle.std.specs.Prelude.{ℕ}

-- a scan has one worker at least, and no more than these
abbrev pub most_workers : ℕ
most_workers = 64

-- how often a read may stand idle, where the words do not say
abbrev pub default_idle : ℕ
default_idle = 1000000

-- the demo file has no more rows
abbrev pub most_demo_rows : ℕ
most_demo_rows = 1000000
