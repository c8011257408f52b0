-- How many plans a table has at most.
use Rattle.std.specs.Prelude.{ℕ}

-- a table with fewer plans takes one more: each is named by a number of 32 bits
abbrev pub most_plans : ℕ
most_plans = 4294967295

-- a table with fewer plans takes four more
abbrev pub most_before_four : ℕ
most_before_four = 4294967292
