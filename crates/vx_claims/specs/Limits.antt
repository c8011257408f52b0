-- The numbers that are promised.
use Rattle.std.specs.Prelude.{ℕ}

-- the most chunks that claims are of
abbrev pub most_chunks : ℕ
most_chunks = 68719476736

-- the parts of all seats together; so there are never more seats
abbrev pub all_parts : ℕ
all_parts = 65
