-- The numbers that are promised.
use Rattle.std.specs.Prelude.{ℕ}

-- the most rows that a chunk has, and the most that a file of one chunk has
abbrev pub most_chunk_rows : ℕ
most_chunk_rows = 65536

-- the rows of a block
abbrev pub block_rows : ℕ
block_rows = 8192

-- the bytes that a chunk is meant to have
abbrev pub chunk_bytes : ℕ
chunk_bytes = 8388608

-- a range of gathered indices has fewer rows than this
abbrev pub range_rows_limit : ℕ
range_rows_limit = 4000

-- an index this far behind the rows before it opens a range of its own
abbrev pub least_gap : ℕ
least_gap = 50000

-- the greatest span of a split where nothing else is said
abbrev pub default_span : ℕ
default_span = 100000
