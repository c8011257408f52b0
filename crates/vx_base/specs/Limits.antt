-- How many segments a file has at most.
use Rattle.std.specs.Prelude.{ℕ, ◌-◌, ◌^◌}

-- each segment is named by a number of 32 bits, and so is the count of all
abbrev pub most_segments : ℕ
most_segments = 2 ^ 32 - 1
