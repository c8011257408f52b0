-- The numbers that are promised.
use Rattle.std.specs.Prelude.{ℕ}

-- the most workers that a scan has, and so the most sources
abbrev pub most_workers : ℕ
most_workers = 64
