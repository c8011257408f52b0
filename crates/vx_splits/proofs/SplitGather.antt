-- What the loop over indices has gathered.
use Rattle.std.proofs.Common.{ℕ, List, ◌++◌, Option}
use Rattle.std.specs.Prelude.{option_map}
use Rattle.std.specs.declared.ops.Range.{Range}
use Rattle.vx_splits.specs.SplitRanges.{gathered}

-- the closed ranges, and behind them those of the open range and the indices that are left
abbrev pub gathered_behind : List (Range ℕ) → ℕ → ℕ → List ℕ → Option (List (Range ℕ))
gathered_behind closed start end indices = option_map (λ (ranges : List (Range ℕ)). closed ++ ranges) (gathered start end indices)
