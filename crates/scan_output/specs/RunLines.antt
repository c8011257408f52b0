-- Rows that lie in runs, a range of which is printed.
use Rattle.std.specs.Prelude.{ℕ, ◌≤◌, List, length}
use Rattle.vx_base.specs.RunRows.{Rise, start_of}

-- each end is above the one before it, and the range ends within the last run
pub record IsRunRange (ends : List ℕ) (start end : ℕ) : Type 0 where
  pub rise : Rise 0 ends
  pub forwards : start ≤ end
  pub inside : end ≤ start_of 0 ends (length ends)
