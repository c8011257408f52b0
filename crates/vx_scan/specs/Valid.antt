-- Which scans have no cause to fail but want of memory.
use Rattle.std.specs.Prelude.{ℕ, ◌+◌, ◌^◌, ◌<◌, IsTrue, Some, None, IsSome, Option}
use Rattle.std.specs.List.{AllByRecursion}
use Rattle.std.specs.declared.ops.Range.{Range}
use Rattle.vx_expr.specs.Bound.{IsBoundTo}
use Rattle.vx_expr.specs.Mentions.{uses_row_number}
use Rattle.vx_layout.specs.Sound.{IsSound}
use Rattle.vx_layout.specs.Trees.{head_of}
use Rattle.vx_lower.specs.Projected.{projected_at, scan_reads}
use Rattle.vx_rows.specs.Derivations.{Leaves}
use Rattle.vx_rows.specs.Reads.{FindsOnly, IsFine}
use Rattle.vx_splits.specs.declared.selections.Selection.{Selection}
use Rattle.vx_splits.specs.Taken.{selected_rows}
use Rattle.vx_scan.specs.Answer.{FileScan, row_count, scan_rows}

-- the expression is bound to the dtype of the tree
abbrev pub IsBound : FileScan → Type 0
IsBound scan = IsBoundTo scan.projection.expression (head_of scan.projection.root).dtype

-- the range isn't empty: the given one, else all rows
abbrev pub HasRows : Option (Range ℕ) → ℕ → Type 0
HasRows None count = 0 < count
HasRows (Some range) count = range.start < range.end

-- each selected row of the range, if one is given, is below the count
abbrev pub SelectsInside : Selection → Option (Range ℕ) → ℕ → Type 0
SelectsInside selection None count = Unit {0}
SelectsInside selection (Some range) count = AllByRecursion (λ row. row < count) (selected_rows selection range.start range.end)

-- The tree is sound, and the expression is bound to its dtype. Where it uses the row's number and the range isn't
-- empty, no number of a row of the file passes 2^64-1. The selected rows of a given range are the file's. Each row of
-- the scan finds only what is fine, and the projection of none is a fault.
pub record IsValidScan (leaves : Leaves) (scan : FileScan) : Type 0 where
  pub sound : IsSound scan.projection.root
  pub bound : IsBound scan
  pub numbered : IsTrue (uses_row_number scan.projection.expression.term) → HasRows scan.range (row_count scan) → scan.projection.offset + row_count scan < 2 ^ 64
  pub inside : SelectsInside scan.selection scan.range (row_count scan)
  pub fine : AllByRecursion (λ row. FindsOnly (IsFine leaves) (scan_reads scan.projection row)) (scan_rows scan)
  pub answered : AllByRecursion (λ row. IsSome (projected_at leaves scan.projection row)) (scan_rows scan)
