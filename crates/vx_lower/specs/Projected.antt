-- What the projection of a scan is worth at a row of a tree, and what it reads there.
use Rattle.std.specs.Prelude.{ℕ, ◌+◌, if◌then◌else◌, List, [], Option, Some, option_and_then}
use Rattle.vx_base.specs.Data.{Datum, null}
use Rattle.vx_expr.specs.Bound.{Bound}
use Rattle.vx_expr.specs.Meaning.{meaning}
use Rattle.vx_expr.specs.Mentions.{uses_root}
use Rattle.vx_expr.specs.Rows.{no_bound}
use Rattle.vx_layout.specs.Kept.{KeptFields, kept_fields}
use Rattle.vx_layout.specs.Rows.{value, reads}
use Rattle.vx_layout.specs.Trees.{Tree, head_of}
use Rattle.vx_rows.specs.Derivations.{Leaves}
use Rattle.vx_rows.specs.Reads.{directly, Read}

-- A projection of a tree: a bound expression over the root's values and the rows' numbers, counted from an offset.
pub record Projection : Type 0 where
  pub root : Tree
  pub expression : Bound
  pub offset : ℕ

abbrev pub kept_of : Projection → KeptFields
kept_of p = kept_fields (head_of p.root).dtype p.expression.term

-- the root's value; null stands for it where the expression doesn't use the root
abbrev pub root_value : Leaves → Projection → ℕ → Option Datum
root_value leaves p row = if uses_root p.expression.term then value leaves p.root (kept_of p) row else Some null

-- what the projection is worth at a row, and a fault where the root's value is one
abbrev pub projected_at : Leaves → Projection → ℕ → Option Datum
projected_at leaves p row =
    option_and_then (λ v. meaning (head_of p.root).dtype no_bound p.expression.term v (p.offset + row)) (root_value leaves p row)

-- what a row of the scan reads: nothing where the expression doesn't use the root
abbrev pub scan_reads : Projection → ℕ → List Read
scan_reads p row = if uses_root p.expression.term then reads p.root directly (kept_of p) row else []
