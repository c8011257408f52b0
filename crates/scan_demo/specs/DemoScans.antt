-- A scan of all rows of the demo file for the bare root.
use Rattle.std.specs.Prelude.{◌≡◌, ◌≤◌, ℕ, List, map, None}
use Rattle.vx_base.specs.Data.{Datum}
use Rattle.vx_expr.specs.Terms.{root}
use Rattle.vx_layout.specs.Rows.{file_leaves}
use Rattle.vx_layout.specs.Shape.{IsGoodTree}
use Rattle.vx_layout.specs.Trees.{subtree}
use Rattle.vx_splits.specs.declared.selections.Selection.TheVariants.{All}
use Rattle.vx_scan.specs.Answer.{FileScan, ArePieces, scan_pieces}
use Rattle.scan_demo.specs.DemoBytes.{demo_bytes, demo_locations}
use Rattle.scan_demo.specs.DemoNodes.{demo_nodes}
use Rattle.scan_demo.specs.DemoRows.{demo_row, most_demo_rows}
use Rattle.scan_demo.specs.Summary.{demo_pieces}

-- The scan is of the layout and the segments of the demo file of so many rows.
pub record IsDemoScan (number : ℕ) (scan : FileScan) : Type 0 where
  pub layout : scan.projection.root ≡ subtree (demo_nodes number) 0
  pub bare : scan.projection.expression.term ≡ root
  pub selection : scan.selection ≡ All
  pub range : scan.range ≡ None
  pub limit : scan.limit ≡ None
  pub locations : scan.locations ≡ demo_locations number

-- the layout of the demo file keeps the rules of the shape
abbrev pub LayoutIsGood : Type 0
LayoutIsGood = (number : ℕ) → number ≤ most_demo_rows → IsGoodTree (demo_nodes number)

-- the pieces of such a scan are those of the demo file
abbrev pub PiecesAreDemo : Type 0
PiecesAreDemo = (number : ℕ) (scan : FileScan) → number ≤ most_demo_rows → IsDemoScan number scan → scan_pieces scan ≡ demo_pieces number

-- and what it answers by the bytes of the file are the demo rows, piece by piece
abbrev pub AnswersAreDemo : Type 0
AnswersAreDemo = (number : ℕ) (scan : FileScan) (batches : List (List Datum)) → number ≤ most_demo_rows → IsDemoScan number scan
    → ArePieces (file_leaves (demo_bytes number) scan.locations) scan.projection (scan_pieces scan) batches
    → batches ≡ map (map (demo_row number)) (demo_pieces number)
