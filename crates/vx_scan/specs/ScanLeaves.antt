-- Which leaves the rows of a scan read.
use Rattle.std.specs.Prelude.{ℕ, List}
use Rattle.vx_rows.specs.Reads.{Way, AnyOf}
use Rattle.vx_lower.specs.Projected.{Projection}
use Rattle.vx_steps.specs.declared.leaf_reads.LeafRead.{LeafRead}
use Rattle.vx_chunks.specs.Ways.{ReadsBy}
use Rattle.vx_scan.specs.PlanTexts.{held_tree}

-- some of the rows reads the leaf that way; the leaf and the take are numbered as the plan of the projection's tree
-- numbers them
abbrev pub ScanReadsLeaf : Projection → List ℕ → Way → LeafRead → Type 0
ScanReadsLeaf p rows way read = AnyOf (ReadsBy way read (held_tree p)) rows
