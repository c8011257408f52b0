-- What a scan answers: the meaning of its projection at each of its rows, and that in pieces by chunk.
use Rattle.std.specs.Prelude.{ℕ, ◌/◌, ◌==◌, if◌then◌else◌, List, [], ◌∷◌, take, Option, Some, None}
use Rattle.std.specs.declared.ops.Range.{Range}
use Rattle.vx_base.specs.declared.locations.SegmentLocation.{SegmentLocation}
use Rattle.vx_base.specs.Data.{Datum}
use Rattle.vx_expr.specs.Mentions.{is_root}
use Rattle.vx_layout.specs.Rows.{AreValuesOf}
use Rattle.vx_layout.specs.Trees.{head_of}
use Rattle.vx_lower.specs.Projected.{Projection, projected_at}
use Rattle.vx_rows.specs.Derivations.{Leaves}
use Rattle.vx_splits.specs.declared.selections.Selection.{Selection}
use Rattle.vx_splits.specs.Chunks.{chunk_size}
use Rattle.vx_splits.specs.Taken.{taken_rows}

-- A scan of a file: what is projected of its tree, which rows are asked for, of the range if one is given, and how many of
-- them at most, if a limit is given, and where the file's segments lie.
pub record FileScan : Type 0 where
  pub projection : Projection
  pub selection : Selection
  pub range : Option (Range ℕ)
  pub limit : Option ℕ
  pub locations : List SegmentLocation

abbrev pub row_count : FileScan → ℕ
row_count scan = (head_of scan.projection.root).rows

-- the first rows, as many as the limit; all of them where none is given
abbrev pub limited : Option ℕ → List ℕ → List ℕ
limited None rows = rows
limited (Some limit) rows = take limit rows

-- the rows of the scan, in ascending order: those that are taken, cut after the first ones where a limit is given
abbrev pub scan_rows : FileScan → List ℕ
scan_rows scan = limited scan.limit (taken_rows scan.selection scan.range (row_count scan))

-- how many rows of the file a chunk has
abbrev pub size_of : FileScan → ℕ
size_of scan = chunk_size (is_root scan.projection.expression.term) (row_count scan) scan.locations

-- These are the values of the projection at the rows, none of which is a fault.
abbrev pub IsAnswer : Leaves → Projection → List ℕ → List Datum → Type 0
IsAnswer leaves p rows values = AreValuesOf (projected_at leaves p) rows values

-- ---- pieces

-- one row more in front of pieces: in the first piece, where they share a chunk, else in one of its own
abbrev pub in_front : ℕ → ℕ → List (List ℕ) → List (List ℕ)
in_front size row [] = (row ∷ []) ∷ []
in_front size row ([] ∷ pieces) = (row ∷ []) ∷ pieces
in_front size row ((other ∷ others) ∷ pieces) =
    if row / size == other / size then (row ∷ other ∷ others) ∷ pieces else (row ∷ []) ∷ (other ∷ others) ∷ pieces

-- ascending rows by chunk, none of the pieces empty
abbrev pub pieces_of : ℕ → List ℕ → List (List ℕ)
pieces_of size [] = []
pieces_of size (row ∷ rows) = in_front size row (pieces_of size rows)

-- the rows of the scan by chunk
abbrev pub scan_pieces : FileScan → List (List ℕ)
scan_pieces scan = pieces_of (size_of scan) (scan_rows scan)

-- There are as many lists of values as pieces, and each has the values of the rows of its piece.
abbrev pub ArePieces : Leaves → Projection → List (List ℕ) → List (List Datum) → Type 0
ArePieces leaves p [] [] = Unit {0}
ArePieces leaves p (rows ∷ pieces) (values ∷ batches) = IsAnswer leaves p rows values × ArePieces leaves p pieces batches
ArePieces leaves p pieces batches = ⊥
