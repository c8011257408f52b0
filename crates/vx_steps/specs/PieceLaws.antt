-- What the pieces in which the rows of a split are given come to together.
use Rattle.std.specs.Prelude.{ℕ, List, Option}
use Rattle.vx_base.specs.Data.{Datum}
use Rattle.vx_picking.specs.Rows.{rows_of, AreOf}
use Rattle.vx_steps.specs.declared.splits.Split.{Split}
use Rattle.vx_steps.specs.Pieces.{joined, ArePieces, Piece}

-- The pieces of a split, from its first row on, joined are the values of its selected rows, in their order.
abbrev pub PiecesJoin : Type 0
PiecesJoin = (f : ℕ → Option Datum) (split : Split) (pieces : List Piece) → ArePieces f split 0 pieces → AreOf f (rows_of split.rows.start split.mask) (joined pieces)
