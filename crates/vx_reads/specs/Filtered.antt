-- What a filter makes of a mask over rows of a tree, and why it makes nothing.
use Rattle.std.specs.Prelude.{◌≡◌, ℕ, ◌+◌, ◌-◌, ◌<◌, ◌⊎◌, Bool, true, List, Some, length, take, drop}
use Rattle.std.specs.Bool.{MatchBool}
use Rattle.std.specs.List.{slice_get}
use Rattle.vx_base.specs.Data.{DataType}
use Rattle.vx_expr.specs.Meaning.{is_strict}
use Rattle.vx_expr.specs.Terms.{Term}
use Rattle.vx_layout.specs.Kept.{all}
use Rattle.vx_layout.specs.Rows.{derivation}
use Rattle.vx_layout.specs.Trees.{Tree, missing, leaf, chunks, fields, dict, lists, zoned, Forest, no_trees, tree, head_of}
use Rattle.vx_rows.specs.SegmentLeaves.{Bytes}
use Rattle.vx_reads.specs.declared.errors.ReaderError.{ReaderError}
use Rattle.vx_reads.specs.declared.errors.ReaderError.TheVariants.{EvalFault}
use Rattle.vx_reads.specs.Computed.{row_value, RowsBy, HasCause}
use Rattle.vx_reads.specs.FilterFaults.{IsWorkedOut}
use Rattle.vx_reads.specs.Projected.{row_meaning, IsFaultAt}
use Rattle.vx_picking.specs.RowFaults.{root_meaning}
use Rattle.vx_picking.specs.Rows.{selects_some}
use Rattle.vx_reads.specs.Truths.{filtered, EachRow, IsKnown}

-- the row has a value, and the expression is no fault there but perhaps where it is null: over a dictionary a strict one is
-- not worked out for a null code
abbrev pub IsKnownAt : Bytes → RowsBy → DataType → Term → ℕ → Type 0
IsKnownAt bytes r t e row = IsKnown (root_meaning t e) (row_value bytes r row)

-- The mask's rows at which the expression is true; whether it is so is known at each of the mask's rows.
pub record IsFiltered (bytes : Bytes) (r : RowsBy) (t : DataType) (e : Term) (start : ℕ) (bits kept : List Bool) : Type 0 where
  pub is : kept ≡ filtered (row_meaning bytes r t e) start bits
  pub known : EachRow (IsKnownAt bytes r t e) start bits

-- The number names a row at which the expression is worked out and is a fault, counted from the first one on: at a leaf as
-- over a column, else at the selected rows; of data in zones as of the data. Or, below a dictionary of which some row is
-- selected, it is that of a row of the values over which a strict expression is one.
abbrev mutual
  pub FaultIn : Bytes → DataType → Term → Tree → ℕ → ℕ → List Bool → ℕ → Type 0
  FaultIn bytes t e (missing head) start first bits number = ⊥
  FaultIn bytes t e (leaf head segment coding) start first bits number =
      (place : ℕ) × IsWorkedOut bits place × (first + place ≡ number) × IsFaultAt bytes (derivation (leaf head segment coding) all) t e (start + place)
  FaultIn bytes t e (chunks head forest) start first bits number = FaultInChunks bytes t e forest start first bits number
  FaultIn bytes t e (fields head forest validity) start first bits number =
      (place : ℕ) × (slice_get bits place ≡ Some true) × (first + place ≡ number) × IsFaultAt bytes (derivation (fields head forest validity) all) t e (start + place)
  FaultIn bytes t e (dict head values codes) start first bits number =
      MatchBool (is_strict e) ((selects_some bits ≡ true) × (number < (head_of values).rows) × IsFaultAt bytes (derivation values all) t e number)
      ((place : ℕ) × (slice_get bits place ≡ Some true) × (first + place ≡ number) × IsFaultAt bytes (derivation (dict head values codes) all) t e (start + place))
  FaultIn bytes t e (lists head elements offsets validity) start first bits number = ⊥
  FaultIn bytes t e (zoned head zones content table) start first bits number = FaultIn bytes t e content start first bits number

  pub FaultInChunks : Bytes → DataType → Term → Forest → ℕ → ℕ → List Bool → ℕ → Type 0
  FaultInChunks bytes t e no_trees start first bits number = ⊥
  FaultInChunks bytes t e (tree chunk rest) start first bits number =
      ((selects_some (take ((head_of chunk).rows - start) bits) ≡ true) × FaultIn bytes t e chunk start first (take ((head_of chunk).rows - start) bits) number)
      ⊎ FaultInChunks bytes t e rest (start - (head_of chunk).rows) (first + ((head_of chunk).rows - start)) (drop ((head_of chunk).rows - start) bits) number

-- some row of the range reads what the fault names, or the expression is a fault where it is worked out; its rows are
-- counted from another first one
abbrev pub FilterCause : Bytes → DataType → Term → Tree → ℕ → ℕ → List Bool → ReaderError → Type 0
FilterCause bytes dtype e t start first bits (EvalFault number) = FaultIn bytes dtype e t start first bits number
FilterCause bytes dtype e t start first bits fault = HasCause bytes (derivation t all) start (length bits) fault
