-- What a filter keeps of the selected rows of a range, by all bytes that the reads have, and why it keeps nothing.
use Rattle.std.specs.Prelude.{◌≡◌, ℕ, ◌+◌, Bool, true, List, Some, length}
use Rattle.std.specs.List.{slice_get}
use Rattle.vx_base.specs.declared.codings.Coding.{Coding}
use Rattle.vx_base.specs.Data.{DataType}
use Rattle.vx_expr.specs.Terms.{Term}
use Rattle.vx_layout.specs.Kept.{all}
use Rattle.vx_layout.specs.Rows.{derivation, derivation_in}
use Rattle.vx_layout.specs.Trees.{Tree, leaf, Forest}
use Rattle.vx_rows.specs.Heads.{Head}
use Rattle.vx_rows.specs.SegmentLeaves.{Bytes}
use Rattle.vx_picking.specs.Rows.{selects_some}
use Rattle.vx_reads.specs.declared.errors.ReaderError.{ReaderError}
use Rattle.vx_reads.specs.declared.errors.ReaderError.TheVariants.{EvalFault}
use Rattle.vx_reads.specs.declared.reads.SegmentRead.{SegmentRead}
use Rattle.vx_reads.specs.Computed.{RowsBy, HasCause}
use Rattle.vx_reads.specs.Filtered.{FaultIn, FaultInChunks, FilterCause, IsFiltered}
use Rattle.vx_reads.specs.Projected.{IsFaultAt}
use Rattle.vx_reads.specs.Reads.{HaveBytes}

-- the mask's rows at which the expression is true, by all bytes that the reads have
abbrev pub AreKeptBy : List SegmentRead → RowsBy → DataType → Term → ℕ → List Bool → List Bool → Type 0
AreKeptBy reads r t e start bits kept = (bytes : Bytes) → HaveBytes bytes reads → IsFiltered bytes r t e start bits kept

abbrev pub FilterFails : List SegmentRead → Tree → DataType → Term → ℕ → ℕ → List Bool → ReaderError → Type 0
FilterFails reads tree t e start first bits fault = (bytes : Bytes) → HaveBytes bytes reads → FilterCause bytes t e tree start first bits fault

-- the same of trees one after another
abbrev pub ChunksCause : Bytes → DataType → Term → Forest → ℕ → ℕ → List Bool → ReaderError → Type 0
ChunksCause bytes t e forest start first bits (EvalFault number) = FaultInChunks bytes t e forest start first bits number
ChunksCause bytes t e forest start first bits fault = HasCause bytes (derivation_in forest all) start (length bits) fault

abbrev pub ChunksFail : List SegmentRead → Forest → DataType → Term → ℕ → ℕ → List Bool → ReaderError → Type 0
ChunksFail reads forest t e start first bits fault = (bytes : Bytes) → HaveBytes bytes reads → ChunksCause bytes t e forest start first bits fault

-- the same of a range of which some row is selected
abbrev pub RangeCause : Bytes → DataType → Term → Tree → ℕ → ℕ → List Bool → ReaderError → Type 0
RangeCause bytes t e tree start first bits (EvalFault number) = (selects_some bits ≡ true) × FaultIn bytes t e tree start first bits number
RangeCause bytes t e tree start first bits fault = HasCause bytes (derivation tree all) start (length bits) fault

abbrev pub RangeFails : List SegmentRead → Tree → DataType → Term → ℕ → ℕ → List Bool → ReaderError → Type 0
RangeFails reads tree t e start first bits fault = (bytes : Bytes) → HaveBytes bytes reads → RangeCause bytes t e tree start first bits fault

-- the same of rows over whose column the expression is worked out: it is a fault at that selected row, counted from another
-- first one
abbrev pub RowsCause : Bytes → RowsBy → DataType → Term → ℕ → ℕ → List Bool → ReaderError → Type 0
RowsCause bytes r t e start first bits (EvalFault number) = (place : ℕ) × (slice_get bits place ≡ Some true) × (first + place ≡ number) × IsFaultAt bytes r t e (start + place)
RowsCause bytes r t e start first bits fault = HasCause bytes r start (length bits) fault

abbrev pub RowsFail : List SegmentRead → RowsBy → DataType → Term → ℕ → ℕ → List Bool → ReaderError → Type 0
RowsFail reads r t e start first bits fault = (bytes : Bytes) → HaveBytes bytes reads → RowsCause bytes r t e start first bits fault

-- ---- a leaf, whose segment has these bytes

abbrev pub IsLeafKept : Head → ℕ → Coding → List ℕ → Term → ℕ → List Bool → List Bool → Type 0
IsLeafKept head segment coding these e start bits kept = (bytes : Bytes) → bytes segment ≡ Some these → IsFiltered bytes (derivation (leaf head segment coding) all) head.dtype e start bits kept

abbrev pub IsLeafFilterFault : Head → ℕ → Coding → List ℕ → Term → ℕ → ℕ → List Bool → ReaderError → Type 0
IsLeafFilterFault head segment coding these e start first bits fault = (bytes : Bytes) → bytes segment ≡ Some these → FilterCause bytes head.dtype e (leaf head segment coding) start first bits fault
