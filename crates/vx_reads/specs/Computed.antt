-- What is computed for the selected rows of a range from the bytes of segments, and why nothing is.
use Rattle.std.specs.Prelude.{◌≡◌, ℕ, ◌+◌, ◌<◌, Bool, List, ◌++◌, Option, Some, length}
use Rattle.std.specs.List.{flat_map, AllByRecursion}
use Rattle.vx_base.specs.declared.codings.Coding.{Coding}
use Rattle.vx_base.specs.Columns.{ColumnData}
use Rattle.vx_base.specs.Data.{DataType, Datum}
use Rattle.vx_base.specs.Masks.{true_count}
use Rattle.vx_layout.specs.Kept.{all}
use Rattle.vx_layout.specs.Rows.{derivation}
use Rattle.vx_layout.specs.Trees.{leaf}
use Rattle.vx_rows.specs.Derivations.{Derivation, derived}
use Rattle.vx_rows.specs.Heads.{Head}
use Rattle.vx_rows.specs.Reads.{directly, Found, a_code, reads_of, Finds, IsIn, IsBadCode}
use Rattle.vx_rows.specs.SegmentLeaves.{Bytes, leaves_of, IsTorn}
use Rattle.vx_reads.specs.declared.errors.ReaderError.{ReaderError}
use Rattle.vx_reads.specs.declared.errors.ReaderError.TheVariants.{ReadFault, BadSegment, BadCode, EvalFault, NoLocation, Memory}
use Rattle.vx_reads.specs.declared.reads.SegmentRead.{SegmentRead}
use Rattle.vx_reads.specs.Reads.{HaveBytes}
use Rattle.vx_picking.specs.Rows.{rows_of, AreOf}

-- how each row is derived
abbrev pub RowsBy : Type 0
RowsBy = ℕ → Derivation

-- what a row is worth by the bytes of the segments
abbrev pub row_value : Bytes → RowsBy → ℕ → Option Datum
row_value bytes r row = derived (leaves_of bytes) (r row)

-- P of what some row of the range finds: so many rows from the first one on
abbrev pub RangeFinds : (Found → Type 0) → RowsBy → ℕ → ℕ → Type 0
RangeFinds P r start count = (place : ℕ) × (place < count) × Finds P (reads_of directly (r (start + place)))

-- ---- causes

-- the segment is read, and its bytes spell no values for a leaf that names it
abbrev pub IsTornIn : Bytes → ℕ → Found → Type 0
IsTornIn bytes segment found = IsIn segment found × IsTorn bytes found

-- the code is that of the row of the dictionary
abbrev pub IsCodeAt : ℕ → ℕ → Found → Type 0
IsCodeAt dictionary row (a_code at) = (at.dictionary ≡ dictionary) × (at.row ≡ row)
IsCodeAt dictionary row found = ⊥

abbrev pub IsBadCodeAt : Bytes → ℕ → ℕ → Found → Type 0
IsBadCodeAt bytes dictionary row found = IsCodeAt dictionary row found × IsBadCode (leaves_of bytes) found

-- some row of the range reads what the fault names
abbrev pub HasCause : Bytes → RowsBy → ℕ → ℕ → ReaderError → Type 0
HasCause bytes r start count (BadSegment segment) = RangeFinds (IsTornIn bytes segment) r start count
HasCause bytes r start count (BadCode dictionary row) = RangeFinds (IsBadCodeAt bytes dictionary row) r start count
HasCause bytes r start count Memory = Unit {0}
HasCause bytes r start count ReadFault = ⊥
HasCause bytes r start count (EvalFault row) = ⊥
HasCause bytes r start count (NoLocation segment) = ⊥

-- ---- columns

-- These are the values of the selected rows, by all bytes that the reads have.
abbrev pub AreRowsBy : List SegmentRead → RowsBy → ℕ → List Bool → List Datum → Type 0
AreRowsBy reads r start bits values = (bytes : Bytes) → HaveBytes bytes reads → AreOf (row_value bytes r) (rows_of start bits) values

-- some row of the range has the fault, by all bytes that the reads have
abbrev pub Fails : List SegmentRead → RowsBy → ℕ → ℕ → ReaderError → Type 0
Fails reads r start count fault = (bytes : Bytes) → HaveBytes bytes reads → HasCause bytes r start count fault

abbrev pub values_in : List ColumnData → List Datum
values_in parts = flat_map (λ part. part.values) parts

-- Columns of the dtype, which have the values of the selected rows, are added behind the others.
pub record AddsRows (reads : List SegmentRead) (t : DataType) (r : RowsBy) (start : ℕ) (bits : List Bool) (old new : List ColumnData) : Type 0 where
  pub more : List ColumnData
  pub parts : new ≡ old ++ more
  pub dtypes : AllByRecursion (λ part. part.dtype ≡ t) more
  pub rows : length (values_in more) ≡ true_count bits
  pub values : AreRowsBy reads r start bits (values_in more)

-- ---- a leaf, whose segment has these bytes

abbrev pub IsLeafBy : Head → ℕ → Coding → List ℕ → ℕ → List Bool → List Datum → Type 0
IsLeafBy head segment coding these start bits values = (bytes : Bytes) → bytes segment ≡ Some these → AreOf (row_value bytes (derivation (leaf head segment coding) all)) (rows_of start bits) values

abbrev pub IsLeafFault : Head → ℕ → Coding → List ℕ → ℕ → ℕ → ReaderError → Type 0
IsLeafFault head segment coding these start count fault = (bytes : Bytes) → bytes segment ≡ Some these → HasCause bytes (derivation (leaf head segment coding) all) start count fault
