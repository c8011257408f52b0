-- The columns of a struct's fields, and the structs that they make.
use Rattle.std.specs.Prelude.{◌≡◌, ℕ, Bool, List, [], ◌∷◌, length}
use Rattle.vx_base.specs.declared.dtypes.Nullability.TheVariants.{NonNullable}
use Rattle.vx_base.specs.Columns.{ColumnData}
use Rattle.vx_base.specs.Data.{DataType, struct_type}
use Rattle.vx_base.specs.Masks.{true_count}
use Rattle.vx_layout.specs.Kept.{all}
use Rattle.vx_layout.specs.Rows.{derivation, struct_members}
use Rattle.vx_layout.specs.Trees.{Tree, Forest, no_trees, tree, head_of}
use Rattle.vx_reads.specs.declared.reads.SegmentRead.{SegmentRead}
use Rattle.vx_reads.specs.Computed.{AreRowsBy}

-- structs that take no nulls
abbrev pub IsBareStruct : DataType → Type 0
IsBareStruct t = t ≡ struct_type (struct_members t) NonNullable

-- A column of the tree's dtype, which has the values of its selected rows.
pub record IsColumnBy (reads : List SegmentRead) (t : Tree) (start : ℕ) (bits : List Bool) (column : ColumnData) : Type 0 where
  pub dtype : column.dtype ≡ (head_of t).dtype
  pub rows : length column.values ≡ true_count bits
  pub values : AreRowsBy reads (derivation t all) start bits column.values

-- one for each tree, in order
abbrev pub AreColumnsBy : List SegmentRead → Forest → ℕ → List Bool → List ColumnData → Type 0
AreColumnsBy reads no_trees start bits [] = Unit {0}
AreColumnsBy reads (tree first rest) start bits (column ∷ columns) = IsColumnBy reads first start bits column × AreColumnsBy reads rest start bits columns
AreColumnsBy reads forest start bits columns = ⊥
