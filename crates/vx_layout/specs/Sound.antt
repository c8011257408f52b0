-- What a list of nodes that keeps the rules of the shape says of its tree: a tree whose dtypes and row counts
-- fit together. Each fact is of a node and of its children's heads.
use Rattle.std.specs.Prelude.{◌≡◌, ℕ, ◌+◌}
use Rattle.vx_base.specs.declared.dtypes.Nullability.{Nullability}
use Rattle.vx_base.specs.declared.dtypes.Nullability.TheVariants.{NonNullable, Nullable}
use Rattle.vx_base.specs.Data.{DataType, bool_type, Members, no_members, member}
use Rattle.vx_base.specs.Leaf.{IsLeaf}
use Rattle.vx_base.specs.Fits.{nullability_of}
use Rattle.vx_base.specs.ColumnCalls.{nullable_where, IsUnsigned}
use Rattle.vx_layout.specs.Shape.{ZonesCount}
use Rattle.vx_rows.specs.TypeForms.{IsStruct, IsListOf, IsOffsets}
use Rattle.vx_rows.specs.Zones.{zones_type, StandOver, Zones}
use Rattle.vx_rows.specs.Heads.{Head}
use Rattle.vx_layout.specs.Trees.{Tree, missing, leaf, chunks, fields, dict, lists, zoned, Forest, no_trees, tree, Validity, always, valid_by, head_of}
use Rattle.vx_layout.specs.Rows.{struct_members, rows_in}

-- a head of a dtype and so many rows
pub record IsHead (head : Head) (t : DataType) (count : ℕ) : Type 0 where
  pub dtype : head.dtype ≡ t
  pub rows : head.rows ≡ count

-- a dictionary has the dtype of its values, which takes nulls where that of the codes does
pub record IsDictionary (head values codes : Head) : Type 0 where
  pub dtype : head.dtype ≡ nullable_where (nullability_of codes.dtype) values.dtype
  pub unsigned : IsUnsigned codes.dtype
  pub rows : codes.rows ≡ head.rows

-- a list has the dtype of its elements, and one offset more than rows
pub record IsList (head elements starts : Head) : Type 0 where
  pub dtype : IsListOf head.dtype elements.dtype
  pub offsets : IsOffsets starts.dtype
  pub rows : starts.rows ≡ head.rows + 1

-- ---- zones

-- one row of the table for each zone, and one field for each statistic
pub record AreZones (zones : Zones) (head table : Head) : Type 0 where
  pub dtype : table.dtype ≡ zones_type head.dtype zones.statistics
  pub stand : StandOver head.dtype zones.statistics
  pub rows : ZonesCount zones.zone_len head.rows table.rows

-- ---- trees

abbrev mutual
  pub IsSound : Tree → Type 0
  IsSound (missing head) = ⊥
  IsSound (leaf head segment coding) = IsLeaf head.dtype
  IsSound (chunks head forest) = AreChunks head.dtype forest × (rows_in forest ≡ head.rows)
  IsSound (fields head forest validity) =
      IsStruct head.dtype × AreFields (struct_members head.dtype) head.rows forest
      × IsValidity (nullability_of head.dtype) head.rows validity
  IsSound (dict head values codes) = IsSound values × IsSound codes × IsDictionary head (head_of values) (head_of codes)
  IsSound (lists head elements offsets validity) =
      IsSound elements × IsSound offsets × IsList head (head_of elements) (head_of offsets)
      × IsValidity (nullability_of head.dtype) head.rows validity
  IsSound (zoned head zones content table) =
      IsSound content × IsHead (head_of content) head.dtype head.rows × IsSound table × AreZones zones head (head_of table)

  -- each chunk has the dtype
  pub AreChunks : DataType → Forest → Type 0
  AreChunks t no_trees = Unit {0}
  AreChunks t (tree first rest) = IsSound first × ((head_of first).dtype ≡ t) × AreChunks t rest

  -- one tree for each field, of its dtype and so many rows
  pub AreFields : Members → ℕ → Forest → Type 0
  AreFields no_members rows no_trees = Unit {0}
  AreFields no_members rows (tree first rest) = ⊥
  AreFields (member name t ms) rows no_trees = ⊥
  AreFields (member name t ms) rows (tree first rest) = IsSound first × IsHead (head_of first) t rows × AreFields ms rows rest

  -- a tree of truth values exactly where nulls are taken
  pub IsValidity : Nullability → ℕ → Validity → Type 0
  IsValidity NonNullable rows always = Unit {0}
  IsValidity NonNullable rows (valid_by validity) = ⊥
  IsValidity Nullable rows always = ⊥
  IsValidity Nullable rows (valid_by validity) = IsSound validity × IsHead (head_of validity) (bool_type NonNullable) rows
