-- The rows of a tree: how each is derived, what it is worth, what it reads, and which segments it reaches.
-- `derivation` alone says what the kinds of node are to a row.
use Rattle.std.specs.Prelude.{◌≡◌, ℕ, ◌+◌, ◌-◌, ◌<◌, nat_lt, if◌then◌else◌, List, map, Option, Some, option_and_then}
use Rattle.std.specs.List.{slice_get, range_with_len}
use Rattle.vx_base.specs.declared.locations.SegmentLocation.{SegmentLocation}
use Rattle.vx_base.specs.Data.{DataType, bool_type, int_type, utf8_type, struct_type, list_type, Members, no_members, member, Datum, null}
use Rattle.vx_base.specs.Sources.{bytes_at}
use Rattle.vx_layout.specs.Trees.{Tree, missing, leaf, chunks, fields, dict, lists, zoned, Forest, no_trees, tree, Validity, always, valid_by, head_of}
use Rattle.vx_layout.specs.Kept.{KeptFields, all, is_kept}
use Rattle.vx_rows.specs.Derivations.{Derivation, nothing, of_leaf, list_row, given, packed, valid_where, looked_up, Derivations, no_more, also, each_row, Leaves, derived}
use Rattle.vx_rows.specs.SegmentLeaves.{leaves_of}
use Rattle.vx_rows.specs.Reads.{Way, directly, Read, Found, reads_of, Finds, IsIn}

-- the fields of a struct
abbrev pub struct_members : DataType → Members
struct_members (struct_type ms n) = ms
struct_members (bool_type n) = no_members
struct_members (int_type kind n) = no_members
struct_members (utf8_type n) = no_members
struct_members (list_type t n) = no_members

-- A leaf's row is a cell. A row of a chunked node is that of the chunk that holds it. A struct's row is packed
-- from its fields, with null in place of one that isn't kept, where its validity is not false. A dictionary's
-- row is looked up by its code among all rows of the values. A row of zoned data is that of the data. What
-- lies below a field, a validity or a dictionary is read with all its fields.
abbrev mutual
  pub derivation : Tree → KeptFields → ℕ → Derivation
  derivation (missing head) kept row = nothing
  derivation (leaf head segment coding) kept row = of_leaf (record { dtype = head.dtype; coding = coding; rows = head.rows; segment = segment; row = row })
  derivation (chunks head forest) kept row = derivation_in forest kept row
  derivation (fields head forest validity) kept row =
      where_valid_by validity row (packed (field_derivations (struct_members head.dtype) forest kept row))
  derivation (dict head values codes) kept row =
      looked_up head.number row (derivation codes all row) (each_row (derivation values all) 0 (head_of values).rows)
  derivation (lists head elements offsets validity) kept row = list_row head.number row
  derivation (zoned head zones content table) kept row = derivation content kept row

  -- the row of trees one after another
  pub derivation_in : Forest → KeptFields → ℕ → Derivation
  derivation_in no_trees kept row = nothing
  derivation_in (tree first rest) kept row =
      if nat_lt row (head_of first).rows then derivation first kept row else derivation_in rest kept (row - (head_of first).rows)

  -- the row of each field; a field without a tree is a fault
  pub field_derivations : Members → Forest → KeptFields → ℕ → Derivations
  field_derivations no_members forest kept row = no_more
  field_derivations (member name t ms) no_trees kept row =
      also (if is_kept kept name then nothing else given null) (field_derivations ms no_trees kept row)
  field_derivations (member name t ms) (tree first rest) kept row =
      also (if is_kept kept name then derivation first all row else given null) (field_derivations ms rest kept row)

  pub where_valid_by : Validity → ℕ → Derivation → Derivation
  where_valid_by always row d = d
  where_valid_by (valid_by validity) row d = valid_where d (derivation validity all row)

-- ---- values

-- the bytes of a segment, where it has a location inside the file
abbrev pub segment_bytes : List ℕ → List SegmentLocation → ℕ → Option (List ℕ)
segment_bytes file locations segment = option_and_then (bytes_at file) (slice_get locations segment)

-- the leaves of a file
abbrev pub file_leaves : List ℕ → List SegmentLocation → Leaves
file_leaves file locations = leaves_of (segment_bytes file locations)

-- what a row is worth; none is a fault
abbrev pub value : Leaves → Tree → KeptFields → ℕ → Option Datum
value leaves t kept row = derived leaves (derivation t kept row)

-- ---- reads

-- what a row reads, come to by a way
abbrev pub reads : Tree → Way → KeptFields → ℕ → List Read
reads t way kept row = reads_of way (derivation t kept row)

-- ---- all rows

-- These are the values of the rows, none of which is a fault.
abbrev pub AreValuesOf : (ℕ → Option Datum) → List ℕ → List Datum → Type 0
AreValuesOf value_at rows values = map value_at rows ≡ map Some values

abbrev pub all_rows : Tree → List ℕ
all_rows t = range_with_len 0 (head_of t).rows

-- These are the values of all rows of the tree.
abbrev pub AreTreeValues : Leaves → Tree → KeptFields → List Datum → Type 0
AreTreeValues leaves t kept values = AreValuesOf (value leaves t kept) (all_rows t) values

-- the rows of all trees together
abbrev pub rows_in : Forest → ℕ
rows_in no_trees = 0
rows_in (tree first rest) = (head_of first).rows + rows_in rest

abbrev pub value_in : Leaves → Forest → KeptFields → ℕ → Option Datum
value_in leaves forest kept row = derived leaves (derivation_in forest kept row)

-- These are the values of all rows of the trees, one tree after another.
abbrev pub AreForestValues : Leaves → Forest → KeptFields → List Datum → Type 0
AreForestValues leaves forest kept values = AreValuesOf (value_in leaves forest kept) (range_with_len 0 (rows_in forest)) values

-- P of what some row of the tree finds
abbrev pub SomeRowFinds : (Found → Type 0) → Tree → KeptFields → Type 0
SomeRowFinds P t kept = (row : ℕ) × (row < (head_of t).rows) × Finds P (reads t directly kept row)

-- Some row of the tree reaches the segment.
abbrev pub IsReached : Tree → KeptFields → ℕ → Type 0
IsReached t kept segment = SomeRowFinds (IsIn segment) t kept
