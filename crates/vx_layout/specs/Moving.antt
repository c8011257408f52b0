-- A tree while its segments are written anew: the new segment of a flat node, and what was written after so many nodes.
use Rattle.std.specs.Prelude.{◌≡◌, ℕ, ◌<◌, ◌≤◌, List, [], ◌∷◌, ◌++◌, length, map, Some, None, IsSomeAnd}
use Rattle.std.specs.List.{slice_get, AllByRecursion}
use Rattle.vx_base.specs.declared.codings.Coding.{Coding}
use Rattle.vx_base.specs.declared.locations.SegmentLocation.{SegmentLocation}
use Rattle.vx_base.specs.Columns.{ColumnData}
use Rattle.vx_base.specs.Data.{Datum}
use Rattle.vx_base.specs.Slots.{IsShort}
use Rattle.vx_base.specs.CodingsRead.{decoded_as}
use Rattle.vx_base.specs.Codings.{SpellsAs}
use Rattle.vx_layout.specs.declared.migrate_errors.MigrateError.{MigrateError}
use Rattle.vx_layout.specs.declared.migrate_errors.MigrateError.TheVariants as errors
use Rattle.vx_layout.specs.declared.migrations.Written.{Written}
use Rattle.vx_layout.specs.Migrations.{flats_before, moved_kind, moved_node, most_bytes, CanMove, HasValues, Hinders, HindersValues, IsKeptIn, LieWithoutGaps, OfFlat}
use Rattle.vx_layout.specs.Nodes.{Node, node_data}
use Rattle.vx_layout.specs.Rows.{segment_bytes}
use Rattle.vx_layout.specs.Shape.{AreFewIn}

-- a refusal of a flat node of that number: want of memory, or what hinders it
abbrev pub RefusesFlat : List SegmentLocation → List ℕ → ℕ → Node → ℕ → Coding → Coding → MigrateError → Type 0
RefusesFlat locations file n node segment old coding errors.Memory = Unit {0}
RefusesFlat locations file n node segment old coding error = Hinders locations file n node segment old coding error

-- a segment has these bytes and this alignment
pub record IsSegmentOf (locations : List SegmentLocation) (file : List ℕ) (segment : ℕ) (bytes : List ℕ) (alignment : ℕ) : Type 0 where
  pub there : segment_bytes file locations segment ≡ Some bytes
  pub aligned : IsSomeAnd (slice_get locations segment) (λ at. at.alignment ≡ alignment)

-- the column has the values that the bytes spell for the node
pub record HasColumn (node : Node) (old : Coding) (bytes : List ℕ) (column : ColumnData) : Type 0 where
  pub dtype : column.dtype ≡ node.dtype
  pub count : length column.values ≡ node.rows
  pub short : AllByRecursion IsShort column.values
  pub read : decoded_as old node.dtype node.rows bytes ≡ Some column.values

-- or they spell none, or memory ran out
abbrev pub IsTorn : ℕ → Node → Coding → List ℕ → MigrateError → Type 0
IsTorn n node old bytes errors.Memory = Unit {0}
IsTorn n node old bytes (errors.BadSegment at) = (at ≡ n) × (decoded_as old node.dtype node.rows bytes ≡ None)
IsTorn n node old bytes error = ⊥

-- bytes spell a flat node's values in its new coding as others do in its old one
pub record IsRespelled (node : Node) (old coding : Coding) (bytes new : List ℕ) : Type 0 where
  pub values : List Datum
  pub read : decoded_as old node.dtype node.rows bytes ≡ Some values
  pub few : AreFewIn coding node.rows
  pub spelled : SpellsAs coding node.dtype node.rows new values
  pub short : length new ≤ most_bytes

-- The values that the bytes spell for a flat node of that number can't be written.
pub record SpellHindered (n : ℕ) (node : Node) (old coding : Coding) (bytes : List ℕ) (error : MigrateError) : Type 0 where
  pub values : List Datum
  pub read : decoded_as old node.dtype node.rows bytes ≡ Some values
  pub hinders : HindersValues n node coding values error

-- a refusal of a flat node of that number by the bytes of its old segment
abbrev pub RefusesBytes : ℕ → Node → Coding → Coding → List ℕ → MigrateError → Type 0
RefusesBytes n node old coding bytes errors.Memory = Unit {0}
RefusesBytes n node old coding bytes (errors.BadSegment at) = (at ≡ n) × (decoded_as old node.dtype node.rows bytes ≡ None)
RefusesBytes n node old coding bytes error = SpellHindered n node old coding bytes error

-- The bytes are a flat node's values in its new coding, and the alignment is that of its old segment.
pub record IsMovedSegment (locations : List SegmentLocation) (file : List ℕ) (node : Node) (segment : ℕ) (old coding : Coding) (bytes : List ℕ) (alignment : ℕ) : Type 0 where
  pub values : List Datum
  pub has : HasValues locations file node segment old values
  pub few : AreFewIn coding node.rows
  pub spelled : SpellsAs coding node.dtype node.rows bytes values
  pub short : length bytes ≤ most_bytes
  pub aligned : IsSomeAnd (slice_get locations segment) (λ before. before.alignment ≡ alignment)

-- where bytes lie that are written behind a file
abbrev pub location_behind : List ℕ → List ℕ → ℕ → SegmentLocation
location_behind file bytes alignment = record { offset = length file; length = length bytes; alignment = alignment }

-- a node over a segment of that number in a coding, if it is flat
abbrev pub node_over : Node → ℕ → Coding → Node
node_over node place coding = record { kind = moved_kind node.kind place (Some coding); dtype = node.dtype; rows = node.rows; children = node.children }

-- A flat node was written over these bytes, in a segment that has the number of the segments before.
pub record IsJoined (node : Node) (coding : Coding) (bytes : List ℕ) (alignment : ℕ) (before after : Written) : Type 0 where
  pub nodes : map node_data after.nodes.items ≡ map node_data before.nodes.items ++ node_over node (length before.locations.items) coding ∷ []
  pub located : after.locations.items ≡ before.locations.items ++ location_behind before.file.items bytes alignment ∷ []
  pub filled : after.file.items ≡ before.file.items ++ bytes

-- and the bytes are its values in its new coding
pub record IsPushed (locations : List SegmentLocation) (file : List ℕ) (node : Node) (segment : ℕ) (old coding : Coding) (before after : Written) : Type 0 where
  pub bytes : List ℕ
  pub alignment : ℕ
  pub made : IsMovedSegment locations file node segment old coding bytes alignment
  pub joined : IsJoined node coding bytes alignment before after

-- So many nodes were written: each is moved, and each flat one has its values in a segment of its own, behind the others.
pub record AreWritten (nodes : List Node) (locations : List SegmentLocation) (file : List ℕ) (codings : List Coding) (count : ℕ) (new_nodes : List Node) (new_locations : List SegmentLocation) (new_file : List ℕ) : Type 0 where
  pub size : length new_nodes ≡ count
  pub moved : (n : ℕ) → n < count → (node : Node) → slice_get nodes n ≡ Some node → slice_get new_nodes n ≡ Some (moved_node nodes codings n node)
  pub segments : length new_locations ≡ flats_before nodes count
  pub no_gaps : LieWithoutGaps 0 new_locations (length new_file)
  pub kept : (n : ℕ) → n < count → OfFlat nodes codings n (IsKeptIn locations file new_locations new_file (flats_before nodes n))
  pub can : (n : ℕ) → n < count → OfFlat nodes codings n (CanMove locations file)

abbrev pub HasWritten : List Node → List SegmentLocation → List ℕ → List Coding → ℕ → Written → Type 0
HasWritten nodes locations file codings count written =
    AreWritten nodes locations file codings count (map node_data written.nodes.items) written.locations.items written.file.items
