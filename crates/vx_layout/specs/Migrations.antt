-- A tree whose segments are written anew, each in a coding of its own: what becomes of the nodes, and why it may be
-- refused.
use Rattle.std.specs.Prelude.{◌≡◌, ℕ, ◌+◌, ◌<◌, ◌≤◌, ◌^◌, Bool, true, false, List, [], ◌∷◌, length, take, Option, Some, None, IsSomeAnd}
use Rattle.std.specs.List.{filter, slice_get}
use Rattle.vx_base.specs.declared.codings.Coding.{Coding}
use Rattle.vx_base.specs.declared.codings.Coding.TheVariants.{Constant}
use Rattle.vx_base.specs.declared.locations.SegmentLocation.{SegmentLocation}
use Rattle.vx_base.specs.Data.{Datum}
use Rattle.vx_base.specs.CodingsRead.{decoded_as}
use Rattle.vx_base.specs.Codings.{SpellsAs}
use Rattle.vx_base.specs.LaidRuns.{IsFirstOther}
use Rattle.vx_layout.specs.declared.migrate_errors.MigrateError.{MigrateError}
use Rattle.vx_layout.specs.declared.migrate_errors.MigrateError.TheVariants as errors
use Rattle.vx_layout.specs.declared.nodes.LayoutKind.{LayoutKind}
use Rattle.vx_layout.specs.declared.nodes.LayoutKind.TheVariants as kinds
use Rattle.vx_layout.specs.Kept.{all}
use Rattle.vx_layout.specs.Nodes.{Node}
use Rattle.vx_layout.specs.Rows.{file_leaves, segment_bytes, value}
use Rattle.vx_layout.specs.Shape.{AreFewIn}
use Rattle.vx_layout.specs.Trees.{subtree}

-- ---- flat nodes

abbrev pub is_flat_kind : LayoutKind → Bool
is_flat_kind (kinds.Flat segment coding) = true
is_flat_kind kind = false

abbrev pub is_flat : Node → Bool
is_flat node = is_flat_kind node.kind

abbrev pub flat_count : List Node → ℕ
flat_count nodes = length (filter is_flat nodes)

-- how many flat nodes there are in front of the one of that number, which is the number of its new segment
abbrev pub flats_before : List Node → ℕ → ℕ
flats_before nodes n = flat_count (take n nodes)

-- a flat node has so few rows that a number of 32 bits counts their runs
abbrev pub IsCounted : LayoutKind → ℕ → Type 0
IsCounted (kinds.Flat segment coding) rows = rows < 2 ^ 32
IsCounted kind rows = Unit {0}

abbrev pub HasCountedRows : Node → Type 0
HasCountedRows node = IsCounted node.kind node.rows

-- ---- what becomes of the nodes

-- of a flat kind the segment and the coding are others
abbrev pub moved_kind : LayoutKind → ℕ → Option Coding → LayoutKind
moved_kind (kinds.Flat segment old) place (Some coding) = kinds.Flat place coding
moved_kind kind place coding = kind

abbrev pub moved_node : List Node → List Coding → ℕ → Node → Node
moved_node nodes codings n node = record {
  kind = moved_kind node.kind (flats_before nodes n) (slice_get codings (flats_before nodes n));
  dtype = node.dtype;
  rows = node.rows;
  children = node.children;
}

-- each node stays what it is, but that a flat one has a segment of its own and the next of the codings
pub record AreMoved (nodes : List Node) (codings : List Coding) (new : List Node) : Type 0 where
  pub size : length new ≡ length nodes
  pub each : (n : ℕ) (node : Node) → slice_get nodes n ≡ Some node → slice_get new n ≡ Some (moved_node nodes codings n node)

-- segments that lie one behind the other, from an offset on, and fill the file to its end
abbrev pub LieWithoutGaps : ℕ → List SegmentLocation → ℕ → Type 0
LieWithoutGaps from [] end = from ≡ end
LieWithoutGaps from (at ∷ locations) end = (at.offset ≡ from) × LieWithoutGaps (from + at.length) locations end

-- ---- what holds of flat nodes

-- the bytes of a flat node's segment and the values that they spell
pub record HasValues (locations : List SegmentLocation) (file : List ℕ) (node : Node) (segment : ℕ) (coding : Coding) (values : List Datum) : Type 0 where
  pub bytes : List ℕ
  pub there : segment_bytes file locations segment ≡ Some bytes
  pub read : decoded_as coding node.dtype node.rows bytes ≡ Some values

-- what holds of a flat node of that number, with its segment, its coding and its new coding; of another node nothing is
-- asked
abbrev pub OfFlat : List Node → List Coding → ℕ → (Node → ℕ → Coding → Coding → Type 0) → Type 0
OfFlat nodes codings n P =
    (node : Node) (segment : ℕ) (old coding : Coding) → slice_get nodes n ≡ Some node → node.kind ≡ kinds.Flat segment old
    → slice_get codings (flats_before nodes n) ≡ Some coding → P node segment old coding

-- a new segment has the alignment that an old one had
abbrev pub IsAlignedAs : List SegmentLocation → ℕ → List SegmentLocation → ℕ → Type 0
IsAlignedAs locations segment new place =
    IsSomeAnd (slice_get locations segment) (λ before. IsSomeAnd (slice_get new place) (λ now. now.alignment ≡ before.alignment))

-- A flat node has these values by its old segment, and in its new coding by the new one, which is aligned alike.
pub record IsKeptIn (locations : List SegmentLocation) (file : List ℕ) (new_locations : List SegmentLocation) (new_file : List ℕ) (place : ℕ) (node : Node) (segment : ℕ) (old coding : Coding) : Type 0 where
  pub values : List Datum
  pub before : HasValues locations file node segment old values
  pub now : HasValues new_locations new_file node place coding values
  pub aligned : IsAlignedAs locations segment new_locations place

-- ---- the new tree

-- Each node's row is worth the same, with all fields kept.
abbrev pub WorthTheSame : List Node → List SegmentLocation → List ℕ → List Node → List SegmentLocation → List ℕ → Type 0
WorthTheSame nodes locations file new_nodes new_locations new_file =
    (n row : ℕ) → n < length nodes
    → value (file_leaves new_file new_locations) (subtree new_nodes n) all row ≡ value (file_leaves file locations) (subtree nodes n) all row

-- A tree, where its segments lie, and the file are those of another tree in other codings: each flat node has its values
-- in a segment of its own, and these lie in the order of the nodes.
pub record IsMigrated (nodes : List Node) (locations : List SegmentLocation) (file : List ℕ) (codings : List Coding) (new_nodes : List Node) (new_locations : List SegmentLocation) (new_file : List ℕ) : Type 0 where
  pub moved : AreMoved nodes codings new_nodes
  pub count : length new_locations ≡ flat_count nodes
  pub no_gaps : LieWithoutGaps 0 new_locations (length new_file)
  pub kept : (n : ℕ) → OfFlat nodes codings n (IsKeptIn locations file new_locations new_file (flats_before nodes n))
  pub worth : WorthTheSame nodes locations file new_nodes new_locations new_file

-- ---- why it may be refused

-- a spelling has at most so many bytes
abbrev pub most_bytes : ℕ
most_bytes = 4294967295

-- these values of a flat node have a spelling in the coding, which is short enough
pub record CanWrite (node : Node) (coding : Coding) (values : List Datum) : Type 0 where
  pub few : AreFewIn coding node.rows
  pub bytes : List ℕ
  pub spelled : SpellsAs coding node.dtype node.rows bytes values
  pub short : length bytes ≤ most_bytes

-- a flat node is written anew in the coding
pub record CanMove (locations : List SegmentLocation) (file : List ℕ) (node : Node) (segment : ℕ) (old coding : Coding) : Type 0 where
  pub values : List Datum
  pub has : HasValues locations file node segment old values
  pub can : CanWrite node coding values

-- a spelling of these values in the coding that is too long
pub record IsLong (node : Node) (coding : Coding) (values : List Datum) : Type 0 where
  pub bytes : List ℕ
  pub spelled : SpellsAs coding node.dtype node.rows bytes values
  pub long : most_bytes < length bytes

-- why these values of a flat node of that number can't be written in the coding: the first of the reasons, in this order
abbrev pub HindersValues : ℕ → Node → Coding → List Datum → MigrateError → Type 0
HindersValues n node coding values (errors.TooManyRows at) = (at ≡ n) × ¬ (AreFewIn coding node.rows)
HindersValues n node coding values (errors.NotConstant at row) = (at ≡ n) × AreFewIn coding node.rows × (coding ≡ Constant) × IsFirstOther values row
HindersValues n node coding values (errors.TooLong at) = (at ≡ n) × AreFewIn coding node.rows × IsLong node coding values
HindersValues n node coding values error = ⊥

-- or memory ran out
abbrev pub HindersOrMemory : ℕ → Node → Coding → List Datum → MigrateError → Type 0
HindersOrMemory n node coding values errors.Memory = Unit {0}
HindersOrMemory n node coding values error = HindersValues n node coding values error

-- the values of a flat node can't be written
pub record AreHindered (locations : List SegmentLocation) (file : List ℕ) (n : ℕ) (node : Node) (segment : ℕ) (old coding : Coding) (error : MigrateError) : Type 0 where
  pub values : List Datum
  pub has : HasValues locations file node segment old values
  pub hinders : HindersValues n node coding values error

-- why a flat node of that number isn't written anew: its old segment, or else its values
abbrev pub Hinders : List SegmentLocation → List ℕ → ℕ → Node → ℕ → Coding → Coding → MigrateError → Type 0
Hinders locations file n node segment old coding (errors.NoBytes at) = (at ≡ n) × (segment_bytes file locations segment ≡ None)
Hinders locations file n node segment old coding (errors.BadSegment at) =
    (at ≡ n) × IsSomeAnd (segment_bytes file locations segment) (λ bytes. decoded_as old node.dtype node.rows bytes ≡ None)
Hinders locations file n node segment old coding error = AreHindered locations file n node segment old coding error

-- Some flat node is hindered, and each flat node in front of it can be written anew.
pub record IsHindered (nodes : List Node) (locations : List SegmentLocation) (file : List ℕ) (codings : List Coding) (error : MigrateError) : Type 0 where
  pub n : ℕ
  pub node : Node
  pub segment : ℕ
  pub old : Coding
  pub coding : Coding
  pub there : slice_get nodes n ≡ Some node
  pub flat : node.kind ≡ kinds.Flat segment old
  pub coded : slice_get codings (flats_before nodes n) ≡ Some coding
  pub hinders : Hinders locations file n node segment old coding error
  pub before : (m : ℕ) → m < n → OfFlat nodes codings m (CanMove locations file)

-- a refusal has this reason; want of memory needs none
abbrev pub MigrateRefusedBy : List Node → List SegmentLocation → List ℕ → List Coding → MigrateError → Type 0
MigrateRefusedBy nodes locations file codings errors.Memory = Unit {0}
MigrateRefusedBy nodes locations file codings error = IsHindered nodes locations file codings error

-- and where there is none, each flat node can be written anew
abbrev pub AllCanMove : List Node → List SegmentLocation → List ℕ → List Coding → Type 0
AllCanMove nodes locations file codings = (n : ℕ) → OfFlat nodes codings n (CanMove locations file)
