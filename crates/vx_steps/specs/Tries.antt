-- What a try to finish a split asks for, and what it comes to.
use Rattle.std.specs.Prelude.{◌≡◌, ℕ, ◌+◌, ◌<◌, ◌≤◌, ◌⊎◌, Bool, false, List, length, map, slice_range, Some}
use Rattle.std.specs.List.{slice_get}
use Rattle.vx_base.specs.Columns.{ColumnData}
use Rattle.vx_picking.specs.Rows.{SelectsSome}
use Rattle.vx_plan.specs.Nodes.{Node}
use Rattle.vx_plan.specs.Rules.{node_at}
use Rattle.vx_steps.specs.declared.errors.StepError.{StepError}
use Rattle.vx_steps.specs.declared.errors.StepError.TheVariants.{BadSegment, Memory}
use Rattle.vx_steps.specs.declared.jobs.Job.{Job}
use Rattle.vx_steps.specs.declared.leaf_reads.LeafRead.{LeafRead}
use Rattle.vx_steps.specs.declared.pieces.GivenRows.{GivenRows}
use Rattle.vx_steps.specs.declared.placed_reads.PlacedRead.{PlacedRead}
use Rattle.vx_steps.specs.declared.splits.Split.{Split}
use Rattle.vx_steps.specs.declared.wholes.Wholes.{Wholes}
use Rattle.vx_steps.specs.Computed.{UnlessList}
use Rattle.vx_steps.specs.Delivered.{HasTornCause, IsOf, KeepsLeaves}
use Rattle.vx_steps.specs.Held.{AreTyped, FitsOffset}
use Rattle.vx_steps.specs.KeptData.{Kept}
use Rattle.vx_steps.specs.Kept.{IsKept}
use Rattle.vx_steps.specs.LeavesData.{LeavesData}
use Rattle.vx_steps.specs.Needs.{Among, AreLeaves}
use Rattle.vx_steps.specs.Pieces.{piece_of, read_of, AreInOrder, ArePlaced, IsGivenTo, IsLacking, WaitsFor}
use Rattle.vx_steps.specs.ReadTable.{KeepsGone}
use Rattle.vx_steps.specs.ReadTableData.{ReadsData, Wanted}
use Rattle.vx_rows.specs.SegmentLeaves.{Bytes}
use Rattle.vx_steps.specs.Releasing.{IsServed, LetsSpentGo}
use Rattle.vx_steps.specs.Turns.{AreLeavesKept, FailsInWholes, HasRowCause, IsOutput, IsRefusal, LeavesWholes}
use Rattle.vx_steps.specs.Wants.{IsNeededLeaf}
use Rattle.vx_steps.specs.Wholes.{AddsAsked, AddsOnly, AreThere, KeepsValues, UsesGiven}

-- a need of rows at the place or behind it is of the leaf
abbrev pub IsOfRest : List PlacedRead → ℕ → ℕ → Type 0
IsOfRest needs done n = (need : PlacedRead) × Among need needs × (done ≤ need.last) × (need.leaf ≡ n)

-- The split's rows are rows of a plan of the table, what is held fits the plans, and the needs are those of the selected
-- rows, some of which were not given. No bytes are gone that one of them has to be decoded from.
pub record CanTry (nodes : List Node) (job : Job) (split : Split) (needs : List PlacedRead) (at : GivenRows) (reads : ReadsData) (leaves : LeavesData) (wholes : Wholes) : Type 0 where
  pub known : job.plan < length nodes
  pub inside : split.rows.start + length split.mask ≤ (node_at nodes job.plan).rows
  pub fits : FitsOffset nodes job.offset
  pub typed_leaves : AreTyped nodes leaves.all
  pub typed_given : AreTyped nodes job.given
  pub typed_made : AreTyped nodes wholes.made
  pub placed : ArePlaced nodes job.given job.plan split.rows.start split.mask needs
  pub order : AreInOrder needs
  pub are_leaves : AreLeaves nodes (map read_of needs)
  pub served : IsServed leaves.all reads (map read_of needs)
  pub given : IsGivenTo nodes job.given leaves.here wholes job.plan split needs at
  pub left : at.row < length split.mask
  pub here : (n : ℕ) → IsOfRest needs at.done n → IsKept leaves.all n → IsKept leaves.here n

-- Columns of needed leaves are kept, as they are by the delivered bytes, and no others. Nothing more is wanted or handed out,
-- bytes that are gone stay gone, and still none are that a needed leaf has to be decoded from. Unless their split is the last one, only bytes of segments
-- were let go each of whose leaves is kept.
pub record DecodesNeeds (nodes : List Node) (last : Bool) (needs : List LeafRead) (old_reads reads : ReadsData) (old_leaves leaves : List Kept) : Type 0 where
  pub keeps : KeepsLeaves nodes old_reads.wanted old_leaves leaves
  pub only : AddsOnly (IsNeededLeaf needs) old_leaves leaves
  pub wanted : reads.wanted ≡ old_reads.wanted
  pub handed : reads.handed ≡ old_reads.handed
  pub served : IsServed leaves reads needs
  pub lets : last ≡ false → LetsSpentGo nodes leaves old_reads reads
  pub still_gone : KeepsGone old_reads.stored reads.stored

-- Whole values were made or used, which the split's selected rows ask for, and no others.
pub record ReadiesWholes (nodes : List Node) (job : Job) (split : Split) (leaves : List Kept) (old new : Wholes) : Type 0 where
  pub made : KeepsValues nodes leaves job.offset old.made new.made
  pub used : UsesGiven job.given old.used new.used
  pub asked : AddsAsked nodes job.given job.plan split.rows.start split.mask old new

-- Where the needed leaves stand that are decoded next: those in front of the place are kept.
pub record MovesNext (needs : List PlacedRead) (leaves : List Kept) (old new : ℕ) : Type 0 where
  pub forwards : old ≤ new
  pub kept : (place : ℕ) (need : PlacedRead) → old ≤ place → place < new → slice_get needs place ≡ Some need → IsKept leaves need.leaf

-- no column is kept of the need at the place, and the bytes of its segment did not come
abbrev pub LacksNext : List Wanted → List Kept → List PlacedRead → ℕ → Type 0
LacksNext wanted leaves needs place = (need : PlacedRead) × (slice_get needs place ≡ Some need) × IsLacking leaves wanted (read_of need)

-- a refusal of decoding has its cause in the need at the place
abbrev pub IsTornAt : List Node → List Wanted → List PlacedRead → ℕ → StepError → Type 0
IsTornAt nodes wanted needs place error = (need : PlacedRead) × (slice_get needs place ≡ Some need) × HasTornCause nodes wanted (read_of need) error

-- The column is that of the rows of the split from the one place on, up to the other, by what was held before. The whole values
-- that the split asks for are there, and the leaves that these rows read are kept.
pub record Finishes (nodes : List Node) (job : Job) (split : Split) (from to : ℕ) (wanted : List Wanted) (old_leaves old_made : List Kept) (wholes : Wholes) (leaves : List Kept) (column : ColumnData) : Type 0 where
  pub within : to ≤ length split.mask
  pub some : SelectsSome (slice_range split.mask from to)
  pub output : IsOutput nodes job (piece_of split from to) wanted old_leaves old_made wholes column
  pub there : AreThere nodes job.given wholes job.plan split.rows.start split.mask
  pub leaves_are : AreLeavesKept nodes job (piece_of split from to) leaves

-- the first selected row that was not given waits for a need that is missing
abbrev pub WaitsForNeed : List Wanted → List Kept → List PlacedRead → GivenRows → Type 0
WaitsForNeed wanted leaves needs at = LacksNext wanted leaves needs at.next × WaitsFor needs at.next at.row

-- The first rows of the split, up to a place, have the fault, and the leaves that they read are kept; or whole values have it.
abbrev pub LeavesFirst : List Node → Job → Split → List Wanted → List Kept → List Kept → List Kept → StepError → Type 0
LeavesFirst nodes job split wanted old_leaves old_made leaves (BadSegment segment) = Unit {0}
LeavesFirst nodes job split wanted old_leaves old_made leaves Memory = Unit {0}
LeavesFirst nodes job split wanted old_leaves old_made leaves error =
    (to : ℕ) × AreLeavesKept nodes job (piece_of split 0 to) leaves × (((outside : Bytes) → UnlessList error (IsOf nodes job.offset wanted old_leaves old_made outside) → HasRowCause nodes job (piece_of split 0 to) outside error) ⊎ FailsInWholes nodes job split wanted old_leaves old_made error)

-- The refusal has its cause, by what was held before, and what it leaves is there.
pub record Refuses (nodes : List Node) (job : Job) (split : Split) (needs : List LeafRead) (wanted : List Wanted) (old_leaves old_made : List Kept) (wholes : Wholes) (leaves : List Kept) (error : StepError) : Type 0 where
  pub cause : IsRefusal nodes job split needs wanted old_leaves old_made error
  pub left : LeavesWholes nodes job split wanted old_leaves old_made wholes error
  pub left_leaves : LeavesFirst nodes job split wanted old_leaves old_made leaves error
