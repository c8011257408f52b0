-- The rows of a split are given in pieces: consecutive ranges of its rows, each as soon as what its rows read is there.
use Rattle.std.specs.Prelude.{◌≡◌, ℕ, ◌+◌, ◌<◌, ◌≤◌, ◌⊎◌, Bool, false, true, List, [], ◌∷◌, ◌++◌, length, Option, Some, None, Ok, Err, drop, slice_range}
use Rattle.std.specs.List.{slice_get}
use Rattle.vx_base.specs.Columns.{ColumnData}
use Rattle.vx_base.specs.Data.{Datum}
use Rattle.vx_base.specs.Masks.{true_count}
use Rattle.vx_picking.specs.Rows.{rows_of, AreOf, SelectsNone, SelectsSome}
use Rattle.vx_plan.specs.Nodes.{Node}
use Rattle.vx_plan.specs.Plans.{plan_at}
use Rattle.vx_plan.specs.Rules.{node_at}
use Rattle.vx_steps.specs.declared.errors.StepError.{StepError}
use Rattle.vx_steps.specs.declared.errors.StepError.TheVariants.{Memory}
use Rattle.vx_steps.specs.declared.jobs.Job.{Job}
use Rattle.vx_steps.specs.declared.leaf_reads.LeafRead.{LeafRead}
use Rattle.vx_steps.specs.declared.pieces.GivenRows.{GivenRows}
use Rattle.vx_steps.specs.declared.placed_reads.PlacedRead.{PlacedRead}
use Rattle.vx_steps.specs.declared.splits.Split.{Split}
use Rattle.vx_steps.specs.declared.wholes.Wholes.{Wholes}
use Rattle.vx_steps.specs.Computed.{Computes}
use Rattle.vx_steps.specs.Given.{handed_by}
use Rattle.vx_steps.specs.Held.{Held}
use Rattle.vx_steps.specs.KeptData.{Kept}
use Rattle.vx_steps.specs.Kept.{kept_at, IsKept}
use Rattle.vx_steps.specs.Needs.{Among}
use Rattle.vx_steps.specs.ReadTable.{bytes_of}
use Rattle.vx_steps.specs.ReadTableData.{Wanted}
use Rattle.vx_steps.specs.Turns.{ReadsFor}
use Rattle.vx_steps.specs.Visits.{Test, Visits, IsLeafRead}
use Rattle.vx_steps.specs.Wholes.{AreThere, Inside}

-- ---- pieces

-- the rows of a split from a place on, up to another: they are a split of their own
abbrev pub piece_of : Split → ℕ → ℕ → Split
piece_of split from to = record { rows = record { start = split.rows.start + from; end = split.rows.start + to }; mask = slice_range split.mask from to }

-- what a piece gives: the place behind its last row, and the values of its selected rows
pub record Piece : Type 0 where
  pub to : ℕ
  pub values : List Datum

-- These are the values of the selected rows of the split from a place on, piece by piece, each behind the last one.
abbrev pub ArePieces : (ℕ → Option Datum) → Split → ℕ → List Piece → Type 0
ArePieces f split from [] = SelectsNone (drop from split.mask)
ArePieces f split from (piece ∷ pieces) =
    (from ≤ piece.to) × (piece.to ≤ length split.mask) × AreOf f (rows_of (split.rows.start + from) (slice_range split.mask from piece.to)) piece.values × ArePieces f split piece.to pieces

abbrev pub joined : List Piece → List Datum
joined [] = []
joined (piece ∷ pieces) = piece.values ++ joined pieces

-- ---- what rows wait for

-- the visit is one outside whole values
abbrev pub Direct : Test → Test
Direct P None p row = ⊥
Direct P (Some given) p row = P (Some given) p row

abbrev pub read_of : PlacedRead → LeafRead
read_of need = record { leaf = need.leaf; segment = need.segment }

-- the row of the plan reads the leaf, and not for whole values
abbrev pub ReadsDirectly : List Node → List Kept → ℕ → ℕ → LeafRead → Type 0
ReadsDirectly nodes given n row read = Visits (Direct (IsLeafRead read)) (handed_by nodes (Some given)) (plan_at nodes n) row

-- the row of the plan reads the leaf for whole values
abbrev pub ReadsInside : List Node → List Kept → ℕ → ℕ → LeafRead → Type 0
ReadsInside nodes given n row read = Visits (Inside (IsLeafRead read)) (handed_by nodes (Some given)) (plan_at nodes n) row

-- a need of the leaf begins no later than the one place, and ends no earlier than the other
abbrev pub Covers : List PlacedRead → LeafRead → ℕ → ℕ → Type 0
Covers needs read from to = (need : PlacedRead) × Among need needs × (read_of need ≡ read) × (need.from ≤ from) × (to ≤ need.last)

-- A need is of the selected rows at its two places, or of whole values, for which all rows wait, and for which the selected
-- row at its last place reads it.
abbrev pub IsPlaced : List Node → List Kept → ℕ → ℕ → List Bool → PlacedRead → Type 0
IsPlaced nodes given n start bits need =
    ((slice_get bits need.from ≡ Some true) × ReadsDirectly nodes given n (start + need.from) (read_of need) × (slice_get bits need.last ≡ Some true) × ReadsDirectly nodes given n (start + need.last) (read_of need))
    ⊎ ((need.from ≡ 0) × (slice_get bits need.last ≡ Some true) × ReadsInside nodes given n (start + need.last) (read_of need))

-- What the selected rows read: each of them lies between the places of a need of what it reads, and what it reads for whole
-- values is needed from the first row on.
pub record ArePlaced (nodes : List Node) (given : List Kept) (n start : ℕ) (bits : List Bool) (needs : List PlacedRead) : Type 0 where
  pub only : (need : PlacedRead) → Among need needs → IsPlaced nodes given n start bits need
  pub direct : (read : LeafRead) (place : ℕ) → slice_get bits place ≡ Some true → ReadsDirectly nodes given n (start + place) read → Covers needs read place place
  pub inside : (read : LeafRead) (place : ℕ) → slice_get bits place ≡ Some true → ReadsInside nodes given n (start + place) read → Covers needs read 0 place

-- the needs stand in the order of their first places
abbrev pub AreInOrder : List PlacedRead → Type 0
AreInOrder needs = (i j : ℕ) (one other : PlacedRead) → i ≤ j → slice_get needs i ≡ Some one → slice_get needs j ≡ Some other → one.from ≤ other.from

-- each need of rows from the one place on, up to the other, is kept
abbrev pub AreKeptFor : List Kept → List PlacedRead → ℕ → ℕ → Type 0
AreKeptFor leaves needs from to = (need : PlacedRead) → Among need needs → need.from < to → from ≤ need.last → IsKept leaves need.leaf

-- each of the first so many needs is kept, unless all of its rows are in front of the place
abbrev pub AreKeptBefore : List Kept → List PlacedRead → ℕ → ℕ → Type 0
AreKeptBefore leaves needs done count = (place : ℕ) (need : PlacedRead) → place < count → slice_get needs place ≡ Some need → done ≤ need.last → IsKept leaves need.leaf

-- each need for which a row in front of the place waits is one of the first so many
abbrev pub ArePassed : List PlacedRead → ℕ → ℕ → Type 0
ArePassed needs done count = (place : ℕ) (need : PlacedRead) → slice_get needs place ≡ Some need → need.from < done → place < count

-- the next need that is not known to be kept is of the place
abbrev pub IsNextNeed : List PlacedRead → ℕ → ℕ → Type 0
IsNextNeed needs next place = (need : PlacedRead) × (slice_get needs next ≡ Some need) × (need.from ≡ place)

-- the row at the place waits for the next need that is not known to be kept
abbrev pub WaitsFor : List PlacedRead → ℕ → ℕ → Type 0
WaitsFor needs next row = (need : PlacedRead) × (slice_get needs next ≡ Some need) × (need.from ≤ row)

-- The first selected row at or behind a place, which is past the last row where there is none.
pub record IsNextRow (bits : List Bool) (done row : ℕ) : Type 0 where
  pub behind : done ≤ row
  pub within : row ≤ length bits
  pub none : (place : ℕ) → done ≤ place → place < row → slice_get bits place ≡ Some true → ⊥
  pub here : row < length bits → slice_get bits row ≡ Some true

-- ---- waiting

-- the segment's bytes did not come, and no column is kept of the leaf
abbrev pub IsLacking : List Kept → List Wanted → LeafRead → Type 0
IsLacking leaves wanted read = (kept_at leaves read.leaf ≡ None) × (bytes_of wanted read.segment ≡ None)

-- ---- what a try to give rows comes to

-- The column has the dtype of the plan, and the values of the selected rows of the range, of which there is one.
pub record GivesRows (h : Held) (plan : ℕ) (split : Split) (from to : ℕ) (column : ColumnData) : Type 0 where
  pub forwards : from < to
  pub some : SelectsSome (slice_range split.mask from to)
  pub dtype : column.dtype ≡ (node_at h.nodes plan).dtype
  pub count : length column.values ≡ true_count (slice_range split.mask from to)
  pub computed : Computes h plan (split.rows.start + from) (slice_range split.mask from to) (Ok column)

-- There is no memory left, or rows of a range from the place on have the fault, all of whose needs are kept.
abbrev pub FailsRows : Held → ℕ → Split → List PlacedRead → ℕ → StepError → Type 0
FailsRows h plan split needs from error =
    (error ≡ Memory) ⊎ ((to : ℕ) × (to ≤ length split.mask) × AreKeptFor h.leaves needs from to × Computes h plan (split.rows.start + from) (slice_range split.mask from to) (Err error))

-- ---- how far the rows of a split are given

-- The first so many rows were given. Of the needs in front of the next one each is kept that rows behind them read, and
-- none in front of the place is behind it. The place behind them is the next selected row's, or past the last row. Nothing is given before the whole values that the split asks for are there.
pub record IsGivenTo (nodes : List Node) (given leaves : List Kept) (wholes : Wholes) (plan : ℕ) (split : Split) (needs : List PlacedRead) (at : GivenRows) : Type 0 where
  pub row : IsNextRow split.mask at.done at.row
  pub begun : 0 < at.done → at.row ≡ at.done
  pub kept : AreKeptBefore leaves needs at.done at.next
  pub passed : ArePassed needs at.done at.next
  pub first : at.made ≡ false → at.done ≡ 0
  pub there : at.made ≡ true → AreThere nodes given wholes plan split.rows.start split.mask

-- ---- what is held

-- a selected row of the split from the place on reads a leaf over the segment
abbrev pub IsStillRead : List Node → Job → Split → ℕ → ℕ → Type 0
IsStillRead nodes job split done segment = (read : LeafRead) × (read.segment ≡ segment) × ReadsFor nodes job (piece_of split done (length split.mask)) read
