-- What values that are handed in leave of visits and of the causes of refusals, and what whole values have to do with
-- the causes of the rows that ask for them.
use Rattle.std.specs.Prelude.{ℕ, ◌+◌, ◌<◌, ◌≤◌, Bool, List, [], length, Some}
use Rattle.vx_rows.specs.Derivations.{Leaves}
use Rattle.vx_rows.specs.Given.{GivenValues}
use Rattle.vx_plan.specs.Nodes.{Node}
use Rattle.vx_plan.specs.Plans.{Plan, plan_at}
use Rattle.vx_plan.specs.Rules.{node_at}
use Rattle.vx_plan.specs.Tables.{IsGoodTable}
use Rattle.vx_steps.specs.declared.errors.StepError.{StepError}
use Rattle.vx_steps.specs.declared.leaf_reads.LeafRead.{LeafRead}
use Rattle.vx_steps.specs.Computed.{HasCause}
use Rattle.vx_steps.specs.Given.{Handed, handed_by}
use Rattle.vx_steps.specs.Held.{AreMade}
use Rattle.vx_steps.specs.KeptData.{Kept}
use Rattle.vx_steps.specs.Laws.{HandsNone}
use Rattle.vx_steps.specs.Visits.{Visits, SomeVisit, IsLeafRead, IsListRead}
use Rattle.vx_steps.specs.Wholes.{Asks, HasInsideCause, IsWholeOf}

-- ---- fewer visits

-- A leaf that a row visits, whatever is handed in, it visits where nothing is.
abbrev pub LeafIsVisitedFree : Type 0
LeafIsVisitedFree = (handed free : Handed) → HandsNone free → (p : Plan) (row : ℕ) (read : LeafRead) → Visits (IsLeafRead read) handed p row → Visits (IsLeafRead read) free p row

-- So it is with a list.
abbrev pub ListIsVisitedFree : Type 0
ListIsVisitedFree = (handed free : Handed) → HandsNone free → (p : Plan) (row n : ℕ) → Visits (IsListRead n) handed p row → Visits (IsListRead n) free p row

-- The same of selected rows.
abbrev pub LeafIsSelectedFree : Type 0
LeafIsSelectedFree = (handed free : Handed) → HandsNone free → (p : Plan) (start : ℕ) (bits : List Bool) (read : LeafRead) → SomeVisit (IsLeafRead read) handed p start bits → SomeVisit (IsLeafRead read) free p start bits

abbrev pub ListIsSelectedFree : Type 0
ListIsSelectedFree = (handed free : Handed) → HandsNone free → (p : Plan) (start : ℕ) (bits : List Bool) (n : ℕ) → SomeVisit (IsListRead n) handed p start bits → SomeVisit (IsListRead n) free p start bits

-- ---- causes where nothing is handed in

-- Where each column that is handed in is the whole values of its plan by the leaves, a cause that selected rows have
-- with them they have where nothing is handed in.
abbrev pub CertifiedCauseIsFree : Type 0
CertifiedCauseIsFree = (nodes : List Node) → IsGoodTable nodes → (given : List Kept) (free : Handed) → HandsNone free → (leaves : Leaves) (offset n start : ℕ) (bits : List Bool) (error : StepError) → n < length nodes → start + length bits ≤ (node_at nodes n).rows → AreMade nodes offset given leaves →
    HasCause leaves (handed_by nodes (Some given)) offset (plan_at nodes n) start bits error → HasCause leaves free offset (plan_at nodes n) start bits error

-- A cause inside whole values they have so whatever is handed in.
abbrev pub InsideCauseIsFree : Type 0
InsideCauseIsFree = (leaves : Leaves) (given : GivenValues) (free : Handed) → HandsNone free → (offset : ℕ) (p : Plan) (start : ℕ) (bits : List Bool) (error : StepError) → HasInsideCause leaves (Some given) offset p start bits error → HasCause leaves free offset p start bits error

-- Whatever hands in nothing, the causes are the same.
abbrev pub FreeCausesAreSame : Type 0
FreeCausesAreSame = (leaves : Leaves) (free other : Handed) → HandsNone free → HandsNone other → (offset : ℕ) (p : Plan) (start : ℕ) (bits : List Bool) (error : StepError) → HasCause leaves free offset p start bits error → HasCause leaves other offset p start bits error

-- ---- whole values that are asked for

-- Where selected rows ask for the whole values of the number, which are those of all rows of the plan: a cause that
-- some of these rows have, the selected rows have.
abbrev pub WholeCauseIsCause : Type 0
WholeCauseIsCause = (nodes : List Node) → IsGoodTable nodes → (leaves : Leaves) (offset n start : ℕ) (bits : List Bool) (number whole from : ℕ) (rows : List Bool) (error : StepError) → n < length nodes → Asks nodes [] n start bits number → IsWholeOf nodes number whole → from + length rows ≤ (node_at nodes whole).rows →
    HasCause leaves (handed_by nodes (Some [])) offset (plan_at nodes whole) from rows error → HasCause leaves (handed_by nodes (Some [])) offset (plan_at nodes n) start bits error

-- And a leaf that some of these rows visit, the selected rows visit.
abbrev pub WholeLeafIsVisited : Type 0
WholeLeafIsVisited = (nodes : List Node) → IsGoodTable nodes → (n start : ℕ) (bits : List Bool) (number whole from : ℕ) (rows : List Bool) (read : LeafRead) → n < length nodes → Asks nodes [] n start bits number → IsWholeOf nodes number whole → from + length rows ≤ (node_at nodes whole).rows →
    SomeVisit (IsLeafRead read) (handed_by nodes (Some [])) (plan_at nodes whole) from rows → SomeVisit (IsLeafRead read) (handed_by nodes (Some [])) (plan_at nodes n) start bits
