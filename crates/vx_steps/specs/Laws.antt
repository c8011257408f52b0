-- What the visits of a row are to the reads that the plan's own definition gives.
use Rattle.std.specs.List.{slice_get}
use Rattle.std.specs.Prelude.{◌≡◌, ℕ, ◌+◌, ◌<◌, ◌≤◌, ◌⊎◌, [], Bool, List, Some, None, IfSome, IsSomeAnd, length}
use Rattle.vx_expr.specs.Meaning.{meaning}
use Rattle.vx_expr.specs.Rows.{no_bound}
use Rattle.vx_rows.specs.Derivations.{Derivation, nothing, of_leaf, list_row, given, packed, valid_where, looked_up, worked_out, read_whole, concluded, Derivations, no_more, also, Leaves, derived}
use Rattle.vx_rows.specs.Given.{GivenValues, with_given}
use Rattle.vx_rows.specs.Reads.{directly, Found, a_code, a_list_row, Read, reads_of, Finds, FindsBy, IsIn, IsCodeOf, IsBadCode}
use Rattle.vx_picking.specs.Rows.{SomeRow}
use Rattle.vx_plan.specs.FittingRows.{HasFittingRows}
use Rattle.vx_plan.specs.Kinds.{HasKind, IsShare}
use Rattle.vx_plan.specs.Laws.{IsReadBy}
use Rattle.vx_plan.specs.Nodes.{Node}
use Rattle.vx_plan.specs.Plans.{Plan, no_plan, concat_plan, eval_plan, filter_plan, pack_plan, take_plan, share_plan, list_plan, row_idx_plan, scan_plan, zoned_plan, pruning_plan, Plans, no_plans, plan, PlanValidity, all_valid, valid_as, plan_at, plan_head}
use Rattle.vx_plan.specs.PlanRows.{plan_derivation, plan_reads}
use Rattle.vx_plan.specs.Refs.{number_of}
use Rattle.vx_plan.specs.Rules.{node_at}
use Rattle.vx_plan.specs.Tables.{IsGoodTable}
use Rattle.vx_steps.specs.declared.errors.StepError.{StepError}
use Rattle.vx_steps.specs.declared.errors.StepError.TheVariants.{Unsupported, BadSegment, BadCode, EvalFault, Memory}
use Rattle.vx_steps.specs.declared.leaf_reads.LeafRead.{LeafRead}
use Rattle.vx_steps.specs.declared.wholes.Wholes.{Wholes}
use Rattle.vx_steps.specs.Below.{StandsIn, HasNoShare, HasNoEvalBelowTake}
use Rattle.vx_steps.specs.Computed.{HasCause}
use Rattle.vx_steps.specs.Given.{Handed, values_for, given_for, handed_by}
use Rattle.vx_steps.specs.Held.{AreTyped}
use Rattle.vx_steps.specs.KeptData.{Kept}
use Rattle.vx_steps.specs.Visits.{Visits, SomeVisit, IsLeafRead, IsListRead, IsWholeRead, HasBadCode, HasEvalFault}
use Rattle.vx_steps.specs.Wholes.{AreThere, IsThere, HasInsideCause}

-- what a row of a plan reads, with what was handed in in place of what it would read
abbrev pub row_reads : Handed → ℕ → Plan → ℕ → List Read
row_reads handed offset p row = reads_of directly (with_given (values_for handed) (plan_derivation offset p row))

-- nothing was handed in
abbrev pub HandsNone : Handed → Type 0
HandsNone handed = (n : ℕ) → values_for handed n ≡ None

-- ---- leaves

-- a leaf that is visited is read
abbrev pub LeafVisitIsRead : Type 0
LeafVisitIsRead = (handed : Handed) (offset : ℕ) (p : Plan) (row : ℕ) (read : LeafRead) → Visits (IsLeafRead read) handed p row → Finds (IsIn read.segment) (row_reads handed offset p row)

-- and it is so whatever was handed in: no more is visited than the plan reads
abbrev pub LeafVisitIsPlanRead : Type 0
LeafVisitIsPlanRead = (handed : Handed) (offset : ℕ) (p : Plan) (row : ℕ) (read : LeafRead) → Visits (IsLeafRead read) handed p row → Finds (IsIn read.segment) (plan_reads offset p row)

-- the row visits a leaf that names the segment
abbrev pub VisitsSegment : ℕ → Handed → Plan → ℕ → Type 0
VisitsSegment segment handed p row = (leaf : ℕ) × Visits (IsLeafRead (record { leaf = leaf; segment = segment })) handed p row

-- Where a segment is read, a leaf that names it is visited.
abbrev pub ReadIsLeafVisit : Type 0
ReadIsLeafVisit = (handed : Handed) (offset : ℕ) (p : Plan) (row segment : ℕ) → HasFittingRows p → row < (plan_head p).rows → Finds (IsIn segment) (row_reads handed offset p row) → VisitsSegment segment handed p row

-- And where nothing was handed in, each segment that the plan reads is one of those.
abbrev pub PlanReadIsLeafVisit : Type 0
PlanReadIsLeafVisit = (handed : Handed) (offset : ℕ) (p : Plan) (row segment : ℕ) → HandsNone handed → HasFittingRows p → row < (plan_head p).rows → Finds (IsIn segment) (plan_reads offset p row) → VisitsSegment segment handed p row

-- nothing is handed in by no columns
abbrev pub NoColumnsHandNone : Type 0
NoColumnsHandNone = (nodes : List Node) → HandsNone (Some (given_for nodes []))

-- ---- selected rows

-- a leaf that selected rows visit is read by one of them
abbrev pub SelectedVisitIsRead : Type 0
SelectedVisitIsRead = (handed : Handed) (offset : ℕ) (p : Plan) (start : ℕ) (bits : List Bool) (read : LeafRead) → SomeVisit (IsLeafRead read) handed p start bits → IsReadBy offset read.segment p start bits

-- and where nothing was handed in, for each segment that one of them reads a leaf is visited
abbrev pub SelectedReadIsVisit : Type 0
SelectedReadIsVisit = (handed : Handed) (offset : ℕ) (p : Plan) (start : ℕ) (bits : List Bool) (segment : ℕ) → HandsNone handed → HasFittingRows p → start + length bits ≤ (plan_head p).rows → IsReadBy offset segment p start bits →
    (leaf : ℕ) × SomeVisit (IsLeafRead (record { leaf = leaf; segment = segment })) handed p start bits

-- ---- lists

-- a row of the list of that number
abbrev pub IsRowOf : ℕ → Found → Type 0
IsRowOf n (a_list_row list row) = list ≡ n
IsRowOf n found = ⊥

abbrev pub ListVisitIsRead : Type 0
ListVisitIsRead = (handed : Handed) (offset : ℕ) (p : Plan) (row n : ℕ) → Visits (IsListRead n) handed p row → Finds (IsRowOf n) (row_reads handed offset p row)

abbrev pub ReadIsListVisit : Type 0
ReadIsListVisit = (handed : Handed) (offset : ℕ) (p : Plan) (row n : ℕ) → HasFittingRows p → row < (plan_head p).rows → Finds (IsRowOf n) (row_reads handed offset p row) → Visits (IsListRead n) handed p row

-- ---- codes

-- What is handed in for the values of a take, if anything is, are as many values as the plan of the values has rows.
-- Inside whole values nothing is handed in.
abbrev mutual
  pub GivenFits : Handed → Plan → Type 0
  GivenFits handed (no_plan head) = Unit {0}
  GivenFits handed (concat_plan head children) = GivenFitsEach handed children
  GivenFits handed (eval_plan head e child) = GivenFits handed child
  GivenFits handed (filter_plan head child) = GivenFits handed child
  GivenFits handed (pack_plan head children validity) = GivenFitsEach handed children × GivenFitsValidity handed validity
  GivenFits handed (take_plan head codes values) = IfSome (values_for handed head.number) (λ vs. length vs ≡ (plan_head values).rows) × GivenFits handed codes
  GivenFits handed (share_plan head child) = Unit {0}
  GivenFits handed (list_plan head elements offsets validity) = Unit {0}
  GivenFits handed (row_idx_plan head) = Unit {0}
  GivenFits handed (scan_plan head segment coding) = Unit {0}
  GivenFits handed (zoned_plan head zones content table) = GivenFits handed content
  GivenFits handed (pruning_plan head pruning table) = GivenFits handed table

  pub GivenFitsEach : Handed → Plans → Type 0
  GivenFitsEach handed no_plans = Unit {0}
  GivenFitsEach handed (plan first rest) = GivenFits handed first × GivenFitsEach handed rest

  pub GivenFitsValidity : Handed → PlanValidity → Type 0
  GivenFitsValidity handed all_valid = Unit {0}
  GivenFitsValidity handed (valid_as validity) = GivenFits handed validity

-- columns that have the rows of their plans are so
abbrev pub TypedGivenFits : Type 0
TypedGivenFits = (nodes : List Node) → IsGoodTable nodes → (kept : List Kept) → AreTyped nodes kept → (n : ℕ) → n < length nodes → GivenFits (handed_by nodes (Some kept)) (plan_at nodes n)

-- the code of that row of the dictionary of that number, which is neither null nor the place of a value
abbrev pub IsBadCodeAt : Leaves → ℕ → ℕ → Found → Type 0
IsBadCodeAt leaves n at (a_code code) = (code.dictionary ≡ n) × (code.row ≡ at) × IsBadCode leaves (a_code code)
IsBadCodeAt leaves n at found = ⊥

-- a bad code that is visited is read
abbrev pub BadCodeIsRead : Type 0
BadCodeIsRead = (leaves : Leaves) (handed : Handed) (offset : ℕ) (p : Plan) (row n at : ℕ) → GivenFits handed p → Visits (HasBadCode leaves offset n at) handed p row → Finds (IsBadCodeAt leaves n at) (row_reads handed offset p row)

-- and one that is read is visited
abbrev pub ReadIsBadCode : Type 0
ReadIsBadCode = (leaves : Leaves) (handed : Handed) (offset : ℕ) (p : Plan) (row n at : ℕ) → GivenFits handed p → HasFittingRows p → row < (plan_head p).rows → Finds (IsBadCodeAt leaves n at) (row_reads handed offset p row) →
    Visits (HasBadCode leaves offset n at) handed p row

-- ---- why selected rows have no column

-- P of a derivation, or of one that it is derived from
abbrev mutual
  pub HasPart : (Derivation → Type 0) → Derivation → Type 0
  HasPart P nothing = P nothing
  HasPart P (of_leaf at) = P (of_leaf at)
  HasPart P (list_row list row) = P (list_row list row)
  HasPart P (given v) = P (given v)
  HasPart P (packed ds) = P (packed ds) ⊎ HavePart P ds
  HasPart P (valid_where d validity) = P (valid_where d validity) ⊎ (HasPart P d ⊎ HasPart P validity)
  HasPart P (looked_up dictionary row code values) = P (looked_up dictionary row code values) ⊎ (HasPart P code ⊎ HavePart P values)
  HasPart P (worked_out t e d) = P (worked_out t e d) ⊎ HasPart P d
  HasPart P (read_whole share row d ds) = P (read_whole share row d ds) ⊎ (HasPart P d ⊎ HavePart P ds)
  HasPart P (concluded rule ds) = P (concluded rule ds) ⊎ HavePart P ds

  pub HavePart : (Derivation → Type 0) → Derivations → Type 0
  HavePart P no_more = ⊥
  HavePart P (also d ds) = HasPart P d ⊎ HavePart P ds

-- an expression that is a fault over a value that is there
abbrev pub IsFaultyTerm : Leaves → Derivation → Type 0
IsFaultyTerm leaves (worked_out t e d) = IsSomeAnd (derived leaves d) (λ v. meaning t no_bound e v 0 ≡ None)
IsFaultyTerm leaves d = ⊥

-- the row, with what was handed in in place of what it would read
abbrev pub row_with : Handed → ℕ → Plan → ℕ → Derivation
row_with handed offset p row = with_given (values_for handed) (plan_derivation offset p row)

-- that row of an expression's plan is derived so, with what was handed in or, inside whole values, with nothing
abbrev pub IsEvalRow : Handed → ℕ → ℕ → Derivation → Plan → Type 0
IsEvalRow handed offset at d (eval_plan head e child) = (d ≡ row_with handed offset (eval_plan head e child) at) ⊎ (d ≡ row_with None offset (eval_plan head e child) at)
IsEvalRow handed offset at d p = ⊥

-- an expression that is a fault over a value that is there, at that row of its plan, which stands in this one
abbrev pub IsFaultyRow : Leaves → Handed → ℕ → Plan → ℕ → Derivation → Type 0
IsFaultyRow leaves handed offset p at d = IsFaultyTerm leaves d × StandsIn (IsEvalRow handed offset at d) p

-- an expression whose fault is visited is worked out for the row
abbrev pub EvalFaultIsWorkedOut : Type 0
EvalFaultIsWorkedOut = (leaves : Leaves) (handed : Handed) (offset : ℕ) (p : Plan) (row at : ℕ) → Visits (HasEvalFault leaves offset at) handed p row → HasPart (IsFaultyRow leaves handed offset p at) (row_with handed offset p row)

-- some selected row has such a read, with what was handed in
abbrev pub SomeRead : (Found → Type 0) → Handed → ℕ → Plan → ℕ → List Bool → Type 0
SomeRead P handed offset p start bits = SomeRow (λ row. Finds P (row_reads handed offset p row)) start bits

-- The leaves that selected rows visit are those that they read, with what was handed in.
abbrev pub SelectedLeafIsRead : Type 0
SelectedLeafIsRead = (handed : Handed) (offset : ℕ) (p : Plan) (start : ℕ) (bits : List Bool) (read : LeafRead) → SomeVisit (IsLeafRead read) handed p start bits → SomeRead (IsIn read.segment) handed offset p start bits

-- A selected row reads a row of the list, or the bad code, or is derived by an expression that is a fault at that row.
abbrev pub IsReadCause : Leaves → Handed → ℕ → Plan → ℕ → List Bool → StepError → Type 0
IsReadCause leaves handed offset p start bits (Unsupported list) = SomeRead (IsRowOf (number_of list)) handed offset p start bits
IsReadCause leaves handed offset p start bits (BadSegment segment) = ⊥
IsReadCause leaves handed offset p start bits (BadCode take at) = SomeRead (IsBadCodeAt leaves (number_of take) at) handed offset p start bits
IsReadCause leaves handed offset p start bits (EvalFault at) = SomeRow (λ row. HasPart (IsFaultyRow leaves handed offset p at) (row_with handed offset p row)) start bits
IsReadCause leaves handed offset p start bits Memory = Unit {0}

-- the cause of a refusal lies in what selected rows read and are derived from
abbrev pub CauseIsRead : Type 0
CauseIsRead = (leaves : Leaves) (handed : Handed) (offset : ℕ) (p : Plan) (start : ℕ) (bits : List Bool) (error : StepError) → GivenFits handed p → HasCause leaves handed offset p start bits error → IsReadCause leaves handed offset p start bits error

-- ---- the takes whose values are asked for

-- a row of the plan reads a code of the take directly: for it the take is outermost
abbrev pub ReadsTake : ℕ → ℕ → Plan → ℕ → Type 0
ReadsTake take offset p row = FindsBy directly (IsCodeOf take) (plan_reads offset p row)

-- the values' plan of a take is its second child
abbrev pub IsValuesOf : List Node → ℕ → ℕ → Type 0
IsValuesOf nodes take values = slice_get (node_at nodes take).children 1 ≡ Some values

-- Where no share stands in the plan, a row asks for the whole values of each outermost take that it reads.
abbrev pub OutermostTakeIsAsked : Type 0
OutermostTakeIsAsked = (nodes : List Node) → IsGoodTable nodes → (given : GivenValues) (offset n row take : ℕ) → n < length nodes → HasNoShare (plan_at nodes n) → ReadsTake take offset (plan_at nodes n) row →
    (values : ℕ) × IsValuesOf nodes take values × Visits (IsWholeRead values) (Some given) (plan_at nodes n) row

-- So where all that selected rows ask for was made or used, the values of each outermost take that they read were.
abbrev pub TakesAreThere : Type 0
TakesAreThere = (nodes : List Node) → IsGoodTable nodes → (given : List Kept) (wholes : Wholes) (offset n start : ℕ) (bits : List Bool) (take : ℕ) → n < length nodes → HasNoShare (plan_at nodes n) → AreThere nodes given wholes n start bits →
    SomeRow (ReadsTake take offset (plan_at nodes n)) start bits → (values : ℕ) × IsValuesOf nodes take values × IsThere given wholes values

-- a table without shares has none in a plan
abbrev pub NoShareInTable : Type 0
NoShareInTable = (nodes : List Node) → IsGoodTable nodes → ((n : ℕ) → HasKind IsShare nodes n → ⊥) → (n : ℕ) → n < length nodes → HasNoShare (plan_at nodes n)

-- Where besides no expression stands below a take, no fault of an expression is one of whole values.
abbrev pub EvalFaultIsOutside : Type 0
EvalFaultIsOutside = (leaves : Leaves) (given : GivenValues) (offset : ℕ) (p : Plan) (start : ℕ) (bits : List Bool) (at : ℕ) → HasNoShare p → HasNoEvalBelowTake p → ¬ (HasInsideCause leaves (Some given) offset p start bits (EvalFault at))
