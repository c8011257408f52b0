-- The column that is computed for the selected rows of a plan, and why none is.
use Rattle.std.specs.Prelude.{◌≡◌, ℕ, Bool, List, [], ◌∷◌, Option, Some, None, length, MatchResult, Result, Ok, Err}
use Rattle.std.specs.List.{flat_map, sum_by, AllByRecursion}
use Rattle.vx_base.specs.Columns.{ColumnData}
use Rattle.vx_base.specs.Masks.{true_count}
use Rattle.vx_picking.specs.Rows.{rows_of, AreOf}
use Rattle.vx_plan.specs.Plans.{Plan, plan_at}
use Rattle.vx_plan.specs.Refs.{number_of}
use Rattle.vx_plan.specs.Rules.{node_at}
use Rattle.vx_rows.specs.Derivations.{Leaves}
use Rattle.vx_steps.specs.declared.errors.StepError.{StepError}
use Rattle.vx_steps.specs.declared.errors.StepError.TheVariants.{Unsupported, BadSegment, BadCode, EvalFault, Memory}
use Rattle.vx_steps.specs.declared.leaf_reads.LeafRead.{LeafRead}
use Rattle.vx_steps.specs.Given.{Handed, row_value, whole_value}
use Rattle.vx_steps.specs.Held.{Held, IsBy, handed_in}
use Rattle.vx_steps.specs.KeptData.{Kept}
use Rattle.vx_steps.specs.Kept.{kept_at, IsKept}
use Rattle.vx_steps.specs.Visits.{SomeVisit, SomeWholeVisit, IsLeafRead, IsListRead, HasBadCode, HasEvalFault}

-- the whole values that are there for a plan: handed in, or else made
abbrev pub else_kept : Option ColumnData → Option ColumnData → Option ColumnData
else_kept None other = other
else_kept (Some column) other = Some column

abbrev pub kept_in : Option (List Kept) → ℕ → Option ColumnData
kept_in None n = None
kept_in (Some kept) n = kept_at kept n

abbrev pub whole_in : Held → ℕ → Option ColumnData
whole_in h n = else_kept (kept_in h.given n) (kept_at h.made n)

-- each leaf that the selected rows read is kept
abbrev pub AreReady : Held → ℕ → ℕ → List Bool → Type 0
AreReady h n start bits = (read : LeafRead) → SomeVisit (IsLeafRead read) (handed_in h) (plan_at h.nodes n) start bits → IsKept h.leaves read.leaf

-- each leaf that some row reads is kept
abbrev pub AreReadyWhole : Held → ℕ → Type 0
AreReadyWhole h n = (read : LeafRead) → SomeWholeVisit (IsLeafRead read) (plan_at h.nodes n) (node_at h.nodes n).rows → IsKept h.leaves read.leaf

-- Some selected row has the visit that the fault names.
abbrev pub HasCause : Leaves → Handed → ℕ → Plan → ℕ → List Bool → StepError → Type 0
HasCause leaves handed offset p start bits (Unsupported list) = SomeVisit (IsListRead (number_of list)) handed p start bits
HasCause leaves handed offset p start bits (BadSegment segment) = ⊥
HasCause leaves handed offset p start bits (BadCode take at) = SomeVisit (HasBadCode leaves offset (number_of take) at) handed p start bits
HasCause leaves handed offset p start bits (EvalFault at) = SomeVisit (HasEvalFault leaves offset at) handed p start bits
HasCause leaves handed offset p start bits Memory = Unit {0}

-- the values of the selected rows, or a fault that they have
abbrev pub Outcome : Leaves → Handed → ℕ → Plan → ℕ → List Bool → Result ColumnData StepError → Type 0
Outcome leaves handed offset p start bits result = MatchResult result (λ column. AreOf (row_value leaves handed offset p) (rows_of start bits) column.values) (λ fault. HasCause leaves handed offset p start bits fault)

-- P, unless the fault is that a list is read: whether one is, the plans alone decide
abbrev pub UnlessList : StepError → Type 0 → Type 0
UnlessList (Unsupported list) P = Unit {0}
UnlessList fault P = P

-- what is held is so by these leaves, unless the fault is that a list is read
abbrev pub IsByFor : Held → Leaves → Result ColumnData StepError → Type 0
IsByFor h leaves (Ok column) = IsBy h leaves
IsByFor h leaves (Err fault) = UnlessList fault (IsBy h leaves)

-- For all leaves by which what is held is so: the values of the selected rows, or a fault that they have. That they read
-- a list is so for all leaves.
abbrev pub Computes : Held → ℕ → ℕ → List Bool → Result ColumnData StepError → Type 0
Computes h n start bits result = (leaves : Leaves) → IsByFor h leaves result → Outcome leaves (handed_in h) h.offset (plan_at h.nodes n) start bits result

-- some row has the visit that the fault names, while whole values are made
abbrev pub HasWholeCause : Leaves → ℕ → Plan → ℕ → StepError → Type 0
HasWholeCause leaves offset p rows fault = (bits : List Bool) × (length bits ≡ rows) × HasCause leaves None offset p 0 bits fault

-- For all leaves by which what is held is so: the values of all rows, or a fault that they have. That they read a list is
-- so for all leaves.
abbrev pub ComputesWhole : Held → ℕ → Result ColumnData StepError → Type 0
ComputesWhole h n result = (leaves : Leaves) → IsByFor h leaves result →
    MatchResult result (λ column. whole_value leaves h.offset (plan_at h.nodes n) ≡ Some column.values) (λ fault. HasWholeCause leaves h.offset (plan_at h.nodes n) (node_at h.nodes n).rows fault)

-- ---- several plans

-- the column has the dtype of its plan, and the values of the selected rows
pub record IsPart (h : Held) (n start : ℕ) (bits : List Bool) (part : ColumnData) : Type 0 where
  pub dtype : part.dtype ≡ (node_at h.nodes n).dtype
  pub computed : Computes h n start bits (Ok part)

-- one for each plan
abbrev pub AreParts : Held → ℕ → List Bool → List ℕ → List ColumnData → Type 0
AreParts h start bits [] [] = Unit {0}
AreParts h start bits (n ∷ ns) (part ∷ parts) = IsPart h n start bits part × AreParts h start bits ns parts
AreParts h start bits ns parts = ⊥

-- One after another they are the values of the plan's selected rows, and each has the plan's dtype.
pub record AreChunkParts (h : Held) (n start : ℕ) (bits : List Bool) (parts : List ColumnData) : Type 0 where
  pub dtypes : AllByRecursion (λ part. part.dtype ≡ (node_at h.nodes n).dtype) parts
  pub rows : sum_by (λ part. length part.values) parts ≡ true_count bits
  pub values : (leaves : Leaves) → IsBy h leaves → AreOf (row_value leaves (handed_in h) h.offset (plan_at h.nodes n)) (rows_of start bits) (flat_map (λ part. part.values) parts)
