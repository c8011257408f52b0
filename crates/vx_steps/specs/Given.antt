-- Whole values that are handed in for plans of a table, and what a row is worth with them in place of those that
-- it would read.
use Rattle.std.specs.Prelude.{ℕ, List, Option, Some, None, option_map}
use Rattle.std.specs.List.{slice_get}
use Rattle.vx_base.specs.Data.{Datum}
use Rattle.vx_rows.specs.Derivations.{Leaves, derived, derived_each, each_row}
use Rattle.vx_rows.specs.Given.{GivenValues, with_given}
use Rattle.vx_plan.specs.declared.nodes.PlanKind.{PlanKind}
use Rattle.vx_plan.specs.declared.nodes.PlanKind.TheVariants as kinds
use Rattle.vx_plan.specs.Nodes.{Node}
use Rattle.vx_plan.specs.Plans.{Plan, plan_head}
use Rattle.vx_plan.specs.PlanRows.{plan_derivation}
use Rattle.vx_steps.specs.KeptData.{Kept}
use Rattle.vx_steps.specs.Kept.{whole_of}

-- what was handed in, and none while whole values are made: then nothing that was handed in is used
abbrev pub Handed : Type 0
Handed = Option GivenValues

abbrev pub no_given : GivenValues
no_given n = None

abbrev pub values_for : Handed → GivenValues
values_for None = no_given
values_for (Some given) = given

abbrev pub whole_at : List Kept → Option ℕ → Option (List Datum)
whole_at kept None = None
whole_at kept (Some n) = whole_of kept n

-- A take's values are those that are handed in for its second child; a share's, those for the share.
abbrev pub given_as : List Kept → ℕ → PlanKind → List ℕ → Option (List Datum)
given_as kept n kinds.Take children = whole_at kept (slice_get children 1)
given_as kept n kinds.Share children = whole_of kept n
given_as kept n kind children = None

abbrev pub given_at : List Kept → ℕ → Option Node → Option (List Datum)
given_at kept n None = None
given_at kept n (Some node) = given_as kept n node.kind node.children

-- the whole values that stand for the take or the share of a number, if any
abbrev pub given_for : List Node → List Kept → GivenValues
given_for nodes kept n = given_at kept n (slice_get nodes n)

-- the same of what was handed in, if anything was
abbrev pub handed_by : List Node → Option (List Kept) → Handed
handed_by nodes given = option_map (given_for nodes) given

-- what a row is worth, with what was handed in in place of what it would read
abbrev pub row_value : Leaves → Handed → ℕ → Plan → ℕ → Option Datum
row_value leaves handed offset p row = derived leaves (with_given (values_for handed) (plan_derivation offset p row))

-- all values of a plan, by its leaves alone
abbrev pub whole_value : Leaves → ℕ → Plan → Option (List Datum)
whole_value leaves offset p = derived_each leaves (each_row (plan_derivation offset p) 0 (plan_head p).rows)
