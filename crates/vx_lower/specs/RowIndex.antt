-- The plan of an expression over a plan and the numbers of its rows.
use Rattle.std.specs.Prelude.{ℕ, ◌+◌, Bool, true, false, if◌then◌else◌, Option, Some, option_and_then}
use Rattle.vx_base.specs.declared.dtypes.Nullability.TheVariants.{NonNullable}
use Rattle.vx_base.specs.Data.{DataType, struct_type, no_members, Datum, null}
use Rattle.vx_expr.specs.Bound.{Bound}
use Rattle.vx_expr.specs.Meaning.{meaning}
use Rattle.vx_expr.specs.Mentions.{uses_root, uses_row_number}
use Rattle.vx_expr.specs.Rewritten.{with_row_number, row_number_as_root, over_row_number}
use Rattle.vx_expr.specs.Terms.{Term}
use Rattle.vx_expr.specs.Types.{row_number_type}
use Rattle.vx_expr.specs.Rows.{no_bound}
use Rattle.vx_plan.specs.Plans.{Plan, eval_plan, pack_plan, row_idx_plan, no_plans, plan, all_valid, plan_head}
use Rattle.vx_plan.specs.PlanRows.{plan_value}
use Rattle.vx_rows.specs.Derivations.{Leaves}
use Rattle.vx_rows.specs.Heads.{Head}

-- the head of a new plan of a dtype, with the rows of another
abbrev pub new_head : DataType → Plan → Head
new_head t child = record { number = 0; dtype = t; rows = (plan_head child).rows }

abbrev pub row_numbers : Plan → Plan
row_numbers child = row_idx_plan (new_head row_number_type child)

-- as many empty structs as the plan has rows
abbrev pub empty_structs : Plan → Plan
empty_structs child = pack_plan (new_head (struct_type no_members NonNullable) child) no_plans all_valid

-- the numbers of the rows beside the rows
abbrev pub numbered_rows : Plan → Plan
numbered_rows child =
    pack_plan (new_head (with_row_number (plan_head child).dtype) child) (plan (row_numbers child) (plan child no_plans)) all_valid

-- by whether the expression uses the root, and whether it uses the row's number
abbrev pub row_index_plan_by : Bool → Bool → Bound → Plan → Plan
row_index_plan_by false false a child = eval_plan (new_head a.dtype child) a.term (empty_structs child)
row_index_plan_by false true a child = eval_plan (new_head a.dtype child) (row_number_as_root a).term (row_numbers child)
row_index_plan_by true false a child = eval_plan (new_head a.dtype child) a.term child
row_index_plan_by true true a child = eval_plan (new_head a.dtype child) (over_row_number a).term (numbered_rows child)

-- the plan of a bound expression over a plan
abbrev pub row_index_plan : Bound → Plan → Plan
row_index_plan a child = row_index_plan_by (uses_root a.term) (uses_row_number a.term) a child

-- what an expression is worth over a plan's row and its number; null stands for the row where the root isn't used
abbrev pub meaning_over : Leaves → ℕ → Term → Plan → ℕ → Option Datum
meaning_over leaves offset e child row =
    option_and_then (λ v. meaning (plan_head child).dtype no_bound e v (row + offset))
    (if uses_root e then plan_value leaves offset child row else Some null)

-- ---- with the numbers of a table

-- the head of a plan of that number and dtype, with the rows of another
abbrev pub head_with : ℕ → DataType → Plan → Head
head_with n t child = record { number = n; dtype = t; rows = (plan_head child).rows }

-- by whether the expression uses the root, and whether it uses the row's number
abbrev pub row_index_plan_from_by : Bool → Bool → ℕ → Bound → Plan → Plan
row_index_plan_from_by false false n a child =
    eval_plan (head_with (n + 1) a.dtype child) a.term (pack_plan (head_with n (struct_type no_members NonNullable) child) no_plans all_valid)
row_index_plan_from_by false true n a child =
    eval_plan (head_with (n + 1) a.dtype child) (row_number_as_root a).term (row_idx_plan (head_with n row_number_type child))
row_index_plan_from_by true false n a child = eval_plan (head_with n a.dtype child) a.term child
row_index_plan_from_by true true n a child =
    eval_plan (head_with (n + 2) a.dtype child) (over_row_number a).term
    (pack_plan (head_with (n + 1) (with_row_number (plan_head child).dtype) child) (plan (row_idx_plan (head_with n row_number_type child)) (plan child no_plans)) all_valid)

-- the plan of a bound expression over a plan, whose own plans are numbered from that number on, each behind its children
abbrev pub row_index_plan_from : ℕ → Bound → Plan → Plan
row_index_plan_from n a child = row_index_plan_from_by (uses_root a.term) (uses_row_number a.term) n a child
