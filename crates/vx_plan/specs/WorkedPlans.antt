-- Plans that were written by hand, on which the definitions of rows, of reads and of what is reached are checked.
use Rattle.std.specs.Prelude.{codes, ℕ, pos, List, [], ◌∷◌, map, Option}
use Rattle.std.specs.declared.ops.Range.{Range}
use Rattle.vx_base.specs.declared.codings.Coding.TheVariants.{Plain}
use Rattle.vx_base.specs.declared.dtypes.IntKind.TheVariants.{I64, U8}
use Rattle.vx_base.specs.declared.dtypes.Nullability.TheVariants.{NonNullable, Nullable}
use Rattle.vx_base.specs.Data.{DataType, bool_type, int_type, struct_type, list_type, no_members, member, Datum, number}
use Rattle.vx_expr.specs.declared.operators.ArithOp.TheVariants.{Add, Div}
use Rattle.vx_operators.specs.declared.operators.CompareOp.TheVariants.{Gt}
use Rattle.vx_expr.specs.declared.statistics.Statistic.TheVariants.{Max}
use Rattle.vx_expr.specs.Bound.{Bound}
use Rattle.vx_expr.specs.Terms.{root, literal, get_field, arithmetic, comparison}
use Rattle.vx_rows.specs.ByHand.{all_have, i64, segments_in, u64}
use Rattle.vx_rows.specs.Reads.{Way}
use Rattle.vx_rows.specs.Heads.{Head}
use Rattle.vx_plan.specs.declared.reaching.SegmentReach.{SegmentReach}
use Rattle.vx_plan.specs.Plans.{Plan, concat_plan, eval_plan, filter_plan, pack_plan, take_plan, share_plan, list_plan, row_idx_plan, scan_plan, pruning_plan, no_plans, plan, all_valid, valid_as}
use Rattle.vx_plan.specs.Pruning.{pruning_of}
use Rattle.vx_plan.specs.PlanRows.{plan_value, plan_reads}

abbrev pub head : DataType → ℕ → Head
head t rows = record { number = 0; dtype = t; rows = rows }

-- ---- plans

abbrev pub flat : DataType → ℕ → ℕ → Plan
flat t rows segment = filter_plan (head t rows) (scan_plan (head t rows) segment Plain)

abbrev pub three_flats : Plan
three_flats = concat_plan (head i64 9) (plan (flat i64 3 0) (plan (flat i64 3 1) (plan (flat i64 3 2) no_plans)))

-- four codes in one segment, over so many values in the next
abbrev pub looked_up_in : ℕ → Plan
looked_up_in count = take_plan (head i64 4) (flat (int_type U8 Nullable) 4 0) (flat i64 count 1)

abbrev pub shared_flats : Plan
shared_flats = share_plan (head i64 9) three_flats

abbrev pub two_lists : Plan
two_lists = list_plan (head (list_type i64 NonNullable) 2) (flat i64 5 0) (flat i64 3 1) all_valid

-- structs without fields, and which of them are not null
abbrev pub null_structs : Plan
null_structs = pack_plan (head (struct_type no_members Nullable) 3) no_plans (valid_as (flat (bool_type NonNullable) 3 0))

-- the number of the row and two more
abbrev pub two_behind : Plan
two_behind = eval_plan (head u64 3) (arithmetic Add root (literal (number (pos 2)) u64)) (row_idx_plan (head u64 3))

-- ten through the field `a`
abbrev pub ten_through : Plan
ten_through = eval_plan (head i64 3) (arithmetic Div (literal (number (pos 10)) i64) (get_field (codes "a") root)) (pack_plan (head (struct_type (member (codes "a") i64 no_members) NonNullable) 3) (plan (flat i64 3 0) no_plans) all_valid)

-- nine rows in zones of three, of each of which the greatest value stands in segment 3; whether a zone lacks rows above seven
abbrev pub above_seven : Bound
above_seven = record { root = i64; term = comparison Gt root (literal (number (pos 7)) i64); dtype = bool_type NonNullable }

abbrev pub greatest : Plan
greatest = pack_plan (head (struct_type (member (codes "max") (int_type I64 Nullable) no_members) NonNullable) 3) (plan (flat (int_type I64 Nullable) 3 3) no_plans) all_valid

abbrev pub pruned_zones : Plan
pruned_zones = pruning_plan (head (bool_type NonNullable) 9) (pruning_of 3 (Max ∷ []) above_seven) greatest

-- ---- what rows are worth and read

abbrev pub worth : List Datum → ℕ → Plan → List ℕ → List (Option Datum)
worth values offset p rows = map (plan_value (all_have values) offset p) rows

-- the segments whose cells a row reads, each with the way to it
abbrev pub segments_read : Plan → ℕ → List (Way × ℕ)
segments_read p row = segments_in (plan_reads 0 p row)

-- ---- what is reached

abbrev pub rows : ℕ → ℕ → Range ℕ
rows start end = record { start = start; end = end }

abbrev pub entry : ℕ → ℕ → ℕ → SegmentReach
entry segment start end = record { segment = segment; rows = rows start end }
