-- Trees that were written by hand and the plans that they are lowered to, on which the definitions of lowering and
-- of the row index are checked.
use Rattle.std.specs.Prelude.{codes, ℕ, pos, false, ◌+◌, List, [], ◌∷◌, ◌++◌, map, Option}
use Rattle.vx_base.specs.declared.codings.Coding.TheVariants.{Plain}
use Rattle.vx_base.specs.declared.dtypes.IntKind.TheVariants.{U8, I64}
use Rattle.vx_base.specs.declared.dtypes.Nullability.TheVariants.{NonNullable, Nullable}
use Rattle.vx_base.specs.Data.{DataType, bool_type, int_type, struct_type, list_type, no_members, member, Datum, number}
use Rattle.vx_expr.specs.declared.operators.ArithOp.TheVariants.{Add, Div}
use Rattle.vx_expr.specs.declared.statistics.Statistic.{Statistic}
use Rattle.vx_expr.specs.declared.statistics.Statistic.TheVariants.{Max}
use Rattle.vx_expr.specs.Terms.{Term, root, literal, get_field, pack, arithmetic, row_number, no_terms, named}
use Rattle.vx_layout.specs.Kept.{KeptFields, only}
use Rattle.vx_layout.specs.Trees.{Tree, leaf, chunks, fields, dict, lists, zoned, no_trees, tree, always, valid_by}
use Rattle.vx_plan.specs.Plans.{Plan, concat_plan, eval_plan, filter_plan, pack_plan, take_plan, list_plan, scan_plan, zoned_plan, no_plans, plan, all_valid, valid_as}
use Rattle.vx_plan.specs.PlanRows.{plan_value, plan_reads}
use Rattle.vx_rows.specs.ByHand.{all_have, i64, u64}
use Rattle.vx_rows.specs.Reads.{Found, a_leaf_row, a_code, a_list_row, Read}
use Rattle.vx_rows.specs.Heads.{Head}
use Rattle.vx_rows.specs.Zones.{zones_of}
use Rattle.vx_lower.specs.Planned.{planned}
use Rattle.vx_lower.specs.Projected.{Projection, projected_at}
use Rattle.vx_layout.specs.WorkedRows.{three_rows}

abbrev codes_type : DataType
codes_type = int_type U8 Nullable

abbrev pub head : ℕ → DataType → ℕ → Head
head n t rows = record { number = n; dtype = t; rows = rows }

-- ---- leaves and chunks

abbrev pub flat : ℕ → DataType → ℕ → ℕ → Tree
flat n t rows segment = leaf (head n t rows) segment Plain

abbrev pub scanned : ℕ → DataType → ℕ → ℕ → Plan
scanned n t rows segment = filter_plan (head n t rows) (scan_plan (head n t rows) segment Plain)

abbrev pub two_chunks : Tree
two_chunks = chunks (head 0 i64 3) (tree (flat 1 i64 1 0) (tree (flat 2 i64 2 1) no_trees))

abbrev pub two_scanned : Plan
two_scanned = concat_plan (head 0 i64 3) (plan (scanned 1 i64 1 0) (plan (scanned 2 i64 2 1) no_plans))

-- ---- structs

abbrev pub pair : DataType
pair = struct_type (member (codes "a") i64 (member (codes "b") u64 no_members)) NonNullable

abbrev pub field_b : DataType
field_b = struct_type (member (codes "b") u64 no_members) NonNullable

abbrev pub b_alone : KeptFields
b_alone = only (codes "b" ∷ [])

-- three structs, with this number and those behind it, from a segment on
abbrev pub pairs : ℕ → ℕ → Tree
pairs n segment = fields (head n pair 3) (tree (flat (n + 1) i64 3 segment) (tree (flat (n + 2) u64 3 (segment + 1)) no_trees)) always

abbrev pub packed_pairs : ℕ → ℕ → Plan
packed_pairs n segment = pack_plan (head n pair 3) (plan (scanned (n + 1) i64 3 segment) (plan (scanned (n + 2) u64 3 (segment + 1)) no_plans)) all_valid

-- the second field of the same
abbrev pub packed_b : ℕ → ℕ → Plan
packed_b n segment = pack_plan (head n field_b 3) (plan (scanned (n + 2) u64 3 (segment + 1)) no_plans) all_valid

abbrev null_a : DataType
null_a = struct_type (member (codes "a") i64 no_members) Nullable

abbrev pub null_structs : Tree
null_structs = fields (head 0 null_a 3) (tree (flat 2 i64 3 1) no_trees) (valid_by (flat 1 (bool_type NonNullable) 3 0))

abbrev pub packed_nulls : Plan
packed_nulls = pack_plan (head 0 null_a 3) (plan (scanned 2 i64 3 1) no_plans) (valid_as (scanned 1 (bool_type NonNullable) 3 0))

-- ---- dictionaries and lists

abbrev pub looked_up_numbers : Tree
looked_up_numbers = dict (head 0 (int_type I64 Nullable) 4) (flat 1 i64 2 0) (flat 2 codes_type 4 1)

abbrev pub taken_numbers : Plan
taken_numbers = take_plan (head 0 (int_type I64 Nullable) 4) (scanned 2 codes_type 4 1) (scanned 1 i64 2 0)

abbrev pub looked_up_pairs : Tree
looked_up_pairs = dict (head 0 pair 4) (pairs 1 0) (flat 4 (int_type U8 NonNullable) 4 2)

abbrev pub taken_pairs : Plan
taken_pairs = take_plan (head 0 pair 4) (scanned 4 (int_type U8 NonNullable) 4 2) (packed_pairs 1 0)

-- the second fields of whole structs
abbrev pub b_of_each : Plan → Plan
b_of_each p = eval_plan (head 0 field_b 4) (pack (named (codes "b") (get_field (codes "b") root) no_terms)) p

abbrev pub two_lists : Tree
two_lists = lists (head 0 (list_type i64 NonNullable) 2) (flat 1 i64 5 0) (flat 2 i64 3 1) always

abbrev pub packed_lists : Plan
packed_lists = list_plan (head 0 (list_type i64 NonNullable) 2) (scanned 1 i64 5 0) (scanned 2 i64 3 1) all_valid

-- ---- zones

abbrev greatest : DataType
greatest = struct_type (member (codes "max") (int_type I64 Nullable) no_members) NonNullable

-- a zone's greatest number
abbrev one_zone : ℕ → ℕ → Tree
one_zone n segment = fields (head n greatest 1) (tree (flat (n + 1) (int_type I64 Nullable) 1 segment) no_trees) always

abbrev one_zone_packed : ℕ → ℕ → Plan
one_zone_packed n segment = pack_plan (head n greatest 1) (plan (scanned (n + 1) (int_type I64 Nullable) 1 segment) no_plans) all_valid

abbrev pub in_zones : ℕ → List Statistic → Tree
in_zones zone_len stats = zoned (head 0 i64 3) (zones_of false zone_len stats) (flat 1 i64 3 0) (one_zone 2 1)

abbrev pub zones_beside : Plan
zones_beside = zoned_plan (head 0 i64 3) (zones_of false 3 (Max ∷ [])) (scanned 1 i64 3 0) (one_zone_packed 2 1)

-- ---- structs in two chunks, and those in zones

abbrev pub chunked_pairs : ℕ → Tree
chunked_pairs n = chunks (head n pair 6) (tree (pairs (n + 1) 0) (tree (pairs (n + 4) 2) no_trees))

abbrev pub chunked_b : ℕ → Plan
chunked_b n = concat_plan (head n field_b 6) (plan (packed_b (n + 1) 0) (plan (packed_b (n + 4) 2) no_plans))

abbrev no_zone : Tree
no_zone = fields (head 8 (struct_type no_members NonNullable) 2) no_trees always

abbrev pub zoned_pairs : ℕ → Tree
zoned_pairs zone_len = zoned (head 0 pair 6) (zones_of false zone_len (Max ∷ [])) (chunked_pairs 1) no_zone

abbrev pub zoned_b : Plan
zoned_b = zoned_plan (head 0 field_b 6) (zones_of false 3 (Max ∷ [])) (chunked_b 1) (pack_plan (head 8 (struct_type no_members NonNullable) 2) no_plans all_valid)

-- ---- projections

abbrev pub two_behind : Term
two_behind = arithmetic Add row_number (literal (number (pos 2)) u64)

abbrev pub ten_through_a : Term
ten_through_a = arithmetic Div (literal (number (pos 10)) i64) (get_field (codes "a") root)

-- the number of the row and the field
abbrev pub number_and_b : Term
number_and_b = arithmetic Add row_number (get_field (codes "b") root)

-- of three structs, from an offset
abbrev pub projection : Term → DataType → ℕ → Projection
projection e t offset = record { root = pairs 0 0; expression = record { term = e; root = pair; dtype = t }; offset = offset }

-- what the rows are worth, by the plan and by the tree
abbrev pub worth : List Datum → Projection → List (Option Datum)
worth values p = map (plan_value (all_have values) p.offset (planned p)) three_rows

abbrev pub projected : List Datum → Projection → List (Option Datum)
projected values p = map (projected_at (all_have values) p) three_rows

abbrev segment_in : Found → List ℕ
segment_in (a_leaf_row found) = found.segment ∷ []
segment_in (a_code found) = []
segment_in (a_list_row list row) = []

abbrev segments_in : List Read → List ℕ
segments_in [] = []
segments_in (read ∷ reads) = segment_in read.found ++ segments_in reads

-- the segments whose cells the first row reads
abbrev pub segments_read : Projection → List ℕ
segments_read p = segments_in (plan_reads p.offset (planned p) 0)
