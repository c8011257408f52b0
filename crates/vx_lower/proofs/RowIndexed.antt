-- The plan of an expression over a plan and the numbers of its rows has the expression's meaning, and reads
-- what its child reads where the root is used.
use Rattle.std.proofs.Common.{◌≡◌, ℕ, ◌+◌, pos, Bool, true, false, cond, [], Option, Some, None, refl, sym, ap, ◌∙◌}
use Rattle.std.specs.Prelude.{option_and_then, option_map}
use Rattle.std.proofs.lemmas.List.{append-nil}
use Rattle.vx_base.specs.Data.{DataType, struct_type, no_members, Datum, null, number, structure, no_items, item}
use Rattle.vx_base.specs.declared.dtypes.Nullability.TheVariants.{NonNullable}
use Rattle.vx_expr.specs.Terms.{Term}
use Rattle.vx_expr.specs.Bound.{Bound}
use Rattle.vx_expr.specs.Mentions.{uses_root, uses_row_number}
use Rattle.vx_expr.specs.Meaning.{meaning}
use Rattle.vx_expr.specs.Rewritten.{with_row_number, over_row_number}
use Rattle.vx_expr.specs.Types.{on_both}
use Rattle.vx_expr.specs.Rows.{no_bound}
use Rattle.vx_expr.specs.Packs.{struct_row}
use Rattle.vx_expr.proofs.AnyRow.{worth_at_any_row}
use Rattle.vx_expr.proofs.RewrittenMeaning.{worth_as_root, worth_over_row}
use Rattle.vx_plan.specs.Plans.{Plan, plan_head}
use Rattle.vx_plan.specs.PlanRows.{plan_value, plan_reads}
use Rattle.vx_rows.specs.Derivations.{Leaves, one_more}
use Rattle.vx_lower.specs.RowIndex.{row_index_plan_by, row_index_plan, meaning_over}

-- one that doesn't use the root is worth the same at each root value
pub worth_at_any_root : (s t : DataType) (e : Term) (bound : ℕ) (v w : Datum) (row : ℕ) → uses_root e ≡ false → meaning s bound e v row ≡ meaning t bound e w row
worth_at_any_root s t e bound v w row h = sym (worth_as_root s e bound v row 0 h) ∙ worth_as_root t e bound w row 0 h

over_child : (t : DataType) (e : Term) (v : Option Datum) (row : ℕ) → uses_row_number e ≡ false → option_and_then (λ w. meaning t no_bound e w 0) v ≡ option_and_then (λ w. meaning t no_bound e w row) v
over_child t e None row h = refl
over_child t e (Some v) row h = worth_at_any_row t e no_bound v 0 row h

abbrev numbered : ℕ → Option Datum → Option Datum
numbered row v = option_map (λ w. structure (item (number (pos row)) (item w no_items))) v

over_both : (t : DataType) (a : Bound) (v : Option Datum) (row : ℕ) → option_and_then (λ w. meaning (with_row_number t) no_bound (over_row_number a).term w 0) (numbered row v) ≡ option_and_then (λ w. meaning t no_bound a.term w row) v
over_both t a None row = refl
over_both t a (Some v) row = worth_over_row t a.term no_bound v row 0

packed_numbered : (row : ℕ) (v : Option Datum) → option_map struct_row (on_both one_more (Some (number (pos row))) (on_both one_more v (Some []))) ≡ numbered row v
packed_numbered row None = refl
packed_numbered row (Some v) = refl

row_index_by : (uses numbers : Bool) (leaves : Leaves) (offset : ℕ) (a : Bound) (child : Plan) (row : ℕ) → uses_root a.term ≡ uses → uses_row_number a.term ≡ numbers → plan_value leaves offset (row_index_plan_by uses numbers a child) row ≡ option_and_then (λ v. meaning (plan_head child).dtype no_bound a.term v (row + offset)) (cond uses (plan_value leaves offset child row) (Some null))
row_index_by false false leaves offset a child row h k = worth_at_any_row (struct_type no_members NonNullable) a.term no_bound (structure no_items) 0 (row + offset) k ∙ worth_at_any_root (struct_type no_members NonNullable) (plan_head child).dtype a.term no_bound (structure no_items) null (row + offset) h
row_index_by false true leaves offset a child row h k = worth_as_root (plan_head child).dtype a.term no_bound null (row + offset) 0 h
row_index_by true false leaves offset a child row h k = over_child (plan_head child).dtype a.term (plan_value leaves offset child row) (row + offset) k
row_index_by true true leaves offset a child row h k =
    ap (option_and_then (λ (w : Datum). meaning (with_row_number (plan_head child).dtype) no_bound (over_row_number a).term w 0)) (packed_numbered (row + offset) (plan_value leaves offset child row))
    ∙ over_both (plan_head child).dtype a (plan_value leaves offset child row) (row + offset)

pub row_index_keeps : (leaves : Leaves) (offset : ℕ) (a : Bound) (child : Plan) (row : ℕ) → plan_value leaves offset (row_index_plan a child) row ≡ meaning_over leaves offset a.term child row
row_index_keeps leaves offset a child row = row_index_by (uses_root a.term) (uses_row_number a.term) leaves offset a child row refl refl

reads_by : (uses numbers : Bool) (offset : ℕ) (a : Bound) (child : Plan) (row : ℕ) → plan_reads offset (row_index_plan_by uses numbers a child) row ≡ cond uses (plan_reads offset child row) []
reads_by false false offset a child row = refl
reads_by false true offset a child row = refl
reads_by true false offset a child row = refl
reads_by true true offset a child row = append-nil (plan_reads offset child row)

pub row_index_reads : (offset : ℕ) (a : Bound) (child : Plan) (row : ℕ) → plan_reads offset (row_index_plan a child) row ≡ cond (uses_root a.term) (plan_reads offset child row) []
row_index_reads offset a child row = reads_by (uses_root a.term) (uses_row_number a.term) offset a child row

-- ---- heads

type_by : (uses numbers : Bool) (a : Bound) (child : Plan) → (plan_head (row_index_plan_by uses numbers a child)).dtype ≡ a.dtype
type_by false false a child = refl
type_by false true a child = refl
type_by true false a child = refl
type_by true true a child = refl

pub row_index_type : (a : Bound) (child : Plan) → (plan_head (row_index_plan a child)).dtype ≡ a.dtype
row_index_type a child = type_by (uses_root a.term) (uses_row_number a.term) a child

rows_by : (uses numbers : Bool) (a : Bound) (child : Plan) → (plan_head (row_index_plan_by uses numbers a child)).rows ≡ (plan_head child).rows
rows_by false false a child = refl
rows_by false true a child = refl
rows_by true false a child = refl
rows_by true true a child = refl

pub row_index_rows : (a : Bound) (child : Plan) → (plan_head (row_index_plan a child)).rows ≡ (plan_head child).rows
row_index_rows a child = rows_by (uses_root a.term) (uses_row_number a.term) a child
