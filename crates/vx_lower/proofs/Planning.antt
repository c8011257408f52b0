-- The plan of a projection is the projection.
use Rattle.std.proofs.Common.{◌≡◌, ℕ, ◌+◌, Bool, true, false, cond, List, [], Option, Some, None, refl, sym, ap, ◌∙◌, subst, arith}
use Rattle.std.proofs.lemmas.Option.{same_Some}
use Rattle.std.specs.Prelude.{option_and_then, option_map, IsSome}
use Rattle.vx_base.specs.declared.dtypes.Nullability.TheVariants.{NonNullable, Nullable}
use Rattle.vx_base.specs.Data.{DataType, bool_type, int_type, utf8_type, struct_type, list_type, Members, Datum, null}
use Rattle.vx_base.specs.Names.{HasDistinctNames}
use Rattle.vx_expr.specs.Meaning.{meaning}
use Rattle.vx_expr.specs.Mentions.{uses_root, is_root, root_fields}
use Rattle.vx_expr.specs.Terms.{Term, root, literal, get_field, pack, negation, conjunction, disjunction, comparison, null_test, value_test, arithmetic, row_number, bound_test}
use Rattle.vx_expr.specs.Types.{type_of}
use Rattle.vx_expr.specs.Rows.{no_bound}
use Rattle.vx_layout.specs.Kept.{KeptFields, all, only, names_among, kept_among, kept_fields}
use Rattle.vx_layout.specs.Rows.{value, reads}
use Rattle.vx_layout.specs.Sound.{IsSound}
use Rattle.vx_layout.specs.Trees.{Tree, head_of}
use Rattle.vx_plan.specs.Plans.{Plan, plan_head}
use Rattle.vx_plan.specs.PlanRows.{plan_value, plan_reads}
use Rattle.vx_rows.specs.Derivations.{Leaves}
use Rattle.vx_rows.specs.Reads.{directly, Read}
use Rattle.vx_rows.specs.Whole.{GiveFitting}
use Rattle.vx_lower.specs.KeptRows.{kept_type, kept_value, MayKeep}
use Rattle.vx_lower.specs.Lowered.{lowered}
use Rattle.vx_lower.specs.Planned.{planned_by, planned, CanBePlanned}
use Rattle.vx_lower.specs.Projected.{Projection, kept_of, root_value, projected_at, scan_reads}
use Rattle.vx_lower.proofs.KeptMeaning.{type_of_kept, meaning_kept}
use Rattle.vx_lower.proofs.KeptNames.{keeps_fields}
use Rattle.vx_lower.proofs.Heads.{lowered_head}
use Rattle.vx_lower.proofs.Lowering.{lowered_values}
use Rattle.vx_lower.proofs.LoweredRows.{lowered_rows, lowered_reads}
use Rattle.vx_lower.proofs.RowIndexed.{worth_at_any_root, row_index_keeps, row_index_reads, row_index_rows, row_index_type}

-- ---- what an expression keeps serves it

record Serves (t : DataType) (e : Term) (kept : KeptFields) : Type 0 where
  may : MayKeep kept t
  typed : type_of (kept_type kept t) e ≡ type_of t e
  same : (v : Datum) (row : ℕ) → meaning (kept_type kept t) no_bound e (kept_value kept t v) row ≡ meaning t no_bound e v row

all_serves : (t : DataType) (e : Term) → Serves t e all
all_serves t e = record { may = tt; typed = refl; same = λ v row. refl }

only_serves : (ms : Members) (e : Term) (names : List (List ℕ)) → IsSome (type_of (struct_type ms NonNullable) e) → root_fields e ≡ Some names → Serves (struct_type ms NonNullable) e (only (names_among ms names))
only_serves ms e names bound is = record {
  may = tt;
  typed = sym (type_of_kept (names_among ms names) ms NonNullable e (keeps_fields ms NonNullable e names bound is));
  same = λ v row. sym (meaning_kept (names_among ms names) ms NonNullable no_bound e v row (keeps_fields ms NonNullable e names bound is));
}

among_serves : (ms : Members) (e : Term) (found : Option (List (List ℕ))) → IsSome (type_of (struct_type ms NonNullable) e) → root_fields e ≡ found → Serves (struct_type ms NonNullable) e (kept_among ms found)
among_serves ms e None bound is = all_serves (struct_type ms NonNullable) e
among_serves ms e (Some names) bound is = only_serves ms e names bound is

serves_by : (b : Bool) (t : DataType) (e : Term) (kept : KeptFields) → Serves t e kept → Serves t e (cond b kept all)
serves_by true t e kept serves = serves
serves_by false t e kept serves = all_serves t e

kept_serves : (t : DataType) (e : Term) → IsSome (type_of t e) → Serves t e (kept_fields t e)
kept_serves (struct_type ms NonNullable) e bound = serves_by (uses_root e) (struct_type ms NonNullable) e (kept_among ms (root_fields e)) (among_serves ms e (root_fields e) bound refl)
kept_serves (struct_type ms Nullable) e bound = all_serves (struct_type ms Nullable) e
kept_serves (bool_type n) e bound = all_serves (bool_type n) e
kept_serves (int_type kind n) e bound = all_serves (int_type kind n) e
kept_serves (utf8_type n) e bound = all_serves (utf8_type n) e
kept_serves (list_type s n) e bound = all_serves (list_type s n) e

pub kept_typed : (t : DataType) (e : Term) → IsSome (type_of t e) → type_of (kept_type (kept_fields t e) t) e ≡ type_of t e
kept_typed t e bound = (kept_serves t e bound).typed

-- ---- the root alone

root_keeps : (t : DataType) → kept_fields t root ≡ all
root_keeps (struct_type ms NonNullable) = refl
root_keeps (struct_type ms Nullable) = refl
root_keeps (bool_type n) = refl
root_keeps (int_type kind n) = refl
root_keeps (utf8_type n) = refl
root_keeps (list_type s n) = refl

is_the_root : (e : Term) → is_root e ≡ true → e ≡ root
is_the_root root is = refl
is_the_root (literal v s) is = absurd cc
is_the_root (get_field name e) is = absurd cc
is_the_root (pack es) is = absurd cc
is_the_root (negation e) is = absurd cc
is_the_root (conjunction a b) is = absurd cc
is_the_root (disjunction a b) is = absurd cc
is_the_root (comparison op a b) is = absurd cc
is_the_root (null_test e) is = absurd cc
is_the_root (value_test e) is = absurd cc
is_the_root (arithmetic op a b) is = absurd cc
is_the_root row_number is = absurd cc
is_the_root (bound_test e) is = absurd cc

-- what a tree's row is worth under an expression
abbrev ValueOver : Leaves → ℕ → Tree → Term → KeptFields → ℕ → Option Datum
ValueOver leaves offset t e kept row = option_and_then (λ v. meaning (head_of t).dtype no_bound e v (offset + row)) (cond (uses_root e) (value leaves t kept row) (Some null))

whole_value : (t : DataType) (v : Option Datum) → option_map (kept_value all t) v ≡ option_and_then Some v
whole_value t None = refl
whole_value t (Some v) = refl

root_worth : (leaves : Leaves) → GiveFitting leaves → (offset : ℕ) (t : Tree) (row : ℕ) → IsSound t → HasDistinctNames (head_of t).dtype → plan_value leaves offset (lowered t all) row ≡ ValueOver leaves offset t root all row
root_worth leaves fitting offset t row sound distinct = lowered_values leaves fitting offset t all row sound distinct tt ∙ whole_value (head_of t).dtype (value leaves t all row)

root_values : (leaves : Leaves) → GiveFitting leaves → (offset : ℕ) (t : Tree) (e : Term) (row : ℕ) → e ≡ root → IsSound t → HasDistinctNames (head_of t).dtype → plan_value leaves offset (lowered t (kept_fields (head_of t).dtype e)) row ≡ ValueOver leaves offset t e (kept_fields (head_of t).dtype e) row
root_values leaves fitting offset t e row is sound distinct =
    subst (λ (f : Term). plan_value leaves offset (lowered t (kept_fields (head_of t).dtype f)) row ≡ ValueOver leaves offset t f (kept_fields (head_of t).dtype f) row) (sym is)
    (subst (λ (kept : KeptFields). plan_value leaves offset (lowered t kept) row ≡ ValueOver leaves offset t root kept row) (sym (root_keeps (head_of t).dtype)) (root_worth leaves fitting offset t row sound distinct))

root_reads : (offset : ℕ) (t : Tree) (e : Term) (kept : KeptFields) (row : ℕ) → e ≡ root → IsSound t → plan_reads offset (lowered t kept) row ≡ cond (uses_root e) (reads t directly kept row) []
root_reads offset t e kept row is sound =
    subst (λ (f : Term). plan_reads offset (lowered t kept) row ≡ cond (uses_root f) (reads t directly kept row) []) (sym is) (lowered_reads offset t kept directly row sound)

root_type : (t : Tree) (e : Term) (s : DataType) → e ≡ root → IsSound t → type_of (head_of t).dtype e ≡ Some s → (plan_head (lowered t (kept_fields (head_of t).dtype e))).dtype ≡ s
root_type t e s is sound bound =
    let kept : kept_fields (head_of t).dtype e ≡ all = ap (kept_fields (head_of t).dtype) is ∙ root_keeps (head_of t).dtype in
    let whole : Some (head_of t).dtype ≡ Some s = subst (λ (f : Term). type_of (head_of t).dtype f ≡ Some s) is bound in
    (lowered_head t (kept_fields (head_of t).dtype e) sound).dtype ∙ ap (λ (k : KeptFields). kept_type k (head_of t).dtype) kept ∙ same_Some (head_of t).dtype s whole

-- ---- projections

over_kept : (t : DataType) (e : Term) (kept : KeptFields) (v : Option Datum) (row : ℕ) → Serves t e kept → option_and_then (λ w. meaning (kept_type kept t) no_bound e w row) (option_map (kept_value kept t) v) ≡ option_and_then (λ w. meaning t no_bound e w row) v
over_kept t e kept None row serves = refl
over_kept t e kept (Some v) row serves = serves.same v row

over_root : (b : Bool) (s t : DataType) (e : Term) (kept : KeptFields) (u v : Option Datum) (row : ℕ) → uses_root e ≡ b → s ≡ kept_type kept t → u ≡ option_map (kept_value kept t) v → Serves t e kept
    → option_and_then (λ w. meaning s no_bound e w row) (cond b u (Some null)) ≡ option_and_then (λ w. meaning t no_bound e w row) (cond b v (Some null))
over_root false s t e kept u v row is typed same serves = worth_at_any_root s t e no_bound null null row is
over_root true s t e kept u v row is typed same serves =
    let F : DataType → Option Datum → Option Datum = λ (r : DataType) (x : Option Datum). option_and_then (λ (w : Datum). meaning r no_bound e w row) x in
    ap (F s) same ∙ ap (λ (r : DataType). F r (option_map (kept_value kept t) v)) typed ∙ over_kept t e kept v row serves

values_by : (b : Bool) (leaves : Leaves) → GiveFitting leaves → (p : Projection) (row : ℕ) → is_root p.expression.term ≡ b → CanBePlanned p → plan_value leaves p.offset (planned_by b p) row ≡ projected_at leaves p row
values_by true leaves fitting p row is can = root_values leaves fitting p.offset p.root p.expression.term row (is_the_root p.expression.term is) can.sound can.distinct
values_by false leaves fitting p row is can =
    let root_dtype : DataType = (head_of p.root).dtype in
    let serves : Serves root_dtype p.expression.term (kept_of p) = kept_serves root_dtype p.expression.term can.bound in
    let child : Plan = lowered p.root (kept_of p) in
    let turned : row + p.offset ≡ p.offset + row = omega arith in
    row_index_keeps leaves p.offset p.expression child row
    ∙ over_root (uses_root p.expression.term) (plan_head child).dtype root_dtype p.expression.term (kept_of p) (plan_value leaves p.offset child row) (value leaves p.root (kept_of p) row) (row + p.offset) refl
    (lowered_head p.root (kept_of p) can.sound).dtype (lowered_values leaves fitting p.offset p.root (kept_of p) row can.sound can.distinct serves.may) serves
    ∙ ap (λ (number : ℕ). option_and_then (λ (v : Datum). meaning root_dtype no_bound p.expression.term v number) (root_value leaves p row)) turned

pub planned_values : (leaves : Leaves) → GiveFitting leaves → (p : Projection) (row : ℕ) → CanBePlanned p → plan_value leaves p.offset (planned p) row ≡ projected_at leaves p row
planned_values leaves fitting p row can = values_by (is_root p.expression.term) leaves fitting p row refl can

reads_same : (b : Bool) (xs ys : List Read) → xs ≡ ys → cond b xs [] ≡ cond b ys []
reads_same true xs ys e = e
reads_same false xs ys e = refl

reads_by : (b : Bool) (p : Projection) (row : ℕ) → is_root p.expression.term ≡ b → CanBePlanned p → plan_reads p.offset (planned_by b p) row ≡ scan_reads p row
reads_by true p row is can = root_reads p.offset p.root p.expression.term (kept_of p) row (is_the_root p.expression.term is) can.sound
reads_by false p row is can =
    row_index_reads p.offset p.expression (lowered p.root (kept_of p)) row
    ∙ reads_same (uses_root p.expression.term) (plan_reads p.offset (lowered p.root (kept_of p)) row) (reads p.root directly (kept_of p) row) (lowered_reads p.offset p.root (kept_of p) directly row can.sound)

pub planned_reads : (p : Projection) (row : ℕ) → CanBePlanned p → plan_reads p.offset (planned p) row ≡ scan_reads p row
planned_reads p row can = reads_by (is_root p.expression.term) p row refl can

-- ---- heads

type_by : (b : Bool) (p : Projection) → is_root p.expression.term ≡ b → CanBePlanned p → type_of (head_of p.root).dtype p.expression.term ≡ Some p.expression.dtype → (plan_head (planned_by b p)).dtype ≡ p.expression.dtype
type_by true p is can bound = root_type p.root p.expression.term p.expression.dtype (is_the_root p.expression.term is) can.sound bound
type_by false p is can bound = row_index_type p.expression (lowered p.root (kept_of p))

pub planned_type : (p : Projection) → CanBePlanned p → type_of (head_of p.root).dtype p.expression.term ≡ Some p.expression.dtype → (plan_head (planned p)).dtype ≡ p.expression.dtype
planned_type p can bound = type_by (is_root p.expression.term) p refl can bound

rows_by : (b : Bool) (p : Projection) → CanBePlanned p → (plan_head (planned_by b p)).rows ≡ (head_of p.root).rows
rows_by true p can = lowered_rows p.root (kept_of p) can.sound
rows_by false p can = row_index_rows p.expression (lowered p.root (kept_of p)) ∙ lowered_rows p.root (kept_of p) can.sound

pub planned_rows : (p : Projection) → CanBePlanned p → (plan_head (planned p)).rows ≡ (head_of p.root).rows
planned_rows p can = rows_by (is_root p.expression.term) p can
