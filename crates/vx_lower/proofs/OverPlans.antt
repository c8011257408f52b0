-- A plan of an expression that was added to a table, by what the expression uses.
use Rattle.std.proofs.Common.{◌≡◌, ℕ, zero, suc, ◌+◌, ◌<◌, ◌≤◌, ◌⊎◌, inl, inr, get_or, Bool, true, false, List, [], ◌∷◌, ◌++◌, length, refl, sym, ap, ◌∙◌, subst, arith, append_assoc}
use Rattle.std.specs.Prelude.{IsSomeAnd}
use Rattle.std.specs.List.{slice_get}
use Rattle.std.proofs.lemmas.List.{get_or_append_left}
use Rattle.std.proofs.lemmas.List.Elements.{All-cons, All-nil}
use Rattle.vx_base.specs.declared.dtypes.Nullability.TheVariants.{NonNullable}
use Rattle.vx_base.specs.Data.{DataType, struct_type, no_members}
use Rattle.vx_expr.specs.Bound.{Bound}
use Rattle.vx_expr.specs.Mentions.{uses_root, uses_row_number}
use Rattle.vx_expr.specs.Rewritten.{row_number_as_root, over_row_number, with_row_number}
use Rattle.vx_expr.specs.Types.{row_number_type}
use Rattle.vx_plan.specs.Alike.{SameHead}
use Rattle.vx_plan.specs.Kinds.{HasKind, IsRowIdx}
use Rattle.vx_plan.specs.Nodes.{Node, absent}
use Rattle.vx_plan.specs.Plans.{Plan, eval_plan, pack_plan, row_idx_plan, no_plans, plan, all_valid, head_at, plan_at, plan_head}
use Rattle.vx_plan.specs.PlanRows.{plan_derivation}
use Rattle.vx_plan.specs.Rules.{eval_node, node_at, row_idx_node}
use Rattle.vx_plan.specs.Tables.{AreIn, IsAdded, IsGoodTable}
use Rattle.vx_plan.proofs.Adding.{head_in_table, length_added, node_added, plan_added, stays}
use Rattle.vx_plan.proofs.Unfolding.{have_earlier, HaveEarlier}
use Rattle.vx_rows.specs.Derivations.{derived}
use Rattle.vx_rows.specs.Heads.{Head}
use Rattle.vx_lower.specs.PlannedOver.{HoldsAll, IsPlannedOver, IsWorthOver}
use Rattle.vx_lower.specs.RowIndex.{head_with, row_index_plan, row_index_plan_by, row_index_plan_from, row_index_plan_from_by}
use Rattle.vx_lower.specs.RowNumberPlans.{empty_node, numbered_node}
use Rattle.vx_lower.proofs.RowIndexed.{row_index_keeps}

-- ---- tables that hold all that they held

holds_added : (old new : List Node) (node : Node) (n : ℕ) → IsAdded old new node n → HoldsAll old new
holds_added old new node n added = record { more = node ∷ []; appended = added.appended; good = added.good }

holds_both : (old mid new : List Node) → HoldsAll old mid → HoldsAll mid new → HoldsAll old new
holds_both old mid new first second = record {
  more = first.more ++ second.more;
  appended = second.appended ∙ ap (λ (nodes : List Node). nodes ++ second.more) first.appended ∙ append_assoc old first.more second.more;
  good = second.good;
}

-- ---- what the plan is worth

pub worth_over : (old new : List Node) (a : Bound) (child n : ℕ) → IsPlannedOver old new a child n → IsWorthOver a.term (plan_at old child) (plan_at new n)
worth_over old new a child n planned leaves offset row = ap (derived leaves) (planned.derived offset row) ∙ row_index_keeps leaves offset a (plan_at old child) row

-- ---- the plan

same_plan : (uses numbers : Bool) (a : Bound) (p : Plan) → uses_root a.term ≡ uses → uses_row_number a.term ≡ numbers → row_index_plan a p ≡ row_index_plan_by uses numbers a p
same_plan uses numbers a p h k = ap (λ (u : Bool). row_index_plan_by u (uses_row_number a.term) a p) h ∙ ap (λ (v : Bool). row_index_plan_by uses v a p) k

-- a plan that is derived as the one over the child
record IsSamePlan (p q : Plan) : Type 0 where
  head : SameHead (plan_head p) (plan_head q)
  derived : (offset row : ℕ) → plan_derivation offset p row ≡ plan_derivation offset q row

same_from : (uses numbers : Bool) (first : ℕ) (a : Bound) (p : Plan) → uses_root a.term ≡ uses → uses_row_number a.term ≡ numbers → row_index_plan_from first a p ≡ row_index_plan_from_by uses numbers first a p
same_from uses numbers first a p h k = ap (λ (u : Bool). row_index_plan_from_by u (uses_row_number a.term) first a p) h ∙ ap (λ (v : Bool). row_index_plan_from_by uses v first a p) k

-- the head of that number, dtype and rows
numbered_as : (n first : ℕ) (t : DataType) (rows : ℕ) (child : Plan) → n ≡ first → rows ≡ (plan_head child).rows → record { number = n; dtype = t; rows = rows } ≡ head_with first t child
numbered_as n first t rows child number_is rows_are = λ i. record { number = number_is i; dtype = t; rows = rows_are i }

-- what numbers rows among the new plans numbers the child's
abbrev NumbersRowsOf : List Node → List Node → ℕ → Type 0
NumbersRowsOf old new child = (n : ℕ) → HasKind IsRowIdx new n → HasKind IsRowIdx old n ⊎ ((node_at new n).rows ≡ (node_at old child).rows)

is_planned : (old new : List Node) (a : Bound) (child n : ℕ) (q : Plan) → HoldsAll old new → length new ≤ length old + 3 → n + 1 ≡ length new → row_index_plan a (plan_at old child) ≡ q → plan_at new n ≡ row_index_plan_from (length old) a (plan_at old child) → NumbersRowsOf old new child → IsSamePlan (plan_at new n) q → IsPlannedOver old new a child n
is_planned old new a child n q kept few last is plan_is numbers same =
    let there : IsSamePlan (plan_at new n) (row_index_plan a (plan_at old child)) = subst (IsSamePlan (plan_at new n)) (sym is) same in
    record { kept = kept; few = few; last = last; plan_is = plan_is; numbers = numbers; head = there.head; derived = there.derived }

-- ---- plans that were added, and their parts

only_in : (nodes : List Node) (child : ℕ) → child < length nodes → AreIn nodes (child ∷ [])
only_in nodes child known = All-cons (λ number. number < length nodes) child [] known (All-nil (λ number. number < length nodes))

plan_stays : (old new : List Node) (node : Node) (n child : ℕ) → child < length old → IsAdded old new node n → plan_at new child ≡ plan_at old child
plan_stays old new node n child known added =
    ap (λ (nodes : List Node). plan_at nodes child) added.appended ∙ stays old (node ∷ []) (subst HaveEarlier added.appended (have_earlier new added.good)) child known

node_stays : (old new : List Node) (node : Node) (n child : ℕ) → child < length old → IsAdded old new node n → node_at new child ≡ node_at old child
node_stays old new node n child known added = ap (λ (nodes : List Node). node_at nodes child) added.appended ∙ get_or_append_left old (node ∷ []) absent child known

rows_in_head : (nodes : List Node) → IsGoodTable nodes → (n : ℕ) → n < length nodes → (node_at nodes n).rows ≡ (plan_head (plan_at nodes n)).rows
rows_in_head nodes good n known = ap (λ (head : Head). head.rows) (sym (head_in_table nodes good n known))

type_in_head : (nodes : List Node) → IsGoodTable nodes → (n : ℕ) → n < length nodes → (node_at nodes n).dtype ≡ (plan_head (plan_at nodes n)).dtype
type_in_head nodes good n known = ap (λ (head : Head). head.dtype) (sym (head_in_table nodes good n known))

added_in : (old new : List Node) (node : Node) (n : ℕ) → IsAdded old new node n → n < length new
added_in old new node n added = omega (arith, added.last, length_added old new node n added)

eval_added : (old new : List Node) (a : Bound) (child n : ℕ) → child < length old → IsAdded old new (eval_node old a child) n → plan_at new n ≡ eval_plan (head_at n (eval_node old a child)) a.term (plan_at old child)
eval_added old new a child n known added = plan_added old new (eval_node old a child) n added (only_in old child known)

row_numbers_added : (old new : List Node) (rows n : ℕ) → IsAdded old new (row_idx_node rows) n → plan_at new n ≡ row_idx_plan (head_at n (row_idx_node rows))
row_numbers_added old new rows n added = plan_added old new (row_idx_node rows) n added (All-nil (λ number. number < length old))

empty_added : (old new : List Node) (rows n : ℕ) → IsAdded old new (empty_node rows) n → plan_at new n ≡ pack_plan (head_at n (empty_node rows)) no_plans all_valid
empty_added old new rows n added = plan_added old new (empty_node rows) n added (All-nil (λ number. number < length old))

numbered_added : (old new : List Node) (numbers child n : ℕ) → numbers < length old → child < length old → IsAdded old new (numbered_node old numbers child) n → plan_at new n ≡ pack_plan (head_at n (numbered_node old numbers child)) (plan (plan_at old numbers) (plan (plan_at old child) no_plans)) all_valid
numbered_added old new numbers child n before known added =
    plan_added old new (numbered_node old numbers child) n added
    (All-cons (λ number. number < length old) numbers (child ∷ []) before (only_in old child known))

-- ---- what numbers rows

some_below : (nodes : List Node) (P : Node → Type 0) (n : ℕ) → IsSomeAnd (slice_get nodes n) P → n < length nodes
some_below [] P n some = absurd some
some_below (node ∷ nodes) P zero some = omega arith
some_below (node ∷ nodes) P (suc n) some = let below = some_below nodes P n some in omega (arith, below)

some_at_end : (old : List Node) (node : Node) (P : Node → Type 0) (n : ℕ) → IsSomeAnd (slice_get (old ++ node ∷ []) n) P → IsSomeAnd (slice_get old n) P ⊎ ((get_or (old ++ node ∷ []) n absent ≡ node) × P node)
some_at_end [] node P zero some = inr (refl, some)
some_at_end [] node P (suc n) some = absurd some
some_at_end (one ∷ old) node P zero some = inl some
some_at_end (one ∷ old) node P (suc n) some = some_at_end old node P n some

kind_added : (old new : List Node) (node : Node) (k n : ℕ) → IsAdded old new node k → HasKind IsRowIdx new n → HasKind IsRowIdx old n ⊎ ((node_at new n ≡ node) × IsRowIdx node.kind)
kind_added old new node k n added has =
    let P : Node → Type 0 = λ (one : Node). IsRowIdx one.kind in
    let G : List Node → Type 0 = λ (nodes : List Node). IsSomeAnd (slice_get old n) P ⊎ ((node_at nodes n ≡ node) × P node) in
    subst G (sym added.appended) (some_at_end old node P n (subst (λ (nodes : List Node). IsSomeAnd (slice_get nodes n) P) added.appended has))

-- a plan of another kind behind changes nothing of it
numbers_stay : (old mid new : List Node) (child : ℕ) (node : Node) (k : ℕ) → IsAdded mid new node k → (IsRowIdx node.kind → ⊥) → NumbersRowsOf old mid child → NumbersRowsOf old new child
numbers_stay old mid new child node k added other before n has = by_kind (kind_added mid new node k n added has)
  where
    by_kind : HasKind IsRowIdx mid n ⊎ ((node_at new n ≡ node) × IsRowIdx node.kind) → HasKind IsRowIdx old n ⊎ ((node_at new n).rows ≡ (node_at old child).rows)
    by_kind (inr here) = absurd (other here.1)
    by_kind (inl earlier) = by_before earlier (before n earlier)
      where
        by_before : HasKind IsRowIdx mid n → HasKind IsRowIdx old n ⊎ ((node_at mid n).rows ≡ (node_at old child).rows) → HasKind IsRowIdx old n ⊎ ((node_at new n).rows ≡ (node_at old child).rows)
        by_before earlier (inl oldest) = inl oldest
        by_before earlier (inr rows) = inr (ap (λ (one : Node). one.rows) (node_stays mid new node k n (some_below mid (λ (one : Node). IsRowIdx one.kind) n earlier) added) ∙ rows)

numbers_none : (old : List Node) (child : ℕ) → NumbersRowsOf old old child
numbers_none old child n has = inl has

numbers_one : (old mid : List Node) (rows child k : ℕ) → rows ≡ (node_at old child).rows → IsAdded old mid (row_idx_node rows) k → NumbersRowsOf old mid child
numbers_one old mid rows child k as_many added n has = by_kind (kind_added old mid (row_idx_node rows) k n added has)
  where
    by_kind : HasKind IsRowIdx old n ⊎ ((node_at mid n ≡ row_idx_node rows) × IsRowIdx (row_idx_node rows).kind) → HasKind IsRowIdx old n ⊎ ((node_at mid n).rows ≡ (node_at old child).rows)
    by_kind (inl oldest) = inl oldest
    by_kind (inr here) = inr (ap (λ (one : Node). one.rows) here.0 ∙ as_many)

-- ---- by what the expression uses

pub planned_over_child : (old new : List Node) (a : Bound) (child n : ℕ) → IsGoodTable old → child < length old → uses_root a.term ≡ true → uses_row_number a.term ≡ false → IsAdded old new (eval_node old a child) n → IsPlannedOver old new a child n
planned_over_child old new a child n good known rooted unnumbered added =
    let q : Plan = row_index_plan_by true false a (plan_at old child) in
    let law : plan_at new n ≡ eval_plan (head_at n (eval_node old a child)) a.term (plan_at old child) = eval_added old new a child n known added in
    let count : length new ≡ length old + 1 = length_added old new (eval_node old a child) n added in
    let same : IsSamePlan (eval_plan (head_at n (eval_node old a child)) a.term (plan_at old child)) q = record { head = record { dtype = refl; rows = rows_in_head old good child known }; derived = λ offset row. refl } in
    let head_is : head_at n (eval_node old a child) ≡ head_with (length old) a.dtype (plan_at old child) =
    numbered_as n (length old) a.dtype (node_at old child).rows (plan_at old child) added.last (rows_in_head old good child known) in
    let from : plan_at new n ≡ row_index_plan_from (length old) a (plan_at old child) =
    law ∙ (ap (λ (head : Head). eval_plan head a.term (plan_at old child)) head_is ∙ sym (same_from true false (length old) a (plan_at old child) rooted unnumbered)) in
    is_planned old new a child n q (holds_added old new (eval_node old a child) n added) (omega arith) (omega (arith, added.last)) (same_plan true false a (plan_at old child) rooted unnumbered) from
    (numbers_stay old old new child (eval_node old a child) n added (λ none. none) (numbers_none old child)) (subst (λ (p : Plan). IsSamePlan p q) (sym law) same)

pub planned_over_numbers : (old mid new : List Node) (a : Bound) (child rows numbers n : ℕ) → IsGoodTable old → child < length old → rows ≡ (node_at old child).rows → uses_root a.term ≡ false → uses_row_number a.term ≡ true → IsAdded old mid (row_idx_node rows) numbers → IsAdded mid new (eval_node mid (row_number_as_root a) numbers) n → IsPlannedOver old new a child n
planned_over_numbers old mid new a child rows numbers n good known as_many rootless numbered first second =
    let q : Plan = row_index_plan_by false true a (plan_at old child) in
    let b : Bound = row_number_as_root a in
    let head : Head = head_at n (eval_node mid b numbers) in
    let law : plan_at new n ≡ eval_plan head b.term (row_idx_plan (head_at numbers (row_idx_node rows))) =
    eval_added mid new b numbers n (added_in old mid (row_idx_node rows) numbers first) second ∙ ap (eval_plan head b.term) (row_numbers_added old mid rows numbers first) in
    let count : length mid ≡ length old + 1 = length_added old mid (row_idx_node rows) numbers first in
    let more : length new ≡ length mid + 1 = length_added mid new (eval_node mid b numbers) n second in
    let there : (node_at mid numbers).rows ≡ (plan_head (plan_at old child)).rows = ap (λ (node : Node). node.rows) (node_added old mid (row_idx_node rows) numbers first) ∙ as_many ∙ rows_in_head old good child known in
    let same : IsSamePlan (eval_plan head b.term (row_idx_plan (head_at numbers (row_idx_node rows)))) q = record { head = record { dtype = refl; rows = there }; derived = λ offset row. refl } in
    let head_is : head ≡ head_with (length old + 1) a.dtype (plan_at old child) =
    numbered_as n (length old + 1) a.dtype (node_at mid numbers).rows (plan_at old child) (second.last ∙ count) there in
    let numbers_are : head_at numbers (row_idx_node rows) ≡ head_with (length old) row_number_type (plan_at old child) =
    numbered_as numbers (length old) row_number_type rows (plan_at old child) first.last (as_many ∙ rows_in_head old good child known) in
    let from : plan_at new n ≡ row_index_plan_from (length old) a (plan_at old child) =
    law ∙ ((λ i. eval_plan (head_is i) b.term (row_idx_plan (numbers_are i))) ∙ sym (same_from false true (length old) a (plan_at old child) rootless numbered)) in
    is_planned old new a child n q (holds_both old mid new (holds_added old mid (row_idx_node rows) numbers first) (holds_added mid new (eval_node mid b numbers) n second)) (omega arith) (omega (arith, second.last)) (same_plan false true a (plan_at old child) rootless numbered) from
    (numbers_stay old mid new child (eval_node mid b numbers) n second (λ none. none) (numbers_one old mid rows child numbers as_many first)) (subst (λ (p : Plan). IsSamePlan p q) (sym law) same)

pub planned_over_structs : (old mid new : List Node) (a : Bound) (child rows structs n : ℕ) → IsGoodTable old → child < length old → rows ≡ (node_at old child).rows → uses_root a.term ≡ false → uses_row_number a.term ≡ false → IsAdded old mid (empty_node rows) structs → IsAdded mid new (eval_node mid a structs) n → IsPlannedOver old new a child n
planned_over_structs old mid new a child rows structs n good known as_many rootless unnumbered first second =
    let q : Plan = row_index_plan_by false false a (plan_at old child) in
    let head : Head = head_at n (eval_node mid a structs) in
    let law : plan_at new n ≡ eval_plan head a.term (pack_plan (head_at structs (empty_node rows)) no_plans all_valid) =
    eval_added mid new a structs n (added_in old mid (empty_node rows) structs first) second ∙ ap (eval_plan head a.term) (empty_added old mid rows structs first) in
    let count : length mid ≡ length old + 1 = length_added old mid (empty_node rows) structs first in
    let more : length new ≡ length mid + 1 = length_added mid new (eval_node mid a structs) n second in
    let there : (node_at mid structs).rows ≡ (plan_head (plan_at old child)).rows = ap (λ (node : Node). node.rows) (node_added old mid (empty_node rows) structs first) ∙ as_many ∙ rows_in_head old good child known in
    let same : IsSamePlan (eval_plan head a.term (pack_plan (head_at structs (empty_node rows)) no_plans all_valid)) q = record { head = record { dtype = refl; rows = there }; derived = λ offset row. refl } in
    let head_is : head ≡ head_with (length old + 1) a.dtype (plan_at old child) =
    numbered_as n (length old + 1) a.dtype (node_at mid structs).rows (plan_at old child) (second.last ∙ count) there in
    let structs_are : head_at structs (empty_node rows) ≡ head_with (length old) (struct_type no_members NonNullable) (plan_at old child) =
    numbered_as structs (length old) (struct_type no_members NonNullable) rows (plan_at old child) first.last (as_many ∙ rows_in_head old good child known) in
    let from : plan_at new n ≡ row_index_plan_from (length old) a (plan_at old child) =
    law ∙ ((λ i. eval_plan (head_is i) a.term (pack_plan (structs_are i) no_plans all_valid)) ∙ sym (same_from false false (length old) a (plan_at old child) rootless unnumbered)) in
    is_planned old new a child n q (holds_both old mid new (holds_added old mid (empty_node rows) structs first) (holds_added mid new (eval_node mid a structs) n second)) (omega arith) (omega (arith, second.last)) (same_plan false false a (plan_at old child) rootless unnumbered) from
    (numbers_stay old mid new child (eval_node mid a structs) n second (λ none. none) (numbers_stay old old mid child (empty_node rows) structs first (λ none. none) (numbers_none old child))) (subst (λ (p : Plan). IsSamePlan p q) (sym law) same)

-- the structs of a row's number and a row of the child, by the dtype of the child
packed_as : ℕ → ℕ → Plan → Plan → DataType → Plan
packed_as n rows numbers child t = pack_plan (record { number = n; dtype = with_row_number t; rows = rows }) (plan numbers (plan child no_plans)) all_valid

pub planned_over_rows : (old mid last new : List Node) (a : Bound) (child rows numbers structs n : ℕ) → IsGoodTable old → child < length old → rows ≡ (node_at old child).rows → uses_root a.term ≡ true → uses_row_number a.term ≡ true → IsAdded old mid (row_idx_node rows) numbers → IsAdded mid last (numbered_node mid numbers child) structs → IsAdded last new (eval_node last (over_row_number a) structs) n → IsPlannedOver old new a child n
unfolding packed_as
planned_over_rows old mid last new a child rows numbers structs n good known as_many rooted numbered first second third =
    let p : Plan = plan_at old child in
    let q : Plan = row_index_plan_by true true a p in
    let b : Bound = over_row_number a in
    let head : Head = head_at n (eval_node last b structs) in
    let count : length mid ≡ length old + 1 = length_added old mid (row_idx_node rows) numbers first in
    let more : length last ≡ length mid + 1 = length_added mid last (numbered_node mid numbers child) structs second in
    let most : length new ≡ length last + 1 = length_added last new (eval_node last b structs) n third in
    let stay : node_at mid child ≡ node_at old child = node_stays old mid (row_idx_node rows) numbers child known first in
    let in_mid : child < length mid = omega arith in
    let inner : plan_at last structs ≡ packed_as structs (node_at mid child).rows (row_idx_plan (head_at numbers (row_idx_node rows))) p (plan_head p).dtype =
    numbered_added mid last numbers child structs (added_in old mid (row_idx_node rows) numbers first) in_mid second
    ∙ ap (λ (one : Plan). packed_as structs (node_at mid child).rows one (plan_at mid child) (node_at mid child).dtype) (row_numbers_added old mid rows numbers first)
    ∙ ap (λ (other : Plan). packed_as structs (node_at mid child).rows (row_idx_plan (head_at numbers (row_idx_node rows))) other (node_at mid child).dtype) (plan_stays old mid (row_idx_node rows) numbers child known first)
    ∙ ap (packed_as structs (node_at mid child).rows (row_idx_plan (head_at numbers (row_idx_node rows))) p) (ap (λ (node : Node). node.dtype) stay ∙ type_in_head old good child known) in
    let law : plan_at new n ≡ eval_plan head b.term (packed_as structs (node_at mid child).rows (row_idx_plan (head_at numbers (row_idx_node rows))) p (plan_head p).dtype) =
    eval_added last new b structs n (added_in mid last (numbered_node mid numbers child) structs second) third ∙ ap (eval_plan head b.term) inner in
    let there : (node_at last structs).rows ≡ (plan_head p).rows = ap (λ (node : Node). node.rows) (node_added mid last (numbered_node mid numbers child) structs second) ∙ ap (λ (node : Node). node.rows) stay ∙ rows_in_head old good child known in
    let same : IsSamePlan (eval_plan head b.term (packed_as structs (node_at mid child).rows (row_idx_plan (head_at numbers (row_idx_node rows))) p (plan_head p).dtype)) q = record { head = record { dtype = refl; rows = there }; derived = λ offset row. refl } in
    let known_rows : (node_at old child).rows ≡ (plan_head p).rows = rows_in_head old good child known in
    let head_is : head ≡ head_with (length old + 2) a.dtype p =
    numbered_as n (length old + 2) a.dtype (node_at last structs).rows p (let e = third.last in omega (arith, e)) there in
    let rows_are : record { number = structs; dtype = with_row_number (plan_head p).dtype; rows = (node_at mid child).rows } ≡ head_with (length old + 1) (with_row_number (plan_head p).dtype) p =
    numbered_as structs (length old + 1) (with_row_number (plan_head p).dtype) (node_at mid child).rows p (second.last ∙ count) (ap (λ (node : Node). node.rows) stay ∙ known_rows) in
    let numbers_are : head_at numbers (row_idx_node rows) ≡ head_with (length old) row_number_type p =
    numbered_as numbers (length old) row_number_type rows p first.last (as_many ∙ known_rows) in
    let from : plan_at new n ≡ row_index_plan_from (length old) a p =
    law ∙ ((λ i. eval_plan (head_is i) b.term (pack_plan (rows_are i) (plan (row_idx_plan (numbers_are i)) (plan p no_plans)) all_valid)) ∙ sym (same_from true true (length old) a p rooted numbered)) in
    is_planned old new a child n q
    (holds_both old last new (holds_both old mid last (holds_added old mid (row_idx_node rows) numbers first) (holds_added mid last (numbered_node mid numbers child) structs second)) (holds_added last new (eval_node last b structs) n third))
    (omega arith) (omega (arith, third.last)) (same_plan true true a p rooted numbered) from
    (numbers_stay old last new child (eval_node last b structs) n third (λ none. none) (numbers_stay old mid last child (numbered_node mid numbers child) structs second (λ none. none) (numbers_one old mid rows child numbers as_many first))) (subst (λ (p : Plan). IsSamePlan p q) (sym law) same)
