-- What each kind of node adds over added plans.
use Rattle.std.proofs.Common.{◌≡◌, ℕ, ◌+◌, Bool, true, false, List, [], ◌∷◌, ◌++◌, Option, length, refl, sym, ap, ◌∙◌, arith, append-nil}
use Rattle.std.specs.List.{sum_by}
use Rattle.std.proofs.lemmas.List.Sums.{sum_by-cons}
use Rattle.vx_base.specs.declared.codings.Coding.{Coding}
use Rattle.vx_base.specs.declared.dtypes.Nullability.{Nullability}
use Rattle.vx_base.specs.ColumnCalls.{nullable_where}
use Rattle.vx_base.specs.Data.{DataType, list_type}
use Rattle.vx_base.specs.Fits.{nullability_of}
use Rattle.vx_expr.specs.declared.statistics.Statistic.{Statistic}
use Rattle.vx_expr.specs.Bound.{Bound}
use Rattle.vx_expr.specs.Terms.{Term}
use Rattle.vx_plan.specs.Alike.{SameHead}
use Rattle.vx_plan.specs.Nodes.{Node}
use Rattle.vx_rows.specs.Heads.{Head}
use Rattle.vx_rows.specs.Zones.{zones_of}
use Rattle.vx_plan.specs.Plans.{Plan, plan, concat_plan, eval_plan, filter_plan, pack_plan, take_plan, list_plan, scan_plan, zoned_plan, PlanValidity, all_valid, valid_as, plan_head, head_at, plans_from, front_plans, last_plan, field_plans, last_validity}
use Rattle.vx_plan.specs.Rules.{concat_node, eval_node, filter_node, given_validity, is_given, list_node, node_at, nodes_at, packed_node, rows_of, scan_node, take_node}
use Rattle.vx_plan.specs.Tables.{IsAdded, IsGoodTable}
use Rattle.vx_lower.specs.NodeParts.{zones_node}
use Rattle.vx_lower.specs.Numbered.{head_with, numbered, each_numbered, validity_numbered, list_size, list_numbered, AddsPlan, AddsPlans}
use Rattle.vx_lower.specs.Sizes.{plan_size, plans_size, plan_validity_size}
use Rattle.vx_lower.proofs.Appending.{none_added, one_added, grown_over, adds_by, IsGrown, same_head, AreLike, added_like, numbered_append, size_append}

numbered_from : (first : ℕ) (ps : List Plan) → plans_from (list_numbered first ps) ≡ each_numbered first (plans_from ps)
numbered_from first [] = refl
numbered_from first (p ∷ ps) = ap (plan (numbered first p)) (numbered_from (first + plan_size p) ps)

pub size_from : (ps : List Plan) → plans_size (plans_from ps) ≡ list_size ps
size_from [] = refl
size_from (p ∷ ps) = ap (λ (n : ℕ). plan_size p + n) (size_from ps)

-- ---- leaves

scan_adds : (old new : List Node) (t : DataType) (rows segment : ℕ) (coding : Coding) (n : ℕ) (head : Head) → IsGoodTable old → IsAdded old new (scan_node t rows segment coding) n → head.dtype ≡ t → head.rows ≡ rows → AddsPlan old new (scan_plan head segment coding) n
scan_adds old new t rows segment coding n head good added dtype count =
    let node : Node = scan_node t rows segment coding in
    let g : IsGrown old new node n [] = grown_over old old new [] node n (none_added old good) added (λ none. none) in
    let h : head_at n node ≡ head_with (length old) head = same_head n (length old) node head added.last (record { dtype = sym dtype; rows = sym count }) in
    adds_by old new node n [] (scan_plan head segment coding) g refl (ap (λ (h : Head). scan_plan h segment coding) h)

pub leaf_adds : (old mid new : List Node) (t : DataType) (rows segment : ℕ) (coding : Coding) (a n : ℕ) (head : Head) → IsGoodTable old → IsAdded old mid (scan_node t rows segment coding) a → IsAdded mid new (filter_node mid a) n → head.dtype ≡ t → head.rows ≡ rows → AddsPlan old new (filter_plan head (scan_plan head segment coding)) n
leaf_adds old mid new t rows segment coding a n head good scanned added dtype count =
    let scan : AddsPlan old mid (scan_plan head segment coding) a = scan_adds old mid t rows segment coding a head good scanned dtype count in
    let one : AddsPlans old mid (scan_plan head segment coding ∷ []) (a ∷ []) = one_added old mid (scan_plan head segment coding) a scan in
    let like : AreLike (nodes_at mid (a ∷ [])) (scan_plan head segment coding ∷ []) = added_like old mid (scan_plan head segment coding ∷ []) (a ∷ []) one in
    let node : Node = filter_node mid a in
    let g : IsGrown old new node n (scan_plan head segment coding ∷ []) = grown_over old mid new (scan_plan head segment coding ∷ []) node n one added (λ none. none) in
    let h : head_at n node ≡ head_with (length old + 1) head = same_head n (length old + 1) node head (omega (arith, g.number)) (record { dtype = like.0.dtype; rows = like.0.rows }) in
    adds_by old new node n (scan_plan head segment coding ∷ []) (filter_plan head (scan_plan head segment coding)) g refl (ap (λ (h : Head). filter_plan h (scan_plan (head_with (length old) head) segment coding)) h)

-- ---- chunks

-- all rows of these plans
abbrev pub rows_of_all : List Plan → ℕ
rows_of_all [] = 0
rows_of_all (p ∷ ps) = (plan_head p).rows + rows_of_all ps

pub rows_alike : (nodes : List Node) (ps : List Plan) → AreLike nodes ps → sum_by rows_of nodes ≡ rows_of_all ps
rows_alike [] [] like = refl
rows_alike [] (p ∷ ps) like = absurd like
rows_alike (node ∷ nodes) [] like = absurd like
rows_alike (node ∷ nodes) (p ∷ ps) like = omega (arith, sum_by-cons rows_of node nodes, like.0.rows, rows_alike nodes ps like.1)

pub concat_adds : (old mid new : List Node) (ps : List Plan) (ns : List ℕ) (t : DataType) (n : ℕ) (head : Head) → AddsPlans old mid ps ns → IsAdded mid new (concat_node mid t ns) n → head.dtype ≡ t → rows_of_all ps ≡ head.rows → AddsPlan old new (concat_plan head (plans_from ps)) n
concat_adds old mid new ps ns t n head adds added dtype count =
    let node : Node = concat_node mid t ns in
    let g : IsGrown old new node n ps = grown_over old mid new ps node n adds added (λ none. none) in
    let like : AreLike (nodes_at mid ns) ps = added_like old mid ps ns adds in
    let m : ℕ = length old + plans_size (plans_from ps) in
    let h : head_at n node ≡ head_with m head = same_head n m node head (omega (arith, g.number, size_from ps)) (record { dtype = sym dtype; rows = rows_alike (nodes_at mid ns) ps like ∙ count }) in
    adds_by old new node n ps (concat_plan head (plans_from ps)) g (omega (arith, size_from ps))
    (ap (λ (h : Head). concat_plan h (plans_from (list_numbered (length old) ps))) h ∙ ap (concat_plan (head_with m head)) (numbered_from (length old) ps))

-- ---- structs

front_of : (ps : List Plan) (p : Plan) → front_plans (ps ++ p ∷ []) ≡ ps
front_of [] p = refl
front_of (q ∷ []) p = refl
front_of (q ∷ r ∷ ps) p = ap (λ (l : List Plan). q ∷ l) (front_of (r ∷ ps) p)

last_of : (ps : List Plan) (p : Plan) → last_plan (ps ++ p ∷ []) ≡ p
last_of [] p = refl
last_of (q ∷ []) p = refl
last_of (q ∷ r ∷ ps) p = last_of (r ∷ ps) p

-- the plans that a validity is
abbrev pub validity_list : PlanValidity → List Plan
validity_list all_valid = []
validity_list (valid_as p) = p ∷ []

pub validity_size_of : (w : PlanValidity) → list_size (validity_list w) ≡ plan_validity_size w
validity_size_of all_valid = refl
validity_size_of (valid_as p) = omega arith

abbrev pub is_valid_as : PlanValidity → Bool
is_valid_as all_valid = false
is_valid_as (valid_as p) = true

-- fields and a validity behind them, with their numbers
fields_grown : (first : ℕ) (ps : List Plan) (w : PlanValidity) → field_plans (is_valid_as w) (list_numbered first (ps ++ validity_list w)) ≡ list_numbered first ps
fields_grown first ps all_valid = ap (list_numbered first) (append-nil ps)
fields_grown first ps (valid_as p) = ap front_plans (numbered_append first ps (p ∷ [])) ∙ front_of (list_numbered first ps) (numbered (first + list_size ps) p)

validity_grown : (first : ℕ) (ps : List Plan) (w : PlanValidity) → last_validity (is_valid_as w) (list_numbered first (ps ++ validity_list w)) ≡ validity_numbered (first + list_size ps) w
validity_grown first ps all_valid = refl
validity_grown first ps (valid_as p) = ap valid_as (ap last_plan (numbered_append first ps (p ∷ [])) ∙ last_of (list_numbered first ps) (numbered (first + list_size ps) p))

pub pack_adds : (old mid new : List Node) (ps : List Plan) (w : PlanValidity) (ns : List ℕ) (v : Option ℕ) (t : DataType) (rows n : ℕ) (head : Head) → AddsPlans old mid (ps ++ validity_list w) (ns ++ given_validity v) → is_given v ≡ is_valid_as w → IsAdded mid new (packed_node t rows ns v) n → head.dtype ≡ t → head.rows ≡ rows → AddsPlan old new (pack_plan head (plans_from ps) w) n
pack_adds old mid new ps w ns v t rows n head adds given added dtype count =
    let node : Node = packed_node t rows ns v in
    let all_plans : List Plan = ps ++ validity_list w in
    let g : IsGrown old new node n all_plans = grown_over old mid new all_plans node n adds added (λ none. none) in
    let size : list_size all_plans ≡ plans_size (plans_from ps) + plan_validity_size w = omega (arith, size_append ps (validity_list w), validity_size_of w, size_from ps) in
    let m : ℕ = length old + (plans_size (plans_from ps) + plan_validity_size w) in
    let h : head_at n node ≡ head_with m head = same_head n m node head (omega (arith, g.number, size)) (record { dtype = sym dtype; rows = sym count }) in
    let numbers : List Plan = list_numbered (length old) all_plans in
    let e : plans_from (field_plans (is_given v) numbers) ≡ each_numbered (length old) (plans_from ps) = ap (λ (b : Bool). plans_from (field_plans b numbers)) given ∙ ap plans_from (fields_grown (length old) ps w) ∙ numbered_from (length old) ps in
    let start : length old + list_size ps ≡ length old + plans_size (plans_from ps) = omega (arith, size_from ps) in
    let f : last_validity (is_given v) numbers ≡ validity_numbered (length old + plans_size (plans_from ps)) w = ap (λ (b : Bool). last_validity b numbers) given ∙ validity_grown (length old) ps w ∙ ap (λ (s : ℕ). validity_numbered s w) start in
    adds_by old new node n all_plans (pack_plan head (plans_from ps) w) g (omega (arith, size))
    (λ i. pack_plan (h i) (e i) (f i))

-- ---- dictionaries, lists, zones and evals

pub take_adds : (old mid new : List Node) (p q : Plan) (c v n : ℕ) (head : Head) → AddsPlans old mid (p ∷ q ∷ []) (c ∷ v ∷ []) → IsAdded mid new (take_node mid c v) n → head.dtype ≡ nullable_where (nullability_of (plan_head p).dtype) (plan_head q).dtype → (plan_head p).rows ≡ head.rows → AddsPlan old new (take_plan head p q) n
take_adds old mid new p q c v n head adds added dtype count =
    let node : Node = take_node mid c v in
    let g : IsGrown old new node n (p ∷ q ∷ []) = grown_over old mid new (p ∷ q ∷ []) node n adds added (λ none. none) in
    let like : AreLike (nodes_at mid (c ∷ v ∷ [])) (p ∷ q ∷ []) = added_like old mid (p ∷ q ∷ []) (c ∷ v ∷ []) adds in
    let t : node.dtype ≡ head.dtype = ap (λ (s : DataType). nullable_where (nullability_of s) (node_at mid v).dtype) like.0.dtype ∙ ap (nullable_where (nullability_of (plan_head p).dtype)) like.1.0.dtype ∙ sym dtype in
    let m : ℕ = length old + (plan_size p + plan_size q) in
    let h : head_at n node ≡ head_with m head = same_head n m node head (omega (arith, g.number)) (record { dtype = t; rows = like.0.rows ∙ count }) in
    adds_by old new node n (p ∷ q ∷ []) (take_plan head p q) g (omega arith) (ap (λ (h : Head). take_plan h (numbered (length old) p) (numbered (length old + plan_size p) q)) h)

pub list_adds : (old mid new : List Node) (p q : Plan) (w : PlanValidity) (e o : ℕ) (v : Option ℕ) (k : Nullability) (rows n : ℕ) (head : Head) → AddsPlans old mid (p ∷ q ∷ validity_list w) (e ∷ o ∷ given_validity v) → is_given v ≡ is_valid_as w → IsAdded mid new (list_node mid k rows e o v) n → head.dtype ≡ list_type (plan_head p).dtype k → head.rows ≡ rows → AddsPlan old new (list_plan head p q w) n
list_adds old mid new p q w e o v k rows n head adds given added dtype count =
    let node : Node = list_node mid k rows e o v in
    let all_plans : List Plan = p ∷ q ∷ validity_list w in
    let g : IsGrown old new node n all_plans = grown_over old mid new all_plans node n adds added (λ none. none) in
    let like : AreLike (nodes_at mid (e ∷ o ∷ given_validity v)) all_plans = added_like old mid all_plans (e ∷ o ∷ given_validity v) adds in
    let t : node.dtype ≡ head.dtype = ap (λ (s : DataType). list_type s k) like.0.dtype ∙ sym dtype in
    let m : ℕ = length old + (plan_size p + (plan_size q + plan_validity_size w)) in
    let h : head_at n node ≡ head_with m head = same_head n m node head (omega (arith, g.number, validity_size_of w)) (record { dtype = t; rows = sym count }) in
    let numbers : List Plan = list_numbered (length old) all_plans in
    let start : length old + list_size (p ∷ q ∷ []) ≡ length old + plan_size p + plan_size q = omega arith in
    let f : last_validity (is_given v) numbers ≡ validity_numbered (length old + plan_size p + plan_size q) w = ap (λ (b : Bool). last_validity b numbers) given ∙ validity_grown (length old) (p ∷ q ∷ []) w ∙ ap (λ (s : ℕ). validity_numbered s w) start in
    adds_by old new node n all_plans (list_plan head p q w) g (omega (arith, validity_size_of w))
    (λ i. list_plan (h i) (numbered (length old) p) (numbered (length old + plan_size p) q) (f i))

pub zoned_adds : (old mid new : List Node) (p q : Plan) (is_legacy : Bool) (zone_len : ℕ) (stats : List Statistic) (c z n : ℕ) (head : Head) → AddsPlans old mid (p ∷ q ∷ []) (c ∷ z ∷ []) → IsAdded mid new (zones_node is_legacy mid c z zone_len stats) n → SameHead (plan_head p) head → AddsPlan old new (zoned_plan head (zones_of is_legacy zone_len stats) p q) n
zoned_adds old mid new p q false zone_len stats c z n head adds added same =
    let node : Node = zones_node false mid c z zone_len stats in
    let g : IsGrown old new node n (p ∷ q ∷ []) = grown_over old mid new (p ∷ q ∷ []) node n adds added (λ none. none) in
    let like : AreLike (nodes_at mid (c ∷ z ∷ [])) (p ∷ q ∷ []) = added_like old mid (p ∷ q ∷ []) (c ∷ z ∷ []) adds in
    let m : ℕ = length old + (plan_size p + plan_size q) in
    let h : head_at n node ≡ head_with m head = same_head n m node head (omega (arith, g.number)) (record { dtype = like.0.dtype ∙ same.dtype; rows = like.0.rows ∙ same.rows }) in
    adds_by old new node n (p ∷ q ∷ []) (zoned_plan head (zones_of false zone_len stats) p q) g (omega arith) (ap (λ (h : Head). zoned_plan h (zones_of false zone_len stats) (numbered (length old) p) (numbered (length old + plan_size p) q)) h)
zoned_adds old mid new p q true zone_len stats c z n head adds added same =
    let node : Node = zones_node true mid c z zone_len stats in
    let g : IsGrown old new node n (p ∷ q ∷ []) = grown_over old mid new (p ∷ q ∷ []) node n adds added (λ none. none) in
    let like : AreLike (nodes_at mid (c ∷ z ∷ [])) (p ∷ q ∷ []) = added_like old mid (p ∷ q ∷ []) (c ∷ z ∷ []) adds in
    let m : ℕ = length old + (plan_size p + plan_size q) in
    let h : head_at n node ≡ head_with m head = same_head n m node head (omega (arith, g.number)) (record { dtype = like.0.dtype ∙ same.dtype; rows = like.0.rows ∙ same.rows }) in
    adds_by old new node n (p ∷ q ∷ []) (zoned_plan head (zones_of true zone_len stats) p q) g (omega arith) (ap (λ (h : Head). zoned_plan h (zones_of true zone_len stats) (numbered (length old) p) (numbered (length old + plan_size p) q)) h)

pub eval_adds : (old mid new : List Node) (p : Plan) (a : Bound) (c n : ℕ) (head : Head) (e : Term) → AddsPlan old mid p c → IsAdded mid new (eval_node mid a c) n → head.dtype ≡ a.dtype → (plan_head p).rows ≡ head.rows → a.term ≡ e → AddsPlan old new (eval_plan head e p) n
eval_adds old mid new p a c n head e adds added dtype count is =
    let one : AddsPlans old mid (p ∷ []) (c ∷ []) = one_added old mid p c adds in
    let node : Node = eval_node mid a c in
    let g : IsGrown old new node n (p ∷ []) = grown_over old mid new (p ∷ []) node n one added (λ none. none) in
    let like : AreLike (nodes_at mid (c ∷ [])) (p ∷ []) = added_like old mid (p ∷ []) (c ∷ []) one in
    let m : ℕ = length old + plan_size p in
    let h : head_at n node ≡ head_with m head = same_head n m node head (omega (arith, g.number)) (record { dtype = sym dtype; rows = like.0.rows ∙ count }) in
    adds_by old new node n (p ∷ []) (eval_plan head e p) g (omega arith) (λ i. eval_plan (h i) (is i) (numbered (length old) p))
