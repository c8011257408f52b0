-- The text of a plan of a table is told by the plan alone, whatever numbers its parts have.
use Rattle.std.proofs.Common.{◌≡◌, ℕ, zero, suc, ◌+◌, ◌<◌, Bool, true, false, List, [], ◌∷◌, ◌++◌, length, map, get_or, refl, sym, ap, ◌∙◌, arith}
use Rattle.std.specs.Prelude.{codes}
use Rattle.std.specs.List.{All}
use Rattle.std.proofs.lemmas.List.Elements.{All-head, All-tail}
use Rattle.std.proofs.lemmas.Option.{slice_get-get_or}
use Rattle.vx_base.specs.Data.{DataType, bool_type, int_type, utf8_type, struct_type, list_type}
use Rattle.vx_expr.specs.declared.statistics.Statistic.{Statistic}
use Rattle.vx_expr.specs.Bound.{Bound}
use Rattle.vx_expr.specs.Mentions.{is_root, uses_root, uses_row_number}
use Rattle.vx_plan.specs.declared.rules.PlanRule.TheVariants as rules
use Rattle.vx_plan.specs.declared.nodes.PlanKind.{PlanKind}
use Rattle.vx_plan.specs.declared.nodes.PlanKind.TheVariants as kinds
use Rattle.vx_plan.specs.ChildNames.{child_name}
use Rattle.vx_plan.specs.Nodes.{Node, absent}
use Rattle.vx_rows.specs.Heads.{Head}
use Rattle.vx_plan.specs.Plans.{Plan, no_plan, concat_plan, eval_plan, filter_plan, pack_plan, take_plan, share_plan, list_plan, row_idx_plan, scan_plan, zoned_plan, pruning_plan, Plans, no_plans, plan, head_at, plan_at, plan_grown_as, plan_in, plans_from, front_plans, last_plan, field_plans, last_validity}
use Rattle.vx_plan.specs.Rules.{node_at, nodes_at, Asks, IsMadeAs}
use Rattle.vx_plan.specs.Shapes.{zoned_kind}
use Rattle.vx_plan.specs.Tables.{IsGoodTable}
use Rattle.vx_plan.proofs.Unfolding.{Known, known}
use Rattle.vx_lower.specs.PlanText.{all_headers, each_from, indent, lines_text, node_text}
use Rattle.vx_lower.specs.Projected.{Projection}
use Rattle.vx_lower.specs.RowIndex.{row_index_plan_from_by}
use Rattle.vx_lower.proofs.PlanLines.{child_lines, lines_unfold}
use Rattle.vx_lower.proofs.Made.{validity_list}
use Rattle.vx_scan.specs.PlanTexts.{held_tree, IsPlanText, IsProjectionPlanBy}

-- ---- the line and the children of a plan

-- a node of that kind under the head
abbrev under : PlanKind → Head → Node
under kind head = record { kind = kind; dtype = head.dtype; rows = head.rows; children = []; offsets = [] }

-- a node with the plan's line and the names of its children
abbrev node_of : Plan → Node
node_of (no_plan head) = under kinds.Filter head
node_of (concat_plan head children) = under kinds.Concat head
node_of (eval_plan head e child) = under (kinds.Eval (record { term = e; root = head.dtype; dtype = head.dtype })) head
node_of (filter_plan head child) = under kinds.Filter head
node_of (pack_plan head children validity) = under (kinds.Pack false) head
node_of (take_plan head codes values) = under kinds.Take head
node_of (share_plan head child) = under kinds.Share head
node_of (list_plan head elements offsets validity) = under (kinds.ListPack false) head
node_of (row_idx_plan head) = under kinds.RowIdx head
node_of (scan_plan head segment coding) = under (kinds.SegmentScan segment coding) head
node_of (zoned_plan head zones content table) = under (zoned_kind zones.is_legacy zones.zone_len zones.statistics) head
node_of (pruning_plan head pruning table) = under (kinds.Pruning pruning.zone_len pruning.statistics pruning.predicate) head

abbrev plan_list : Plans → List Plan
plan_list no_plans = []
plan_list (plan first rest) = first ∷ plan_list rest

abbrev children_of : Plan → List Plan
children_of (no_plan head) = []
children_of (concat_plan head children) = plan_list children
children_of (eval_plan head e child) = child ∷ []
children_of (filter_plan head child) = child ∷ []
children_of (pack_plan head children validity) = plan_list children ++ validity_list validity
children_of (take_plan head codes values) = codes ∷ values ∷ []
children_of (share_plan head child) = child ∷ []
children_of (list_plan head elements offsets validity) = elements ∷ offsets ∷ validity_list validity
children_of (row_idx_plan head) = []
children_of (scan_plan head segment coding) = []
children_of (zoned_plan head zones content table) = content ∷ table ∷ []
children_of (pruning_plan head pruning table) = table ∷ []

abbrev line_of : ℕ → List ℕ → List ℕ → List ℕ
line_of depth name words = indent depth ++ (name ++ (codes ":" ++ (((codes " " ++ words) ++ []) ++ codes "\n")))

abbrev each_of : (ℕ → Plan → List ℕ) → ℕ → List Plan → List ℕ
each_of text place [] = []
each_of text place (p ∷ ps) = text place p ++ each_of text (place + 1) ps

-- the lines of a plan, down to so many levels
abbrev plan_lines : ℕ → ℕ → List ℕ → Plan → List ℕ
plan_lines zero depth name p = []
plan_lines (suc levels) depth name p =
    line_of depth name (node_text (node_of p))
    ++ each_of (λ place child. plan_lines levels (depth + 1) (child_name (node_of p) place) child) 0 (children_of p)

-- ---- a plan of a table has the line and the children of its node

same_line : (kind : PlanKind) (t : DataType) (rows : ℕ) (children offsets : List ℕ) (number : ℕ) (ps : List Plan) → node_text (record { kind = kind; dtype = t; rows = rows; children = children; offsets = offsets }) ≡ node_text (node_of (plan_grown_as (record { number = number; dtype = t; rows = rows }) kind ps))
same_line kinds.Concat t rows children offsets number ps = refl
same_line (kinds.Eval a) t rows children offsets number ps = refl
same_line kinds.Filter t rows children offsets number ps = refl
same_line (kinds.Pack has_validity) t rows children offsets number ps = refl
same_line kinds.Take t rows children offsets number ps = refl
same_line kinds.Share t rows children offsets number ps = refl
same_line (kinds.ListPack has_validity) t rows children offsets number ps = refl
same_line kinds.RowIdx t rows children offsets number ps = refl
same_line (kinds.SegmentScan segment coding) t rows children offsets number ps = refl
same_line (kinds.Zoned zone_len stats) t rows children offsets number ps = refl
same_line (kinds.LegacyStats zone_len stats) t rows children offsets number ps = refl
same_line (kinds.Pruning zone_len stats proof) t rows children offsets number ps = refl

same_name : (kind : PlanKind) (t : DataType) (rows : ℕ) (children offsets : List ℕ) (number : ℕ) (ps : List Plan) (place : ℕ) → child_name (record { kind = kind; dtype = t; rows = rows; children = children; offsets = offsets }) place ≡ child_name (node_of (plan_grown_as (record { number = number; dtype = t; rows = rows }) kind ps)) place
same_name kinds.Concat t rows children offsets number ps place = refl
same_name (kinds.Eval a) t rows children offsets number ps place = refl
same_name kinds.Filter t rows children offsets number ps place = refl
same_name (kinds.Pack has_validity) t rows children offsets number ps place = refl
same_name kinds.Take t rows children offsets number ps place = refl
same_name kinds.Share t rows children offsets number ps place = refl
same_name (kinds.ListPack has_validity) t rows children offsets number ps place = refl
same_name kinds.RowIdx t rows children offsets number ps place = refl
same_name (kinds.SegmentScan segment coding) t rows children offsets number ps place = refl
same_name (kinds.Zoned zone_len stats) t rows children offsets number ps place = refl
same_name (kinds.LegacyStats zone_len stats) t rows children offsets number ps place = refl
same_name (kinds.Pruning zone_len stats proof) t rows children offsets number ps place = refl

list_from : (ps : List Plan) → plan_list (plans_from ps) ≡ ps
list_from [] = refl
list_from (p ∷ ps) = ap (λ (qs : List Plan). p ∷ qs) (list_from ps)

front_and_last : (p : Plan) (ps : List Plan) → plan_list (plans_from (front_plans (p ∷ ps))) ++ last_plan (p ∷ ps) ∷ [] ≡ p ∷ ps
front_and_last p [] = refl
front_and_last p (q ∷ ps) = ap (λ (qs : List Plan). p ∷ qs) (front_and_last q ps)

-- a pack with a validity has a child
some_child : (nodes : List Node) (t : DataType) (ns : List ℕ) → Asks rules.ChildTypes (record { kind = kinds.Pack true; dtype = t; rows = 0; children = ns; offsets = [] }) (nodes_at nodes ns) → ns ≡ [] → ⊥
some_child nodes (struct_type ms n) [] fits none = fits.1
some_child nodes (struct_type ms n) (k ∷ ns) fits none = cc
some_child nodes (bool_type n) ns fits none = fits
some_child nodes (int_type kind n) ns fits none = fits
some_child nodes (utf8_type n) ns fits none = fits
some_child nodes (list_type t n) ns fits none = fits

packed_list : (has_validity : Bool) (nodes : List Node) (t : DataType) (ns : List ℕ) → Asks rules.ChildTypes (record { kind = kinds.Pack has_validity; dtype = t; rows = 0; children = ns; offsets = [] }) (nodes_at nodes ns) →
    plan_list (plans_from (field_plans has_validity (map (plan_at nodes) ns))) ++ validity_list (last_validity has_validity (map (plan_at nodes) ns)) ≡ map (plan_at nodes) ns
packed_list false nodes t ns fits = without (map (plan_at nodes) ns)
  where
    without : (ps : List Plan) → plan_list (plans_from ps) ++ [] ≡ ps
    without [] = refl
    without (p ∷ ps) = ap (λ (qs : List Plan). p ∷ qs) (without ps)
packed_list true nodes t [] fits = absurd (some_child nodes t [] fits refl)
packed_list true nodes t (n ∷ ns) fits = front_and_last (plan_at nodes n) (map (plan_at nodes) ns)

one_list : (nodes : List Node) (node : Node) (ns : List ℕ) → IsMadeAs kinds.Filter node (nodes_at nodes ns) → plan_in (map (plan_at nodes) ns) 0 ∷ [] ≡ map (plan_at nodes) ns
one_list nodes node [] made = absurd made
one_list nodes node (n ∷ []) made = refl
one_list nodes node (n ∷ m ∷ ns) made = absurd made

worked_list : (nodes : List Node) (a : Bound) (node : Node) (ns : List ℕ) → IsMadeAs (kinds.Eval a) node (nodes_at nodes ns) → plan_in (map (plan_at nodes) ns) 0 ∷ [] ≡ map (plan_at nodes) ns
worked_list nodes a node [] made = absurd made
worked_list nodes a node (n ∷ []) made = refl
worked_list nodes a node (n ∷ m ∷ ns) made = absurd made

looked_list : (nodes : List Node) (node : Node) (ns : List ℕ) → IsMadeAs kinds.Take node (nodes_at nodes ns) → plan_in (map (plan_at nodes) ns) 0 ∷ plan_in (map (plan_at nodes) ns) 1 ∷ [] ≡ map (plan_at nodes) ns
looked_list nodes node [] made = absurd made
looked_list nodes node (n ∷ []) made = absurd made
looked_list nodes node (n ∷ m ∷ []) made = refl
looked_list nodes node (n ∷ m ∷ k ∷ ns) made = absurd made

zoned_list : (nodes : List Node) (node : Node) (ns : List ℕ) → IsMadeAs (kinds.Zoned 0 []) node (nodes_at nodes ns) → plan_in (map (plan_at nodes) ns) 0 ∷ plan_in (map (plan_at nodes) ns) 1 ∷ [] ≡ map (plan_at nodes) ns
zoned_list nodes node [] made = absurd made
zoned_list nodes node (n ∷ []) made = absurd made
zoned_list nodes node (n ∷ m ∷ []) made = refl
zoned_list nodes node (n ∷ m ∷ k ∷ ns) made = absurd made

pruned_list : (nodes : List Node) (zone_len : ℕ) (stats : List Statistic) (proof : Bound) (node : Node) (ns : List ℕ) → IsMadeAs (kinds.Pruning zone_len stats proof) node (nodes_at nodes ns) → plan_in (map (plan_at nodes) ns) 0 ∷ [] ≡ map (plan_at nodes) ns
pruned_list nodes zone_len stats proof node [] made = absurd made
pruned_list nodes zone_len stats proof node (n ∷ []) made = refl
pruned_list nodes zone_len stats proof node (n ∷ m ∷ ns) made = absurd made

listed : (has_validity : Bool) (nodes : List Node) (node : Node) (ns : List ℕ) → IsMadeAs (kinds.ListPack has_validity) node (nodes_at nodes ns) →
    plan_in (map (plan_at nodes) ns) 0 ∷ plan_in (map (plan_at nodes) ns) 1 ∷ validity_list (last_validity has_validity (map (plan_at nodes) ns)) ≡ map (plan_at nodes) ns
listed false nodes node [] made = absurd made
listed false nodes node (n ∷ []) made = absurd made
listed false nodes node (n ∷ m ∷ []) made = refl
listed false nodes node (n ∷ m ∷ k ∷ ns) made = absurd made
listed true nodes node [] made = absurd made
listed true nodes node (n ∷ []) made = absurd made
listed true nodes node (n ∷ m ∷ []) made = absurd made
listed true nodes node (n ∷ m ∷ k ∷ []) made = refl
listed true nodes node (n ∷ m ∷ k ∷ l ∷ ns) made = absurd made

none_left : (nodes : List Node) (ns : List ℕ) → nodes_at nodes ns ≡ [] → [] ≡ map (plan_at nodes) ns
none_left nodes [] none = refl
none_left nodes (n ∷ ns) none = absurd cc

same_children : (kind : PlanKind) (nodes : List Node) (head : Head) (node : Node) → IsMadeAs kind node (nodes_at nodes node.children) → Asks rules.ChildTypes (record node { kind = kind }) (nodes_at nodes node.children) → children_of (plan_grown_as head kind (map (plan_at nodes) node.children)) ≡ map (plan_at nodes) node.children
same_children kinds.Concat nodes head node made fits = list_from (map (plan_at nodes) node.children)
same_children (kinds.Eval a) nodes head node made fits = worked_list nodes a node node.children made
same_children kinds.Filter nodes head node made fits = one_list nodes node node.children made
same_children (kinds.Pack has_validity) nodes head node made fits = packed_list has_validity nodes node.dtype node.children fits
same_children kinds.Take nodes head node made fits = looked_list nodes node node.children made
same_children kinds.Share nodes head node made fits = one_list nodes node node.children made
same_children (kinds.ListPack has_validity) nodes head node made fits = listed has_validity nodes node node.children made
same_children kinds.RowIdx nodes head node made fits = none_left nodes node.children made.1
same_children (kinds.SegmentScan segment coding) nodes head node made fits = none_left nodes node.children made
same_children (kinds.Zoned zone_len stats) nodes head node made fits = zoned_list nodes node node.children made
same_children (kinds.LegacyStats zone_len stats) nodes head node made fits = zoned_list nodes node node.children made
same_children (kinds.Pruning zone_len stats proof) nodes head node made fits = pruned_list nodes zone_len stats proof node node.children made

-- ---- so it has its lines

each_mapped : (nodes : List Node) (f : ℕ → ℕ → List ℕ) (g : ℕ → Plan → List ℕ) (place : ℕ) (children : List ℕ) → All (λ child. (at : ℕ) → f at child ≡ g at (plan_at nodes child)) children → each_from f place children ≡ each_of g place (map (plan_at nodes) children)
each_mapped nodes f g place [] same = refl
each_mapped nodes f g place (child ∷ children) same =
    let p : f place child ≡ g place (plan_at nodes child) = All-head (λ child. (at : ℕ) → f at child ≡ g at (plan_at nodes child)) child children same place in
    let q : each_from f (place + 1) children ≡ each_of g (place + 1) (map (plan_at nodes) children) = each_mapped nodes f g (place + 1) children (All-tail (λ child. (at : ℕ) → f at child ≡ g at (plan_at nodes child)) child children same) in
    cc

lines_told : (nodes : List Node) → IsGoodTable nodes → (levels n : ℕ) → n < levels → n < length nodes → (depth : ℕ) (name : List ℕ) → lines_text (all_headers true []) nodes depth name n ≡ plan_lines levels depth name (plan_at nodes n)
lines_told nodes good zero n less there depth name = absurd (omega (arith, less))
lines_told nodes good (suc levels) n less there depth name =
    let node : Node = node_at nodes n in
    let k : Known nodes n node node.kind = known nodes good n node node.kind (slice_get-get_or nodes n absent there) refl in
    let grown : Plan = plan_grown_as (head_at n node) node.kind (map (plan_at nodes) node.children) in
    let text : ℕ → Plan → List ℕ = λ place child. plan_lines levels (depth + 1) (child_name (node_of grown) place) child in
    let line : node_text node ≡ node_text (node_of grown) = same_line node.kind node.dtype node.rows node.children node.offsets n (map (plan_at nodes) node.children) in
    let below : each_from (child_lines (all_headers true []) nodes depth n) 0 node.children ≡ each_of text 0 (map (plan_at nodes) node.children) =
    each_mapped nodes (child_lines (all_headers true []) nodes depth n) text 0 node.children (λ i d inside place.
    let child : ℕ = get_or node.children i d in
    let lower : child < n = k.good.below i d inside in
    lines_told nodes good levels child (omega (arith, lower, less)) (omega (arith, lower, there)) (depth + 1) (child_name node place)
    ∙ ap (λ (named : List ℕ). plan_lines levels (depth + 1) named (plan_at nodes child)) (same_name node.kind node.dtype node.rows node.children node.offsets n (map (plan_at nodes) node.children) place)) in
    lines_unfold (all_headers true []) nodes good n there depth name
    ∙ ap (λ (words : List ℕ). line_of depth name words ++ each_from (child_lines (all_headers true []) nodes depth n) 0 node.children) line
    ∙ ap (λ (rest : List ℕ). line_of depth name (node_text (node_of grown)) ++ rest) (below ∙ ap (each_of text 0) (sym (same_children node.kind nodes (head_at n node) node k.good.made (k.good.kept rules.ChildTypes))))
    ∙ ap (plan_lines (suc levels) depth name) (sym k.law)

-- ---- a projection has one text

-- the numbers of an expression's own plans are not told
numbers_untold : (root row : Bool) (n m : ℕ) (a : Bound) (child : Plan) (levels depth : ℕ) (name : List ℕ) → plan_lines levels depth name (row_index_plan_from_by root row n a child) ≡ plan_lines levels depth name (row_index_plan_from_by root row m a child)
numbers_untold root row n m a child zero depth name = refl
numbers_untold true false n m a child (suc levels) depth name = refl
numbers_untold false false n m a child (suc zero) depth name = refl
numbers_untold false false n m a child (suc (suc levels)) depth name = refl
numbers_untold false true n m a child (suc zero) depth name = refl
numbers_untold false true n m a child (suc (suc levels)) depth name = refl
numbers_untold true true n m a child (suc zero) depth name = refl
numbers_untold true true n m a child (suc (suc zero)) depth name = refl
numbers_untold true true n m a child (suc (suc (suc levels))) depth name = refl

same_lines : (b : Bool) (p : Projection) (q r : Plan) (levels : ℕ) → IsProjectionPlanBy b p q → IsProjectionPlanBy b p r → plan_lines levels 0 (codes "root") q ≡ plan_lines levels 0 (codes "root") r
same_lines true p q r levels one other = ap (plan_lines levels 0 (codes "root")) (one ∙ sym other)
same_lines false p q r levels (n, one) (m, other) =
    ap (plan_lines levels 0 (codes "root")) one
    ∙ numbers_untold (uses_root p.expression.term) (uses_row_number p.expression.term) n m p.expression (held_tree p) levels 0 (codes "root")
    ∙ sym (ap (plan_lines levels 0 (codes "root")) other)

pub one_text : (p : Projection) (text other : List ℕ) → IsPlanText p text → IsPlanText p other → text ≡ other
one_text p text other one two =
    let levels : ℕ = suc (one.number + two.number) in
    one.text_is
    ∙ lines_told one.table one.good levels one.number (omega arith) one.known 0 (codes "root")
    ∙ same_lines (is_root p.expression.term) p (plan_at one.table one.number) (plan_at two.table two.number) levels one.plan two.plan
    ∙ sym (two.text_is ∙ lines_told two.table two.good levels two.number (omega arith) two.known 0 (codes "root"))
