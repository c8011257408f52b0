-- What a plan's shape says of the plans that its rows are collected from.
use Rattle.std.proofs.Common.{◌≡◌, ℕ, zero, suc, ◌+◌, ◌<◌, ◌≤◌, Bool, true, false, List, [], ◌∷◌, ◌++◌, Option, Some, None, length, map, sym, ap, ◌∙◌, subst, arith, append-nil}
use Rattle.std.specs.Prelude.{Result, Ok, Err, option_map, IfSome, IsSomeAnd, OnOk}
use Rattle.std.specs.List.{slice_get, All}
use Rattle.std.proofs.lemmas.List.Elements.{All-head, All-tail}
use Rattle.std.proofs.lemmas.Option.{slice_get-get_or}
use Rattle.vx_expr.specs.declared.statistics.Statistic.{Statistic}
use Rattle.vx_plan.specs.declared.nodes.PlanKind.{PlanKind}
use Rattle.vx_plan.specs.declared.nodes.PlanKind.TheVariants as kinds
use Rattle.vx_plan.specs.declared.reaching.Reach.{Reach}
use Rattle.vx_plan.specs.declared.reaching.SegmentReach.{SegmentReach}
use Rattle.vx_plan.specs.declared.rules.PlanRule.TheVariants.{ChildRows}
use Rattle.vx_plan.specs.declared.shapes.Shape.{Shape}
use Rattle.vx_plan.specs.declared.shapes.Shape.TheVariants as shapes
use Rattle.vx_plan.specs.Kinds.{HasKind, IsPack}
use Rattle.vx_plan.specs.Nodes.{Node, absent}
use Rattle.vx_plan.specs.Plans.{Plan, plan_head, plan_at, plans_from}
use Rattle.vx_plan.specs.Reaches.{all_rows, any_row, fixed, selected_of, selected_chunks, selected_each}
use Rattle.vx_plan.specs.Rules.{node_at, nodes_at, IsMadeAs, RowsFit}
use Rattle.vx_plan.specs.Shapes.{zoned_kind, HasShape, IsOver, ShapeOf}
use Rattle.vx_plan.specs.Tables.{IsGoodNode, IsGoodTable}
use Rattle.vx_plan.proofs.Adding.{head_in_table}
use Rattle.vx_plan.proofs.Each.{each_at}
use Rattle.vx_plan.proofs.Selecting.{entered, fields_then_validity, Holds}

-- a plan of the table that stands below another, and has as many rows
pub record IsPart (nodes : List Node) (n child : ℕ) : Type 0 where
  pub lower : child < n
  pub known : child < length nodes
  pub rows : (node_at nodes n).rows ≡ (node_at nodes child).rows

-- one that stands below another
pub record IsBelow (nodes : List Node) (n child : ℕ) : Type 0 where
  pub lower : child < n
  pub known : child < length nodes

pub shape_there : (nodes : List Node) (n : ℕ) (shape : Shape) → n < length nodes → HasShape nodes n shape → ShapeOf nodes n (node_at nodes n) shape
shape_there nodes n shape known has = subst (λ (o : Option Node). IsSomeAnd o (λ node. ShapeOf nodes n node shape)) (slice_get-get_or nodes n absent known) has

pub made_of : (nodes : List Node) (n : ℕ) (node : Node) (p : Plan) (kind : PlanKind) (children : List ℕ) → IsOver nodes n node p kind children → IsMadeAs kind node (nodes_at nodes children)
made_of nodes n node p kind children over =
    subst (λ (k : PlanKind). IsMadeAs k node (nodes_at nodes children)) over.kind_is
    (subst (λ (ns : List ℕ). IsMadeAs node.kind node (nodes_at nodes ns)) over.children_are over.good.made)

pub lower_of : (nodes : List Node) (n : ℕ) (node : Node) (p : Plan) (kind : PlanKind) (children : List ℕ) → IsOver nodes n node p kind children → All (λ child. child < n) children
lower_of nodes n node p kind children over = subst (λ (ns : List ℕ). All (λ child. child < n) ns) over.children_are over.good.below

first_below : (nodes : List Node) (n : ℕ) (node : Node) (p : Plan) (kind : PlanKind) (child : ℕ) (rest : List ℕ) → n < length nodes → IsOver nodes n node p kind (child ∷ rest) → IsBelow nodes n child
first_below nodes n node p kind child rest known over =
    let lt : child < n = All-head (λ child. child < n) child rest (lower_of nodes n node p kind (child ∷ rest) over) in
    record { lower = lt; known = omega arith }

second_below : (nodes : List Node) (n : ℕ) (node : Node) (p : Plan) (kind : PlanKind) (first child : ℕ) (rest : List ℕ) → n < length nodes → IsOver nodes n node p kind (first ∷ child ∷ rest) → IsBelow nodes n child
second_below nodes n node p kind first child rest known over =
    let lt : child < n = All-head (λ child. child < n) child rest (All-tail (λ child. child < n) first (child ∷ rest) (lower_of nodes n node p kind (first ∷ child ∷ rest) over)) in
    record { lower = lt; known = omega arith }

part : (nodes : List Node) (n child : ℕ) → IsBelow nodes n child → (node_at nodes n).rows ≡ (node_at nodes child).rows → IsPart nodes n child
part nodes n child below rows = record { lower = below.lower; known = below.known; rows = rows }

-- ---- each shape

pub same_part : (nodes : List Node) (n child : ℕ) → n < length nodes → HasShape nodes n (shapes.Same child) → IsPart nodes n child
same_part nodes n child known has =
    let over = shape_there nodes n (shapes.Same child) known has in
    part nodes n child (first_below nodes n (node_at nodes n) _ kinds.Filter child [] known over) (made_of nodes n (node_at nodes n) _ kinds.Filter (child ∷ []) over).1

pub over_part : (nodes : List Node) (n child : ℕ) → n < length nodes → HasShape nodes n (shapes.Over child) → IsPart nodes n child
over_part nodes n child known has =
    let worked = shape_there nodes n (shapes.Over child) known has in
    part nodes n child (first_below nodes n (node_at nodes n) _ (kinds.Eval worked.expression) child [] known worked.over) (made_of nodes n (node_at nodes n) _ (kinds.Eval worked.expression) (child ∷ []) worked.over).1

pub codes_part : (nodes : List Node) (n codes values : ℕ) → n < length nodes → HasShape nodes n (shapes.LookUp codes values) → IsPart nodes n codes
codes_part nodes n codes values known has =
    let over = shape_there nodes n (shapes.LookUp codes values) known has in
    part nodes n codes (first_below nodes n (node_at nodes n) _ kinds.Take codes (values ∷ []) known over) (made_of nodes n (node_at nodes n) _ kinds.Take (codes ∷ values ∷ []) over).1

pub values_below : (nodes : List Node) (n codes values : ℕ) → n < length nodes → HasShape nodes n (shapes.LookUp codes values) → IsBelow nodes n values
values_below nodes n codes values known has =
    second_below nodes n (node_at nodes n) _ kinds.Take codes values [] known (shape_there nodes n (shapes.LookUp codes values) known has)

pub shared_below : (nodes : List Node) (n child : ℕ) → n < length nodes → HasShape nodes n (shapes.Shared child) → IsBelow nodes n child
shared_below nodes n child known has = first_below nodes n (node_at nodes n) _ kinds.Share child [] known (shape_there nodes n (shapes.Shared child) known has)

pub zones_below : (nodes : List Node) (n table : ℕ) → n < length nodes → HasShape nodes n (shapes.Pruned table) → IsBelow nodes n table
zones_below nodes n table known has =
    let p = shape_there nodes n (shapes.Pruned table) known has in
    first_below nodes n (node_at nodes n) _ (kinds.Pruning p.zone_len p.stats p.proof) table [] known p.over

zoned_rows : (nodes : List Node) (node : Node) (is_legacy : Bool) (zone_len : ℕ) (stats : List Statistic) (content table : ℕ) → IsMadeAs (zoned_kind is_legacy zone_len stats) node (nodes_at nodes (content ∷ table ∷ [])) → node.rows ≡ (node_at nodes content).rows
zoned_rows nodes node false zone_len stats content table made = made.1
zoned_rows nodes node true zone_len stats content table made = made.1

pub zoned_part : (nodes : List Node) (n content table : ℕ) → n < length nodes → HasShape nodes n (shapes.Zoned content table) → IsPart nodes n content
zoned_part nodes n content table known has =
    let z = shape_there nodes n (shapes.Zoned content table) known has in
    part nodes n content (first_below nodes n (node_at nodes n) _ (zoned_kind z.is_legacy z.zone_len z.stats) content (table ∷ []) known z.over)
    (zoned_rows nodes (node_at nodes n) z.is_legacy z.zone_len z.stats content table (made_of nodes n (node_at nodes n) _ (zoned_kind z.is_legacy z.zone_len z.stats) (content ∷ table ∷ []) z.over))

-- ---- kinds

pub kind_known : (Is : PlanKind → Type 0) (nodes : List Node) (n : ℕ) → HasKind Is nodes n → n < length nodes
kind_known Is [] n has = absurd has
kind_known Is (node ∷ nodes) zero has = omega arith
kind_known Is (node ∷ nodes) (suc n) has = let lt : n < length nodes = kind_known Is nodes n has in omega arith

pub kind_there : (Is : PlanKind → Type 0) (nodes : List Node) (n : ℕ) → HasKind Is nodes n → Is (node_at nodes n).kind
kind_there Is nodes n has = subst (λ (o : Option Node). IsSomeAnd o (λ node. Is node.kind)) (slice_get-get_or nodes n absent (kind_known Is nodes n has)) has

pub good_there : (nodes : List Node) → IsGoodTable nodes → (n : ℕ) → n < length nodes → IsGoodNode nodes n (node_at nodes n)
good_there nodes good n known = subst (λ (o : Option Node). IfSome o (IsGoodNode nodes n)) (slice_get-get_or nodes n absent known) (good n)

pub child_there : (nodes : List Node) (children : List ℕ) (place child : ℕ) → slice_get children place ≡ Some child → slice_get (nodes_at nodes children) place ≡ Some (node_at nodes child)
child_there nodes [] place child at = absurd cc
child_there nodes (c ∷ children) zero child at = let e : c ≡ child = cc in ap (λ (n : ℕ). Some (node_at nodes n)) e
child_there nodes (c ∷ children) (suc place) child at = child_there nodes children place child at

pub plan_there : (nodes : List Node) (children : List ℕ) (place child : ℕ) → slice_get children place ≡ Some child → slice_get (map (plan_at nodes) children) place ≡ Some (plan_at nodes child)
plan_there nodes [] place child at = absurd cc
plan_there nodes (c ∷ children) zero child at = let e : c ≡ child = cc in ap (λ (n : ℕ). Some (plan_at nodes n)) e
plan_there nodes (c ∷ children) (suc place) child at = plan_there nodes children place child at

-- ---- fields

pack_rows : (kind : PlanKind) (rows : ℕ) (below : List Node) → IsPack kind → RowsFit kind rows below → All (λ (child : Node). child.rows ≡ rows) below
pack_rows (kinds.Pack has_validity) rows below is fit = fit
pack_rows kinds.Concat rows below is fit = absurd is
pack_rows (kinds.Eval a) rows below is fit = absurd is
pack_rows kinds.Filter rows below is fit = absurd is
pack_rows kinds.Take rows below is fit = absurd is
pack_rows kinds.Share rows below is fit = absurd is
pack_rows (kinds.ListPack has_validity) rows below is fit = absurd is
pack_rows kinds.RowIdx rows below is fit = absurd is
pack_rows (kinds.SegmentScan segment coding) rows below is fit = absurd is
pack_rows (kinds.Zoned zone_len stats) rows below is fit = absurd is
pack_rows (kinds.LegacyStats zone_len stats) rows below is fit = absurd is
pack_rows (kinds.Pruning zone_len stats proof) rows below is fit = absurd is

pub field_part : (nodes : List Node) → IsGoodTable nodes → (n place child : ℕ) → HasKind IsPack nodes n → slice_get (node_at nodes n).children place ≡ Some child → child < n → IsPart nodes n child
field_part nodes good n place child has at lt =
    let known : n < length nodes = kind_known IsPack nodes n has in
    let node : Node = node_at nodes n in
    let rows : All (λ (child : Node). child.rows ≡ node.rows) (nodes_at nodes node.children) = pack_rows node.kind node.rows (nodes_at nodes node.children) (kind_there IsPack nodes n has) ((good_there nodes good n known).kept ChildRows) in
    record { lower = lt; known = omega arith; rows = sym (each_at (λ (child : Node). child.rows ≡ node.rows) (nodes_at nodes node.children) place (node_at nodes child) (child_there nodes node.children place child at) rows) }

pub fields_law : (nodes : List Node) (n : ℕ) (has_validity : Bool) → n < length nodes → HasShape nodes n (shapes.Fields has_validity) → (at : Reach) (start : ℕ) (bits : List Bool) → selected_of (plan_at nodes n) at start bits ≡ selected_each (map (plan_at nodes) (node_at nodes n).children) at start bits
fields_law nodes n has_validity known has at start bits =
    let over = shape_there nodes n (shapes.Fields has_validity) known has in
    ap (λ (p : Plan). selected_of p at start bits) over.law ∙ fields_then_validity has_validity (map (plan_at nodes) (node_at nodes n).children) at start bits

-- ---- chunks

pub head_rows : (nodes : List Node) → IsGoodTable nodes → (n : ℕ) → n < length nodes → (plan_head (plan_at nodes n)).rows ≡ (node_at nodes n).rows
head_rows nodes good n known = ap (λ head. head.rows) (head_in_table nodes good n known)

-- ---- what is gained

pub gained : {T E : Type 0} (r : Result T E) (old new ones others : List SegmentReach) → ones ≡ others → OnOk r (new ≡ old ++ ones) → OnOk r (new ≡ old ++ others)
gained (Ok x) old new ones others e h = h ∙ ap (λ (xs : List SegmentReach). old ++ xs) e
gained (Err x) old new ones others e h = tt

pub none_gained : (old ones : List SegmentReach) → ones ≡ [] → old ≡ old ++ ones
none_gained old ones e = sym (append-nil old) ∙ ap (λ (xs : List SegmentReach). old ++ xs) (sym e)

pub held : {X : Type 0} (f : X → List Bool) (o : Option X) (n : ℕ) → IfSome o (λ x. n ≤ length (f x)) → Holds (option_map f o) n
held f None n h = tt
held f (Some x) n h = h

-- ---- laws of the shapes

pub chunks_law : (nodes : List Node) (n : ℕ) → n < length nodes → HasShape nodes n shapes.Chunks → (at : Reach) (start : ℕ) (bits : List Bool) → selected_chunks 0 (plans_from (map (plan_at nodes) (node_at nodes n).children)) at start bits ≡ selected_of (plan_at nodes n) at start bits
chunks_law nodes n known has at start bits = sym (ap (λ (p : Plan). selected_of p at start bits) (shape_there nodes n shapes.Chunks known has).law)

-- a plan that is entered whole
pub whole_law : (nodes : List Node) → IsGoodTable nodes → (n : ℕ) → n < length nodes → (at : Reach) (start count : ℕ) (bits : List Bool) → length bits ≡ count → selected_of (plan_at nodes n) (fixed at start (start + count)) 0 (all_rows (node_at nodes n).rows) ≡ selected_of (plan_at nodes n) (fixed at start (start + length bits)) 0 (all_rows (plan_head (plan_at nodes n)).rows)
whole_law nodes good n known at start count bits e =
    ap (λ (rows : ℕ). selected_of (plan_at nodes n) (fixed at start (start + count)) 0 (all_rows rows)) (sym (head_rows nodes good n known))
    ∙ ap (λ (c : ℕ). selected_of (plan_at nodes n) (fixed at start (start + c)) 0 (all_rows (plan_head (plan_at nodes n)).rows)) (sym e)

pub look_up_law : (nodes : List Node) → IsGoodTable nodes → (n codes values : ℕ) → n < length nodes → HasShape nodes n (shapes.LookUp codes values) → (at : Reach) (start count : ℕ) (bits : List Bool) → length bits ≡ count → any_row bits ≡ true → selected_of (plan_at nodes codes) at start bits ++ selected_of (plan_at nodes values) (fixed at start (start + count)) 0 (all_rows (node_at nodes values).rows) ≡ selected_of (plan_at nodes n) at start bits
look_up_law nodes good n codes values known has at start count bits e some =
    ap (λ (xs : List SegmentReach). selected_of (plan_at nodes codes) at start bits ++ xs) (whole_law nodes good values (values_below nodes n codes values known has).known at start count bits e)
    ∙ sym (entered bits (selected_of (plan_at nodes codes) at start bits ++ selected_of (plan_at nodes values) (fixed at start (start + length bits)) 0 (all_rows (plan_head (plan_at nodes values)).rows)) some)
    ∙ sym (ap (λ (p : Plan). selected_of p at start bits) (shape_there nodes n (shapes.LookUp codes values) known has).law)

pub share_law : (nodes : List Node) → IsGoodTable nodes → (n child : ℕ) → n < length nodes → HasShape nodes n (shapes.Shared child) → (at : Reach) (start count : ℕ) (bits : List Bool) → length bits ≡ count → any_row bits ≡ true → selected_of (plan_at nodes child) (fixed at start (start + count)) 0 (all_rows (node_at nodes child).rows) ≡ selected_of (plan_at nodes n) at start bits
share_law nodes good n child known has at start count bits e some =
    whole_law nodes good child (shared_below nodes n child known has).known at start count bits e
    ∙ sym (entered bits (selected_of (plan_at nodes child) (fixed at start (start + length bits)) 0 (all_rows (plan_head (plan_at nodes child)).rows)) some)
    ∙ sym (ap (λ (p : Plan). selected_of p at start bits) (shape_there nodes n (shapes.Shared child) known has).law)

pub pruning_law : (nodes : List Node) → IsGoodTable nodes → (n table : ℕ) → n < length nodes → HasShape nodes n (shapes.Pruned table) → (at : Reach) (start count : ℕ) (bits : List Bool) → length bits ≡ count → any_row bits ≡ true → selected_of (plan_at nodes table) (fixed at start (start + count)) 0 (all_rows (node_at nodes table).rows) ≡ selected_of (plan_at nodes n) at start bits
pruning_law nodes good n table known has at start count bits e some =
    whole_law nodes good table (zones_below nodes n table known has).known at start count bits e
    ∙ sym (entered bits (selected_of (plan_at nodes table) (fixed at start (start + length bits)) 0 (all_rows (plan_head (plan_at nodes table)).rows)) some)
    ∙ sym (ap (λ (p : Plan). selected_of p at start bits) (shape_there nodes n (shapes.Pruned table) known has).over.law)
