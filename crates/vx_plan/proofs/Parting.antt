-- The parts of rows of a plan, by its shape.
use Rattle.std.proofs.Common.{◌≡◌, ℕ, zero, suc, ◌+◌, ◌-◌, ◌<◌, ◌≤◌, min, Bool, true, false, List, [], ◌∷◌, ◌++◌, Option, Some, None, length, map, drop, refl, sym, ap, ◌∙◌, subst, arith}
use Rattle.std.specs.Prelude.{MatchOption}
use Rattle.std.specs.List.{slice_get, sum_by, All}
use Rattle.std.proofs.lemmas.List.Sums.{sum_by-cons}
use Rattle.vx_plan.specs.declared.chunks.Chunk.{Chunk}
use Rattle.vx_plan.specs.declared.nodes.PlanKind.{PlanKind}
use Rattle.vx_plan.specs.declared.nodes.PlanKind.TheVariants as kinds
use Rattle.vx_plan.specs.declared.parts.NextPart.{NextPart}
use Rattle.vx_plan.specs.declared.parts.Part.{Part}
use Rattle.vx_plan.specs.declared.parts.Part.TheVariants as parts
use Rattle.vx_plan.specs.declared.parts.PartPlace.{PartPlace}
use Rattle.vx_plan.specs.declared.rules.PlanRule.TheVariants as rules
use Rattle.vx_plan.specs.declared.shapes.Shape.TheVariants as shapes
use Rattle.vx_plan.specs.Chunks.{IsChunk}
use Rattle.vx_plan.specs.Kinds.{coding_of}
use Rattle.vx_plan.specs.Nodes.{Node}
use Rattle.vx_plan.specs.Plans.{Plan}
use Rattle.vx_plan.specs.Parts.{chunk_parts, left_as, parts_left, part_rows, same_rows, some_rows, IsNextPart, IsPartOf, IsPicked}
use Rattle.vx_plan.specs.Rules.{node_at, nodes_at, rows_of, RowsFit}
use Rattle.vx_plan.specs.Shapes.{zoned_kind, HasShape, IsOver}
use Rattle.vx_plan.proofs.Collecting.{child_there, made_of, shape_there, IsPart}
use Rattle.vx_plan.proofs.Each.{each_at}
use Rattle.vx_plan.proofs.Offsets.{drop_at}

-- ---- by kind

left_by : (nodes : List Node) (n : ℕ) (p : Plan) (kind : PlanKind) (children : List ℕ) → IsOver nodes n (node_at nodes n) p kind children → (start count : ℕ) (at : PartPlace) → parts_left nodes n start count at ≡ left_as nodes n kind children start count at
left_by nodes n p kind children over start count at =
    ap (λ (k : PlanKind). left_as nodes n k (node_at nodes n).children start count at) over.kind_is
    ∙ ap (λ (ns : List ℕ). left_as nodes n kind ns start count at) over.children_are

-- The parts that are left are these, from a place on.
abbrev pub AreLeft : List Node → ℕ → ℕ → ℕ → List Part → Type 0
AreLeft nodes n start count ps = (at : PartPlace) → parts_left nodes n start count at ≡ drop at.place ps

pub same_left : (nodes : List Node) (n child : ℕ) → n < length nodes → HasShape nodes n (shapes.Same child) → (start count : ℕ) → AreLeft nodes n start count (same_rows start count child ∷ [])
same_left nodes n child known has start count at = left_by nodes n _ kinds.Filter (child ∷ []) (shape_there nodes n (shapes.Same child) known has) start count at

pub over_left : (nodes : List Node) (n child : ℕ) → n < length nodes → HasShape nodes n (shapes.Over child) → (start count : ℕ) → AreLeft nodes n start count (same_rows start count child ∷ [])
over_left nodes n child known has start count at =
    let worked = shape_there nodes n (shapes.Over child) known has in
    left_by nodes n _ (kinds.Eval worked.expression) (child ∷ []) worked.over start count at

pub zoned_left : (nodes : List Node) (n content table : ℕ) → n < length nodes → HasShape nodes n (shapes.Zoned content table) → (start count : ℕ) → AreLeft nodes n start count (same_rows start count content ∷ [])
zoned_left nodes n content table known has start count at =
    let z = shape_there nodes n (shapes.Zoned content table) known has in
    left_by nodes n _ (zoned_kind z.is_legacy z.zone_len z.stats) (content ∷ table ∷ []) z.over start count at ∙ either z.is_legacy z.zone_len z.stats
  where
    either : (is_legacy : Bool) (zone_len : ℕ) (stats : _) → left_as nodes n (zoned_kind is_legacy zone_len stats) (content ∷ table ∷ []) start count at ≡ drop at.place (same_rows start count content ∷ [])
    either false zone_len stats = refl
    either true zone_len stats = refl

pub fields_left : (nodes : List Node) (n : ℕ) (has_validity : Bool) → n < length nodes → HasShape nodes n (shapes.Fields has_validity) → (start count : ℕ) → AreLeft nodes n start count (map (same_rows start count) (node_at nodes n).children)
fields_left nodes n has_validity known has start count at = left_by nodes n _ (kinds.Pack has_validity) (node_at nodes n).children (shape_there nodes n (shapes.Fields has_validity) known has) start count at

pub look_up_left : (nodes : List Node) (n codes values : ℕ) → n < length nodes → HasShape nodes n (shapes.LookUp codes values) → (start count : ℕ) → AreLeft nodes n start count (same_rows start count codes ∷ parts.Whole values values ∷ [])
look_up_left nodes n codes values known has start count at = left_by nodes n _ kinds.Take (codes ∷ values ∷ []) (shape_there nodes n (shapes.LookUp codes values) known has) start count at

pub shared_left : (nodes : List Node) (n child : ℕ) → n < length nodes → HasShape nodes n (shapes.Shared child) → (start count : ℕ) → AreLeft nodes n start count (parts.Whole n child ∷ [])
shared_left nodes n child known has start count at = left_by nodes n _ kinds.Share (child ∷ []) (shape_there nodes n (shapes.Shared child) known has) start count at

pub pruned_left : (nodes : List Node) (n table : ℕ) → n < length nodes → HasShape nodes n (shapes.Pruned table) → (start count : ℕ) → AreLeft nodes n start count (parts.All table ∷ [])
pruned_left nodes n table known has start count at =
    let p = shape_there nodes n (shapes.Pruned table) known has in
    left_by nodes n _ (kinds.Pruning p.zone_len p.stats p.proof) (table ∷ []) p.over start count at

pub chunks_left : (nodes : List Node) (n : ℕ) → n < length nodes → HasShape nodes n shapes.Chunks → (start count : ℕ) (at : PartPlace) → parts_left nodes n start count at ≡ chunk_parts nodes (node_at nodes n).children (start + at.done) at.done (count - at.done)
chunks_left nodes n known has start count at = left_by nodes n _ kinds.Concat (node_at nodes n).children (shape_there nodes n shapes.Chunks known has) start count at

drop_none : {X : Type 0} (xs : List X) (i : ℕ) → slice_get xs i ≡ None → drop i xs ≡ []
drop_none [] zero none = refl
drop_none [] (suc i) none = refl
drop_none (x ∷ xs) zero none = absurd cc
drop_none (x ∷ xs) (suc i) none = drop_none xs i none

pub leaf_left : (nodes : List Node) (n segment : ℕ) → n < length nodes → HasShape nodes n (shapes.Leaf segment) → (start count : ℕ) → AreLeft nodes n start count []
leaf_left nodes n segment known has start count at = left_by nodes n _ (kinds.SegmentScan segment (coding_of (node_at nodes n).kind)) [] (shape_there nodes n (shapes.Leaf segment) known has) start count at

pub lists_left : (nodes : List Node) (n : ℕ) → n < length nodes → HasShape nodes n shapes.Lists → (start count : ℕ) → AreLeft nodes n start count []
lists_left nodes n known has start count at =
    let l = shape_there nodes n shapes.Lists known has in
    left_by nodes n _ (kinds.ListPack l.has_validity) (node_at nodes n).children l.over start count at

pub numbers_left : (nodes : List Node) (n : ℕ) → n < length nodes → HasShape nodes n shapes.RowNumbers → (start count : ℕ) → AreLeft nodes n start count []
numbers_left nodes n known has start count at = left_by nodes n _ kinds.RowIdx [] (shape_there nodes n shapes.RowNumbers known has) start count at

-- none are left of none
pub none_left : (nodes : List Node) (n start count : ℕ) (at : PartPlace) → AreLeft nodes n start count [] → parts_left nodes n start count at ≡ []
none_left nodes n start count at left = left at ∙ drop_none [] at.place refl

-- ---- the next one

abbrev AreParts : List Node → ℕ → ℕ → ℕ → List Part → Type 0
AreParts nodes n start count ps = (place : ℕ) (part : Part) → slice_get ps place ≡ Some part → IsPartOf nodes n start count part

pub next_of : (nodes : List Node) (n start count : ℕ) (ps : List Part) → AreLeft nodes n start count ps → AreParts nodes n start count ps → (at : PartPlace) (picked : Option NextPart) → MatchOption picked (slice_get ps at.place ≡ None) (IsPicked ps at) →
    MatchOption picked (parts_left nodes n start count at ≡ []) (IsNextPart nodes n start count at)
next_of nodes n start count ps left are at None none = left at ∙ drop_none ps at.place none
next_of nodes n start count ps left are at (Some next) is = record {
  left = left at ∙ drop_at ps at.place next.part is.0 ∙ ap (λ (rest : List Part). next.part ∷ rest) (ap (λ (k : ℕ). drop k ps) (sym is.1) ∙ sym (left next.behind));
  part = are at.place next.part is.0;
}

pub same_is : (nodes : List Node) (n child start count : ℕ) → IsPart nodes n child → start + count ≤ (node_at nodes n).rows → IsPartOf nodes n start count (same_rows start count child)
same_is nodes n child start count is inside = record { lower = is.lower; known = is.known; forwards = omega arith; asked = omega arith; inside = omega (arith, is.rows); behind = omega arith; within = omega (arith, is.rows) }

pub one_is : (nodes : List Node) (n start count : ℕ) (one : Part) → IsPartOf nodes n start count one → AreParts nodes n start count (one ∷ [])
one_is nodes n start count one is zero part at = let e : one ≡ part = cc in subst (IsPartOf nodes n start count) e is
one_is nodes n start count one is (suc place) part at = absurd cc

pub two_are : (nodes : List Node) (n start count : ℕ) (one two : Part) → IsPartOf nodes n start count one → IsPartOf nodes n start count two → AreParts nodes n start count (one ∷ two ∷ [])
two_are nodes n start count one two is also zero part at = let e : one ≡ part = cc in subst (IsPartOf nodes n start count) e is
two_are nodes n start count one two is also (suc zero) part at = let e : two ≡ part = cc in subst (IsPartOf nodes n start count) e also
two_are nodes n start count one two is also (suc (suc place)) part at = absurd cc

got_mapped : (f : ℕ → Part) (ns : List ℕ) (place : ℕ) (part : Part) → slice_get (map f ns) place ≡ Some part → (child : ℕ) × (slice_get ns place ≡ Some child) × (f child ≡ part)
got_mapped f [] place part at = absurd cc
got_mapped f (n ∷ ns) zero part at = (n, refl, cc)
got_mapped f (n ∷ ns) (suc place) part at = got_mapped f ns place part at

pub fields_are : (nodes : List Node) (n : ℕ) (has_validity : Bool) → n < length nodes → HasShape nodes n (shapes.Fields has_validity) → (start count : ℕ) → start + count ≤ (node_at nodes n).rows → AreParts nodes n start count (map (same_rows start count) (node_at nodes n).children)
fields_are nodes n has_validity known has start count inside place part at =
    let over = shape_there nodes n (shapes.Fields has_validity) known has in
    let node : Node = node_at nodes n in
    let got = got_mapped (same_rows start count) node.children place part at in
    let rows : All (λ (child : Node). child.rows ≡ node.rows) (nodes_at nodes node.children) = subst (λ (k : PlanKind). RowsFit k node.rows (nodes_at nodes node.children)) over.kind_is (over.good.kept rules.ChildRows) in
    let lt : got.0 < n = each_at (λ (child : ℕ). child < n) node.children place got.0 got.1 over.good.below in
    let same : (node_at nodes got.0).rows ≡ node.rows = each_at (λ (child : Node). child.rows ≡ node.rows) (nodes_at nodes node.children) place (node_at nodes got.0) (child_there nodes node.children place got.0 got.1) rows in
    subst (IsPartOf nodes n start count) got.2 (same_is nodes n got.0 start count (record { lower = lt; known = omega arith; rows = sym same }) inside)

-- ---- chunks

sum_within : (nodes : List Node) (before : List ℕ) (child : ℕ) (after : List ℕ) → sum_by rows_of (nodes_at nodes before) + (node_at nodes child).rows ≤ sum_by rows_of (nodes_at nodes (before ++ child ∷ after))
sum_within nodes [] child after = omega (arith, sum_by-cons rows_of (node_at nodes child) (nodes_at nodes after))
sum_within nodes (m ∷ before) child after = omega (arith, sum_by-cons rows_of (node_at nodes m) (nodes_at nodes before), sum_by-cons rows_of (node_at nodes m) (nodes_at nodes (before ++ child ∷ after)), sum_within nodes before child after)

-- a chunk ends no later than the concat
pub chunk_inside : (nodes : List Node) (n row : ℕ) (chunk : Chunk) → n < length nodes → HasShape nodes n shapes.Chunks → IsChunk nodes n row chunk → chunk.end ≤ (node_at nodes n).rows
chunk_inside nodes n row chunk known has is =
    let made = made_of nodes n (node_at nodes n) _ kinds.Concat (node_at nodes n).children (shape_there nodes n shapes.Chunks known has) in
    omega (arith, made.0, ap (λ (ns : List ℕ). sum_by rows_of (nodes_at nodes ns)) is.children, sum_within nodes is.before chunk.child is.after, is.start, is.end)

-- no rows are left
pub no_chunks : (nodes : List Node) (children : List ℕ) (skip from count : ℕ) → count ≡ 0 → chunk_parts nodes children skip from count ≡ []
no_chunks nodes [] skip from count none = refl
no_chunks nodes (child ∷ children) skip from count none =
    let e : min ((node_at nodes child).rows - skip) count ≡ 0 = omega arith in
    ap (λ (k : ℕ). some_rows k child skip from ++ chunk_parts nodes children (skip - (node_at nodes child).rows) (from + k) (count - k)) e
    ∙ no_chunks nodes children (skip - (node_at nodes child).rows) (from + 0) (count - 0) (omega arith)

-- a chunk of which no row is met
chunk_missed : (nodes : List Node) (child : ℕ) (children : List ℕ) (skip from count : ℕ) → min ((node_at nodes child).rows - skip) count ≡ 0 → chunk_parts nodes (child ∷ children) skip from count ≡ chunk_parts nodes children (skip - (node_at nodes child).rows) from count
chunk_missed nodes child children skip from count none =
    let a : from + 0 ≡ from = omega arith in
    let b : count - 0 ≡ count = omega arith in
    ap (λ (k : ℕ). some_rows k child skip from ++ chunk_parts nodes children (skip - (node_at nodes child).rows) (from + k) (count - k)) none
    ∙ ap (λ (k : ℕ). chunk_parts nodes children (skip - (node_at nodes child).rows) k (count - 0)) a
    ∙ ap (λ (k : ℕ). chunk_parts nodes children (skip - (node_at nodes child).rows) from k) b

some_here : (here child skip from : ℕ) → 0 < here → some_rows here child skip from ≡ part_rows child skip from (from + here) ∷ []
some_here zero child skip from some = absurd (omega arith)
some_here (suc more) child skip from some = refl

-- the chunk that holds the first row that is left
chunk_first : (nodes : List Node) (child : ℕ) (children : List ℕ) (skip from count here : ℕ) → skip < (node_at nodes child).rows → 0 < count → here ≡ min ((node_at nodes child).rows - skip) count →
    chunk_parts nodes (child ∷ children) skip from count ≡ part_rows child skip from (from + here) ∷ chunk_parts nodes (child ∷ children) (skip + here) (from + here) (count - here)
chunk_first nodes child children skip from count here holds some is =
    let a : skip - (node_at nodes child).rows ≡ skip + here - (node_at nodes child).rows = omega arith in
    ap (λ (k : ℕ). some_rows k child skip from ++ chunk_parts nodes children (skip - (node_at nodes child).rows) (from + k) (count - k)) (sym is)
    ∙ ap (λ (xs : List Part). xs ++ chunk_parts nodes children (skip - (node_at nodes child).rows) (from + here) (count - here)) (some_here here child skip from (omega arith))
    ∙ ap (λ (k : ℕ). part_rows child skip from (from + here) ∷ chunk_parts nodes children k (from + here) (count - here)) a
    ∙ ap (λ (xs : List Part). part_rows child skip from (from + here) ∷ xs) (sym (chunk_missed nodes child children (skip + here) (from + here) (count - here) (omega arith)))

pub chunk_among : (nodes : List Node) (before : List ℕ) (child : ℕ) (after : List ℕ) (skip from count here : ℕ) → skip < (node_at nodes child).rows → 0 < count → here ≡ min ((node_at nodes child).rows - skip) count →
    chunk_parts nodes (before ++ child ∷ after) (sum_by rows_of (nodes_at nodes before) + skip) from count
    ≡ part_rows child skip from (from + here) ∷ chunk_parts nodes (before ++ child ∷ after) (sum_by rows_of (nodes_at nodes before) + skip + here) (from + here) (count - here)
chunk_among nodes [] child after skip from count here holds some is =
    let none : sum_by rows_of (nodes_at nodes []) + skip ≡ skip = omega arith in
    ap (λ (k : ℕ). chunk_parts nodes (child ∷ after) k from count) none
    ∙ chunk_first nodes child after skip from count here holds some is
    ∙ ap (λ (k : ℕ). part_rows child skip from (from + here) ∷ chunk_parts nodes (child ∷ after) (k + here) (from + here) (count - here)) (sym none)
chunk_among nodes (m ∷ before) child after skip from count here holds some is =
    let cons = sum_by-cons rows_of (node_at nodes m) (nodes_at nodes before) in
    let all : ℕ = sum_by rows_of (nodes_at nodes (m ∷ before)) in
    let rest : ℕ = sum_by rows_of (nodes_at nodes before) in
    let a : sum_by rows_of (nodes_at nodes (m ∷ before)) + skip - (node_at nodes m).rows ≡ sum_by rows_of (nodes_at nodes before) + skip = omega (arith, cons) in
    let b : sum_by rows_of (nodes_at nodes (m ∷ before)) + skip + here - (node_at nodes m).rows ≡ sum_by rows_of (nodes_at nodes before) + skip + here = omega (arith, cons) in
    chunk_missed nodes m (before ++ child ∷ after) (sum_by rows_of (nodes_at nodes (m ∷ before)) + skip) from count (omega (arith, cons))
    ∙ ap (λ (k : ℕ). chunk_parts nodes (before ++ child ∷ after) k from count) a
    ∙ chunk_among nodes before child after skip from count here holds some is
    ∙ ap (λ (k : ℕ). part_rows child skip from (from + here) ∷ chunk_parts nodes (before ++ child ∷ after) k (from + here) (count - here)) (sym b)
    ∙ ap (λ (xs : List Part). part_rows child skip from (from + here) ∷ xs) (sym (chunk_missed nodes m (before ++ child ∷ after) (sum_by rows_of (nodes_at nodes (m ∷ before)) + skip + here) (from + here) (count - here) (omega (arith, cons))))

-- the chunk that holds the row, and those behind it
pub chunk_then : (nodes : List Node) (n : ℕ) → (start count done here : ℕ) (chunk : Chunk) → IsChunk nodes n (start + done) chunk → done < count → here ≡ min (chunk.end - (start + done)) (count - done) →
    chunk_parts nodes (node_at nodes n).children (start + done) done (count - done)
    ≡ part_rows chunk.child (start + done - chunk.start) done (done + here) ∷ chunk_parts nodes (node_at nodes n).children (start + (done + here)) (done + here) (count - (done + here))
chunk_then nodes n start count done here chunk is some fits =
    let low : chunk.start ≤ start + done = is.at_most in
    let high : start + done < chunk.end = is.above in
    let skip : ℕ = start + done - chunk.start in
    let a : start + done ≡ sum_by rows_of (nodes_at nodes is.before) + (start + done - chunk.start) = omega (arith, is.start) in
    let b : sum_by rows_of (nodes_at nodes is.before) + (start + done - chunk.start) + here ≡ start + (done + here) = omega (arith, is.start) in
    let c : count - done - here ≡ count - (done + here) = omega arith in
    ap (λ (ns : List ℕ). chunk_parts nodes ns (start + done) done (count - done)) is.children
    ∙ ap (λ (k : ℕ). chunk_parts nodes (is.before ++ chunk.child ∷ is.after) k done (count - done)) a
    ∙ chunk_among nodes is.before chunk.child is.after (start + done - chunk.start) done (count - done) here (omega (arith, is.end)) (omega arith) (omega (arith, is.end))
    ∙ ap (λ (k : ℕ). part_rows chunk.child (start + done - chunk.start) done (done + here) ∷ chunk_parts nodes (is.before ++ chunk.child ∷ is.after) k (done + here) (count - done - here)) b
    ∙ ap (λ (k : ℕ). part_rows chunk.child (start + done - chunk.start) done (done + here) ∷ chunk_parts nodes (is.before ++ chunk.child ∷ is.after) (start + (done + here)) (done + here) k) c
    ∙ ap (λ (ns : List ℕ). part_rows chunk.child (start + done - chunk.start) done (done + here) ∷ chunk_parts nodes ns (start + (done + here)) (done + here) (count - (done + here))) (sym is.children)

-- ---- by a part that the code made

pub one_next : (nodes : List Node) (n start count : ℕ) (one made : Part) → made ≡ one → AreLeft nodes n start count (one ∷ []) → IsPartOf nodes n start count one → (at : PartPlace) (picked : Option NextPart) → MatchOption picked (slice_get (made ∷ []) at.place ≡ None) (IsPicked (made ∷ []) at) →
    MatchOption picked (parts_left nodes n start count at ≡ []) (IsNextPart nodes n start count at)
one_next nodes n start count one made e left is at picked h =
    let F : Part → Type 0 = λ p. MatchOption picked (slice_get (p ∷ []) at.place ≡ None) (IsPicked (p ∷ []) at) in
    next_of nodes n start count (one ∷ []) left (one_is nodes n start count one is) at picked (subst F e h)

pub two_next : (nodes : List Node) (n start count : ℕ) (one two made : Part) → made ≡ one → AreLeft nodes n start count (one ∷ two ∷ []) → IsPartOf nodes n start count one → IsPartOf nodes n start count two → (at : PartPlace) (picked : Option NextPart) → MatchOption picked (slice_get (made ∷ two ∷ []) at.place ≡ None) (IsPicked (made ∷ two ∷ []) at) →
    MatchOption picked (parts_left nodes n start count at ≡ []) (IsNextPart nodes n start count at)
two_next nodes n start count one two made e left is also at picked h =
    let F : Part → Type 0 = λ p. MatchOption picked (slice_get (p ∷ two ∷ []) at.place ≡ None) (IsPicked (p ∷ two ∷ []) at) in
    next_of nodes n start count (one ∷ two ∷ []) left (two_are nodes n start count one two is also) at picked (subst F e h)
