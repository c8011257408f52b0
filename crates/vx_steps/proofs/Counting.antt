-- Which segments still have a leaf over them whose column is not kept: as leaves are counted, and as columns are kept.
use Rattle.std.proofs.Common.{◌≡◌, ℕ, ◌+◌, ◌<◌, ◌≤◌, ◌==◌, ⊎_elim, ◌⊎◌, inl, inr, Bool, true, false, List, [], ◌∷◌, Option, Some, None, length, refl, sym, ap, ◌∙◌, subst, arith}
use Rattle.std.specs.Prelude.{if◌then◌else◌, IsSomeAnd}
use Rattle.std.specs.List.{slice_get}
use Rattle.std.specs.Option.{unwrap_or}
use Rattle.std.specs.BTreeMap.{BTreeMap, get}
use Rattle.std.specs.Ordering.{nat_cmp}
use Rattle.std.proofs.lemmas.Bool.{cases_eq}
use Rattle.std.proofs.lemmas.Option.{slice_get_within}
use Rattle.vx_base.specs.declared.codings.Coding.{Coding}
use Rattle.vx_base.specs.Columns.{ColumnData}
use Rattle.vx_expr.specs.declared.statistics.Statistic.{Statistic}
use Rattle.vx_plan.specs.declared.nodes.PlanKind.TheVariants as kinds
use Rattle.vx_plan.specs.declared.shapes.Shape.{Shape}
use Rattle.vx_plan.specs.declared.shapes.Shape.TheVariants as shapes
use Rattle.vx_plan.specs.Kinds.{coding_of}
use Rattle.vx_plan.specs.Nodes.{Node}
use Rattle.vx_plan.specs.Rules.{node_at}
use Rattle.vx_plan.specs.Shapes.{HasShape, ShapeOf, zoned_kind}
use Rattle.vx_plan.proofs.Collecting.{shape_there}
use Rattle.vx_steps.specs.declared.open_segments.OpenSegments.{OpenSegments}
use Rattle.vx_steps.specs.Counts.{count_in}
use Rattle.vx_steps.specs.Jobs.{KeepsColumns}
use Rattle.vx_steps.specs.Kept.{kept_at, IsKept}
use Rattle.vx_steps.specs.KeptData.{Kept}
use Rattle.vx_steps.specs.Needs.{Among}
use Rattle.vx_steps.specs.OpenSegments.{AddsOne, AreCounted, AreCountedTo, AtMost, HasOneAtMost, IsLeafOver, IsOpenLeaf, TakesOne}
use Rattle.vx_steps.specs.Releasing.{IsSpent}
use Rattle.vx_steps.proofs.Decoding.{one_segment}
use Rattle.vx_steps.proofs.Releasing.{none_before, not_kept}

-- ---- what is no leaf

kind_of_leaf : (nodes : List Node) (n segment : ℕ) → n < length nodes → IsLeafOver nodes segment n → (node_at nodes n).kind ≡ kinds.SegmentScan segment (coding_of (node_at nodes n).kind)
kind_of_leaf nodes n segment known leaf = (shape_there nodes n (shapes.Leaf segment) known leaf).kind_is

zoned_apart : (is_legacy : Bool) (nodes : List Node) (n segment zone_len : ℕ) (coding : Coding) (stats : List Statistic) → (node_at nodes n).kind ≡ zoned_kind is_legacy zone_len stats → (node_at nodes n).kind ≡ kinds.SegmentScan segment coding → ⊥
zoned_apart true nodes n segment zone_len coding stats is leaf = cc
zoned_apart false nodes n segment zone_len coding stats is leaf = cc

pub shape_of_leaf : (nodes : List Node) (n segment : ℕ) (shape : Shape) → n < length nodes → HasShape nodes n shape → IsLeafOver nodes segment n → (s : ℕ) × (shape ≡ shapes.Leaf s)
shape_of_leaf nodes n segment (shapes.Leaf s) known has leaf = (s, refl)
shape_of_leaf nodes n segment (shapes.Same child) known has leaf =
    let is = (shape_there nodes n (shapes.Same child) known has).kind_is in
    let scan = kind_of_leaf nodes n segment known leaf in
    absurd cc
shape_of_leaf nodes n segment shapes.Chunks known has leaf =
    let is = (shape_there nodes n shapes.Chunks known has).kind_is in
    let scan = kind_of_leaf nodes n segment known leaf in
    absurd cc
shape_of_leaf nodes n segment (shapes.Fields has_validity) known has leaf =
    let is = (shape_there nodes n (shapes.Fields has_validity) known has).kind_is in
    let scan = kind_of_leaf nodes n segment known leaf in
    absurd cc
shape_of_leaf nodes n segment (shapes.LookUp codes values) known has leaf =
    let is = (shape_there nodes n (shapes.LookUp codes values) known has).kind_is in
    let scan = kind_of_leaf nodes n segment known leaf in
    absurd cc
shape_of_leaf nodes n segment (shapes.Over child) known has leaf =
    let is = (shape_there nodes n (shapes.Over child) known has).over.kind_is in
    let scan = kind_of_leaf nodes n segment known leaf in
    absurd cc
shape_of_leaf nodes n segment (shapes.Shared child) known has leaf =
    let is = (shape_there nodes n (shapes.Shared child) known has).kind_is in
    let scan = kind_of_leaf nodes n segment known leaf in
    absurd cc
shape_of_leaf nodes n segment (shapes.Pruned table) known has leaf =
    let is = (shape_there nodes n (shapes.Pruned table) known has).over.kind_is in
    let scan = kind_of_leaf nodes n segment known leaf in
    absurd cc
shape_of_leaf nodes n segment shapes.Lists known has leaf =
    let is = (shape_there nodes n shapes.Lists known has).over.kind_is in
    let scan = kind_of_leaf nodes n segment known leaf in
    absurd cc
shape_of_leaf nodes n segment shapes.RowNumbers known has leaf =
    let is = (shape_there nodes n shapes.RowNumbers known has).kind_is in
    let scan = kind_of_leaf nodes n segment known leaf in
    absurd cc
shape_of_leaf nodes n segment (shapes.Zoned content table) known has leaf =
    let z = shape_there nodes n (shapes.Zoned content table) known has in
    absurd (zoned_apart z.is_legacy nodes n segment z.zone_len (coding_of (node_at nodes n).kind) z.stats z.over.kind_is (kind_of_leaf nodes n segment known leaf))

-- a leaf stands in the table
pub leaf_known : (nodes : List Node) (n segment : ℕ) → IsLeafOver nodes segment n → n < length nodes
leaf_known nodes n segment leaf = by (slice_get nodes n) refl leaf
  where
    by : (o : Option Node) → slice_get nodes n ≡ o → IsSomeAnd o (λ node. ShapeOf nodes n node (shapes.Leaf segment)) → n < length nodes
    by None e h = absurd h
    by (Some node) e h = slice_get_within nodes n node e

-- ---- one more plan

apart : (a b : ℕ) → (a == b) ≡ false → a ≡ b → ⊥
apart a b e same = grind arith

together : (a b : ℕ) → (a == b) ≡ true → a ≡ b
together a b e = grind arith

up_to : (n i : ℕ) → n < i + 1 → (n < i) ⊎ (n ≡ i)
up_to n i less = ⊎_elim (λ (e : n ≡ i). inr e) (λ (apart : n ≡ i → ⊥). inl (omega arith)) (cases_eq n i)

-- one that is no open leaf
pub counted_past : (nodes : List Node) (leaves : List Kept) (i : ℕ) (left : BTreeMap ℕ ℕ) → ((segment : ℕ) → IsOpenLeaf nodes leaves segment i → ⊥) → AreCountedTo nodes leaves i left → AreCountedTo nodes leaves (i + 1) left
counted_past nodes leaves i left none are = record {
  bounded = λ segment. let most = are.bounded segment in omega arith;
  counted = λ segment.
      let most = are.counted segment in
      (most.0, most.1, λ n free. ⊎_elim (λ (before : n < i). most.2 n (before, free.1)) (λ (is : n ≡ i). absurd (none segment (subst (IsOpenLeaf nodes leaves segment) is free.1))) (up_to n i free.0));
}

-- or a leaf over the segment that has one more then
pub counted_more : (nodes : List Node) (leaves : List Kept) (i segment : ℕ) (old new : BTreeMap ℕ ℕ) → i < length nodes → IsLeafOver nodes segment i → AddsOne segment old new → AreCountedTo nodes leaves i old → AreCountedTo nodes leaves (i + 1) new
counted_more nodes leaves i segment old new known here adds are = record {
  bounded = λ s. bounded_at s (segment == s) refl;
  counted = λ s. counted_at s (segment == s) refl;
}
  where
    count_then : (s : ℕ) (b : Bool) → (segment == s) ≡ b → count_in new s ≡ unwrap_or (if b then Some (count_in old segment + 1) else get nat_cmp old s) 0
    count_then s b e = ap (λ (o : Option ℕ). unwrap_or o 0) (adds s) ∙ ap (λ (t : Bool). unwrap_or (if t then Some (count_in old segment + 1) else get nat_cmp old s) 0) e

    bounded_at : (s : ℕ) (b : Bool) → (segment == s) ≡ b → count_in new s ≤ i + 1
    bounded_at s true e = let is = count_then s true e in let most = are.bounded segment in omega arith
    bounded_at s false e = let is = count_then s false e in let most = are.bounded s in omega arith

    counted_at : (s : ℕ) (b : Bool) → (segment == s) ≡ b → AtMost (count_in new s) (λ n. (n < i + 1) × IsOpenLeaf nodes leaves s n)
    counted_at s true e =
        let most = are.counted segment in
        let is : count_in new s ≡ count_in old segment + 1 = count_then s true e in
        let length_is : length (i ∷ most.0) ≤ count_in old segment + 1 = let fits = most.1 in omega arith in
        let same : s ≡ segment = sym (together segment s e) in
        let P : ℕ → Type 0 = λ k. length (i ∷ most.0) ≤ k in
        (i ∷ most.0, subst P (sym is) length_is, λ n free. ⊎_elim (λ (before : n < i). inr (most.2 n (before, subst (λ (k : ℕ). IsOpenLeaf nodes leaves k n) same free.1))) (λ (here : n ≡ i). inl (sym here)) (up_to n i free.0))
    counted_at s false e =
        let most = are.counted s in
        let is : count_in new s ≡ count_in old s = count_then s false e in
        let P : ℕ → Type 0 = λ k. length most.0 ≤ k in
        (most.0, subst P (sym is) most.1, λ n free. ⊎_elim (λ (before : n < i). most.2 n (before, free.1)) (λ (is_i : n ≡ i). let leaf : IsLeafOver nodes s n = free.1.0 in absurd (apart segment s e (one_segment nodes i segment s known here (subst (IsLeafOver nodes s) is_i leaf)))) (up_to n i free.0))

-- all plans of the table
some_count : (o : Option ℕ) (count : ℕ) → o ≡ Some count → unwrap_or o 0 ≡ count
some_count o count e = ap (λ (x : Option ℕ). unwrap_or x 0) e

pub all_counted : (nodes : List Node) (leaves : List Kept) (left : BTreeMap ℕ ℕ) → AreCountedTo nodes leaves (length nodes) left → (segment count : ℕ) → get nat_cmp left segment ≡ Some count → AtMost count (IsOpenLeaf nodes leaves segment)
all_counted nodes leaves left are segment count at =
    let most = are.counted segment in
    let P : ℕ → Type 0 = λ k. length most.0 ≤ k in
    (most.0, subst P (some_count (get nat_cmp left segment) count at) most.1, λ n free. most.2 n (leaf_known nodes n segment free.0, free))

-- ---- more columns are kept

-- one less than these numbers
without : (m : ℕ) (ns : List ℕ) → Among m ns → (rest : List ℕ) × (length rest + 1 ≡ length ns) × ((n : ℕ) → (m ≡ n → ⊥) → Among n ns → Among n rest)
without m [] among = absurd among
without m (x ∷ xs) (inl e) = (xs, omega arith, λ n apart among. ⊎_elim (λ (is : x ≡ n). absurd (apart (sym e ∙ is))) (λ (h : Among n xs). h) among)
without m (x ∷ xs) (inr h) =
    let r = without m xs h in
    (x ∷ r.0, let fewer = r.1 in omega arith, λ n apart among. ⊎_elim (λ (is : x ≡ n). inl is) (λ (g : Among n xs). inr (r.2 n apart g)) among)

nothing_among : (n : ℕ) (ns : List ℕ) → length ns ≤ 0 → Among n ns → ⊥
nothing_among n [] none among = among
nothing_among n (x ∷ xs) none among = omega arith

still_most : (nodes : List Node) (old new : List Kept) (segment count : ℕ) → KeepsColumns old new → AtMost count (IsOpenLeaf nodes old segment) → AtMost count (IsOpenLeaf nodes new segment)
still_most nodes old new segment count keeps most = (most.0, most.1, λ n free. most.2 n (free.0, none_before old new n keeps free.1))

-- an open leaf has its column now
fewer_open : (nodes : List Node) (old new : List Kept) (segment leaf count : ℕ) → IsLeafOver nodes segment leaf → kept_at old leaf ≡ None → IsKept new leaf → KeepsColumns old new → AtMost (count + 1) (IsOpenLeaf nodes old segment) → AtMost count (IsOpenLeaf nodes new segment)
fewer_open nodes old new segment leaf count over none kept keeps most =
    let r = without leaf most.0 (most.2 leaf (over, none)) in
    let fits = most.1 in
    let one = r.1 in
    (r.0, omega arith, λ n free. r.2 n (other n free.1) (most.2 n (free.0, none_before old new n keeps free.1)))
  where
    other : (n : ℕ) → kept_at new n ≡ None → leaf ≡ n → ⊥
    other n left e = not_kept new n left (subst (IsKept new) e kept)

pub counted_kept : (nodes : List Node) (old new : List Kept) (segments : OpenSegments) → KeepsColumns old new → AreCounted nodes old segments → AreCounted nodes new segments
counted_kept nodes old new segments keeps are segment count at = still_most nodes old new segment count keeps (are segment count at)

pub counted_closed : (nodes : List Node) (old new : List Kept) (before after : OpenSegments) (segment leaf : ℕ) → IsLeafOver nodes segment leaf → kept_at old leaf ≡ None → IsKept new leaf → KeepsColumns old new → TakesOne segment before after → AreCounted nodes old before → AreCounted nodes new after
counted_closed nodes old new before after segment leaf over none kept keeps takes are s count at =
    ⊎_elim
    (λ (e : get nat_cmp before.left s ≡ Some count). still_most nodes old new s count keeps (are s count e))
    (λ (e : (segment ≡ s) × (get nat_cmp before.left s ≡ Some (count + 1))). fewer_open nodes old new s leaf count (subst (λ (k : ℕ). IsLeafOver nodes k leaf) e.0 over) none kept keeps (are s (count + 1) e.1))
    (takes s count at)

-- the last one that was open
pub spent_closed : (nodes : List Node) (old new : List Kept) (before : OpenSegments) (segment leaf : ℕ) → IsLeafOver nodes segment leaf → kept_at old leaf ≡ None → IsKept new leaf → KeepsColumns old new → HasOneAtMost segment before → AreCounted nodes old before → IsSpent nodes new segment
spent_closed nodes old new before segment leaf over none kept keeps one are n here = by (kept_at new n) refl
  where
    most : AtMost (0 + 1) (IsOpenLeaf nodes old segment)
    most =
        let those = are segment one.0 one.1 in
        let fits = those.1 in
        let few = one.2 in
        (those.0, omega arith, those.2)

    rest : AtMost 0 (IsOpenLeaf nodes new segment)
    rest = fewer_open nodes old new segment leaf 0 over none kept keeps most

    by : (o : Option ColumnData) → kept_at new n ≡ o → IsKept new n
    by (Some column) e = (column, e)
    by None e = absurd (nothing_among n rest.0 rest.1 (rest.2 n (here, e)))
