-- In the tree of a good list of nodes no dictionary stands twice, so the takes of what it is lowered to are of different
-- dictionaries.
use Rattle.std.proofs.Common.{◌≡◌, ℕ, zero, suc, ◌+◌, ◌<◌, ◌≤◌, ⊎_elim, Bool, true, false, cond, eqb, List, [], ◌∷◌, Option, Some, None, length, map, refl, ap, subst, arith}
use Rattle.std.specs.Prelude.{if◌then◌else◌, IfSome}
use Rattle.std.specs.List.{slice_get, sum_by, All, AllByRecursion}
use Rattle.std.proofs.lemmas.Bool.{cases_lt, ne_eqb}
use Rattle.std.proofs.lemmas.List.Sums.{sum_by-cons}
use Rattle.vx_base.specs.Data.{Members, no_members, member}
use Rattle.vx_base.specs.declared.dtypes.Nullability.{Nullability}
use Rattle.vx_base.specs.declared.dtypes.Nullability.TheVariants.{NonNullable, Nullable}
use Rattle.vx_base.specs.Fits.{nullability_of}
use Rattle.vx_layout.specs.declared.nodes.LayoutKind.{LayoutKind}
use Rattle.vx_layout.specs.declared.nodes.LayoutKind.TheVariants as kinds
use Rattle.vx_layout.specs.declared.rules.ShapeRule.TheVariants.{ChildOnce}
use Rattle.vx_layout.specs.Kept.{KeptFields, all, only, is_kept}
use Rattle.vx_layout.specs.Nodes.{Node}
use Rattle.vx_layout.specs.Rows.{struct_members}
use Rattle.vx_layout.specs.Shape.{IsGoodTree}
use Rattle.vx_layout.specs.Trees.{Tree, missing, leaf, chunks, fields, dict, lists, zoned, Forest, no_trees, tree, Validity, always, valid_by, head_at, forest_from, child_in, validity_in, field_trees, grown_as, grown, subtree}
use Rattle.vx_layout.proofs.Unfolding.{HaveLaterChildren, good_later, unfolds}
use Rattle.vx_lower.specs.Lowered.{lowered, lowered_in, lowered_fields, lowered_validity, packing, kept_head, tell, with_zones}
use Rattle.vx_lower.specs.Projected.{Projection, kept_of}
use Rattle.vx_lower.proofs.NumberSums.{total, times, times_in, sum_is_total, total_but_first, zero_nowhere, total_both}
use Rattle.vx_plan.specs.Plans.{Plan, no_plan, take_plan, Plans, plan}
use Rattle.vx_rows.specs.Heads.{Head}
use Rattle.vx_rows.specs.Zones.{Zones}
use Rattle.vx_lower.proofs.TreeSizes.{children_at, all_children, IsBelow, children_below, above_zero, below_count, once_of, zero_more, children_sizes}
use Rattle.vx_scan.specs.FilePlans.{TakesAreApart}
use Rattle.vx_scan.proofs.ApartTakes.{one_at, takes_at, takes_among, takes_valid, takes_apart}

-- ---- how many dictionaries have the number

abbrev mutual
  dicts_at : ℕ → Tree → ℕ
  dicts_at k (missing head) = 0
  dicts_at k (leaf head segment coding) = 0
  dicts_at k (chunks head forest) = dicts_among k forest
  dicts_at k (fields head forest validity) = dicts_among k forest + dicts_valid k validity
  dicts_at k (dict head values codes) = one_at k head.number + (dicts_at k values + dicts_at k codes)
  dicts_at k (lists head elements offsets validity) = dicts_at k elements + (dicts_at k offsets + dicts_valid k validity)
  dicts_at k (zoned head zones content table) = dicts_at k content + dicts_at k table

  dicts_among : ℕ → Forest → ℕ
  dicts_among k no_trees = 0
  dicts_among k (tree first rest) = dicts_at k first + dicts_among k rest

  dicts_valid : ℕ → Validity → ℕ
  dicts_valid k always = 0
  dicts_valid k (valid_by validity) = dicts_at k validity

-- ---- a tree is lowered to at most as many takes

packed_takes : (k : ℕ) (kept : KeptFields) (head : Head) (p : Plan) → takes_at k (packing kept head p) ≡ takes_at k p
packed_takes k all head p = refl
packed_takes k (only names) head p = refl

zones_takes : (k : ℕ) (b : Bool) (head : Head) (zones : Zones) (content table : Plan) → takes_at k (with_zones b head zones content table) ≤ takes_at k content + takes_at k table
zones_takes k true head zones content table = omega arith
zones_takes k false head zones content table = omega arith

kept_takes : (k most : ℕ) (b : Bool) (ones others : Plans) → takes_among k ones ≤ most → takes_among k others ≤ most → takes_among k (if b then ones else others) ≤ most
kept_takes k most true ones others one two = one
kept_takes k most false ones others one two = two

mutual
  lowered_takes : (k : ℕ) (t : Tree) (kept : KeptFields) → takes_at k (lowered t kept) ≤ dicts_at k t
  lowered_takes k (missing head) kept = omega arith
  lowered_takes k (leaf head segment coding) kept = omega arith
  lowered_takes k (chunks head forest) kept = chunks_takes k forest kept
  lowered_takes k (fields head forest validity) kept =
      let one = fields_takes k (struct_members head.dtype) forest kept in let two = validity_takes k validity in omega (arith, one, two)
  lowered_takes k (dict head values codes) kept =
      let same = packed_takes k kept head (take_plan head (lowered codes all) (lowered values all)) in
      let one = lowered_takes k codes all in
      let two = lowered_takes k values all in
      omega (arith, same, one, two)
  lowered_takes k (lists head elements offsets validity) kept =
      let one = lowered_takes k elements all in let two = lowered_takes k offsets all in let three = validity_takes k validity in omega (arith, one, two, three)
  lowered_takes k (zoned head zones content table) kept =
      let all_of = zones_takes k (tell zones.zone_len zones.statistics) (kept_head kept head) zones (lowered content kept) (lowered table all) in
      let one = lowered_takes k content kept in
      let two = lowered_takes k table all in
      omega (arith, all_of, one, two)

  chunks_takes : (k : ℕ) (forest : Forest) (kept : KeptFields) → takes_among k (lowered_in forest kept) ≤ dicts_among k forest
  chunks_takes k no_trees kept = omega arith
  chunks_takes k (tree first rest) kept = let one = lowered_takes k first kept in let more = chunks_takes k rest kept in omega (arith, one, more)

  fields_takes : (k : ℕ) (ms : Members) (forest : Forest) (kept : KeptFields) → takes_among k (lowered_fields ms forest kept) ≤ dicts_among k forest
  fields_takes k no_members forest kept = omega arith
  fields_takes k (member name t ms) no_trees kept =
      let more = fields_takes k ms no_trees kept in
      kept_takes k 0 (is_kept kept name) (plan (no_plan (record { number = 0; dtype = t; rows = 0 })) (lowered_fields ms no_trees kept)) (lowered_fields ms no_trees kept) (omega (arith, more)) more
  fields_takes k (member name t ms) (tree first rest) kept =
      let one = lowered_takes k first all in
      let more = fields_takes k ms rest kept in
      kept_takes k (dicts_at k first + dicts_among k rest) (is_kept kept name) (plan (lowered first all) (lowered_fields ms rest kept)) (lowered_fields ms rest kept) (omega (arith, one, more)) (omega (arith, more))

  validity_takes : (k : ℕ) (validity : Validity) → takes_valid k (lowered_validity validity) ≤ dicts_valid k validity
  validity_takes k always = omega arith
  validity_takes k (valid_by validity) = lowered_takes k validity all

-- ---- a node has the dictionaries of its children, and itself

abbrev in_children : ℕ → (ℕ → Tree) → List ℕ → ℕ
in_children k f ns = sum_by (λ n. dicts_at k (f n)) ns

more : (k : ℕ) (f : ℕ → Tree) (n : ℕ) (ns : List ℕ) → in_children k f (n ∷ ns) ≡ dicts_at k (f n) + in_children k f ns
more k f n ns = sum_by-cons (λ n. dicts_at k (f n)) n ns

in_forest : (k : ℕ) (f : ℕ → Tree) (ns : List ℕ) → dicts_among k (forest_from (map f ns)) ≤ in_children k f ns
in_forest k f [] = omega arith
in_forest k f (n ∷ ns) = omega (arith, more k f n ns, in_forest k f ns)

in_struct : (k : ℕ) (f : ℕ → Tree) (n : Nullability) (ns : List ℕ) → dicts_among k (forest_from (field_trees n (map f ns))) + dicts_valid k (validity_in n (map f ns) 0) ≤ in_children k f ns
in_struct k f NonNullable ns = omega (arith, in_forest k f ns)
in_struct k f Nullable [] = omega arith
in_struct k f Nullable (n ∷ ns) = omega (arith, more k f n ns, in_forest k f ns)

in_two : (k : ℕ) (f : ℕ → Tree) (ns : List ℕ) → dicts_at k (child_in (map f ns) 0) + dicts_at k (child_in (map f ns) 1) ≤ in_children k f ns
in_two k f [] = omega arith
in_two k f (n ∷ []) = omega (arith, more k f n [])
in_two k f (n ∷ m ∷ ns) = omega (arith, more k f n (m ∷ ns), more k f m ns)

in_list : (k : ℕ) (f : ℕ → Tree) (n : Nullability) (ns : List ℕ) → dicts_at k (child_in (map f ns) 0) + (dicts_at k (child_in (map f ns) 1) + dicts_valid k (validity_in n (map f ns) 2)) ≤ in_children k f ns
in_list k f NonNullable ns = omega (arith, in_two k f ns)
in_list k f Nullable [] = omega arith
in_list k f Nullable (n ∷ []) = omega (arith, more k f n [])
in_list k f Nullable (n ∷ m ∷ []) = omega (arith, more k f n (m ∷ []), more k f m [])
in_list k f Nullable (n ∷ m ∷ j ∷ ns) = omega (arith, more k f n (m ∷ j ∷ ns), more k f m (j ∷ ns), more k f j ns)

in_kind : (k : ℕ) (f : ℕ → Tree) (head : Head) (kind : LayoutKind) (ns : List ℕ) → dicts_at k (grown_as head kind (map f ns)) ≤ one_at k head.number + in_children k f ns
in_kind k f head (kinds.Flat segment coding) ns = omega arith
in_kind k f head kinds.Chunked ns = omega (arith, in_forest k f ns)
in_kind k f head kinds.Struct ns = omega (arith, in_struct k f (nullability_of head.dtype) ns)
in_kind k f head kinds.Dict ns = omega (arith, in_two k f ns)
in_kind k f head kinds.List ns = omega (arith, in_list k f (nullability_of head.dtype) ns)
in_kind k f head (kinds.Zoned zone_len stats) ns = omega (arith, in_two k f ns)
in_kind k f head (kinds.LegacyStats zone_len stats) ns = omega (arith, in_two k f ns)

in_node : (k : ℕ) (nodes : List Node) (n : ℕ) (o : Option Node) → dicts_at k (grown (subtree nodes) n o) ≤ one_at k n + in_children k (subtree nodes) (children_at o)
in_node k nodes n None = omega arith
in_node k nodes n (Some node) = in_kind k (subtree nodes) (head_at n node) node.kind node.children

-- ---- sums over all nodes

total_less : (f g : ℕ → ℕ) (n : ℕ) → ((k : ℕ) → k < n → f k ≤ g k) → total f n ≤ total g n
total_less f g zero less = omega arith
total_less f g (suc n) less = omega (arith, total_less f g n (λ k lt. less k (omega (arith, lt))), less n (omega arith))

not_before : (k n : ℕ) → n ≤ k → total (one_at k) n ≡ 0
not_before k zero le = refl
not_before k (suc n) le =
    let none : one_at k n ≡ 0 = ap (λ (b : Bool). cond b 1 0) (ne_eqb n k (λ e. omega (arith, e, le))) in
    omega (arith, not_before k n (omega (arith, le)), none)

once_at : (k n : ℕ) → total (one_at k) n ≤ 1
once_at k zero = omega arith
once_at k (suc n) = ⊎_elim
    (λ (behind : k < n).
    let none : one_at k n ≡ 0 = ap (λ (b : Bool). cond b 1 0) (ne_eqb n k (λ e. omega (arith, e, behind))) in
    omega (arith, once_at k n, none))
    (λ (here : n ≤ k). omega (arith, not_before k n here, at_most k n))
    (cases_lt k n)
  where
    at_most : (k n : ℕ) → one_at k n ≤ 1
    at_most k n = by_bit (eqb n k)
      where
        by_bit : (b : Bool) → cond b 1 0 ≤ 1
        by_bit true = omega arith
        by_bit false = omega arith

-- ---- the whole

dicts_once : (nodes : List Node) → IsGoodTree nodes → (k : ℕ) → dicts_at k (subtree nodes 0) ≤ 1
dicts_once nodes good k =
    let later : HaveLaterChildren nodes = good_later nodes good in
    let count : ℕ = length nodes in
    let s : ℕ → ℕ = λ (n : ℕ). dicts_at k (subtree nodes n) in
    let c : ℕ → ℕ = λ (n : ℕ). sum_by s (children_at (slice_get nodes n)) in
    let below : AllByRecursion (IsBelow count) (all_children nodes) = children_below count 0 nodes (λ n lt. subst (λ (m : ℕ). IfSome (slice_get nodes n) (λ node. All (λ child. (m < child) × (child < count)) node.children)) (zero_more n) (later n lt)) in
    let each : total s count ≤ total (λ n. one_at k n + c n) count =
    total_less s (λ n. one_at k n + c n) count (λ n lt. let same : s n ≡ dicts_at k (grown (subtree nodes) n (slice_get nodes n)) = ap (dicts_at k) (unfolds nodes later n) in let most = in_node k nodes n (slice_get nodes n) in omega (arith, same, most)) in
    let first : total s count ≡ s 0 + total (λ n. times (times_in (all_children nodes) n) (s n)) count =
    total_but_first s (times_in (all_children nodes)) count good.nonempty (zero_nowhere (all_children nodes) (above_zero count (all_children nodes) below))
    (λ n lt. once_of nodes n (slice_get nodes (suc n)) (good.kept ChildOnce (suc n) lt)) in
    let children : sum_by s (all_children nodes) ≡ total (λ n. times (times_in (all_children nodes) n) (s n)) count = sum_is_total s (all_children nodes) count (below_count count (all_children nodes) below) in
    let listed : sum_by s (all_children nodes) ≡ total c count = children_sizes s nodes in
    let both : total (λ n. one_at k n + c n) count ≡ total (one_at k) count + total c count = total_both (one_at k) c count in
    let once : total (one_at k) count ≤ 1 = once_at k count in
    omega (arith, each, first, children, listed, both, once)

-- so the takes of a file's projection are of different dictionaries
pub good_apart : (nodes : List Node) (p : Projection) → IsGoodTree nodes → p.root ≡ subtree nodes 0 → TakesAreApart p
good_apart nodes p good root_is one other stands also same =
    takes_apart 0 (lowered p.root (kept_of p)) one other
    (λ k. let few = lowered_takes k p.root (kept_of p) in
    let tree_is : dicts_at k p.root ≡ dicts_at k (subtree nodes 0) = ap (dicts_at k) root_is in
    let once = dicts_once nodes good k in
    omega (arith, few, tree_is, once)) stands also same
