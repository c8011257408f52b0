-- A validity is there exactly where one was given.
use Rattle.std.proofs.Common.{◌≡◌, ℕ, ◌-◌, ◌<◌, Bool, true, false, List, [], ◌∷◌, Option, Some, None, length, subst, refl, arith}
use Rattle.std.specs.Prelude.{IfSome, IsSome, IsTrue, option_map}
use Rattle.std.proofs.lemmas.Option.{slice_get-get_or}
use Rattle.vx_base.specs.Data.{DataType, struct_type, bool_type, int_type, utf8_type, list_type}
use Rattle.vx_plan.specs.declared.children.PlanRef.{PlanRef}
use Rattle.vx_plan.specs.declared.nodes.PlanKind.{PlanKind}
use Rattle.vx_plan.specs.declared.nodes.PlanKind.TheVariants as kinds
use Rattle.vx_plan.specs.declared.rules.PlanRule.TheVariants.{ChildTypes}
use Rattle.vx_plan.specs.Kinds.{has_validity_of, validity_among, validity_of}
use Rattle.vx_plan.specs.Nodes.{Node, absent}
use Rattle.vx_plan.specs.Refs.{number_of}
use Rattle.vx_plan.specs.Rules.{node_at, nodes_at, TypesFit, PackFits}
use Rattle.vx_plan.specs.Tables.{IsGoodNode, IsGoodTable}
use Rattle.vx_plan.proofs.ChildNodes.{count_at}

some_fields : (t : DataType) (below : List Node) → PackFits true t below → 0 < length below
some_fields (struct_type ms n) [] fit = absurd fit.1
some_fields (struct_type ms n) (child ∷ below) fit = omega arith
some_fields (bool_type n) below fit = absurd fit
some_fields (int_type kind n) below fit = absurd fit
some_fields (utf8_type n) below fit = absurd fit
some_fields (list_type t n) below fit = absurd fit

pub some_children : (kind : PlanKind) (t : DataType) (below : List Node) → TypesFit kind t below → IsTrue (has_validity_of kind) → 0 < length below
some_children (kinds.Pack true) t below fit has = some_fields t below fit
some_children (kinds.Pack false) t below fit has = absurd cc
some_children (kinds.ListPack true) t [] fit has = absurd fit.0
some_children (kinds.ListPack true) t (child ∷ below) fit has = omega arith
some_children (kinds.ListPack false) t below fit has = absurd cc
some_children kinds.Concat t below fit has = absurd cc
some_children (kinds.Eval a) t below fit has = absurd cc
some_children kinds.Filter t below fit has = absurd cc
some_children kinds.Take t below fit has = absurd cc
some_children kinds.Share t below fit has = absurd cc
some_children kinds.RowIdx t below fit has = absurd cc
some_children (kinds.SegmentScan segment coding) t below fit has = absurd cc
some_children (kinds.Zoned zone_len stats) t below fit has = absurd cc
some_children (kinds.LegacyStats zone_len stats) t below fit has = absurd cc
some_children (kinds.Pruning zone_len stats proof) t below fit has = absurd cc

given_last : (has : Bool) (children : List ℕ) (o : Option PlanRef) → option_map number_of o ≡ validity_among has children → (IsTrue has → 0 < length children) → (IsSome o → IsTrue has) × (IsTrue has → IsSome o)
given_last false children None e some = (λ s. absurd cc, λ t. absurd cc)
given_last false children (Some plan) e some = absurd cc
given_last true children None e some =
    let lt : length children - 1 < length children = let h = some refl in omega arith in
    let at = slice_get-get_or children (length children - 1) 0 lt in
    absurd cc
given_last true children (Some plan) e some = (λ s. refl, λ t. refl)

pub validity_given : (nodes : List Node) → IsGoodTable nodes → (n : ℕ) → n < length nodes → (o : Option PlanRef) → option_map number_of o ≡ validity_of (node_at nodes n) → (IsSome o → IsTrue (has_validity_of (node_at nodes n).kind)) × (IsTrue (has_validity_of (node_at nodes n).kind) → IsSome o)
validity_given nodes good n known o e =
    let node : Node = node_at nodes n in
    let here : IsGoodNode nodes n node = subst (λ (o : Option Node). IfSome o (IsGoodNode nodes n)) (slice_get-get_or nodes n absent known) (good n) in
    given_last (has_validity_of node.kind) node.children o e
    (λ has. let some : 0 < length (nodes_at nodes node.children) = some_children node.kind node.dtype (nodes_at nodes node.children) (here.kept ChildTypes) has in
    omega (arith, count_at nodes node.children))
