-- A good tree is sound, and the names in its dtype are distinct.
use Rattle.std.proofs.Common.{◌≡◌, List, Option, Some, None, refl, sym, subst}
use Rattle.std.specs.Prelude.{IsSome, IsSomeAnd}
use Rattle.std.specs.List.{slice_get}
use Rattle.vx_base.specs.Names.{HasDistinctNames}
use Rattle.vx_expr.specs.Types.{type_of}
use Rattle.vx_layout.specs.declared.rules.ShapeRule.TheVariants.{DistinctNames}
use Rattle.vx_layout.specs.Nodes.{Node}
use Rattle.vx_layout.specs.Shape.{IsGoodTree}
use Rattle.vx_layout.specs.Sound.{IsSound}
use Rattle.vx_rows.specs.Heads.{Head}
use Rattle.vx_layout.specs.Trees.{Tree, head_of, subtree}
use Rattle.vx_layout.proofs.Ruled.{good_sound}
use Rattle.vx_layout.proofs.Unfolding.{good_later, head_of_subtree}
use Rattle.vx_lower.specs.Planned.{CanBePlanned}
use Rattle.vx_lower.specs.Projected.{Projection}

distinct_by : (nodes : List Node) → IsGoodTree nodes → (o : Option Node) → slice_get nodes 0 ≡ o → IsSomeAnd o (λ node. HasDistinctNames node.dtype) → HasDistinctNames (head_of (subtree nodes 0)).dtype
distinct_by nodes good None at distinct = absurd distinct
distinct_by nodes good (Some node) at distinct = subst (λ (head : Head). HasDistinctNames head.dtype) (sym (head_of_subtree nodes (good_later nodes good) 0 node at)) distinct

pub good_distinct : (nodes : List Node) → IsGoodTree nodes → HasDistinctNames (head_of (subtree nodes 0)).dtype
good_distinct nodes good = distinct_by nodes good (slice_get nodes 0) refl (good.kept DistinctNames 0 good.nonempty)

pub can_be_planned : (nodes : List Node) (p : Projection) → IsGoodTree nodes → p.root ≡ subtree nodes 0 → IsSome (type_of (head_of p.root).dtype p.expression.term) → CanBePlanned p
can_be_planned nodes p good is bound = record {
  sound = subst IsSound (sym is) (good_sound nodes good 0 good.nonempty);
  distinct = subst (λ (t : Tree). HasDistinctNames (head_of t).dtype) (sym is) (good_distinct nodes good);
  bound = bound;
}
