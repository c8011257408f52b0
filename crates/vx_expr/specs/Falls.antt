-- Each part of an expression has fewer expressions in it than the whole.
use Rattle.std.specs.Prelude.{ℕ, ◌≤◌, List, [], ◌∷◌}
use Rattle.std.proofs.Common.{arith, Vec, Global}
use denote.Param.Weighed.{most}
use Rattle.vx_expr.specs.declared.expressions.Expr.{Expr}
use Rattle.vx_expr.specs.declared.expressions.Expr.TheVariants as variants
use Rattle.vx_expr.specs.declared.expressions.NamedExprs.TheDeep.{deep-Expr}
use Rattle.vx_expr.specs.declared.expressions.Expr.TheVariants.{the_data}
use Rattle.vx_expr.specs.declared.expressions.NamedExprs.TheShapes.{weighed-NamedExprs-items, weighed-NamedExprs-items-at-2}
use Rattle.vx_expr.specs.Counts.{node_count, nodes_in}
use Rattle.vx_expr.specs.TermViews.{term, terms_of}

pub deep_le_count : (e : Expr) → deep-Expr e ≤ node_count (term e)
deep_le_count variants.Root = omega arith
deep_le_count (variants.Lit v t) = omega arith
deep_le_count (variants.GetField name e) = omega arith
deep_le_count (variants.Pack es) = omega arith
deep_le_count (variants.Not e) = omega arith
deep_le_count (variants.And a b) = omega arith
deep_le_count (variants.Or a b) = omega arith
deep_le_count (variants.Compare op a b) = omega arith
deep_le_count (variants.IsNull e) = omega arith
deep_le_count (variants.IsNotNull e) = omega arith
deep_le_count (variants.Arith op a b) = omega arith
deep_le_count variants.RowIdx = omega arith
deep_le_count (variants.AtMostBound e) = omega arith

most_of_pairs : (pairs : List (List ℕ × Expr)) → most (weighed-NamedExprs-items-at-2.weight the_data deep-Expr) pairs ≤ nodes_in (terms_of pairs)
most_of_pairs [] = omega arith
most_of_pairs (pair ∷ pairs) = omega (arith, most_of_pairs pairs, deep_le_count pair.1)

pub most_le_nodes : (v : Vec (List ℕ × Expr) Global) → weighed-NamedExprs-items.weight the_data deep-Expr v ≤ nodes_in (terms_of v.items)
most_le_nodes v = most_of_pairs v.items
