-- The data that an expression in memory stands for.
use Rattle.std.specs.Prelude.{ℕ, List, [], ◌∷◌}
use Rattle.vx_base.specs.Views.{data_type}
use Rattle.vx_base.specs.ValueViews.{datum}
use Rattle.vx_expr.specs.declared.expressions.Expr.{Expr}
use Rattle.vx_expr.specs.declared.expressions.Expr.TheVariants as variants
use Rattle.vx_expr.specs.Terms.{Term, root, literal, get_field, pack, negation, conjunction, disjunction, comparison, null_test, value_test, arithmetic, row_number, bound_test, Terms, no_terms, named}

abbrev pub term : Expr → Term
term variants.Root = root
term (variants.Lit v t) = literal (datum v) (data_type t)
term (variants.GetField name e) = get_field name e
term (variants.Pack es) = pack es
term (variants.Not e) = negation e
term (variants.And a b) = conjunction a b
term (variants.Or a b) = disjunction a b
term (variants.Compare op a b) = comparison op a b
term (variants.IsNull e) = null_test e
term (variants.IsNotNull e) = value_test e
term (variants.Arith op a b) = arithmetic op a b
term variants.RowIdx = row_number
term (variants.AtMostBound e) = bound_test e

-- the named expressions that these pairs are, in order
abbrev pub terms_of : List (List ℕ × Expr) → Terms
terms_of [] = no_terms
terms_of (pair ∷ pairs) = named pair.0 (term pair.1) (terms_of pairs)
