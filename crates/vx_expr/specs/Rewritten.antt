-- Expressions with other expressions in the place of the root and of the row's number.
use Rattle.std.specs.Prelude.{codes, ℕ, List}
use Rattle.vx_base.specs.Data.{DataType, struct_type, no_members, member}
use Rattle.vx_base.specs.declared.dtypes.Nullability.TheVariants.{NonNullable}
use Rattle.vx_expr.specs.declared.rewriting.Leaves.{Leaves}
use Rattle.vx_expr.specs.declared.rewriting.Leaves.TheVariants.{Same, RowIdxAsRoot, OverRowIdx}
use Rattle.vx_expr.specs.Bound.{Bound}
use Rattle.vx_expr.specs.Terms.{Term, root, literal, get_field, pack, negation, conjunction, disjunction, comparison, null_test, value_test, arithmetic, row_number, bound_test, Terms, no_terms, named}
use Rattle.vx_expr.specs.Types.{row_number_type}

-- the names of the two fields
abbrev pub row_idx_name : List ℕ
row_idx_name = codes "row_idx"

abbrev pub child_name : List ℕ
child_name = codes "child"

-- the struct of a row's number and its root value
abbrev pub with_row_number : DataType → DataType
with_row_number t = struct_type (member row_idx_name row_number_type (member child_name t no_members)) NonNullable

-- what stands in the place of the root, and of the row's number
abbrev pub root_in : Leaves → Term
root_in Same = root
root_in RowIdxAsRoot = root
root_in OverRowIdx = get_field child_name root

abbrev pub row_number_in : Leaves → Term
row_number_in Same = row_number
row_number_in RowIdxAsRoot = root
row_number_in OverRowIdx = get_field row_idx_name root

abbrev mutual
  pub rewritten : Leaves → Term → Term
  rewritten leaves root = root_in leaves
  rewritten leaves (literal v t) = literal v t
  rewritten leaves (get_field name e) = get_field name (rewritten leaves e)
  rewritten leaves (pack es) = pack (rewritten_in leaves es)
  rewritten leaves (negation e) = negation (rewritten leaves e)
  rewritten leaves (conjunction a b) = conjunction (rewritten leaves a) (rewritten leaves b)
  rewritten leaves (disjunction a b) = disjunction (rewritten leaves a) (rewritten leaves b)
  rewritten leaves (comparison op a b) = comparison op (rewritten leaves a) (rewritten leaves b)
  rewritten leaves (null_test e) = null_test (rewritten leaves e)
  rewritten leaves (value_test e) = value_test (rewritten leaves e)
  rewritten leaves (arithmetic op a b) = arithmetic op (rewritten leaves a) (rewritten leaves b)
  rewritten leaves row_number = row_number_in leaves
  rewritten leaves (bound_test e) = bound_test (rewritten leaves e)

  pub rewritten_in : Leaves → Terms → Terms
  rewritten_in leaves no_terms = no_terms
  rewritten_in leaves (named name e es) = named name (rewritten leaves e) (rewritten_in leaves es)

-- a bound expression with the root in the place of the row's number, and one over a struct of both
abbrev pub row_number_as_root : Bound → Bound
row_number_as_root a = record { term = rewritten RowIdxAsRoot a.term; root = row_number_type; dtype = a.dtype }

abbrev pub over_row_number : Bound → Bound
over_row_number a = record { term = rewritten OverRowIdx a.term; root = with_row_number a.root; dtype = a.dtype }
