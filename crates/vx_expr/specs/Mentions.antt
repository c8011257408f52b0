-- What an expression looks at: the root value, the row's number, the bound, and fields of the root.
use Rattle.std.specs.Prelude.{ℕ, Bool, true, false, not, ◌||◌, ◌++◌, List, [], ◌∷◌, filter, Option, Some, None}
use Rattle.std.specs.Str.{bytes_eq}
use Rattle.vx_expr.specs.declared.mentions.Input.{Input}
use Rattle.vx_expr.specs.declared.mentions.Input.TheVariants.{Root, RowIdx, Bound}
use Rattle.vx_expr.specs.Terms.{Term, root, literal, get_field, pack, negation, conjunction, disjunction, comparison, null_test, value_test, arithmetic, row_number, bound_test, Terms, no_terms, named}
use Rattle.vx_expr.specs.Types.{on_both}

abbrev pub is_root_input : Input → Bool
is_root_input Root = true
is_root_input input = false

abbrev pub is_row_input : Input → Bool
is_row_input RowIdx = true
is_row_input input = false

abbrev pub is_bound_input : Input → Bool
is_bound_input Bound = true
is_bound_input input = false

-- whether the input occurs
abbrev mutual
  pub mentions : Input → Term → Bool
  mentions input root = is_root_input input
  mentions input (literal v t) = false
  mentions input (get_field name e) = mentions input e
  mentions input (pack es) = mentions_in input es
  mentions input (negation e) = mentions input e
  mentions input (conjunction a b) = mentions input a || mentions input b
  mentions input (disjunction a b) = mentions input a || mentions input b
  mentions input (comparison op a b) = mentions input a || mentions input b
  mentions input (null_test e) = mentions input e
  mentions input (value_test e) = mentions input e
  mentions input (arithmetic op a b) = mentions input a || mentions input b
  mentions input row_number = is_row_input input
  mentions input (bound_test e) = is_bound_input input || mentions input e

  pub mentions_in : Input → Terms → Bool
  mentions_in input no_terms = false
  mentions_in input (named name e es) = mentions input e || mentions_in input es

abbrev pub uses_root : Term → Bool
uses_root e = mentions Root e

abbrev pub uses_row_number : Term → Bool
uses_row_number e = mentions RowIdx e

abbrev pub uses_bound : Term → Bool
uses_bound e = mentions Bound e

abbrev pub is_root : Term → Bool
is_root root = true
is_root e = false

-- ---- fields of the root

abbrev pub joined : List (List ℕ) → List (List ℕ) → Option (List (List ℕ))
joined names more = Some (names ++ more)

-- the name got from a root, else what an operand gets
abbrev pub got_from : List ℕ → Term → Option (List (List ℕ)) → Option (List (List ℕ))
got_from name root names = Some (name ∷ [])
got_from name e names = names

-- The names that are got from the root, one for each time, from left to right. None where the root occurs
-- bare, other than as the operand of a got field.
abbrev mutual
  pub root_fields : Term → Option (List (List ℕ))
  root_fields root = None
  root_fields (literal v t) = Some []
  root_fields (get_field name e) = got_from name e (root_fields e)
  root_fields (pack es) = root_fields_in es
  root_fields (negation e) = root_fields e
  root_fields (conjunction a b) = on_both joined (root_fields a) (root_fields b)
  root_fields (disjunction a b) = on_both joined (root_fields a) (root_fields b)
  root_fields (comparison op a b) = on_both joined (root_fields a) (root_fields b)
  root_fields (null_test e) = root_fields e
  root_fields (value_test e) = root_fields e
  root_fields (arithmetic op a b) = on_both joined (root_fields a) (root_fields b)
  root_fields row_number = Some []
  root_fields (bound_test e) = root_fields e

  pub root_fields_in : Terms → Option (List (List ℕ))
  root_fields_in no_terms = Some []
  root_fields_in (named name e es) = on_both joined (root_fields e) (root_fields_in es)

-- each of the names once, where it comes first
abbrev pub first_ones : List (List ℕ) → List (List ℕ)
first_ones [] = []
first_ones (name ∷ names) = name ∷ filter (λ other. not (bytes_eq other name)) (first_ones names)
