-- How many expressions stand in an expression, itself included, and how deep they nest.
use Rattle.std.specs.Prelude.{ℕ, ◌+◌, max}
use Rattle.vx_expr.specs.Terms.{Term, root, literal, get_field, pack, negation, conjunction, disjunction, comparison, null_test, value_test, arithmetic, row_number, bound_test, Terms, no_terms, named}

abbrev mutual
  pub node_count : Term → ℕ
  node_count root = 1
  node_count (literal v t) = 1
  node_count (get_field name e) = node_count e + 1
  node_count (pack es) = nodes_in es + 1
  node_count (negation e) = node_count e + 1
  node_count (conjunction a b) = node_count a + node_count b + 1
  node_count (disjunction a b) = node_count a + node_count b + 1
  node_count (comparison op a b) = node_count a + node_count b + 1
  node_count (null_test e) = node_count e + 1
  node_count (value_test e) = node_count e + 1
  node_count (arithmetic op a b) = node_count a + node_count b + 1
  node_count row_number = 1
  node_count (bound_test e) = node_count e + 1

  pub nodes_in : Terms → ℕ
  nodes_in no_terms = 0
  nodes_in (named name e es) = node_count e + nodes_in es

-- an expression without parts has depth 1
abbrev mutual
  pub depth : Term → ℕ
  depth root = 1
  depth (literal v t) = 1
  depth (get_field name e) = depth e + 1
  depth (pack es) = greatest_depth es + 1
  depth (negation e) = depth e + 1
  depth (conjunction a b) = max (depth a) (depth b) + 1
  depth (disjunction a b) = max (depth a) (depth b) + 1
  depth (comparison op a b) = max (depth a) (depth b) + 1
  depth (null_test e) = depth e + 1
  depth (value_test e) = depth e + 1
  depth (arithmetic op a b) = max (depth a) (depth b) + 1
  depth row_number = 1
  depth (bound_test e) = depth e + 1

  pub greatest_depth : Terms → ℕ
  greatest_depth no_terms = 0
  greatest_depth (named name e es) = max (depth e) (greatest_depth es)
