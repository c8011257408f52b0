-- Which part of an expression without a dtype is told: the first that breaks the rule of its form, where
-- the parts of a part are tried before it, and left before right. It is named by its place in the list of
-- the expression and all of its parts, counted from 0, each before its own parts.
use Rattle.std.specs.Prelude.{◌≡◌, ℕ, ◌+◌, ◌<◌, ◌≤◌, List, [], ◌∷◌, ◌++◌, drop, slice_get, Option, Some, None, IsSome, Result, Ok, Err}
use Rattle.std.specs.List.{AllByRecursion}
use Rattle.vx_base.specs.Data.{DataType, struct_type}
use Rattle.vx_expr.specs.declared.binding.BindError.{BindError}
use Rattle.vx_expr.specs.declared.binding.BindError.TheVariants.{NoField, TypeMismatch, TooDeep, Memory}
use Rattle.vx_expr.specs.Bound.{Bound}
use Rattle.vx_expr.specs.Counts.{node_count, depth}
use Rattle.vx_expr.specs.Refusals.{capped}
use Rattle.vx_expr.specs.Terms.{Term, root, literal, get_field, pack, negation, conjunction, disjunction, comparison, null_test, value_test, arithmetic, row_number, bound_test, Terms, no_terms, named}
use Rattle.vx_expr.specs.Types.{type_of}

-- an expression, and behind it its parts from left to right
abbrev mutual
  pub parts_in_preorder : Term → List Term
  parts_in_preorder root = root ∷ []
  parts_in_preorder (literal v t) = literal v t ∷ []
  parts_in_preorder (get_field name e) = get_field name e ∷ parts_in_preorder e
  parts_in_preorder (pack es) = pack es ∷ parts_of_all es
  parts_in_preorder (negation e) = negation e ∷ parts_in_preorder e
  parts_in_preorder (conjunction a b) = conjunction a b ∷ (parts_in_preorder a ++ parts_in_preorder b)
  parts_in_preorder (disjunction a b) = disjunction a b ∷ (parts_in_preorder a ++ parts_in_preorder b)
  parts_in_preorder (comparison op a b) = comparison op a b ∷ (parts_in_preorder a ++ parts_in_preorder b)
  parts_in_preorder (null_test e) = null_test e ∷ parts_in_preorder e
  parts_in_preorder (value_test e) = value_test e ∷ parts_in_preorder e
  parts_in_preorder (arithmetic op a b) = arithmetic op a b ∷ (parts_in_preorder a ++ parts_in_preorder b)
  parts_in_preorder row_number = row_number ∷ []
  parts_in_preorder (bound_test e) = bound_test e ∷ parts_in_preorder e

  pub parts_of_all : Terms → List Term
  parts_of_all no_terms = []
  parts_of_all (named name e es) = parts_in_preorder e ++ parts_of_all es

-- over this root dtype it has a dtype
abbrev pub HasType : DataType → Term → Type 0
HasType t e = IsSome (type_of t e)

-- The part at the place is the first without a dtype. A part ends where those that stand in it do: it is as
-- many places long as it has parts, itself included.
pub record IsFirstMismatch (t : DataType) (parts : List Term) (place : ℕ) (part : Term) : Type 0 where
  pub here : slice_get parts place ≡ Some part
  pub mismatch : type_of t part ≡ None
  -- each part of it has a dtype
  pub own_parts : AllByRecursion (HasType t) (drop 1 (parts_in_preorder part))
  -- each part that ends before it has one
  pub earlier : (other : ℕ) (before : Term) → slice_get parts other ≡ Some before → other + node_count before ≤ place → HasType t before

-- the field that a part gets from a struct
abbrev pub wanted_of : List ℕ → Option DataType → Option (List ℕ)
wanted_of name (Some (struct_type ms n)) = Some name
wanted_of name t = None

abbrev pub wanted_field : DataType → Term → Option (List ℕ)
wanted_field t (get_field name e) = wanted_of name (type_of t e)
wanted_field t e = None

-- how deep an expression may nest to be bound
abbrev pub deepest : ℕ
deepest = 64

-- What binding an expression to a root dtype gives: too great a depth comes first, then the first part
-- without a dtype, by the field that its struct lacks, else by its place.
abbrev pub BindGives : DataType → Term → Result Bound BindError → Type 0
BindGives t e (Ok bound) = (depth e ≤ deepest) × (bound.term ≡ e) × (bound.root ≡ t) × (type_of t e ≡ Some bound.dtype)
BindGives t e (Err TooDeep) = deepest < depth e
BindGives t e (Err Memory) = depth e ≤ deepest
BindGives t e (Err (NoField name)) = (depth e ≤ deepest) × (type_of t e ≡ None)
    × ((place : ℕ) × (part : Term) × IsFirstMismatch t (parts_in_preorder e) place part × (wanted_field t part ≡ Some name))
BindGives t e (Err (TypeMismatch told)) = (depth e ≤ deepest) × (type_of t e ≡ None)
    × ((place : ℕ) × (part : Term) × IsFirstMismatch t (parts_in_preorder e) place part × (wanted_field t part ≡ None) × (told ≡ capped place))
