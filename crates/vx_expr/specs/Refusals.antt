-- The refusal of an expression without a dtype, by the walk that types it: parts before the whole, and left
-- before right. A part is named by its number, counted from 0, the whole before its parts.
use Rattle.std.specs.Prelude.{◌≡◌, ℕ, ◌+◌, ◌-◌, ◌^◌, min, List, Option, Some, None}
use Rattle.vx_base.specs.Data.{DataType, struct_type}
use Rattle.vx_expr.specs.declared.binding.BindError.{BindError}
use Rattle.vx_expr.specs.declared.binding.BindError.TheVariants.{NoField, TypeMismatch, TooDeep, Memory}
use Rattle.vx_expr.specs.Counts.{node_count}
use Rattle.vx_expr.specs.Terms.{Term, root, literal, get_field, pack, negation, conjunction, disjunction, comparison, null_test, value_test, arithmetic, row_number, bound_test, Terms, no_terms, named}
use Rattle.vx_expr.specs.Types.{type_of}

-- a number that stands still at the end of its type
abbrev pub capped : ℕ → ℕ
capped n = min n (2 ^ 64 - 1)

-- the number of the first part of an expression, and of the part behind another one
abbrev pub first_part : ℕ → ℕ
first_part n = capped (n + 1)

abbrev pub behind : ℕ → Term → ℕ
behind n e = capped (n + node_count e)

-- the refusal of a part that has no dtype, else that of the rest
abbrev pub unless : Option DataType → BindError → BindError → BindError
unless None part rest = part
unless (Some t) part rest = rest

-- a struct lacks the field, and anything else has no fields
abbrev pub field_refusal : List ℕ → ℕ → Option DataType → BindError
field_refusal name n (Some (struct_type ms m)) = NoField name
field_refusal name n t = TypeMismatch n

-- why an expression without a dtype, which has number n, has none
abbrev mutual
  pub refusal : DataType → Term → ℕ → BindError
  refusal t root n = TypeMismatch n
  refusal t (literal v s) n = TypeMismatch n
  refusal t (get_field name e) n = unless (type_of t e) (refusal t e (first_part n)) (field_refusal name n (type_of t e))
  refusal t (pack es) n = refusal_in t es (first_part n) (TypeMismatch n)
  refusal t (negation e) n = unless (type_of t e) (refusal t e (first_part n)) (TypeMismatch n)
  refusal t (conjunction a b) n = unless (type_of t a) (refusal t a (first_part n)) (unless (type_of t b) (refusal t b (behind (first_part n) a)) (TypeMismatch n))
  refusal t (disjunction a b) n = unless (type_of t a) (refusal t a (first_part n)) (unless (type_of t b) (refusal t b (behind (first_part n) a)) (TypeMismatch n))
  refusal t (comparison op a b) n = unless (type_of t a) (refusal t a (first_part n)) (unless (type_of t b) (refusal t b (behind (first_part n) a)) (TypeMismatch n))
  refusal t (null_test e) n = unless (type_of t e) (refusal t e (first_part n)) (TypeMismatch n)
  refusal t (value_test e) n = unless (type_of t e) (refusal t e (first_part n)) (TypeMismatch n)
  refusal t (arithmetic op a b) n = unless (type_of t a) (refusal t a (first_part n)) (unless (type_of t b) (refusal t b (behind (first_part n) a)) (TypeMismatch n))
  refusal t row_number n = TypeMismatch n
  refusal t (bound_test e) n = unless (type_of t e) (refusal t e (first_part n)) (TypeMismatch n)

  -- the first refusal among named expressions, else the last one
  pub refusal_in : DataType → Terms → ℕ → BindError → BindError
  refusal_in t no_terms n last = last
  refusal_in t (named name e es) n last = unless (type_of t e) (refusal t e n) (refusal_in t es (behind n e) last)

-- The answer is the refusal that is expected where nothing was found; memory may run out before.
abbrev pub IsRefusal : {A : Type 0} → BindError → Option A → BindError → Type 0
IsRefusal Memory found expected = Unit {0}
IsRefusal TooDeep found expected = ⊥
IsRefusal (NoField name) found expected = (found ≡ None) × (expected ≡ NoField name)
IsRefusal (TypeMismatch place) found expected = (found ≡ None) × (expected ≡ TypeMismatch place)
