-- What the typing of an expression answers.
use Rattle.std.specs.Prelude.{◌≡◌, ℕ, List, Option, Some, None, Result, Ok, Err}
use Rattle.vx_base.specs.Data.{DataType, Members}
use Rattle.vx_base.specs.Views.{data_type}
use Rattle.vx_expr.specs.declared.binding.BindError.{BindError}
use Rattle.vx_expr.specs.declared.binding.BindError.TheVariants.{TypeMismatch}
use Rattle.vx_expr.specs.declared.typing.Typed.{Typed}
use Rattle.vx_expr.specs.declared.typing.Typed.TheVariants.{Borrowed, Owned}
use Rattle.vx_expr.specs.Refusals.{unless, behind, refusal, refusal_in, field_refusal, IsRefusal}
use Rattle.vx_expr.specs.Terms.{Term, get_field, negation, conjunction, disjunction, comparison, null_test, value_test, arithmetic, bound_test, Terms}
use Rattle.vx_expr.specs.Types.{on_both, type_of, types_in, field_type, pack_type, negation_type, test_type, logic_type, comparison_type, arithmetic_type, bound_test_type}

abbrev pub typed_data : Typed → DataType
typed_data (Borrowed dtype) = data_type dtype.now
typed_data (Owned dtype) = data_type dtype

-- the dtype, or a mismatch at the place
abbrev pub GivesOr : Option DataType → ℕ → Result Typed BindError → Type 0
GivesOr (Some t) place (Ok typed) = typed_data typed ≡ t
GivesOr (Some t) place (Err error) = ⊥
GivesOr None place (Ok typed) = ⊥
GivesOr None place (Err error) = error ≡ TypeMismatch place

-- the dtype of an expression that has number n, or why it has none
abbrev pub GivesType : DataType → Term → ℕ → Result Typed BindError → Type 0
GivesType t e n (Ok typed) = type_of t e ≡ Some (typed_data typed)
GivesType t e n (Err error) = IsRefusal error (type_of t e) (refusal t e n)

-- the dtypes of two expressions that follow each other, the first of which has number n
abbrev pub GivesPair : DataType → Term → Term → ℕ → Result (Typed × Typed) BindError → Type 0
GivesPair t a b n (Ok pair) = (type_of t a ≡ Some (typed_data pair.0)) × (type_of t b ≡ Some (typed_data pair.1))
GivesPair t a b n (Err error) = (f : DataType → DataType → Option DataType) (rest : BindError) → IsRefusal error (on_both f (type_of t a) (type_of t b)) (unless (type_of t a) (refusal t a n) (unless (type_of t b) (refusal t b (behind n a)) rest))

-- the members of a struct of named expressions, the first of which has number n
abbrev pub GivesMembers : DataType → Terms → ℕ → Result Members BindError → Type 0
GivesMembers t es n (Ok ms) = types_in t es ≡ Some ms
GivesMembers t es n (Err error) = (last : BindError) → IsRefusal error (types_in t es) (refusal_in t es n last)

-- the dtype of a field, got by an expression that has number n
abbrev pub GivesField : DataType → List ℕ → ℕ → Result Typed BindError → Type 0
GivesField t name n (Ok typed) = field_type name t ≡ Some (typed_data typed)
GivesField t name n (Err error) = IsRefusal error (field_type name t) (field_refusal name n (Some t))

-- the struct of the members, or a mismatch at the place
abbrev pub GivesPack : List (List ℕ) → Members → ℕ → Result Typed BindError → Type 0
GivesPack names ms place (Ok typed) = pack_type names ms ≡ Some (typed_data typed)
GivesPack names ms place (Err error) = IsRefusal error (pack_type names ms) (TypeMismatch place)

-- the dtype of an expression of two parts, by theirs
abbrev pub pair_type : Term → DataType → DataType → Option DataType
pair_type (conjunction a b) s t = logic_type s t
pair_type (disjunction a b) s t = logic_type s t
pair_type (comparison op a b) s t = comparison_type s t
pair_type (arithmetic op a b) s t = arithmetic_type s t
pair_type e s t = None

-- the dtype of an expression of two parts, by theirs, or a mismatch at the place
abbrev pub GivesJoined : Term → DataType → DataType → ℕ → Result Typed BindError → Type 0
GivesJoined e s t place (Ok typed) = pair_type e s t ≡ Some (typed_data typed)
GivesJoined e s t place (Err error) = IsRefusal error (pair_type e s t) (TypeMismatch place)

-- the dtype of an expression of one part, by that part's, and why it has none
abbrev pub derived_type : Term → DataType → Option DataType
derived_type (get_field name e) t = field_type name t
derived_type (negation e) t = negation_type t
derived_type (null_test e) t = test_type t
derived_type (value_test e) t = test_type t
derived_type (bound_test e) t = bound_test_type t
derived_type e t = None

abbrev pub derived_refusal : Term → DataType → ℕ → BindError
derived_refusal (get_field name e) t n = field_refusal name n (Some t)
derived_refusal e t n = TypeMismatch n

abbrev pub GivesDerived : Term → DataType → ℕ → Result Typed BindError → Type 0
GivesDerived e t n (Ok typed) = derived_type e t ≡ Some (typed_data typed)
GivesDerived e t n (Err error) = IsRefusal error (derived_type e t) (derived_refusal e t n)
