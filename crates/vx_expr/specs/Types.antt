-- The dtype of an expression over a root dtype, where it has one.
use Rattle.std.specs.Prelude.{ℕ, Bool, true, false, if◌then◌else◌, List, [], ◌∷◌, Option, Some, None, option_map, option_and_then}
use Rattle.std.specs.Str.{bytes_eq}
use Rattle.vx_base.specs.declared.dtypes.IntKind.{IntKind}
use Rattle.vx_base.specs.declared.dtypes.IntKind.TheVariants.{U8, U16, U32, U64, I8, I16, I32, I64}
use Rattle.vx_base.specs.declared.dtypes.Nullability.{Nullability}
use Rattle.vx_base.specs.declared.dtypes.Nullability.TheVariants.{NonNullable, Nullable}
use Rattle.vx_base.specs.Data.{DataType, bool_type, int_type, utf8_type, struct_type, Members, no_members, member, Datum}
use Rattle.vx_base.specs.ColumnCalls.{nullable_where}
use Rattle.vx_base.specs.Names.{are_distinct}
use Rattle.vx_base.specs.Reading.{fits_leaf}
use Rattle.vx_expr.specs.Terms.{Term, root, literal, get_field, pack, negation, conjunction, disjunction, comparison, null_test, value_test, arithmetic, row_number, bound_test, Terms, no_terms, named}

-- what two options give together, where both are there
abbrev pub on_both : {A B C : Type 0} → (A → B → Option C) → Option A → Option B → Option C
on_both f None y = None
on_both f (Some x) None = None
on_both f (Some x) (Some y) = f x y

-- nullable where one of the two is
abbrev pub either_nullable : Nullability → Nullability → Nullability
either_nullable NonNullable n = n
either_nullable Nullable n = Nullable

abbrev pub is_kind : IntKind → IntKind → Bool
is_kind U8 U8 = true
is_kind U16 U16 = true
is_kind U32 U32 = true
is_kind U64 U64 = true
is_kind I8 I8 = true
is_kind I16 I16 = true
is_kind I32 I32 = true
is_kind I64 I64 = true
is_kind kind other = false

-- ---- the rule of each form

-- a literal has a leaf dtype that its value fits
abbrev pub literal_type : Datum → DataType → Option DataType
literal_type v t = if fits_leaf t v then Some t else None

-- the dtype of the first of the members that has the name
abbrev pub type_in : Members → List ℕ → Option DataType
type_in no_members name = None
type_in (member other t ms) name = if bytes_eq other name then Some t else type_in ms name

-- a field of a nullable struct is nullable
abbrev pub field_type : List ℕ → DataType → Option DataType
field_type name (struct_type ms n) = option_map (nullable_where n) (type_in ms name)
field_type name t = None

-- a struct takes no nulls, and its names are distinct
abbrev pub pack_type : List (List ℕ) → Members → Option DataType
pack_type names ms = if are_distinct names then Some (struct_type ms NonNullable) else None

abbrev pub negation_type : DataType → Option DataType
negation_type (bool_type n) = Some (bool_type n)
negation_type t = None

abbrev pub logic_type : DataType → DataType → Option DataType
logic_type (bool_type n) (bool_type m) = Some (bool_type (either_nullable n m))
logic_type s t = None

-- two truth values, two numbers of one kind, or two texts
abbrev pub comparison_type : DataType → DataType → Option DataType
comparison_type (bool_type n) (bool_type m) = Some (bool_type (either_nullable n m))
comparison_type (int_type kind n) (int_type other m) = if is_kind kind other then Some (bool_type (either_nullable n m)) else None
comparison_type (utf8_type n) (utf8_type m) = Some (bool_type (either_nullable n m))
comparison_type s t = None

abbrev pub arithmetic_type : DataType → DataType → Option DataType
arithmetic_type (int_type kind n) (int_type other m) = if is_kind kind other then Some (int_type kind (either_nullable n m)) else None
arithmetic_type s t = None

abbrev pub test_type : DataType → Option DataType
test_type t = Some (bool_type NonNullable)

abbrev pub bound_test_type : DataType → Option DataType
bound_test_type (int_type U64 n) = Some (bool_type n)
bound_test_type t = None

abbrev pub row_number_type : DataType
row_number_type = int_type U64 NonNullable

-- ---- expressions

abbrev pub names_in : Terms → List (List ℕ)
names_in no_terms = []
names_in (named name e es) = name ∷ names_in es

abbrev pub one_more_member : List ℕ → DataType → Members → Option Members
one_more_member name t ms = Some (member name t ms)

abbrev mutual
  pub type_of : DataType → Term → Option DataType
  type_of t root = Some t
  type_of t (literal v s) = literal_type v s
  type_of t (get_field name e) = option_and_then (field_type name) (type_of t e)
  type_of t (pack es) = option_and_then (pack_type (names_in es)) (types_in t es)
  type_of t (negation e) = option_and_then negation_type (type_of t e)
  type_of t (conjunction a b) = on_both logic_type (type_of t a) (type_of t b)
  type_of t (disjunction a b) = on_both logic_type (type_of t a) (type_of t b)
  type_of t (comparison op a b) = on_both comparison_type (type_of t a) (type_of t b)
  type_of t (null_test e) = option_and_then test_type (type_of t e)
  type_of t (value_test e) = option_and_then test_type (type_of t e)
  type_of t (arithmetic op a b) = on_both arithmetic_type (type_of t a) (type_of t b)
  type_of t row_number = Some row_number_type
  type_of t (bound_test e) = option_and_then bound_test_type (type_of t e)

  -- the members of a struct of the named expressions
  pub types_in : DataType → Terms → Option Members
  types_in t no_terms = Some no_members
  types_in t (named name e es) = on_both (one_more_member name) (type_of t e) (types_in t es)
