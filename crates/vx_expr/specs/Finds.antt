-- What is found once of an expression over a root dtype: the places of fields and the kinds of numbers, the
-- parts of an expression before the whole and left before right.
use Rattle.std.specs.Prelude.{◌≡◌, ℕ, List, [], ◌∷◌, ◌++◌, drop, Option, Some, None, Result, Ok, Err}
use Rattle.std.specs.List.{position}
use Rattle.std.specs.Str.{bytes_eq}
use Rattle.std.specs.Prelude.{Vec}
use Rattle.std.specs.Global.{Global}
use Rattle.vx_base.specs.declared.dtypes.DType.{DType}
use Rattle.vx_base.specs.Data.{DataType, struct_type}
use Rattle.vx_base.specs.Views.{data_type, fields_in}
use Rattle.vx_expr.specs.declared.binding.BindError.{BindError}
use Rattle.vx_expr.specs.declared.found.Found.{Found}
use Rattle.vx_expr.specs.declared.found.Found.TheVariants.{Place, Kind}
use Rattle.vx_expr.specs.declared.found.Finds.{Finds}
use Rattle.vx_base.specs.Data.{Datum}
use Rattle.vx_expr.specs.declared.steps.OneStep.{OneStep}
use Rattle.vx_expr.specs.declared.steps.TwoStep.{TwoStep}
use Rattle.vx_expr.specs.Meaning.{meaning}
use Rattle.vx_expr.specs.Rows.{no_bound}
use Rattle.vx_expr.specs.Steps.{kind_in, part_of, left_of, right_of, one_made, pair_made}
use Rattle.vx_expr.specs.Refusals.{refusal, IsRefusal}
use Rattle.vx_expr.specs.Terms.{Term, root, literal, get_field, pack, negation, conjunction, disjunction, comparison, null_test, value_test, arithmetic, row_number, bound_test, Terms, no_terms, named}
use Rattle.vx_expr.specs.Types.{type_of}

-- the place of the first field of that name in a struct
abbrev pub place_found : Option DataType → List ℕ → Option ℕ
place_found (Some (struct_type ms n)) name = position (λ field. bytes_eq field.name name) (fields_in ms)
place_found t name = None

-- what is found of an expression itself, beside its parts
abbrev pub own_found : DataType → Term → List Found
own_found t (get_field name e) = Place (place_found (type_of t e) name) ∷ []
own_found t (arithmetic op a b) = Kind (kind_in (type_of t a)) ∷ []
own_found t e = []

-- what is found of an expression and its parts
abbrev mutual
  pub found_of : DataType → Term → List Found
  found_of t root = []
  found_of t (literal v s) = []
  found_of t (get_field name e) = found_of t e ++ Place (place_found (type_of t e) name) ∷ []
  found_of t (pack es) = found_in t es
  found_of t (negation e) = found_of t e
  found_of t (conjunction a b) = found_of t a ++ found_of t b
  found_of t (disjunction a b) = found_of t a ++ found_of t b
  found_of t (comparison op a b) = found_of t a ++ found_of t b
  found_of t (null_test e) = found_of t e
  found_of t (value_test e) = found_of t e
  found_of t (arithmetic op a b) = found_of t a ++ (found_of t b ++ Kind (kind_in (type_of t a)) ∷ [])
  found_of t row_number = []
  found_of t (bound_test e) = found_of t e

  pub found_in : DataType → Terms → List Found
  found_in t no_terms = []
  found_in t (named name e es) = found_of t e ++ found_in t es

-- the dtype of an expression, and what is found of it
pub record IsFound (t : DataType) (e : Term) (dtype : DataType) (found : List Found) : Type 0 where
  pub typed : type_of t e ≡ Some dtype
  pub finds : found ≡ found_of t e

-- the dtype and what is found, or why there is no dtype
abbrev pub GivesFound : DataType → Term → Result (DType × Vec Found Global) BindError → Type 0
GivesFound t e (Ok made) = IsFound t e (data_type made.0) made.1.items
GivesFound t e (Err error) = IsRefusal error (type_of t e) (refusal t e 0)

-- ---- what was found, read part by part

-- what comes from the next part on
abbrev pub coming : Finds → List Found
coming finds = drop finds.next finds.found.now

-- what is found of a part comes next
abbrev pub Starts : List Found → List Found → Type 0
Starts part found = (rest : List Found) × (found ≡ part ++ rest)

-- what is found of a part was read
abbrev pub Passes : List Found → List Found → List Found → Type 0
Passes part before after = (rest : List Found) → before ≡ part ++ rest → after ≡ rest

-- the step makes what the expression is worth of its part's value, or of both parts' values
abbrev pub MakesOne : DataType → Term → OneStep → Type 0
MakesOne t e step = (v : Datum) (n : ℕ) → one_made step t (part_of e) v n ≡ meaning t no_bound e v n

abbrev pub MakesTwo : DataType → Term → TwoStep → Type 0
MakesTwo t e step = (v : Datum) (n : ℕ) → pair_made step t (left_of e) (right_of e) v n ≡ meaning t no_bound e v n
