-- What is made of the rows of columns, before it is seen as data.
use Rattle.std.specs.Prelude.{◌≡◌, ℕ, ℤ, int_le, Bool, ◌&&◌, if◌then◌else◌, List, [], ◌∷◌, Option, Some, None, option_map, option_and_then}
use Rattle.std.specs.Ordering.{int_cmp, nat_cmp, bool_cmp}
use Rattle.std.specs.Cmp.Lexicographic.{slice_cmp}
use Rattle.vx_types.specs.declared.dtypes.IntKind.{IntKind}
use Rattle.vx_types.specs.Data.{Datum, null}
use Rattle.vx_types.specs.Fits.{least_of, greatest_of}
use Rattle.vx_operators.specs.declared.operators.ArithOp.{ArithOp}
use Rattle.vx_operators.specs.declared.operators.CompareOp.{CompareOp}
use Rattle.vx_operators.specs.declared.operators.CompareOp.TheVariants.{Eq, Ne, Lt, Le, Gt, Ge}
use Rattle.vx_operators.specs.Operators.{exact, holds}

-- the number, where it lies inside the kind
abbrev pub inside : IntKind → ℤ → Option ℤ
inside kind z = if int_le (least_of kind) z && int_le z (greatest_of kind) then Some z else None

-- the exact result, where there is one and it lies inside the kind
abbrev pub exact_inside : IntKind → ArithOp → ℤ → ℤ → Option ℤ
exact_inside kind op x y = option_and_then (inside kind) (exact op x y)

-- whether two numbers compare as the operator asks
abbrev pub compares : CompareOp → ℤ → ℤ → Bool
compares op x y = holds op (int_cmp x y)

-- the same of two texts, by their bytes
abbrev pub compares_text : CompareOp → List ℕ → List ℕ → Bool
compares_text op a b = holds op (slice_cmp nat_cmp a b)

-- the same of two truth values: false stands before true
abbrev pub compares_truth : CompareOp → Bool → Bool → Bool
compares_truth op a b = holds op (bool_cmp a b)

-- of an operator and its opposite the one that no value meets beside itself
abbrev pub strict_of : CompareOp → CompareOp
strict_of Eq = Ne
strict_of Ne = Ne
strict_of Lt = Lt
strict_of Le = Gt
strict_of Gt = Gt
strict_of Ge = Lt

abbrev pub compared_text : CompareOp → List ℕ → List ℕ → Option Bool
compared_text op a b = Some (compares_text op a b)

abbrev pub compared_truth : CompareOp → Bool → Bool → Option Bool
compared_truth op a b = Some (compares_truth op a b)

abbrev pub compared : CompareOp → ℤ → ℤ → Option Bool
compared op x y = Some (compares op x y)

-- what an operation makes of the values of each row that is valid, and the blank of all others. None is a
-- fault.
abbrev pub of_two : {X Y Z : Type 0} → (X → Y → Option Z) → Z → List Bool → List X → List Y → List (Option Z)
of_two op blank [] xs ys = []
of_two op blank (valid ∷ mask) [] ys = []
of_two op blank (valid ∷ mask) (x ∷ xs) [] = []
of_two op blank (valid ∷ mask) (x ∷ xs) (y ∷ ys) = (if valid then op x y else Some blank) ∷ of_two op blank mask xs ys

-- an operation on values is what a step does with them as data: null where one is null
pub record LiftsTwo {X Y Z : Type 0} (seen : X → Datum) (other : Y → Datum) (made : Z → Datum) (op : X → Y → Option Z) (step : Datum → Datum → Option Datum) : Type 0 where
  pub none : (w : Datum) → step null w ≡ Some null
  pub left : (v : Datum) → step v null ≡ Some null
  pub values : (x : X) (y : Y) → step (seen x) (other y) ≡ option_map made (op x y)
