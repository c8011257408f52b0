-- An operation on the values of columns is the step that the meaning takes at each row: proved once, for
-- all operators and all sorts of values.
use Rattle.std.proofs.Common.{◌≡◌, ℤ, int_le, Bool, true, false, ◌&&◌, cond, List, [], ◌∷◌, length, map, Option, Some, None, option_map, option_and_then, refl, ap, ◌∙◌, arith}
use Rattle.vx_types.specs.declared.dtypes.IntKind.{IntKind}
use Rattle.vx_types.specs.declared.dtypes.Nullability.{Nullability}
use Rattle.vx_types.specs.Data.{Datum, null, number, truth, text, structure, int_type}
use Rattle.vx_types.specs.Fits.{least_of, greatest_of}
use Rattle.vx_masks.specs.Masks.{both}
use Rattle.vx_types.specs.Slots.{where_valid}
use Rattle.vx_masks.specs.Rows.{NullsHold}
use Rattle.vx_operators.specs.declared.operators.ArithOp.{ArithOp}
use Rattle.vx_operators.specs.declared.operators.CompareOp.{CompareOp}
use Rattle.vx_operators.specs.Operators.{comparison_of, arithmetic_of, exact, if_inside}
use Rattle.vx_operators.specs.Rows.{along, front}
use Rattle.vx_operators.specs.Kernels.{LiftsTwo, of_two, compared, compared_text, compared_truth, inside, exact_inside}

-- ---- the rows of two columns
pub lifted_two : {X Y Z : Type 0} (seen : X → Datum) (other : Y → Datum) (made : Z → Datum) (op : X → Y → Option Z) (step : Datum → Datum → Option Datum) (blank : Z) → LiftsTwo seen other made op step →
    (ml mr : List Bool) (xs : List X) (ys : List Y) → length ml ≡ length xs → length mr ≡ length ys →
    front (along step (where_valid ml (map seen xs)) (where_valid mr (map other ys))) ≡ where_valid (both ml mr) (map made (front (of_two op blank (both ml mr) xs ys)))
lifted_two seen other made op step blank lifts [] mr [] ys e d = refl
lifted_two seen other made op step blank lifts (b ∷ ml) [] (x ∷ xs) [] e d = refl
lifted_two {X} {Y} {Z} seen other made op step blank lifts (true ∷ ml) (true ∷ mr) (x ∷ xs) (y ∷ ys) e d =
    let rows = along step (where_valid ml (map seen xs)) (where_valid mr (map other ys)) in
    let values = of_two op blank (both ml mr) xs ys in
    let more = lifted_two seen other made op step blank lifts ml mr xs ys (omega arith) (omega arith) in
    ap (λ (r : Option Datum). front (r ∷ rows)) (lifts.values x y) ∙
    elim (op x y) as (λ (r : Option Z). front (option_map made r ∷ rows) ≡ where_valid (true ∷ both ml mr) (map made (front (r ∷ values)))) [
      | None ↦ refl
      | Some z ↦ ap (λ (vs : List Datum). made z ∷ vs) more
    ]
lifted_two seen other made op step blank lifts (true ∷ ml) (false ∷ mr) (x ∷ xs) (y ∷ ys) e d =
    let rows = along step (where_valid ml (map seen xs)) (where_valid mr (map other ys)) in
    ap (λ (r : Option Datum). front (r ∷ rows)) (lifts.left (seen x)) ∙ ap (λ (vs : List Datum). null ∷ vs) (lifted_two seen other made op step blank lifts ml mr xs ys (omega arith) (omega arith))
lifted_two seen other made op step blank lifts (false ∷ ml) (b ∷ mr) (x ∷ xs) (y ∷ ys) e d =
    let rows = along step (where_valid ml (map seen xs)) (where_valid mr (map other ys)) in
    ap (λ (r : Option Datum). front (r ∷ rows)) (lifts.none (cond b (other y) null)) ∙ ap (λ (vs : List Datum). null ∷ vs) (lifted_two seen other made op step blank lifts ml mr xs ys (omega arith) (omega arith))
lifted_two seen other made op step blank lifts [] mr (x ∷ xs) ys e d = absurd (omega arith)
lifted_two seen other made op step blank lifts (b ∷ ml) mr [] ys e d = absurd (omega arith)
lifted_two seen other made op step blank lifts (b ∷ ml) (c ∷ mr) (x ∷ xs) [] e d = absurd (omega arith)
lifted_two seen other made op step blank lifts (b ∷ ml) [] (x ∷ xs) (y ∷ ys) e d = absurd (omega arith)

-- ---- rows that hold the blank where they are not valid
pub blank_of_two : {X Y Z : Type 0} (op : X → Y → Option Z) (blank : Z) (mask : List Bool) (xs : List X) (ys : List Y) → NullsHold blank mask (front (of_two op blank mask xs ys))
blank_of_two op blank [] xs ys = tt
blank_of_two op blank (true ∷ mask) [] ys = tt
blank_of_two op blank (false ∷ mask) [] ys = tt
blank_of_two op blank (true ∷ mask) (x ∷ xs) [] = tt
blank_of_two op blank (false ∷ mask) (x ∷ xs) [] = tt
blank_of_two {X} {Y} {Z} op blank (true ∷ mask) (x ∷ xs) (y ∷ ys) =
    let values = of_two op blank mask xs ys in
    let more = blank_of_two op blank mask xs ys in
    elim (op x y) as (λ (r : Option Z). NullsHold blank (true ∷ mask) (front (r ∷ values))) [ None ↦ tt | Some z ↦ more ]
blank_of_two op blank (false ∷ mask) (x ∷ xs) (y ∷ ys) = (refl, blank_of_two op blank mask xs ys)

-- ---- the operators
pub null_beside : (op : CompareOp) (v : Datum) → comparison_of op v null ≡ Some null
null_beside op null = refl
null_beside op (truth b) = refl
null_beside op (number z) = refl
null_beside op (text bytes) = refl
null_beside op (structure vs) = refl

number_null_right : (kind : IntKind) (n : Nullability) (op : ArithOp) (v : Datum) → arithmetic_of op (Some (int_type kind n)) v null ≡ Some null
number_null_right kind n op null = refl
number_null_right kind n op (truth b) = refl
number_null_right kind n op (number z) = refl
number_null_right kind n op (text bytes) = refl
number_null_right kind n op (structure vs) = refl

pub comparison_lifts : (op : CompareOp) → LiftsTwo number number truth (compared op) (comparison_of op)
comparison_lifts op = record { none = λ w. refl; left = null_beside op; values = λ x y. refl }

pub text_comparison_lifts : (op : CompareOp) → LiftsTwo text text truth (compared_text op) (comparison_of op)
text_comparison_lifts op = record { none = λ w. refl; left = null_beside op; values = λ x y. refl }

pub truth_comparison_lifts : (op : CompareOp) → LiftsTwo truth truth truth (compared_truth op) (comparison_of op)
truth_comparison_lifts op = record { none = λ w. refl; left = null_beside op; values = λ x y. refl }

inside_lifts : (kind : IntKind) (r : Option ℤ) → option_and_then (if_inside kind) r ≡ option_map number (option_and_then (inside kind) r)
inside_lifts kind None = refl
inside_lifts kind (Some z) = elim (int_le (least_of kind) z && int_le z (greatest_of kind)) as (λ b. cond b (Some (number z)) None ≡ option_map number (cond b (Some z) None)) [ true ↦ refl | false ↦ refl ]

pub arithmetic_lifts : (kind : IntKind) (n : Nullability) (op : ArithOp) → LiftsTwo number number number (exact_inside kind op) (arithmetic_of op (Some (int_type kind n)))
arithmetic_lifts kind n op = record { none = λ w. refl; left = number_null_right kind n op; values = λ x y. inside_lifts kind (exact op x y) }
