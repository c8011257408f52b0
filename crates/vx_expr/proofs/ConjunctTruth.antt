-- When a conjunction is true.
use Rattle.std.proofs.Common.{◌≡◌, ℕ, true, false, List, [], ◌∷◌, ◌++◌, Option, Some, None, refl}
use Rattle.std.specs.List.{AllByRecursion}
use Rattle.vx_base.specs.Data.{DataType, Datum, null, truth, number, text, structure}
use Rattle.vx_expr.specs.Filters.{conjuncts_of}
use Rattle.vx_expr.specs.Laws.{IsTrueAt}
use Rattle.vx_expr.specs.Meaning.{meaning, and_of}
use Rattle.vx_expr.specs.Terms.{Term, root, literal, get_field, pack, negation, conjunction, disjunction, comparison, null_test, value_test, arithmetic, row_number, bound_test}
use Rattle.vx_expr.specs.Types.{on_both}
use Rattle.vx_types.proofs.AllFit.{all-append}

abbrev yes : Option Datum
yes = Some (truth true)

both_from : (o p : Option Datum) → on_both and_of o p ≡ yes → (o ≡ yes) × (p ≡ yes)
both_from None p e = absurd cc
both_from (Some v) None e = absurd cc
both_from (Some null) (Some null) e = absurd cc
both_from (Some null) (Some (truth true)) e = absurd cc
both_from (Some null) (Some (truth false)) e = absurd cc
both_from (Some null) (Some (number z)) e = absurd cc
both_from (Some null) (Some (text bytes)) e = absurd cc
both_from (Some null) (Some (structure vs)) e = absurd cc
both_from (Some (truth true)) (Some null) e = absurd cc
both_from (Some (truth true)) (Some (truth true)) e = (refl, refl)
both_from (Some (truth true)) (Some (truth false)) e = absurd cc
both_from (Some (truth true)) (Some (number z)) e = absurd cc
both_from (Some (truth true)) (Some (text bytes)) e = absurd cc
both_from (Some (truth true)) (Some (structure vs)) e = absurd cc
both_from (Some (truth false)) (Some null) e = absurd cc
both_from (Some (truth false)) (Some (truth b)) e = absurd cc
both_from (Some (truth false)) (Some (number z)) e = absurd cc
both_from (Some (truth false)) (Some (text bytes)) e = absurd cc
both_from (Some (truth false)) (Some (structure vs)) e = absurd cc
both_from (Some (number z)) (Some w) e = absurd cc
both_from (Some (text bytes)) (Some w) e = absurd cc
both_from (Some (structure vs)) (Some w) e = absurd cc

both_to : (o p : Option Datum) → o ≡ yes → p ≡ yes → on_both and_of o p ≡ yes
both_to o p e f = rw (e, f) refl

-- each of both lists
all_front : (P : Term → Type 0) (xs ys : List Term) → AllByRecursion P (xs ++ ys) → AllByRecursion P xs
all_front P [] ys h = tt
all_front P (x ∷ xs) ys h = (h.0, all_front P xs ys h.1)

all_back : (P : Term → Type 0) (xs ys : List Term) → AllByRecursion P (xs ++ ys) → AllByRecursion P ys
all_back P [] ys h = h
all_back P (x ∷ xs) ys h = all_back P xs ys h.1

pub conjuncts_from : (t : DataType) (e : Term) (bound : ℕ) (v : Datum) (row : ℕ) → IsTrueAt t bound v row e → AllByRecursion (IsTrueAt t bound v row) (conjuncts_of e)
conjuncts_from t (conjunction a b) bound v row h =
    let p = both_from (meaning t bound a v row) (meaning t bound b v row) h in
    all-append (IsTrueAt t bound v row) (conjuncts_of a) (conjuncts_of b) (conjuncts_from t a bound v row p.0) (conjuncts_from t b bound v row p.1)
conjuncts_from t root bound v row h = (h, tt)
conjuncts_from t (literal w s) bound v row h = (h, tt)
conjuncts_from t (get_field name e) bound v row h = (h, tt)
conjuncts_from t (pack es) bound v row h = (h, tt)
conjuncts_from t (negation e) bound v row h = (h, tt)
conjuncts_from t (disjunction a b) bound v row h = (h, tt)
conjuncts_from t (comparison op a b) bound v row h = (h, tt)
conjuncts_from t (null_test e) bound v row h = (h, tt)
conjuncts_from t (value_test e) bound v row h = (h, tt)
conjuncts_from t (arithmetic op a b) bound v row h = (h, tt)
conjuncts_from t row_number bound v row h = (h, tt)
conjuncts_from t (bound_test e) bound v row h = (h, tt)

pub conjuncts_to : (t : DataType) (e : Term) (bound : ℕ) (v : Datum) (row : ℕ) → AllByRecursion (IsTrueAt t bound v row) (conjuncts_of e) → IsTrueAt t bound v row e
conjuncts_to t (conjunction a b) bound v row h =
    both_to (meaning t bound a v row) (meaning t bound b v row)
    (conjuncts_to t a bound v row (all_front (IsTrueAt t bound v row) (conjuncts_of a) (conjuncts_of b) h))
    (conjuncts_to t b bound v row (all_back (IsTrueAt t bound v row) (conjuncts_of a) (conjuncts_of b) h))
conjuncts_to t root bound v row h = h.0
conjuncts_to t (literal w s) bound v row h = h.0
conjuncts_to t (get_field name e) bound v row h = h.0
conjuncts_to t (pack es) bound v row h = h.0
conjuncts_to t (negation e) bound v row h = h.0
conjuncts_to t (disjunction a b) bound v row h = h.0
conjuncts_to t (comparison op a b) bound v row h = h.0
conjuncts_to t (null_test e) bound v row h = h.0
conjuncts_to t (value_test e) bound v row h = h.0
conjuncts_to t (arithmetic op a b) bound v row h = h.0
conjuncts_to t row_number bound v row h = h.0
conjuncts_to t (bound_test e) bound v row h = h.0
