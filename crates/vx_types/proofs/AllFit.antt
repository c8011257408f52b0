-- Values that all fit, so far and at the next place.
use Rattle.std.proofs.Common.{◌≡◌, ℕ, zero, suc, ◌+◌, ◌<◌, List, [], ◌∷◌, ◌++◌, length, map, get_or, take, subst, arith, add-one}
use Rattle.std.specs.List.{AllByRecursion}
use Rattle.std.proofs.lemmas.List.{take-map}
use Rattle.std.proofs.lemmas.Option.{slice_get-map, slice_get-get_or}
use Rattle.vx_types.specs.declared.values.Value.{Value}
use Rattle.vx_types.specs.Data.{DataType, Datum}
use Rattle.vx_types.specs.Fits.{Fits}
use Rattle.vx_types.specs.Columns.{IsFirstUnfit}
use Rattle.vx_types.specs.ValueViews.{datum}

all_more_suc : (P : Datum → Type 0) (xs : List Value) (i : ℕ) (x : Value) → i < length xs → x ≡ get_or xs i x → P (datum x) → AllByRecursion P (map datum (take i xs)) → AllByRecursion P (map datum (take (suc i) xs))
all_more_suc P [] i x lt e p h = absurd (omega arith)
all_more_suc P (y ∷ xs) zero x lt e p h = (subst (λ (v : Value). P (datum v)) e p, tt)
all_more_suc P (y ∷ xs) (suc i) x lt e p h = (h.0, all_more_suc P xs i x (omega arith) e p h.1)

pub all_more : (P : Datum → Type 0) (xs : List Value) (i : ℕ) (x : Value) → i < length xs → x ≡ get_or xs i x → P (datum x) → AllByRecursion P (map datum (take i xs)) → AllByRecursion P (map datum (take (i + 1) xs))
all_more P xs i x lt e p h = rw add-one (all_more_suc P xs i x lt e p h)

pub first_unfit_at : (t : DataType) (xs : List Value) (i : ℕ) (x : Value) → i < length xs → x ≡ get_or xs i x → ¬ (Fits t (datum x)) → AllByRecursion (Fits t) (map datum (take i xs)) → IsFirstUnfit t (map datum xs) i
first_unfit_at t xs i x lt e bad h = record {
  unfit = rw (slice_get-map datum xs i, slice_get-get_or xs i x lt, ← e) bad;
  before = rw take-map h;
}

pub all-append : {X : Type 0} (P : X → Type 0) (xs ys : List X) → AllByRecursion P xs → AllByRecursion P ys → AllByRecursion P (xs ++ ys)
all-append P [] ys g h = h
all-append P (x ∷ xs) ys g h = (g.0, all-append P xs ys g.1 h)
