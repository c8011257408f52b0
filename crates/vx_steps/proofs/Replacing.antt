-- Kept columns, of which one stands in place of another one of its plan.
use Rattle.std.proofs.Common.{◌≡◌, ℕ, zero, suc, ◌==◌, Bool, true, false, List, [], ◌∷◌, map, take, set, get_or, Option, Some, None, length, refl, sym, ap, ◌∙◌, subst, arith}
use Rattle.std.specs.Prelude.{IsSomeAnd, if◌then◌else◌}
use Rattle.std.specs.List.{slice_get}
use Rattle.vx_base.specs.Columns.{ColumnData}
use Rattle.vx_plan.specs.Refs.{number_of}
use Rattle.vx_steps.specs.declared.kept.KeptValue.{KeptValue}
use Rattle.vx_steps.specs.declared.places.PlaceTable.{PlaceTable}
use Rattle.vx_steps.specs.KeptData.{Kept}
use Rattle.vx_steps.specs.Kept.{kept_at, kept_data, AreIndexed, IsPlace, ReplacesOnly}
use Rattle.vx_steps.specs.Places.{place_in}
use Rattle.vx_steps.proofs.Indexing.{placed_node}

-- the columns are for the same plans, one by one
abbrev SamePlans : List Kept → List Kept → Type 0
SamePlans [] [] = Unit {0}
SamePlans (k ∷ old) (l ∷ new) = (l.node ≡ k.node) × SamePlans old new
SamePlans old new = ⊥

plans_of : (node : ℕ) (old new : List Kept) → ReplacesOnly node old new → SamePlans old new
plans_of node [] [] only = tt
plans_of node [] (l ∷ new) only = absurd only
plans_of node (k ∷ old) [] only = absurd only
plans_of node (k ∷ old) (l ∷ new) only = (only.0, plans_of node old new only.1.1)

taken : (i : ℕ) (old new : List Kept) → SamePlans old new → SamePlans (take i old) (take i new)
taken i [] [] same = nothing i
  where
    nothing : (i : ℕ) → SamePlans (take i []) (take i [])
    nothing zero = tt
    nothing (suc i) = tt
taken i [] (l ∷ new) same = absurd same
taken i (k ∷ old) [] same = absurd same
taken zero (k ∷ old) (l ∷ new) same = tt
taken (suc i) (k ∷ old) (l ∷ new) same = (same.0, taken i old new same.1)

none_by : (b : Bool) (x y : ColumnData) (old new : Option ColumnData) → (old ≡ None → new ≡ None) → (if b then Some x else old) ≡ None → (if b then Some y else new) ≡ None
none_by true x y old new f h = absurd cc
none_by false x y old new f h = f h

none_same : (old new : List Kept) (n : ℕ) → SamePlans old new → kept_at old n ≡ None → kept_at new n ≡ None
none_same [] [] n same none = none
none_same [] (l ∷ new) n same none = absurd same
none_same (k ∷ old) [] n same none = absurd same
none_same (k ∷ old) (l ∷ new) n same none =
    ap (λ (m : ℕ). if m == n then Some l.column else kept_at new n) same.0 ∙ none_by (k.node == n) k.column l.column (kept_at old n) (kept_at new n) (λ e. none_same old new n same.1 e) none

got_same : (old new : List Kept) (place : ℕ) (k : Kept) → SamePlans old new → slice_get old place ≡ Some k → (l : Kept) × (slice_get new place ≡ Some l) × (l.node ≡ k.node)
got_same [] [] place k same got = absurd cc
got_same [] (l ∷ new) place k same got = absurd same
got_same (x ∷ old) [] place k same got = absurd same
got_same (x ∷ old) (l ∷ new) zero k same got =
    let is : x ≡ k = cc in
    (l, refl, same.0 ∙ ap (λ (v : Kept). v.node) is)
got_same (x ∷ old) (l ∷ new) (suc place) k same got = got_same old new place k same.1 got

place_same : (old new : List Kept) (n : ℕ) (o : Option ℕ) → SamePlans old new → IsPlace old n o → IsPlace new n o
place_same old new n None same none = none_same old new n same none
place_same old new n (Some place) same is = by (slice_get old place) refl is
  where
    by : (o : Option Kept) → slice_get old place ≡ o → IsSomeAnd o (λ k. (k.node ≡ n) × (kept_at (take place old) n ≡ None)) → IsPlace new n (Some place)
    by None e h = absurd h
    by (Some k) e h =
        let found = got_same old new place k same e in
        let P : Option Kept → Type 0 = λ o. IsSomeAnd o (λ l. (l.node ≡ n) × (kept_at (take place new) n ≡ None)) in
        subst P (sym found.1) (found.2 ∙ h.0, none_same (take place old) (take place new) n (taken place old new same) h.1)

same_length : (old new : List Kept) → SamePlans old new → length new ≡ length old
same_length [] [] same = refl
same_length [] (l ∷ new) same = absurd same
same_length (k ∷ old) [] same = absurd same
same_length (k ∷ old) (l ∷ new) same = ap suc (same_length old new same.1)

-- the places stay
pub indexed_same : (node : ℕ) (places : PlaceTable) (indexed : ℕ) (old new : List Kept) → ReplacesOnly node old new → AreIndexed places indexed old → AreIndexed places indexed new
indexed_same node places indexed old new only are =
    let same = plans_of node old new only in
    let count = same_length old new same in
    record {
      inside = omega (arith, are.inside, count);
      placed = λ n. place_same (take indexed old) (take indexed new) n (place_in places n) (taken indexed old new same) (are.placed n);
    }

pub replaces_none : (node : ℕ) (kept : List Kept) → ReplacesOnly node kept kept
replaces_none node [] = tt
replaces_none node (k ∷ kept) = (refl, (λ _. refl, replaces_none node kept))

replaced_set : (xs : List KeptValue) (place node : ℕ) (x : KeptValue) (column : ColumnData) → x ≡ get_or xs place x → number_of x.node ≡ node → ReplacesOnly node (map kept_data xs) (map kept_data (set xs place (record { node = x.node; column = column })))
replaced_set [] place node x column is at = nothing place
  where
    nothing : (place : ℕ) → ReplacesOnly node [] (map kept_data (set [] place (record { node = x.node; column = column })))
    nothing zero = tt
    nothing (suc place) = tt
replaced_set (y ∷ ys) zero node x column is at =
    let same : number_of x.node ≡ number_of y.node = ap (λ (v : KeptValue). number_of v.node) is in
    (same, ((λ apart. absurd (apart (sym same ∙ at))), replaces_none node (map kept_data ys)))
replaced_set (y ∷ ys) (suc place) node x column is at = (refl, ((λ _. refl), replaced_set ys place node x column is at))

-- another column stands in place of the first one of the plan
pub replaced : (xs : List KeptValue) (indexed place node : ℕ) (x : KeptValue) (column : ColumnData) → x ≡ get_or xs place x → IsPlace (take indexed (map kept_data xs)) node (Some place) →
    ReplacesOnly node (map kept_data xs) (map kept_data (set xs place (record { node = x.node; column = column })))
replaced xs indexed place node x column is placed = replaced_set xs place node x column is (placed_node xs indexed place node x is placed)
