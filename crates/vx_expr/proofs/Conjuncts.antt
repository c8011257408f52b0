-- Lemmas on the conjuncts of a filter and on their order.
use Rattle.std.proofs.Common.{◌≡◌, ℕ, ◌+◌, ◌<◌, List, [], ◌∷◌, ◌++◌, length, get_or, drop, refl, sym, ap, ◌∙◌, arith, Bool, true, false, Option, Some, None, cond, inl, inr}
use Rattle.std.specs.Prelude.{IsPermutation, IsSomeAnd, slice_index_or}
use Rattle.std.specs.List.{All, AllByRecursion, range_with_len, find}
use Rattle.std.proofs.lemmas.Bool.{cases_lt}
use Rattle.std.proofs.lemmas.List.{map-id, drop_more, get_or_default, get_or_past}
use Rattle.std.proofs.lemmas.Option.{none-some}
use Rattle.std.proofs.lemmas.List.Elements.{All-from_recursion}
use Rattle.std.proofs.lemmas.List.FromFn.{map-range_with_len_more, length-range_with_len, get_or-range_with_len}
use Rattle.std.proofs.lemmas.List.Sorted.{All-permutation, IsPermutation-sym}
use Rattle.vx_base.specs.ColumnCalls.{IsBool}
use Rattle.vx_base.specs.Data.{DataType, bool_type}
use Rattle.vx_expr.specs.Types.{on_both, logic_type}

-- one number more
pub range_next : (n : ℕ) → range_with_len 0 n ++ n ∷ [] ≡ range_with_len 0 (n + 1)
range_next n = sym (simp map-id at (map-range_with_len_more (λ (x : ℕ). x) 0 n n (omega arith)))

-- the parts of a conjunction of truth values are truth values
logic_parts : (s t : DataType) → IsSomeAnd (logic_type s t) IsBool → IsBool s × IsBool t
logic_parts (bool_type n) (bool_type m) h = (tt, tt)
logic_parts s t h = absurd h

-- the same where the parts have a dtype
pub part_truths : (x y : Option DataType) → IsSomeAnd (on_both logic_type x y) IsBool → IsSomeAnd x IsBool × IsSomeAnd y IsBool
part_truths (Some s) (Some t) h = logic_parts s t h
part_truths None y h = absurd h
part_truths (Some s) None h = absurd h

-- an element that fails is passed
pub find_next : (p : ℕ → Bool) (xs : List ℕ) (i : ℕ) → i < length xs → p (get_or xs i 0) ≡ false → find p (drop i xs) ≡ find p (drop (i + 1) xs)
find_next p xs i within fails = rw (drop_more xs i 0 within, fails) refl

-- an element that passes is found
pub find_here : (p : ℕ → Bool) (xs : List ℕ) (i : ℕ) → i < length xs → p (get_or xs i 0) ≡ true → find p (drop i xs) ≡ Some (get_or xs i 0)
find_here p xs i within passes = rw (drop_more xs i 0 within, passes) refl

-- none passes where none is found
none_passes : (p : ℕ → Bool) (xs : List ℕ) → find p xs ≡ None → AllByRecursion (λ x. p x ≡ false) xs
none_passes p [] e = tt
none_passes p (x ∷ xs) e = elim (p x) as (λ b. b ≡ p x → cond b (Some x) (find p xs) ≡ None → (p x ≡ false) × AllByRecursion (λ y. p y ≡ false) xs) [
  | true ↦ λ is none. absurd cc
  | false ↦ λ is none. (sym is, none_passes p xs none)
] refl e

-- none is found where none passes
none_found : (p : ℕ → Bool) (xs : List ℕ) → ((x : ℕ) → p x ≡ false) → find p xs ≡ None
none_found p [] fails = refl
none_found p (x ∷ xs) fails = rw (fails x) (none_found p xs fails)

-- every number below the length of a list stands in the order, so none of its elements is true where none is found
pub none_left : (remaining : List Bool) (n : ℕ) (ordering : List ℕ) → length remaining ≡ n → IsPermutation (range_with_len 0 n) ordering → find (λ c. slice_index_or remaining c false) ordering ≡ None → All (λ one. one ≡ false) remaining
none_left remaining n ordering same order none =
    let p = λ (c : ℕ). get_or remaining c false in
    let passed : All (λ c. p c ≡ false) (range_with_len 0 n) = All-permutation (λ c. p c ≡ false) ordering (range_with_len 0 n) (IsPermutation-sym (range_with_len 0 n) ordering order) (All-from_recursion (λ c. p c ≡ false) ordering (none_passes p ordering none)) in
    λ k d within.
    let below : k < n = omega arith in
    let counted : k < length (range_with_len 0 n) = omega (arith, length-range_with_len 0 n) in
    let one : p (get_or (range_with_len 0 n) k 0) ≡ false = passed k 0 counted in
    let at : get_or (range_with_len 0 n) k 0 ≡ k = get_or-range_with_len 0 n k 0 below ∙ omega arith in
    get_or_default remaining k d false within ∙ sym (ap p at) ∙ one

-- no element of a list is found where all are false
pub all_passed : (remaining : List Bool) (ordering : List ℕ) → All (λ one. one ≡ false) remaining → find (λ c. slice_index_or remaining c false) ordering ≡ None
all_passed remaining ordering all = none_found (λ c. get_or remaining c false) ordering (λ c. elim (cases_lt c (length remaining)) [ inl lt ↦ all c false lt | inr le ↦ get_or_past remaining c false le ])

-- one of its elements is true where one is found
pub some_left : (remaining : List Bool) (ordering : List ℕ) (x : ℕ) → find (λ c. slice_index_or remaining c false) ordering ≡ Some x → (true ≡ false → All (λ one. one ≡ false) remaining) × (All (λ one. one ≡ false) remaining → true ≡ false)
some_left remaining ordering x found = (λ e. absurd cc, λ all. absurd (none-some x (sym (all_passed remaining ordering all) ∙ found)))
