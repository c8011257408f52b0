-- The numbers of both sides of an operator, over the loops that go over them.
use Rattle.std.proofs.Common.{◌≡◌, ℕ, zero, suc, ◌≤◌, ℤ, pos, Bool, true, false, cond, List, [], ◌∷◌, length, map, take, replicate, Option, Some, None, refl, sym, ap, subst, ◌∙◌, arith}
use Rattle.std.proofs.lemmas.List.{length-map}
use Rattle.vx_types.specs.declared.dtypes.IntKind.{IntKind}
use Rattle.vx_types.specs.declared.dtypes.Nullability.{Nullability}
use Rattle.vx_types.specs.Data.{Datum, null, number, truth, int_type}
use Rattle.vx_types.specs.Slots.{where_valid}
use Rattle.vx_masks.specs.Masks.{both}
use Rattle.vx_masks.specs.Rows.{NullsHold}
use Rattle.vx_operators.specs.declared.operators.ArithOp.{ArithOp}
use Rattle.vx_operators.specs.declared.operators.CompareOp.{CompareOp}
use Rattle.vx_operators.specs.Operators.{arithmetic_of, comparison_of}
use Rattle.vx_operators.specs.Rows.{along, front}
use Rattle.vx_operators.specs.Kernels.{of_two, compares, exact_inside}
use Rattle.vx_operators.proofs.LiftedRows.{lifted_two, blank_of_two, comparison_lifts, arithmetic_lifts}
use Rattle.vx_operators.proofs.TestedRows.{tested_array}

-- ---- how many rows
pub both_len : (xs ys : List Bool) → length ys ≡ length xs → length (both xs ys) ≡ length xs
both_len [] ys e = refl
both_len (x ∷ xs) [] e = absurd (omega arith)
both_len (x ∷ xs) (y ∷ ys) e = omega (arith, both_len xs ys (omega arith))

pub along_len : {X Y Z : Type 0} (f : X → Y → Z) (xs : List X) (ys : List Y) → length ys ≡ length xs → length (along f xs ys) ≡ length xs
along_len f [] ys e = refl
along_len f (x ∷ xs) [] e = absurd (omega arith)
along_len f (x ∷ xs) (y ∷ ys) e = omega (arith, along_len f xs ys (omega arith))

-- there is a test for each row that is valid or not
pub tests_level : {X Y : Type 0} (f : X → Y → Bool) (lv rv validity tests : List Bool) (ls : List X) (rs : List Y) → validity ≡ both lv rv → tests ≡ along f ls rs → length lv ≡ length ls → length rv ≡ length lv → length rs ≡ length ls → length tests ≡ length validity
tests_level f lv rv validity tests ls rs valid made left level rows = omega (arith, ap length valid, ap length made, along_len f ls rs rows, both_len lv rv level, left)

-- ---- which rows are valid
pub all_beside : (mask : List Bool) (n : ℕ) → n ≡ length mask → both mask (replicate n true) ≡ mask
all_beside [] zero e = refl
all_beside [] (suc n) e = absurd (omega arith)
all_beside (bit ∷ mask) zero e = absurd (omega arith)
all_beside (true ∷ mask) (suc n) e = ap (λ (bits : List Bool). true ∷ bits) (all_beside mask n (omega arith))
all_beside (false ∷ mask) (suc n) e = ap (λ (bits : List Bool). false ∷ bits) (all_beside mask n (omega arith))

pub beside_all : (n : ℕ) (mask : List Bool) → n ≡ length mask → both (replicate n true) mask ≡ mask
beside_all zero [] e = refl
beside_all zero (bit ∷ mask) e = absurd (omega arith)
beside_all (suc n) [] e = absurd (omega arith)
beside_all (suc n) (bit ∷ mask) e = ap (λ (bits : List Bool). bit ∷ bits) (beside_all n mask (omega arith))

pub none_beside : (mask : List Bool) (n : ℕ) → n ≡ length mask → both mask (replicate n false) ≡ replicate n false
none_beside [] zero e = refl
none_beside [] (suc n) e = absurd (omega arith)
none_beside (bit ∷ mask) zero e = absurd (omega arith)
none_beside (true ∷ mask) (suc n) e = ap (λ (bits : List Bool). false ∷ bits) (none_beside mask n (omega arith))
none_beside (false ∷ mask) (suc n) e = ap (λ (bits : List Bool). false ∷ bits) (none_beside mask n (omega arith))

pub beside_none : (n : ℕ) (mask : List Bool) → n ≡ length mask → both (replicate n false) mask ≡ replicate n false
beside_none zero [] e = refl
beside_none zero (bit ∷ mask) e = absurd (omega arith)
beside_none (suc n) [] e = absurd (omega arith)
beside_none (suc n) (bit ∷ mask) e = ap (λ (bits : List Bool). false ∷ bits) (beside_none n mask (omega arith))

-- ---- arithmetic: as many rows as there are before the first fault
front_two_len : {X Y Z : Type 0} (op : X → Y → Option Z) (blank : Z) (mask : List Bool) (xs : List X) (ys : List Y) → length (front (of_two op blank mask xs ys)) ≤ length mask
front_two_len op blank [] xs ys = omega arith
front_two_len op blank (b ∷ mask) [] ys = omega arith
front_two_len op blank (b ∷ mask) (x ∷ xs) [] = omega arith
front_two_len {X} {Y} {Z} op blank (b ∷ mask) (x ∷ xs) (y ∷ ys) =
    let more = front_two_len op blank mask xs ys in
    elim (cond b (op x y) (Some blank)) as (λ (r : Option Z). length (front (r ∷ of_two op blank mask xs ys)) ≤ length (b ∷ mask)) [ None ↦ omega arith | Some z ↦ omega (arith, more) ]

pub joined_len : {X : Type 0} (seen : X → ℤ) (kind : IntKind) (op : ArithOp) (mask : List Bool) (ls rs : List ℤ) (made : List X) → map seen made ≡ front (of_two (exact_inside kind op) (pos 0) mask ls rs) → length made ≤ length mask
joined_len seen kind op mask ls rs made e = omega (arith, front_two_len (exact_inside kind op) (pos 0) mask ls rs, ap length e, length-map made seen)

-- ---- a mask cut to the rows that there are
cut_valid : (mask : List Bool) (vs : List Datum) (n : ℕ) → n ≡ length vs → where_valid (take n mask) vs ≡ where_valid mask vs
cut_valid mask [] n e = no_values (take n mask) ∙ sym (no_values mask)
  where
    no_values : (m : List Bool) → where_valid m [] ≡ []
    no_values [] = refl
    no_values (b ∷ m) = refl
cut_valid [] (v ∷ vs) zero e = refl
cut_valid [] (v ∷ vs) (suc n) e = refl
cut_valid (b ∷ mask) (v ∷ vs) zero e = absurd (omega arith)
cut_valid (b ∷ mask) (v ∷ vs) (suc n) e = ap (λ (ws : List Datum). cond b v null ∷ ws) (cut_valid mask vs n (omega arith))

cut_held : {X : Type 0} (blank : X) (mask : List Bool) (xs : List X) (n : ℕ) → NullsHold blank mask xs → NullsHold blank (take n mask) xs
cut_held blank mask xs zero h = tt
cut_held blank [] xs (suc n) h = tt
cut_held blank (true ∷ mask) [] (suc n) h = tt
cut_held blank (false ∷ mask) [] (suc n) h = tt
cut_held blank (true ∷ mask) (x ∷ xs) (suc n) h = cut_held blank mask xs n h
cut_held blank (false ∷ mask) (x ∷ xs) (suc n) h = (h.0, cut_held blank mask xs n h.1)

-- ---- arithmetic of two columns
pub joined_columns : (kind : IntKind) (nullability : Nullability) (op : ArithOp) (lv rv : List Bool) (ls rs made : List ℤ) (n : ℕ) → made ≡ front (of_two (exact_inside kind op) (pos 0) (both lv rv) ls rs) → n ≡ length made → length lv ≡ length ls → length rv ≡ length rs
    → where_valid (take n (both lv rv)) (map number made) ≡ front (along (arithmetic_of op (Some (int_type kind nullability))) (where_valid lv (map number ls)) (where_valid rv (map number rs)))
joined_columns kind nullability op lv rv ls rs made n e k c d =
    cut_valid (both lv rv) (map number made) n (k ∙ sym (length-map made number)) ∙ ap (λ zs. where_valid (both lv rv) (map number zs)) e
    ∙ sym (lifted_two number number number (exact_inside kind op) (arithmetic_of op (Some (int_type kind nullability))) (pos 0) (arithmetic_lifts kind nullability op) lv rv ls rs c d)

pub joined_held : (kind : IntKind) (op : ArithOp) (mask : List Bool) (ls rs made : List ℤ) (n : ℕ) → made ≡ front (of_two (exact_inside kind op) (pos 0) mask ls rs) → NullsHold (pos 0) (take n mask) made
joined_held kind op mask ls rs made n e =
    let P : List ℤ → Type 0 = λ zs. NullsHold (pos 0) (take n mask) zs in
    subst P (sym e) (cut_held (pos 0) mask (front (of_two (exact_inside kind op) (pos 0) mask ls rs)) n (blank_of_two (exact_inside kind op) (pos 0) mask ls rs))

-- ---- as many rows are valid or not as there are
take_len : (n : ℕ) (mask : List Bool) → n ≤ length mask → length (take n mask) ≡ n
take_len zero mask e = refl
take_len (suc n) [] e = absurd (omega arith)
take_len (suc n) (b ∷ mask) e = omega (arith, take_len n mask (omega arith))

pub made_rows : {X : Type 0} (seen : X → ℤ) (known validity : List Bool) (made : List X) (numbers : List ℤ) (n : ℕ) → validity ≡ take n known → numbers ≡ map seen made → n ≡ length made → length made ≤ length known → length validity ≡ length numbers
made_rows seen known validity made numbers n v e k le = omega (arith, ap length v, take_len n known (omega (arith, k, le)), ap length e, length-map made seen, k)

-- ---- the arrays that are made
pub compared_array : (op : CompareOp) (lv rv validity truths values : List Bool) (ls rs : List ℤ) → validity ≡ both lv rv → truths ≡ along (compares op) ls rs → values ≡ both validity truths → length lv ≡ length ls → length rv ≡ length rs
    → where_valid validity (map truth values) ≡ front (along (comparison_of op) (where_valid lv (map number ls)) (where_valid rv (map number rs)))
compared_array op = tested_array number number (compares op) (comparison_of op) (comparison_lifts op)

pub joined_array : (kind : IntKind) (nullability : Nullability) (op : ArithOp) (lv rv known validity : List Bool) (ls rs numbers : List ℤ) (n : ℕ) → known ≡ both lv rv → validity ≡ take n known → numbers ≡ front (of_two (exact_inside kind op) (pos 0) known ls rs) → n ≡ length numbers → length lv ≡ length ls → length rv ≡ length rs
    → where_valid validity (map number numbers) ≡ front (along (arithmetic_of op (Some (int_type kind nullability))) (where_valid lv (map number ls)) (where_valid rv (map number rs)))
joined_array kind nullability op lv rv known validity ls rs numbers n valid cut made count c d =
    ap (λ (mask : List Bool). where_valid mask (map number numbers)) (cut ∙ ap (take n) valid)
    ∙ joined_columns kind nullability op lv rv ls rs numbers n (made ∙ ap (λ (mask : List Bool). front (of_two (exact_inside kind op) (pos 0) mask ls rs)) valid) count c d

pub joined_array_held : (kind : IntKind) (op : ArithOp) (known validity : List Bool) (ls rs numbers : List ℤ) (n : ℕ) → validity ≡ take n known → numbers ≡ front (of_two (exact_inside kind op) (pos 0) known ls rs) → NullsHold (pos 0) validity numbers
joined_array_held kind op known validity ls rs numbers n cut made =
    subst (λ (mask : List Bool). NullsHold (pos 0) mask numbers) (sym cut) (joined_held kind op known ls rs numbers n made)
