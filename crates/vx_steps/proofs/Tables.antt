-- A table by the numbers of plans keeps its numbers where it grows at either end.
use Rattle.std.proofs.Common.{◌≡◌, ℕ, zero, suc, ◌+◌, ◌-◌, ◌<◌, ◌≤◌, ◌==◌, ⊎_elim, Bool, true, false, List, [], ◌++◌, length, get_or, set, drop, take, replicate, refl, sym, ap, ◌∙◌, arith}
use Rattle.std.specs.Prelude.{if◌then◌else◌, nat_lt}
use Rattle.std.proofs.lemmas.Bool.{cases_lt}
use Rattle.std.proofs.lemmas.Bool.Decides.{nat_tests}
use Rattle.std.proofs.lemmas.List.{drop_at, get_or_append_left, get_or-append_right, get_or_past, get_or_read, get_or-set_other, get_or-set_same, length-replicate, take_all, take_at}
use Rattle.vx_steps.specs.declared.number_table.NumberTable.{NumberTable}
use Rattle.vx_steps.specs.NumberTable.{number_in, IsReached, KeepsAll, SetsNumber}

zeros : (count i : ℕ) → ◌≡◌ {A = ℕ} (get_or (replicate count 0) i 0) 0
zeros zero i = refl
zeros (suc count) zero = refl
zeros (suc count) (suc i) = zeros count i

-- ---- the number of a plan

number_front : (table : NumberTable) (n : ℕ) → n < table.first → number_in table n ≡ 0
unfolding number_in
number_front table n less =
    let test : nat_lt n table.first ≡ true = grind (arith, nat_tests) in
    ap (λ (b : Bool). if b then 0 else get_or table.numbers.items (n - table.first) 0) test

number_behind : (table : NumberTable) (n : ℕ) → table.first ≤ n → number_in table n ≡ get_or table.numbers.items (n - table.first) 0
unfolding number_in
number_behind table n from =
    let test : nat_lt n table.first ≡ false = grind (arith, nat_tests) in
    ap (λ (b : Bool). if b then 0 else get_or table.numbers.items (n - table.first) 0) test

pub number_reached : (table : NumberTable) (n place x : ℕ) → IsReached table n × (place ≡ n - table.first) → x ≡ get_or table.numbers.items place x → x ≡ number_in table n
number_reached table n place x (reached, is) at =
    let inside : place < length table.numbers.items = omega (arith, reached.from, reached.to, is) in
    get_or_read table.numbers.items place x inside at 0 ∙ (ap (λ (p : ℕ). get_or table.numbers.items p 0) is ∙ sym (number_behind table n reached.from))

pub number_none : (table : NumberTable) (n : ℕ) → (IsReached table n → ⊥) → 0 ≡ number_in table n
number_none table n not = ⊎_elim front behind (cases_lt n table.first)
  where
    front : n < table.first → 0 ≡ number_in table n
    front less = sym (number_front table n less)

    behind : table.first ≤ n → 0 ≡ number_in table n
    behind from =
        ⊎_elim (λ (to : n < table.first + length table.numbers.items). absurd (not (record { from = from; to = to }))) (λ (past : table.first + length table.numbers.items ≤ n). sym (number_behind table n from ∙ get_or_past table.numbers.items (n - table.first) 0 (omega (arith, past)))) (cases_lt n (table.first + length table.numbers.items))

-- ---- a table of zeros

pub all_zero : (table : NumberTable) → ((i : ℕ) → get_or table.numbers.items i 0 ≡ 0) → (n : ℕ) → number_in table n ≡ 0
all_zero table zero_at n = ⊎_elim (number_front table n) (λ (from : table.first ≤ n). number_behind table n from ∙ zero_at (n - table.first)) (cases_lt n table.first)

pub none_numbers : (table : NumberTable) → table.numbers.items ≡ [] → (n : ℕ) → number_in table n ≡ 0
none_numbers table none n = all_zero table (λ i. ap (λ (xs : List ℕ). get_or xs i 0) none ∙ zeros 0 i) n

-- ---- zeros come behind the numbers, or in front of them

zeros_behind : (xs : List ℕ) (count i : ℕ) → get_or (xs ++ replicate count 0) i 0 ≡ get_or xs i 0
zeros_behind xs count i =
    ⊎_elim (λ (less : i < length xs). get_or_append_left xs (replicate count 0) 0 i less) (λ (past : length xs ≤ i). get_or-append_right xs (replicate count 0) (length xs) i 0 refl past ∙ (zeros count (i - length xs) ∙ sym (get_or_past xs i 0 past))) (cases_lt i (length xs))

resized_at : (xs : List ℕ) (n count : ℕ) (b : Bool) (i : ℕ) → length xs ≤ n → get_or (if b then take n xs ++ replicate count 0 else xs) i 0 ≡ get_or xs i 0
resized_at xs n count true i all = ap (λ (ys : List ℕ). get_or (ys ++ replicate count 0) i 0) (take_all n xs all) ∙ zeros_behind xs count i
resized_at xs n count false i all = refl

same_first : (old new : NumberTable) → new.first ≡ old.first → ((i : ℕ) → get_or new.numbers.items i 0 ≡ get_or old.numbers.items i 0) → KeepsAll old new
same_first old new first same n = ⊎_elim front behind (cases_lt n old.first)
  where
    front : n < old.first → number_in new n ≡ number_in old n
    front less = number_front new n (omega (arith, less, first)) ∙ sym (number_front old n less)

    behind : old.first ≤ n → number_in new n ≡ number_in old n
    behind from =
        number_behind new n (omega (arith, from, first)) ∙ (same (n - new.first) ∙ (ap (λ (f : ℕ). get_or old.numbers.items (n - f) 0) first ∙ sym (number_behind old n from)))

-- the table ends behind where it ended
pub resized : (old new : NumberTable) (n count : ℕ) (b : Bool) → new.first ≡ old.first → length old.numbers.items ≤ n → new.numbers.items ≡ (if b then take n old.numbers.items ++ replicate count 0 else old.numbers.items) → KeepsAll old new
resized old new n count b first all items = same_first old new first (λ i. ap (λ (xs : List ℕ). get_or xs i 0) items ∙ resized_at old.numbers.items n count b i all)

-- it had no numbers, and begins anywhere
pub begun : (old new : NumberTable) (n count : ℕ) (b : Bool) → old.numbers.items ≡ [] → new.numbers.items ≡ (if b then take n old.numbers.items ++ replicate count 0 else old.numbers.items) → KeepsAll old new
begun old new n count b none items k = all_zero new (λ i. ap (λ (xs : List ℕ). get_or xs i 0) items ∙ (resized_at old.numbers.items n count b i (omega (arith, ap length none)) ∙ (ap (λ (xs : List ℕ). get_or xs i 0) none ∙ zeros 0 i))) k ∙ sym (none_numbers old none k)

-- it begins in front of where it began
moved : (old new : NumberTable) (more : ℕ) → more ≤ old.first → new.first ≡ old.first - more → new.numbers.items ≡ replicate more 0 ++ old.numbers.items → KeepsAll old new
moved old new more within first items n = ⊎_elim front behind (cases_lt n new.first)
  where
    front : n < new.first → number_in new n ≡ number_in old n
    front less = number_front new n less ∙ sym (number_front old n (omega (arith, less, first)))

    zero_there : new.first ≤ n → n < old.first → number_in new n ≡ number_in old n
    zero_there from less =
        let long = length-replicate {A = ℕ} more 0 in
        number_behind new n from
        ∙ (ap (λ (xs : List ℕ). get_or xs (n - new.first) 0) items
        ∙ (get_or_append_left (replicate more 0) old.numbers.items 0 (n - new.first) (omega (arith, long, less, from, within, first)) ∙ (zeros more (n - new.first) ∙ sym (number_front old n less))))

    as_before : new.first ≤ n → old.first ≤ n → number_in new n ≡ number_in old n
    as_before from past =
        let place : n - new.first - more ≡ n - old.first = omega (arith, from, past, within, first) in
        number_behind new n from
        ∙ (ap (λ (xs : List ℕ). get_or xs (n - new.first) 0) items
        ∙ (get_or-append_right (replicate more 0) old.numbers.items more (n - new.first) 0 (length-replicate {A = ℕ} more 0) (omega (arith, from, past, within, first)) ∙ (ap (λ (i : ℕ). get_or old.numbers.items i 0) place ∙ sym (number_behind old n past))))

    behind : new.first ≤ n → number_in new n ≡ number_in old n
    behind from = ⊎_elim (zero_there from) (as_before from) (cases_lt n old.first)

-- zeros that were put behind the numbers are turned to the front
turned : (xs ys zs : List ℕ) (n count more size : ℕ) → length xs ≤ n → count ≡ more → ys ≡ take n xs ++ replicate count 0 → zs ≡ drop (size - more) ys ++ take (size - more) ys → size ≡ length xs + more → zs ≡ replicate more 0 ++ xs
turned xs ys zs n count more size all same behind turns long =
    let is : ys ≡ xs ++ replicate more 0 = behind ∙ (ap (λ (ts : List ℕ). ts ++ replicate count 0) (take_all n xs all) ∙ ap (λ (c : ℕ). xs ++ replicate c 0) same) in
    let at : length xs ≡ size - more = omega (arith, long) in
    turns
    ∙ (ap (λ (p : ℕ). drop p ys ++ take p ys) (sym at)
    ∙ (ap (λ (ts : List ℕ). drop (length xs) ts ++ take (length xs) ts) is
    ∙ (ap (λ (ts : List ℕ). ts ++ take (length xs) (xs ++ replicate more 0)) (drop_at xs (replicate more 0) (length xs) refl) ∙ ap (λ (ts : List ℕ). replicate more 0 ++ ts) (take_at xs (replicate more 0) (length xs) refl))))

pub begun_before : (old new : NumberTable) (ys : List ℕ) (n count more size : ℕ) → more ≤ old.first → new.first ≡ old.first - more → length old.numbers.items ≤ n → count ≡ more → ys ≡ take n old.numbers.items ++ replicate count 0 → new.numbers.items ≡ drop (size - more) ys ++ take (size - more) ys → size ≡ length old.numbers.items + more → KeepsAll old new
begun_before old new ys n count more size within first all same behind turns long = moved old new more within first (turned old.numbers.items ys new.numbers.items n count more size all same behind turns long)

-- ---- a number is put

pub put_number : (old new : NumberTable) (plan number : ℕ) → IsReached old plan → new.first ≡ old.first → new.numbers.items ≡ set old.numbers.items (plan - old.first) number → SetsNumber plan number old new
put_number old new plan number reached first items n = by (plan == n) refl
  where
    at : ℕ → ℕ
    at p = get_or old.numbers.items p 0

    other : ((plan ≡ n) → ⊥) → number_in new n ≡ number_in old n
    other apart =
        ⊎_elim (λ (less : n < old.first). number_front new n (omega (arith, less, first)) ∙ sym (number_front old n less)) (λ (from : old.first ≤ n).
        let places : (n - old.first ≡ plan - old.first) → ⊥ = λ same. apart (omega (arith, same, from, reached.from)) in
        number_behind new n (omega (arith, from, first))
        ∙ (ap (λ (xs : List ℕ). get_or xs (n - new.first) 0) items
        ∙ (ap (λ (f : ℕ). get_or (set old.numbers.items (plan - old.first) number) (n - f) 0) first ∙ (get_or-set_other old.numbers.items (plan - old.first) (n - old.first) number 0 places ∙ sym (number_behind old n from))))) (cases_lt n old.first)

    by : (b : Bool) → (plan == n) ≡ b → number_in new n ≡ (if b then number else number_in old n)
    by true here =
        let same : n ≡ plan = grind arith in
        let inside : plan - old.first < length old.numbers.items = omega (arith, reached.from, reached.to) in
        ap (number_in new) same
        ∙ (number_behind new plan (omega (arith, reached.from, first))
        ∙ (ap (λ (xs : List ℕ). get_or xs (plan - new.first) 0) items
        ∙ (ap (λ (f : ℕ). get_or (set old.numbers.items (plan - old.first) number) (plan - f) 0) first ∙ get_or-set_same old.numbers.items (plan - old.first) number 0 inside)))
    by false apart = other (λ same. grind (arith, same, apart))

-- the numbers were kept before one was put
pub put_after : (old mid new : NumberTable) (plan number : ℕ) → KeepsAll old mid → SetsNumber plan number mid new → SetsNumber plan number old new
put_after old mid new plan number keeps sets n = sets n ∙ ap (λ (k : ℕ). if plan == n then number else k) (keeps n)
