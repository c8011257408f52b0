-- Members by their names, as they are put into an object one after another.
use Rattle.std.proofs.Common.{◌≡◌, ℕ, ◌+◌, ◌<◌, ◌&&◌, ◌||◌, not, List, [], ◌∷◌, Bool, true, false, cond, Option, Some, None, Ordering, Less, Equal, Greater, nat_cmp, is_eq, bytes_eq, refl, sym, subst, ap, ◌∙◌, arith}
use Rattle.std.specs.Option.{option_map_or}
use Rattle.std.specs.Ordering.{match_ordering, ordering_reverse}
use Rattle.std.specs.Cmp.Lexicographic.{slice_cmp}
use Rattle.std.proofs.lemmas.Cmp.{nat_list_cmp_total, tied_itself}
use Rattle.std.proofs.lemmas.Map.Text.{is_eq-slice_cmp}
use Rattle.std.proofs.lemmas.Slice.Eq.{bytes_eq-Decides}
use Rattle.serde_json.specs.Data.{Data, Members, no_members, member, put}
use Rattle.serde_json.specs.Events.{members_len}
use Rattle.serde_json.specs.Find.{get_member}
use Rattle.serde_json.proofs.Views.{get_member-put, get_member-put_other}
use Rattle.scan_json.specs.Members.{present, present_of, is_one_of, are_apart, has_other, AreAbove, AreRising}

-- ---- what is found by a name

differ : (xs ys : List ℕ) → bytes_eq xs ys ≡ false → xs ≡ ys → ⊥
differ xs ys apart same = let yes : bytes_eq xs ys ≡ true = (bytes_eq-Decides xs ys).1 same in cc

-- after a member was put, its name finds it, and the others find what they found
pub found_put : (name k : List ℕ) (d : Data) (ms : Members) → get_member name (put k d ms) ≡ cond (bytes_eq k name) (Some d) (get_member name ms)
found_put name k d ms = tested (bytes_eq k name) refl
  where
    tested : (b : Bool) → bytes_eq k name ≡ b → get_member name (put k d ms) ≡ cond b (Some d) (get_member name ms)
    tested true e = let same : k ≡ name = (bytes_eq-Decides k name).0 e in ap (λ n. get_member n (put k d ms)) (sym same) ∙ get_member-put k d ms
    tested false e = get_member-put_other name k d ms (λ h. differ k name e (sym h))

either : (o : Ordering) (a b : Option Data) → is_eq o ≡ false → match_ordering o a b a ≡ a
either Less a b e = refl
either Equal a b e = absurd cc
either Greater a b e = refl

pub found_first : (k : List ℕ) (d : Data) (ms : Members) → get_member k (member k d ms) ≡ Some d
found_first k d ms = rw (tied_itself nat_list_cmp_total k) refl

pub found_later : (name k : List ℕ) (d : Data) (ms : Members) → bytes_eq name k ≡ false → get_member name (member k d ms) ≡ get_member name ms
found_later name k d ms e = either (slice_cmp nat_cmp name k) (get_member name ms) (Some d) (is_eq-slice_cmp name k ∙ e)

-- ---- names that ascend

above_all : (j k : List ℕ) (ms : Members) → slice_cmp nat_cmp j k ≡ Less → AreAbove k ms → AreAbove j ms
above_all j k no_members less above = tt
above_all j k (member l e ms) less above = (nat_list_cmp_total.trans j k l less above.0, above_all j k ms less above.1)

above_at : (o : Ordering) (j k l : List ℕ) (d e : Data) (ms : Members) → slice_cmp nat_cmp j k ≡ Less → slice_cmp nat_cmp j l ≡ Less → AreAbove j ms → AreAbove j (put k d ms)
    → AreAbove j (match_ordering o (member k d (member l e ms)) (member l d ms) (member l e (put k d ms)))
above_at Less j k l d e ms less first rest later = (less, (first, rest))
above_at Equal j k l d e ms less first rest later = (first, rest)
above_at Greater j k l d e ms less first rest later = (first, later)

above_put : (j k : List ℕ) (d : Data) (ms : Members) → slice_cmp nat_cmp j k ≡ Less → AreAbove j ms → AreAbove j (put k d ms)
above_put j k d no_members less above = (less, tt)
above_put j k d (member l e ms) less above = above_at (slice_cmp nat_cmp k l) j k l d e ms less above.0 above.1 (above_put j k d ms less above.1)

rising_at : (o : Ordering) (k l : List ℕ) (d e : Data) (ms : Members) → slice_cmp nat_cmp k l ≡ o → AreAbove l ms → AreRising ms → AreRising (put k d ms)
    → AreRising (match_ordering o (member k d (member l e ms)) (member l d ms) (member l e (put k d ms)))
rising_at Less k l d e ms is above rising later = ((is, above_all k l ms is above), (above, rising))
rising_at Equal k l d e ms is above rising later = (above, rising)
rising_at Greater k l d e ms is above rising later = (above_put l k d ms (nat_list_cmp_total.antisymm l k ∙ ap ordering_reverse is) above, later)

pub rising_put : (k : List ℕ) (d : Data) (ms : Members) → AreRising ms → AreRising (put k d ms)
rising_put k d no_members rising = (tt, tt)
rising_put k d (member l e ms) rising = rising_at (slice_cmp nat_cmp k l) k l d e ms refl rising.0 rising.1 (rising_put k d ms rising.1)

not_found : (o : Ordering) (d : Data) (rest : Option Data) → o ≡ Less → rest ≡ None → match_ordering o rest (Some d) rest ≡ None
not_found Less d rest is none = none
not_found Equal d rest is none = absurd cc
not_found Greater d rest is none = none

-- a name below all isn't found
absent : (k : List ℕ) (ms : Members) → AreAbove k ms → get_member k ms ≡ None
absent k no_members above = refl
absent k (member l e ms) above = not_found (slice_cmp nat_cmp k l) e (get_member k ms) above.0 (absent k ms above.1)

-- ---- how many members there are

abbrev pub one_if : Bool → ℕ
one_if true = 1
one_if false = 0

abbrev pub other_count : List (List ℕ) → Members → ℕ
other_count names no_members = 0
other_count names (member k d ms) = one_if (not (is_one_of names k)) + other_count names ms

none_present : (names : List (List ℕ)) → present_of names no_members ≡ 0
none_present [] = refl
none_present (name ∷ names) = let rest = none_present names in omega (arith, rest)

apart_from : (a b : Bool) → not a && b ≡ true → (a ≡ false) × (b ≡ true)
apart_from true b e = absurd cc
apart_from false b e = (refl, e)

pub neither : (a b : Bool) → a || b ≡ false → (a ≡ false) × (b ≡ false)
neither true b e = absurd cc
neither false b e = (refl, e)

-- a member of another name changes nothing
present_later : (names : List (List ℕ)) (k : List ℕ) (d : Data) (ms : Members) → is_one_of names k ≡ false → present_of names (member k d ms) ≡ present_of names ms
present_later [] k d ms other = refl
present_later (name ∷ names) k d ms other =
    let both = neither (bytes_eq k name) (is_one_of names k) other in
    let back : bytes_eq name k ≡ false = turned (bytes_eq name k) refl both.0 in
    let first : present name (member k d ms) ≡ present name ms = ap (λ o. option_map_or (λ (d : Data). 1) o 0) (found_later name k d ms back) in
    let rest = present_later names k d ms both.1 in
    omega (arith, first, rest)
  where
    turned : (b : Bool) → bytes_eq name k ≡ b → bytes_eq k name ≡ false → b ≡ false
    turned true e unlike = absurd (differ k name unlike (sym ((bytes_eq-Decides name k).0 e)))
    turned false e unlike = refl

-- one more member of a new name
present_first : (names : List (List ℕ)) (k : List ℕ) (d : Data) (ms : Members) → are_apart names ≡ true → get_member k ms ≡ None → present_of names (member k d ms) ≡ present_of names ms + one_if (is_one_of names k)
present_first [] k d ms apart new = refl
present_first (name ∷ names) k d ms apart new = tested (bytes_eq k name) (λ rest_apart. present_first names k d ms rest_apart new) refl
  where
    both : (is_one_of names name ≡ false) × (are_apart names ≡ true)
    both = apart_from (is_one_of names name) (are_apart names) apart

    tested : (b : Bool) → (are_apart names ≡ true → present_of names (member k d ms) ≡ present_of names ms + one_if (is_one_of names k)) → bytes_eq k name ≡ b → present name (member k d ms) + present_of names (member k d ms) ≡ (present name ms + present_of names ms) + one_if (b || is_one_of names k)
    tested true later e =
        let same : k ≡ name = (bytes_eq-Decides k name).0 e in
        let found : present name (member k d ms) ≡ 1 = ap (λ n. option_map_or (λ (d : Data). 1) (get_member n (member k d ms)) 0) (sym same) ∙ ap (λ o. option_map_or (λ (d : Data). 1) o 0) (found_first k d ms) in
        let absent : present name ms ≡ 0 = ap (λ n. option_map_or (λ (d : Data). 1) (get_member n ms) 0) (sym same) ∙ ap (λ o. option_map_or (λ (d : Data). 1) o 0) new in
        let rest : present_of names (member k d ms) ≡ present_of names ms = present_later names k d ms (ap (is_one_of names) same ∙ both.0) in
        omega (arith, found, absent, rest)
    tested false later e =
        let back : bytes_eq name k ≡ false = turned (bytes_eq name k) refl in
        let first : present name (member k d ms) ≡ present name ms = ap (λ o. option_map_or (λ (d : Data). 1) o 0) (found_later name k d ms back) in
        let rest = later both.1 in
        omega (arith, first, rest)
      where
        turned : (b : Bool) → bytes_eq name k ≡ b → b ≡ false
        turned true f = absurd (differ k name e (sym ((bytes_eq-Decides name k).0 f)))
        turned false f = refl

one_or_other : (b : Bool) → one_if b + one_if (not b) ≡ 1
one_or_other true = refl
one_or_other false = refl

-- each member has one of the names or another one
pub counted : (names : List (List ℕ)) (ms : Members) → are_apart names ≡ true → AreRising ms → members_len ms ≡ present_of names ms + other_count names ms
counted names no_members apart rising = let none = none_present names in omega (arith, none)
counted names (member k d ms) apart rising =
    let first = present_first names k d ms apart (absent k ms rising.0) in
    let rest = counted names ms apart rising.1 in
    let one = one_or_other (is_one_of names k) in
    omega (arith, first, rest, one)

pub no_others : (names : List (List ℕ)) (ms : Members) → has_other names ms ≡ false → other_count names ms ≡ 0
no_others names no_members none = refl
no_others names (member k d ms) none =
    let both = neither (not (is_one_of names k)) (has_other names ms) none in
    let first : one_if (not (is_one_of names k)) ≡ 0 = ap one_if both.0 in
    let rest = no_others names ms both.1 in
    omega (arith, first, rest)

pub some_others : (names : List (List ℕ)) (ms : Members) → has_other names ms ≡ true → 0 < other_count names ms
some_others names no_members some = absurd cc
some_others names (member k d ms) some = tested (not (is_one_of names k)) (λ e. some_others names ms e) some
  where
    tested : (b : Bool) → (has_other names ms ≡ true → 0 < other_count names ms) → b || has_other names ms ≡ true → 0 < one_if b + other_count names ms
    tested true later e = omega arith
    tested false later e = let rest = later e in omega (arith, rest)

-- ---- whether a member has another name

other_at : (o : Ordering) (names : List (List ℕ)) (k l : List ℕ) (d e : Data) (ms : Members) → slice_cmp nat_cmp k l ≡ o → has_other names (put k d ms) ≡ not (is_one_of names k) || has_other names ms
    → has_other names (match_ordering o (member k d (member l e ms)) (member l d ms) (member l e (put k d ms))) ≡ not (is_one_of names k) || (not (is_one_of names l) || has_other names ms)
other_at Less names k l d e ms is later = refl
other_at Equal names k l d e ms is later =
    let same : k ≡ l = (bytes_eq-Decides k l).0 (sym (is_eq-slice_cmp k l) ∙ ap is_eq is) in
    rw same (twice (not (is_one_of names l)) (has_other names ms))
  where
    twice : (a b : Bool) → a || b ≡ a || (a || b)
    twice true b = refl
    twice false b = refl
other_at Greater names k l d e ms is later = ap (λ b. not (is_one_of names l) || b) later ∙ swapped (not (is_one_of names l)) (not (is_one_of names k)) (has_other names ms)
  where
    swapped : (a b c : Bool) → a || (b || c) ≡ b || (a || c)
    swapped true true c = refl
    swapped true false c = refl
    swapped false b c = refl

pub other_put : (names : List (List ℕ)) (k : List ℕ) (d : Data) (ms : Members) → has_other names (put k d ms) ≡ not (is_one_of names k) || has_other names ms
other_put names k d no_members = refl
other_put names k d (member l e ms) = other_at (slice_cmp nat_cmp k l) names k l d e ms refl (other_put names k d ms)

-- ---- a name is one of these, or another

abbrev pub HoldsAt : (List ℕ → Type 0) → List (List ℕ) → Type 0
HoldsAt P [] = Unit {0}
HoldsAt P (name ∷ names) = P name × HoldsAt P names

pub by_name : (P : List ℕ → Type 0) (names : List (List ℕ)) (k : List ℕ) → HoldsAt P names → (is_one_of names k ≡ false → P k) → P k
by_name P [] k holds other = other refl
by_name P (name ∷ names) k holds other = tested (bytes_eq k name) (λ later. by_name P names k holds.1 later) refl
  where
    tested : (b : Bool) → ((is_one_of names k ≡ false → P k) → P k) → bytes_eq k name ≡ b → P k
    tested true later e = subst P (sym ((bytes_eq-Decides k name).0 e)) holds.0
    tested false later e = later (λ rest. other (rw e rest))
