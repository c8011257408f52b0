-- Names gone through one by one beside those seen before, and the set that holds these.
use Rattle.std.proofs.Common.{◌≡◌, ℕ, Bool, true, false, not, ◌&&◌, ◌||◌, List, [], ◌∷◌, map, refl, sym, ap, ◌∙◌, Bor, Ordering}
use Rattle.std.specs.List.{list_any}
use Rattle.std.specs.Str.{bytes_eq}
use Rattle.std.specs.BTreeSet.{insert_key}
use Rattle.std.specs.BTreeMap.{is_at}
use Rattle.std.specs.Ordering.{is_eq, nat_cmp, match_ordering}
use Rattle.std.specs.declared.cmp.Ordering.TheVariants.{Less, Equal, Greater}
use Rattle.std.specs.Cmp.Lexicographic.{slice_cmp}
use Rattle.std.proofs.lemmas.Map.Text.{is_eq-slice_cmp}
use Rattle.std.proofs.lemmas.Slice.Eq.{bytes_eq-Decides}
use Rattle.vx_types.specs.Names.{are_distinct}
use Rattle.std.proofs.Math.Bool.{and-true}

-- the name stands among those seen
abbrev pub is_seen : List (List ℕ) → List ℕ → Bool
is_seen seen name = list_any (λ other. bytes_eq other name) seen

-- none of the names was seen, or stands twice
abbrev pub are_fresh : List (List ℕ) → List (List ℕ) → Bool
are_fresh seen [] = true
are_fresh seen (name ∷ names) = not (is_seen seen name) && are_fresh (name ∷ seen) names

-- ---- nothing seen yet
eq_swap : (xs ys : List ℕ) (a b : Bool) → bytes_eq xs ys ≡ a → bytes_eq ys xs ≡ b → a ≡ b
eq_swap xs ys true true e f = refl
eq_swap xs ys false false e f = refl
eq_swap xs ys true false e f = let no = (bytes_eq-Decides ys xs).1 (sym ((bytes_eq-Decides xs ys).0 e)) in absurd cc
eq_swap xs ys false true e f = let no = (bytes_eq-Decides xs ys).1 (sym ((bytes_eq-Decides ys xs).0 f)) in absurd cc

swapped : (xs ys : List ℕ) → bytes_eq xs ys ≡ bytes_eq ys xs
swapped xs ys = eq_swap xs ys _ _ refl refl

or_or : (a b c d : Bool) → ((a || b) || (c || d)) ≡ ((a || c) || (b || d))
or_or true b c d = refl
or_or false true true d = refl
or_or false false true d = refl
or_or false true false d = refl
or_or false false false d = refl

any_either : (name : List ℕ) (seen : List (List ℕ)) (names : List (List ℕ)) → list_any (is_seen (name ∷ seen)) names ≡ (is_seen names name || list_any (is_seen seen) names)
any_either name seen [] = refl
any_either name seen (n ∷ ns) =
    ap (λ (b : Bool). (b || is_seen seen n) || list_any (is_seen (name ∷ seen)) ns) (swapped name n)
    ∙ ap (λ (b : Bool). (bytes_eq n name || is_seen seen n) || b) (any_either name seen ns)
    ∙ or_or (bytes_eq n name) (is_seen seen n) (is_seen ns name) (list_any (is_seen seen) ns)

joined : (a b c d : Bool) → (not a && (b && not (c || d))) ≡ ((not c && b) && not (a || d))
joined true true true d = refl
joined true true false d = refl
joined true false true d = refl
joined true false false d = refl
joined false true true d = refl
joined false true false d = refl
joined false false true d = refl
joined false false false d = refl

fresh_is : (seen names : List (List ℕ)) → are_fresh seen names ≡ (are_distinct names && not (list_any (is_seen seen) names))
fresh_is seen [] = refl
fresh_is seen (name ∷ names) =
    ap (λ (b : Bool). not (is_seen seen name) && b) (fresh_is (name ∷ seen) names)
    ∙ ap (λ (b : Bool). not (is_seen seen name) && (are_distinct names && not b)) (any_either name seen names)
    ∙ joined (is_seen seen name) (are_distinct names) (is_seen names name) (list_any (is_seen seen) names)

none_seen : (names : List (List ℕ)) → list_any (is_seen []) names ≡ false
none_seen [] = refl
none_seen (name ∷ names) = none_seen names

-- names are distinct where all of them are fresh
pub distinct_is : (names : List (List ℕ)) → are_distinct names ≡ are_fresh [] names
distinct_is names = sym (fresh_is [] names ∙ ap (λ (b : Bool). are_distinct names && not b) (none_seen names) ∙ and-true (are_distinct names))

-- ---- what a set has seen
-- it doesn't matter in which order names were seen
fresh_same : (seen others names : List (List ℕ)) → ((q : List ℕ) → is_seen seen q ≡ is_seen others q) → are_fresh seen names ≡ are_fresh others names
fresh_same seen others [] same = refl
fresh_same seen others (name ∷ names) same =
    ap (λ (b : Bool). not b && are_fresh (name ∷ seen) names) (same name)
    ∙ ap (λ (b : Bool). not (is_seen others name) && b) (fresh_same (name ∷ seen) (name ∷ others) names (λ q. ap (λ (b : Bool). bytes_eq name q || b) (same q)))

-- the texts of a set's keys
abbrev pub texts : List (Bor (List ℕ)) → List (List ℕ)
texts keys = map (λ key. key.now) keys

abbrev pub text_cmp : Bor (List ℕ) → Bor (List ℕ) → Ordering
text_cmp x y = slice_cmp nat_cmp x.now y.now

-- a set looks a key up by its bytes
pub looked_up : (keys : List (Bor (List ℕ))) (key : Bor (List ℕ)) → list_any (is_at (text_cmp key)) keys ≡ is_seen (texts keys) key.now
looked_up [] key = refl
looked_up (k ∷ ks) key = let here = is_eq-slice_cmp key.now k.now ∙ swapped key.now k.now in let later = looked_up ks key in λ i. here i || later i

pub or_swap : (a b c : Bool) → (a || (b || c)) ≡ (b || (a || c))
or_swap true true c = refl
or_swap true false c = refl
or_swap false b c = refl

or_same : (a b : Bool) → (a || (a || b)) ≡ (a || b)
or_same true b = refl
or_same false b = refl

inserted_at : (o : Ordering) (k : Bor (List ℕ)) (key : Bor (List ℕ)) (ks rest : List (Bor (List ℕ))) (q : List ℕ) → (o ≡ Equal → key.now ≡ k.now) → is_seen (texts rest) q ≡ (bytes_eq key.now q || is_seen (texts ks) q)
    → is_seen (texts (match_ordering o (key ∷ k ∷ ks) (k ∷ ks) (k ∷ rest))) q ≡ (bytes_eq key.now q || (bytes_eq k.now q || is_seen (texts ks) q))
inserted_at Less k key ks rest q same later = refl
inserted_at Equal k key ks rest q same later = sym (ap (λ (x : List ℕ). bytes_eq x q || (bytes_eq k.now q || is_seen (texts ks) q)) (same refl) ∙ or_same (bytes_eq k.now q) (is_seen (texts ks) q))
inserted_at Greater k key ks rest q same later = ap (λ (b : Bool). bytes_eq k.now q || b) later ∙ or_swap (bytes_eq k.now q) (bytes_eq key.now q) (is_seen (texts ks) q)

same_text : (xs ys : List ℕ) → slice_cmp nat_cmp xs ys ≡ Equal → xs ≡ ys
same_text xs ys e = (bytes_eq-Decides xs ys).0 (sym (is_eq-slice_cmp xs ys) ∙ ap is_eq e)

-- what a set has seen after an insertion
pub inserted : (keys : List (Bor (List ℕ))) (key : Bor (List ℕ)) (q : List ℕ) → is_seen (texts (insert_key text_cmp keys key)) q ≡ is_seen (key.now ∷ texts keys) q
inserted [] key q = refl
inserted (k ∷ ks) key q = inserted_at (text_cmp key k) k key ks (insert_key text_cmp ks key) q (same_text key.now k.now) (inserted ks key q)

new_step : (a b c : Bool) → a ≡ not b → a ≡ true → (not b && c) ≡ c
new_step true true c e f = absurd cc
new_step true false c e f = refl
new_step false b c e f = absurd cc

old_step : (a b c : Bool) → a ≡ not b → a ≡ false → (not b && c) ≡ false
old_step true b c e f = absurd cc
old_step false true c e f = refl
old_step false false c e f = absurd cc

-- a name that is new goes into the set
pub fresh_more : (keys after : List (Bor (List ℕ))) (key : Bor (List ℕ)) (names : List (List ℕ)) (added : Bool) → added ≡ not (list_any (is_at (text_cmp key)) keys) → added ≡ true → after ≡ insert_key text_cmp keys key
    → are_fresh (texts keys) (key.now ∷ names) ≡ are_fresh (texts after) names
fresh_more keys after key names added is new e =
    new_step added (is_seen (texts keys) key.now) (are_fresh (key.now ∷ texts keys) names) (is ∙ ap not (looked_up keys key)) new
    ∙ fresh_same (key.now ∷ texts keys) (texts (insert_key text_cmp keys key)) names (λ q. sym (inserted keys key q))
    ∙ ap (λ (ks : List (Bor (List ℕ))). are_fresh (texts ks) names) (sym e)

-- a name that was there
pub fresh_no_more : (keys : List (Bor (List ℕ))) (key : Bor (List ℕ)) (names : List (List ℕ)) (added : Bool) → added ≡ not (list_any (is_at (text_cmp key)) keys) → added ≡ false → are_fresh (texts keys) (key.now ∷ names) ≡ false
fresh_no_more keys key names added is old = old_step added (is_seen (texts keys) key.now) (are_fresh (key.now ∷ texts keys) names) (is ∙ ap not (looked_up keys key)) old
