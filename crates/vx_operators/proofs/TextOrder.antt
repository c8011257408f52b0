-- Texts by their fronts: where these differ, the texts stand to each other as the fronts do; where they are the same and
-- no byte lies behind them, as the lengths do.
use Rattle.std.proofs.Common.{◌≡◌, ◌≢◌, Ordering, ℕ, zero, suc, ◌+◌, ◌*◌, ◌^◌, ◌<◌, ◌≤◌, List, [], ◌∷◌, length, get_or, Option, Some, refl, sym, ap, ◌∙◌, arith}
use Rattle.std.specs.Cmp.{ranks, nat_cmp_is}
use Rattle.std.specs.Cmp.Lexicographic.{slice_cmp}
use Rattle.std.specs.Ordering.{nat_cmp, ordering_then, MatchOrdering}
use Rattle.std.specs.declared.cmp.Ordering.TheVariants.{Less, Equal, Greater}
use Rattle.std.specs.Prelude.{option_map}
use Rattle.std.proofs.Math.Nat.{mul-le-mul_right, suc-mul}
use Rattle.vx_arrays.specs.Fronts.{spelled, front_number}
use Rattle.vx_arrays.proofs.Fronts.{spelled_below}

-- ---- which of two numbers is the lower
below : (x y : ℕ) → x < y → nat_cmp x y ≡ Less
below x y l = sym (nat_cmp_is x y Less l)

above : (x y : ℕ) → y < x → nat_cmp x y ≡ Greater
above x y l = sym (nat_cmp_is x y Greater l)

ranked_behind : (a s t : ℕ) (r : Ordering) → MatchOrdering r (s < t) (s ≡ t) (t < s) → MatchOrdering r (a + s < a + t) (a + s ≡ a + t) (a + t < a + s)
ranked_behind a s t Less h =
    let l : s < t = h in
    let more : a + s < a + t = omega arith in
    more
ranked_behind a s t Equal h = ap (λ (n : ℕ). a + n) h
ranked_behind a s t Greater h =
    let l : t < s = h in
    let more : a + t < a + s = omega arith in
    more

-- what stands before both changes nothing
behind : (a s t : ℕ) → nat_cmp s t ≡ nat_cmp (a + s) (a + t)
behind a s t = nat_cmp_is (a + s) (a + t) (nat_cmp s t) (ranked_behind a s t (nat_cmp s t) (ranks s t))

one_longer : (m n : ℕ) → nat_cmp m n ≡ nat_cmp (suc m) (suc n)
one_longer m n =
    let first : 1 + m ≡ suc m = omega arith in
    let second : 1 + n ≡ suc n = omega arith in
    behind 1 m n ∙ ap (λ (k : ℕ). nat_cmp k (1 + n)) first ∙ ap (λ (k : ℕ). nat_cmp (suc m) k) second

-- ---- the first digit decides
rises : (u v s t p : ℕ) → u < v → s < p → u * p + s < v * p + t
rises u v s t p h l =
    let under : suc u ≤ v = omega arith in
    let most : suc u * p ≤ v * p = mul-le-mul_right p under in
    omega (arith, most, suc-mul u p)

-- texts stand to each other as the numbers that their beginnings spell, where these differ
stands : (count : ℕ) (us vs : List ℕ) → ((k : ℕ) → get_or us k 0 < 256) → ((k : ℕ) → get_or vs k 0 < 256) → (spelled count us ≢ spelled count vs) → slice_cmp nat_cmp us vs ≡ nat_cmp (spelled count us) (spelled count vs)
stands zero us vs g h f = absurd (f refl)
stands (suc count) [] [] g h f = absurd (f refl)
stands (suc count) [] (v ∷ vs) g h f =
    let more : 0 < spelled (suc count) (v ∷ vs) = omega arith in
    sym (below 0 _ more)
stands (suc count) (u ∷ us) [] g h f =
    let more : 0 < spelled (suc count) (u ∷ us) = omega arith in
    sym (above _ 0 more)
stands (suc count) (u ∷ us) (v ∷ vs) g h f = by (λ d. stands count us vs (λ k. g (suc k)) (λ k. h (suc k)) d) (nat_cmp u v) refl (ranks u v)
  where
    by : ((spelled count us ≢ spelled count vs) → slice_cmp nat_cmp us vs ≡ nat_cmp (spelled count us) (spelled count vs))
        → (r : Ordering) → nat_cmp u v ≡ r → MatchOrdering r (u < v) (u ≡ v) (v < u) → slice_cmp nat_cmp (u ∷ us) (v ∷ vs) ≡ nat_cmp (spelled (suc count) (u ∷ us)) (spelled (suc count) (v ∷ vs))
    by rest Less e l =
        let under : u < v = l in
        ap (λ (r : Ordering). ordering_then r (slice_cmp nat_cmp us vs)) e ∙ sym (below _ _ (rises u v (spelled count us) (spelled count vs) (2 ^ (8 * count)) under (spelled_below count us (λ k. g (suc k)))))
    by rest Greater e l =
        let over : v < u = l in
        ap (λ (r : Ordering). ordering_then r (slice_cmp nat_cmp us vs)) e ∙ sym (above _ _ (rises v u (spelled count vs) (spelled count us) (2 ^ (8 * count)) over (spelled_below count vs (λ k. h (suc k)))))
    by rest Equal e l =
        let level : u ≡ v = l in
        let p = 2 ^ (8 * count) in
        ap (λ (r : Ordering). ordering_then r (slice_cmp nat_cmp us vs)) e
        ∙ rest (λ d. f (ap (λ (s : ℕ). u * p + s) d ∙ ap (λ (w : ℕ). w * p + spelled count vs) level))
        ∙ behind (u * p) (spelled count us) (spelled count vs)
        ∙ ap (λ (w : ℕ). nat_cmp (u * p + spelled count us) (w * p + spelled count vs)) level

-- ---- nothing behind the beginnings
stands_by_length : (count : ℕ) (us vs : List ℕ) → ((k : ℕ) → get_or us k 0 < 256) → ((k : ℕ) → get_or vs k 0 < 256) → spelled count us ≡ spelled count vs → length us ≤ count → length vs ≤ count
    → slice_cmp nat_cmp us vs ≡ nat_cmp (length us) (length vs)
stands_by_length count [] [] g h e p q = refl
stands_by_length count [] (v ∷ vs) g h e p q =
    let more : 0 < suc (length vs) = omega arith in
    sym (below 0 (suc (length vs)) more)
stands_by_length count (u ∷ us) [] g h e p q =
    let more : 0 < suc (length us) = omega arith in
    sym (above (suc (length us)) 0 more)
stands_by_length zero (u ∷ us) (v ∷ vs) g h e p q = absurd (omega arith)
stands_by_length (suc count) (u ∷ us) (v ∷ vs) g h e p q = by (λ r. stands_by_length count us vs (λ k. g (suc k)) (λ k. h (suc k)) r (omega arith) (omega arith)) (nat_cmp u v) refl (ranks u v)
  where
    by : (spelled count us ≡ spelled count vs → slice_cmp nat_cmp us vs ≡ nat_cmp (length us) (length vs))
        → (r : Ordering) → nat_cmp u v ≡ r → MatchOrdering r (u < v) (u ≡ v) (v < u) → slice_cmp nat_cmp (u ∷ us) (v ∷ vs) ≡ nat_cmp (suc (length us)) (suc (length vs))
    by rest Less d l =
        let under : u < v = l in
        let whole : u * 2 ^ (8 * count) + spelled count us ≡ v * 2 ^ (8 * count) + spelled count vs = e in
        absurd (omega (arith, whole, rises u v (spelled count us) (spelled count vs) (2 ^ (8 * count)) under (spelled_below count us (λ k. g (suc k)))))
    by rest Greater d l =
        let over : v < u = l in
        let whole : u * 2 ^ (8 * count) + spelled count us ≡ v * 2 ^ (8 * count) + spelled count vs = e in
        absurd (omega (arith, whole, rises v u (spelled count vs) (spelled count us) (2 ^ (8 * count)) over (spelled_below count vs (λ k. h (suc k)))))
    by rest Equal d l =
        let level : u ≡ v = l in
        let whole : u * 2 ^ (8 * count) + spelled count us ≡ v * 2 ^ (8 * count) + spelled count vs = e in
        let same : u * 2 ^ (8 * count) + spelled count vs ≡ v * 2 ^ (8 * count) + spelled count vs = ap (λ (w : ℕ). w * 2 ^ (8 * count) + spelled count vs) level in
        let left : spelled count us ≡ spelled count vs = omega (arith, whole, same) in
        ap (λ (r : Ordering). ordering_then r (slice_cmp nat_cmp us vs)) d ∙ rest left ∙ one_longer (length us) (length vs)

-- ---- fronts
module _ (us vs : List ℕ) (g : (k : ℕ) → get_or us k 0 < 256) (h : (k : ℕ) → get_or vs k 0 < 256) where
  pub by_fronts : (front_number us ≢ front_number vs) → slice_cmp nat_cmp us vs ≡ nat_cmp (front_number us) (front_number vs)
  unfolding front_number
  by_fronts f = stands 16 us vs g h f

  pub by_lengths : front_number us ≡ front_number vs → length us ≤ 16 → length vs ≤ 16 → slice_cmp nat_cmp us vs ≡ nat_cmp (length us) (length vs)
  unfolding front_number
  by_lengths e p q = stands_by_length 16 us vs g h e p q

-- the front of the text of a row
pub front_there : (found : Option (List ℕ)) (text : List ℕ) (front : ℕ) → option_map front_number found ≡ Some front → found ≡ Some text → front ≡ front_number text
front_there found text front e there =
    let same : Some front ≡ Some (front_number text) = sym e ∙ ap (option_map front_number) there in
    cc
