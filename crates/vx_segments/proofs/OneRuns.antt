-- Rows lie in one way in runs whose neighbours differ.
use Rattle.std.proofs.Common.{◌≡◌, ℕ, zero, suc, ◌-◌, ◌<◌, List, [], ◌∷◌, ◌++◌, length, drop, get_or, replicate, refl, sym, ap, subst, ◌∙◌, arith}
use Rattle.std.proofs.lemmas.List.{length-append, length-replicate}
use Rattle.vx_columns.specs.LaidRuns.{BeginOther, Differ, AreRunsOf}
use Rattle.vx_columns.specs.RunRows.{Rise}
use Rattle.vx_columns.specs.Runs.{spread}

-- ---- the front of a list
pub same_first : {X : Type 0} (v w : X) (xs ys : List X) → v ∷ xs ≡ w ∷ ys → v ≡ w
same_first {X} v w xs ys e = ap (λ (zs : List X). get_or zs 0 v) e

same_rest : {X : Type 0} (v w : X) (xs ys : List X) → v ∷ xs ≡ w ∷ ys → xs ≡ ys
same_rest {X} v w xs ys e = ap (λ (zs : List X). drop 1 zs) e

pub alike_once : {X : Type 0} (n : ℕ) (v w : X) → 0 < n → replicate n v ≡ replicate n w → v ≡ w
alike_once zero v w h e = absurd (omega arith)
alike_once (suc n) v w h e = same_first v w (replicate n v) (replicate n w) e

first_alike : {X : Type 0} (n m : ℕ) (v w : X) (xs ys : List X) → 0 < n → 0 < m → replicate n v ++ xs ≡ replicate m w ++ ys → v ≡ w
first_alike zero m v w xs ys p q e = absurd (omega arith)
first_alike (suc n) zero v w xs ys p q e = absurd (omega arith)
first_alike (suc n) (suc m) v w xs ys p q e = same_first v w (replicate n v ++ xs) (replicate m w ++ ys) e

-- ---- what begins with another
not_begun : {X : Type 0} (v : X) (xs rest : List X) → BeginOther v xs → xs ≡ v ∷ rest → ⊥
not_begun v [] rest h e = omega (arith, ap length e)
not_begun v (w ∷ xs) rest h e = h (sym (same_first w v xs rest e))

other_alike : {X : Type 0} (v w : X) (n : ℕ) (rest : List X) → 0 < n → ¬ (v ≡ w) → BeginOther v (replicate n w ++ rest)
other_alike v w zero rest p h = absurd (omega arith)
other_alike v w (suc n) rest p h = h

-- what a run is followed by begins with another value
spread_begins : {X : Type 0} (v : X) (from : ℕ) (vs : List X) (ends : List ℕ) → length ends ≡ length vs → Rise from ends → BeginOther v vs → BeginOther v (spread from vs ends)
spread_begins v from [] ends same rise h = tt
spread_begins v from (w ∷ vs) [] same rise h = absurd (omega arith)
spread_begins v from (w ∷ vs) (end ∷ ends) same rise h = other_alike v w (end - from) (spread end vs ends) (omega (arith, rise.0)) h

front_alike : {X : Type 0} (v : X) (a b : ℕ) (xs ys : List X) → BeginOther v xs → BeginOther v ys → replicate a v ++ xs ≡ replicate b v ++ ys → (a ≡ b) × (xs ≡ ys)
front_alike v zero zero xs ys p q e = (refl, e)
front_alike v zero (suc b) xs ys p q e = absurd (not_begun v xs (replicate b v ++ ys) p e)
front_alike v (suc a) zero xs ys p q e = absurd (not_begun v ys (replicate a v ++ xs) q (sym e))
front_alike v (suc a) (suc b) xs ys p q e =
    let rest = front_alike v a b xs ys p q (same_rest v v (replicate a v ++ xs) (replicate b v ++ ys) e) in
    (omega (arith, rest.0), rest.1)

-- ---- the one way
nothing_spread : {X : Type 0} (from end : ℕ) (w : X) (rest : List X) → from < end → [] ≡ replicate (end - from) w ++ rest → ⊥
nothing_spread from end w rest lt e = omega (arith, ap length e, length-append (replicate (end - from) w) rest, length-replicate (end - from) w, lt)

one_way : {X : Type 0} (from : ℕ) (vs ws : List X) (es fs : List ℕ) → length es ≡ length vs → Rise from es → Differ vs → length fs ≡ length ws → Rise from fs → Differ ws → spread from vs es ≡ spread from ws fs → (vs ≡ ws) × (es ≡ fs)
one_way from [] [] [] [] p r d q s f e = (refl, refl)
one_way from [] [] [] (end ∷ fs) p r d q s f e = absurd (omega arith)
one_way from [] [] (end ∷ es) fs p r d q s f e = absurd (omega arith)
one_way from [] (w ∷ ws) es [] p r d q s f e = absurd (omega arith)
one_way from [] (w ∷ ws) es (end ∷ fs) p r d q s f e = absurd (nothing_spread from end w (spread end ws fs) s.0 e)
one_way from (v ∷ vs) [] [] fs p r d q s f e = absurd (omega arith)
one_way from (v ∷ vs) [] (end ∷ es) fs p r d q s f e = absurd (nothing_spread from end v (spread end vs es) r.0 (sym e))
one_way from (v ∷ vs) (w ∷ ws) [] fs p r d q s f e = absurd (omega arith)
one_way from (v ∷ vs) (w ∷ ws) (one ∷ es) [] p r d q s f e = absurd (omega arith)
one_way {X} from (v ∷ vs) (w ∷ ws) (one ∷ es) (two ∷ fs) p r d q s f e =
    let here : v ≡ w = first_alike (one - from) (two - from) v w (spread one vs es) (spread two ws fs) (omega (arith, r.0)) (omega (arith, s.0)) e in
    let again : replicate (one - from) v ++ spread one vs es ≡ replicate (two - from) v ++ spread two ws fs = e ∙ ap (λ (x : X). replicate (two - from) x ++ spread two ws fs) (sym here) in
    let fewer : length es ≡ length vs = omega (arith, p) in
    let others : length fs ≡ length ws = omega (arith, q) in
    let later = front_alike v (one - from) (two - from) (spread one vs es) (spread two ws fs) (spread_begins v one vs es fewer r.1 d.0) (spread_begins v two ws fs others s.1 (subst (λ (x : X). BeginOther x ws) (sym here) f.0)) again in
    let end : one ≡ two = omega (arith, later.0, r.0, s.0) in
    let rest = one_way one vs ws es fs fewer r.1 d.1 others (subst (λ (k : ℕ). Rise k fs) (sym end) s.1) f.1 (later.1 ∙ ap (λ (k : ℕ). spread k ws fs) (sym end)) in
    (λ i. here i ∷ rest.0 i, λ i. end i ∷ rest.1 i)

pub runs_once : {X : Type 0} (rows vs ws : List X) (es fs : List ℕ) → AreRunsOf rows vs es → AreRunsOf rows ws fs → (vs ≡ ws) × (es ≡ fs)
runs_once rows vs ws es fs a b = one_way 0 vs ws es fs a.same a.rise a.differ b.same b.rise b.differ (a.filled ∙ sym b.filled)
