-- Rows that are made one by one: one row more, and no rows left.
use Rattle.std.specs.Prelude.{slice_get}
use Rattle.std.proofs.Common.{◌≡◌, ℕ, zero, suc, ◌+◌, Bool, cond, length, map, take, drop, set, get_or, replicate, Some, None, append_assoc, List, [], ◌∷◌, ◌++◌, Option, refl, sym, ap, subst, ◌∙◌, arith}
use Rattle.std.proofs.lemmas.Option.{slice_get_within, get_or_from_slice_get}
use Rattle.std.proofs.lemmas.List.{append-nil, drop_more, map-append}
use Rattle.vx_operators.specs.Rows.{along, front}
use Rattle.vx_operators.specs.Kernels.{of_two}

pub got : {X : Type 0} (xs : List X) (i : ℕ) (x : X) → slice_get xs i ≡ Some x → drop i xs ≡ x ∷ drop (i + 1) xs
got {X} xs i x e = drop_more xs i x (slice_get_within xs i x e) ∙ ap (λ (y : X). y ∷ drop (i + 1) xs) (get_or_from_slice_get xs i x x e)

-- ---- row by row
pub more_along : {X Y Z : Type 0} (f : X → Y → Z) (xs : List X) (ys : List Y) (out longer whole : List Z) (i : ℕ) (x : X) (y : Y) (z : Z) → slice_get xs i ≡ Some x → slice_get ys i ≡ Some y
    → z ≡ f x y → longer ≡ out ++ z ∷ [] → out ++ along f (drop i xs) (drop i ys) ≡ whole → longer ++ along f (drop (i + 1) xs) (drop (i + 1) ys) ≡ whole
more_along {Z = Z} f xs ys out longer whole i x y z e d here p h =
    let rest = along f (drop (i + 1) xs) (drop (i + 1) ys) in
    let one = got xs i x e in
    let two = got ys i y d in
    let more = rw (one, two) at h in
    ap (λ (zs : List Z). zs ++ rest) p ∙ append_assoc out (z ∷ []) rest ∙ ap (λ (r : Z). out ++ r ∷ rest) here ∙ more

-- ---- as far as the first fault
pub more_joined : {X Y Z T : Type 0} (seen : T → Z) (op : X → Y → Option Z) (blank : Z) (mask : List Bool) (xs : List X) (ys : List Y) (out longer : List T) (whole : List Z) (i : ℕ) (bit : Bool) (x : X) (y : Y) (z : T) → slice_get mask i ≡ Some bit → slice_get xs i ≡ Some x → slice_get ys i ≡ Some y
    → Some (seen z) ≡ cond bit (op x y) (Some blank) → longer ≡ out ++ z ∷ [] → map seen out ++ front (of_two op blank (drop i mask) (drop i xs) (drop i ys)) ≡ whole
    → map seen longer ++ front (of_two op blank (drop (i + 1) mask) (drop (i + 1) xs) (drop (i + 1) ys)) ≡ whole
more_joined {X} {Y} {Z} {T} seen op blank mask xs ys out longer whole i bit x y z b e d here p h =
    let rest = of_two op blank (drop (i + 1) mask) (drop (i + 1) xs) (drop (i + 1) ys) in
    let none = got mask i bit b in
    let one = got xs i x e in
    let two = got ys i y d in
    let more = rw (none, one, two) at h in
    ap (λ (zs : List T). map seen zs ++ front rest) p ∙ ap (λ (zs : List Z). zs ++ front rest) (map-append seen out (z ∷ [])) ∙ append_assoc (map seen out) (seen z ∷ []) (front rest)
    ∙ ap (λ (r : Option Z). map seen out ++ front (r ∷ rest)) here ∙ more

pub joined_fault : {X Y Z T : Type 0} (seen : T → Z) (op : X → Y → Option Z) (blank : Z) (mask : List Bool) (xs : List X) (ys : List Y) (out : List T) (whole : List Z) (i : ℕ) (bit : Bool) (x : X) (y : Y) → slice_get mask i ≡ Some bit → slice_get xs i ≡ Some x → slice_get ys i ≡ Some y
    → None ≡ cond bit (op x y) (Some blank) → map seen out ++ front (of_two op blank (drop i mask) (drop i xs) (drop i ys)) ≡ whole → map seen out ≡ whole
joined_fault {X} {Y} {Z} {T} seen op blank mask xs ys out whole i bit x y b e d here h =
    let rest = of_two op blank (drop (i + 1) mask) (drop (i + 1) xs) (drop (i + 1) ys) in
    let none = got mask i bit b in
    let one = got xs i x e in
    let two = got ys i y d in
    let more = rw (none, one, two) at h in
    sym (append-nil (map seen out)) ∙ ap (λ (r : Option Z). map seen out ++ front (r ∷ rest)) here ∙ more

-- ---- each row by itself
marked_next : {X : Type 0} (f : X → Bool) (xs : List X) (bits : List Bool) (i : ℕ) (x : X) (bit : Bool) → slice_get xs i ≡ Some x → bit ≡ f x → length bits ≡ length xs
    → take i bits ≡ map f (take i xs) → take (suc i) (set bits i bit) ≡ map f (take (suc i) xs)
marked_next {X} f [] bits i x bit e here same h =
    let none : List X = [] in
    absurd (omega (arith, slice_get_within none i x e))
marked_next f (y ∷ xs) [] i x bit e here same h = absurd (omega arith)
marked_next f (y ∷ xs) (b ∷ bits) zero x bit e here same h = ap (λ (c : Bool). c ∷ []) (here ∙ ap f (sym (get_or_from_slice_get (y ∷ xs) 0 x x e)))
marked_next f (y ∷ xs) (b ∷ bits) (suc i) x bit e here same h =
    let first : b ≡ f y = ap (λ (bs : List Bool). get_or bs 0 b) h in
    let rest : take i bits ≡ map f (take i xs) = ap (λ (bs : List Bool). drop 1 bs) h in
    let more = marked_next f xs bits i x bit e here (omega arith) rest in
    λ k. first k ∷ more k

pub marked_more : {X : Type 0} (f : X → Bool) (xs : List X) (bits : List Bool) (i : ℕ) (x : X) (bit : Bool) → slice_get xs i ≡ Some x → bit ≡ f x → length bits ≡ length xs
    → take i bits ≡ map f (take i xs) → take (i + 1) (set bits i bit) ≡ map f (take (i + 1) xs)
marked_more f xs bits i x bit e here same h =
    let next : suc i ≡ i + 1 = omega arith in
    subst (λ (n : ℕ). take n (set bits i bit) ≡ map f (take n xs)) next (marked_next f xs bits i x bit e here same h)

pub along_same : {X Y Z : Type 0} (f : X → Y → Z) (xs : List X) (rows : ℕ) (y : Y) → length (replicate rows y) ≡ length xs → map (λ x. f x y) xs ≡ along f xs (replicate rows y)
along_same f [] rows y e = refl
along_same f (x ∷ xs) zero y e = absurd (omega arith)
along_same {Z = Z} f (x ∷ xs) (suc rows) y e = ap (λ (zs : List Z). f x y ∷ zs) (along_same f xs rows y (omega arith))
