-- Lists in which nothing stands twice, and others in which any two are so.
use Rattle.std.proofs.Common.{◌≡◌, ◌≢◌, suc, List, [], ◌∷◌, ◌++◌, map, arith}
use Rattle.std.specs.List.{All, AllByRecursion, AllPairs, slice_index_or}
use Rattle.std.proofs.lemmas.List.Elements.{All-nil, All-cons, All-append, All-head, All-tail}
use Rattle.std.proofs.lemmas.List.Kept.{AllPairs-cons}
use Rattle.vx_drive.specs.Fetched.{AreDistinct}

pub distinct_none : {X : Type 0} → AreDistinct {X = X} []
distinct_none {X} i j d less within = absurd (omega (arith, within))

-- ---- the first and the others

pub distinct_behind : {X : Type 0} (x : X) (xs : List X) → AreDistinct (x ∷ xs) → AreDistinct xs
distinct_behind x xs apart i j d less within = apart (suc i) (suc j) d (omega (arith, less)) (omega (arith, within))

pub differs : {X : Type 0} (x : X) (xs : List X) → AreDistinct (x ∷ xs) → All (λ y. x ≢ y) xs
differs x xs apart k d within = apart 0 (suc k) d (omega arith) (omega (arith, within))

-- ---- any two

pub pairs_none : {X : Type 0} (R : X → X → Type 0) → AllPairs R []
pairs_none R i j d less within = absurd (omega (arith, within))

pub pairs_weaker : {X : Type 0} (R S : X → X → Type 0) → ((one two : X) → R one two → S one two) → (xs : List X) → AllPairs R xs → AllPairs S xs
pairs_weaker R S to xs pairs i j d less within = to (slice_index_or xs i d) (slice_index_or xs j d) (pairs i j d less within)

pairs_behind : {X : Type 0} (R : X → X → Type 0) (x : X) (xs : List X) → AllPairs R (x ∷ xs) → AllPairs R xs
pairs_behind R x xs pairs i j d less within = pairs (suc i) (suc j) d (omega (arith, less)) (omega (arith, within))

first_pairs : {X : Type 0} (R : X → X → Type 0) (x : X) (xs : List X) → AllPairs R (x ∷ xs) → All (R x) xs
first_pairs R x xs pairs k d within = pairs 0 (suc k) d (omega arith) (omega (arith, within))

-- ---- one list behind another

pub pairs_then : {X : Type 0} (R : X → X → Type 0) (xs ys : List X) → AllPairs R xs → AllPairs R ys → All (λ x. All (R x) ys) xs → AllPairs R (xs ++ ys)
pairs_then R [] ys pairs others cross = others
pairs_then R (x ∷ xs) ys pairs others cross =
    AllPairs-cons R x (xs ++ ys)
    (All-append (R x) xs ys (first_pairs R x xs pairs) (All-head (λ x. All (R x) ys) x xs cross))
    (pairs_then R xs ys (pairs_behind R x xs pairs) others (All-tail (λ x. All (R x) ys) x xs cross))

pub distinct_then : {X : Type 0} (xs ys : List X) → AreDistinct xs → AreDistinct ys → All (λ x. All (λ y. x ≢ y) ys) xs → AreDistinct (xs ++ ys)
distinct_then xs ys apart others cross = pairs_then (λ one two. one ≢ two) xs ys apart others cross

-- ---- by what tells them apart

all_mapped : {X Y : Type 0} (P : X → Type 0) (Q : Y → Type 0) (f : X → Y) → ((x : X) → P x → Q (f x)) → (xs : List X) → AllByRecursion P xs → All Q (map f xs)
all_mapped P Q f to [] each = All-nil Q
all_mapped P Q f to (x ∷ xs) each = All-cons Q (f x) (map f xs) (to x each.0) (all_mapped P Q f to xs each.1)

all_apart : {X Y Z : Type 0} (P : X → Type 0) (f : X → Y) (g : X → Z) (x : X) → P x → ((one two : X) → P one → P two → f one ≡ f two → g one ≡ g two) → (xs : List X) → AllByRecursion P xs → All (λ z. g x ≢ z) (map g xs) → All (λ y. f x ≢ y) (map f xs)
all_apart P f g x is tells [] each apart = All-nil (λ y. f x ≢ y)
all_apart P f g x is tells (y ∷ ys) each apart =
    All-cons (λ z. f x ≢ z) (f y) (map f ys)
    (λ same. All-head (λ z. g x ≢ z) (g y) (map g ys) apart (tells x y is each.0 same))
    (all_apart P f g x is tells ys each.1 (All-tail (λ z. g x ≢ z) (g y) (map g ys) apart))

-- where the second function tells apart what the first one does
pub distinct_by : {X Y Z : Type 0} (P : X → Type 0) (f : X → Y) (g : X → Z) → ((one two : X) → P one → P two → f one ≡ f two → g one ≡ g two) → (xs : List X) → AllByRecursion P xs → AreDistinct (map g xs) → AreDistinct (map f xs)
distinct_by P f g tells [] each apart = distinct_none
distinct_by P f g tells (x ∷ xs) each apart =
    AllPairs-cons (λ one two. one ≢ two) (f x) (map f xs)
    (all_apart P f g x each.0 tells xs each.1 (differs (g x) (map g xs) apart))
    (distinct_by P f g tells xs each.1 (distinct_behind (g x) (map g xs) apart))

-- each of the ones with each of the others
pub each_cross : {X : Type 0} (P Q : X → Type 0) (R : X → X → Type 0) → ((one two : X) → P one → Q two → R one two) → (ones twos : List X) → AllByRecursion P ones → AllByRecursion Q twos → All (λ x. All (R x) twos) ones
each_cross P Q R both [] twos first second = All-nil (λ x. All (R x) twos)
each_cross P Q R both (one ∷ ones) twos first second = All-cons (λ x. All (R x) twos) one ones (each_all Q (R one) (λ two is. both one two first.0 is) twos second) (each_cross P Q R both ones twos first.1 second)
  where
    each_all : {Y : Type 0} (A B : Y → Type 0) → ((y : Y) → A y → B y) → (ys : List Y) → AllByRecursion A ys → All B ys
    each_all A B to [] each = All-nil B
    each_all A B to (y ∷ ys) each = All-cons B y ys (to y each.0) (each_all A B to ys each.1)

-- each of the ones differs from each of the others
pub apart_from : {X Y : Type 0} (P Q : X → Type 0) (f : X → Y) → ((one two : X) → P one → Q two → f one ≢ f two) → (ones twos : List X) → AllByRecursion P ones → AllByRecursion Q twos → All (λ y. All (λ z. y ≢ z) (map f twos)) (map f ones)
apart_from P Q f apart ones twos first second =
    all_mapped P (λ y. All (λ z. y ≢ z) (map f twos)) f (λ x is. all_mapped Q (λ z. f x ≢ z) f (λ y also. apart x y is also) twos second) ones first
