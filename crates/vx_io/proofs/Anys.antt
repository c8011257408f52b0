-- Some element of a list, with more elements beside it.
use Rattle.std.proofs.Common.{◌≡◌, ℕ, zero, suc, ◌<◌, List, [], ◌∷◌, ◌++◌, length, refl, arith}
use Rattle.std.specs.Prelude.{slice_index_or}
use Rattle.std.specs.List.{All, Any}

pub any_here : {X : Type 0} (P : X → Type 0) (x : X) (xs : List X) → P x → Any P (x ∷ xs)
any_here P x xs holds = (0, x, omega arith, refl, holds)

any_later : {X : Type 0} (P : X → Type 0) (x : X) (xs : List X) → Any P xs → Any P (x ∷ xs)
any_later P x xs some = (suc some.0, some.1, (let lt = some.2 in omega (arith, lt)), some.3, some.4)

pub any_behind : {X : Type 0} (P : X → Type 0) (xs ys : List X) → Any P ys → Any P (xs ++ ys)
any_behind P [] ys some = some
any_behind P (x ∷ xs) ys some = any_later P x (xs ++ ys) (any_behind P xs ys some)

any_at : {X : Type 0} (P : X → Type 0) (xs ys : List X) (k : ℕ) (x : X) → k < length xs → slice_index_or xs k x ≡ x → P x → Any P (xs ++ ys)
any_at P [] ys k x lt is holds = absurd (omega (arith, lt))
any_at P (one ∷ xs) ys zero x lt is holds = any_here P one (xs ++ ys) (rw is holds)
any_at P (one ∷ xs) ys (suc k) x lt is holds = any_later P one (xs ++ ys) (any_at P xs ys k x (omega (arith, lt)) is holds)

pub any_before : {X : Type 0} (P : X → Type 0) (xs ys : List X) → Any P xs → Any P (xs ++ ys)
any_before P xs ys some = any_at P xs ys some.0 some.1 some.2 some.3 some.4

pub any_map : {X : Type 0} (P Q : X → Type 0) (xs : List X) → ((x : X) → P x → Q x) → Any P xs → Any Q xs
any_map P Q xs f some = (some.0, some.1, some.2, some.3, f some.1 some.4)

pub all_map : {X : Type 0} (P Q : X → Type 0) (xs : List X) → ((x : X) → P x → Q x) → All P xs → All Q xs
all_map P Q xs f all = λ k d lt. f (slice_index_or xs k d) (all k d lt)

pub all_none : {X : Type 0} (P : X → Type 0) → All P []
all_none P = λ k d lt. absurd (omega (arith, lt))
