-- Lists behind their first elements.
use Rattle.std.proofs.Common.{◌≡◌, ℕ, zero, suc, ◌+◌, List, [], ◌∷◌, drop, refl, sym, ap, ◌∙◌, arith}
use Rattle.std.specs.Prelude.{slice_set}
use Rattle.std.specs.List.{slice_get}
use Rattle.vx_steps.specs.ReadTableData.{Wanted}
use Rattle.vx_steps.specs.Wants.{Grows, IsAsked}

pub got_behind : {X : Type 0} (xs : List X) (first i : ℕ) → slice_get (drop first xs) i ≡ slice_get xs (first + i)
got_behind xs zero i = let same : i ≡ zero + i = omega arith in ap (slice_get xs) same
got_behind [] (suc first) i = refl
got_behind (one ∷ xs) (suc first) i = let same : suc (first + i) ≡ suc first + i = omega arith in got_behind xs first i ∙ ap (slice_get (one ∷ xs)) same

pub set_behind : {X : Type 0} (xs : List X) (first i : ℕ) (x : X) → drop first (slice_set xs (first + i) x) ≡ slice_set (drop first xs) i x
set_behind xs zero i x = let same : zero + i ≡ i = omega arith in ap (λ n. slice_set xs n x) same
set_behind [] (suc first) i x = refl
set_behind (one ∷ xs) (suc first) i x = let same : suc first + i ≡ suc (first + i) = omega arith in ap (λ n. drop (suc first) (slice_set (one ∷ xs) n x)) same ∙ set_behind xs first i x

pub grows_behind : (old new : List Wanted) (first : ℕ) → Grows old new → Grows (drop first old) (drop first new)
grows_behind old new first grows place read at = got_behind new first place ∙ grows (first + place) read (sym (got_behind old first place) ∙ at)

pub asked_behind : (reads : List Wanted) (first segment : ℕ) → IsAsked (drop first reads) segment → IsAsked reads segment
asked_behind reads zero segment asked = asked
asked_behind [] (suc first) segment asked = asked
asked_behind (read ∷ reads) (suc first) segment asked = let here = asked_behind reads first segment asked in (suc here.0, here.1)
