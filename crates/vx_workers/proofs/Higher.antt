-- Numbers that ascend, and one more that is above them.
use Rattle.std.proofs.Common.{◌≡◌, ℕ, zero, suc, ◌+◌, ◌≤◌, List, [], ◌∷◌, ◌++◌, arith}
use Rattle.vx_splits.proofs.Rising.{Ascend-tail}
use Rattle.vx_claims.specs.Views.{above}
use Rattle.vx_base.specs.Masks.{Ascend}

pub ascend_none : Ascend []
ascend_none k d within = absurd (omega (arith, within))

pub ascend_push : (numbers : List ℕ) (number : ℕ) → Ascend numbers → above numbers ≤ number → Ascend (numbers ++ number ∷ [])
ascend_push [] number up most k d within = absurd (omega (arith, within))
ascend_push (one ∷ []) number up most zero d within = omega (arith, most)
ascend_push (one ∷ []) number up most (suc k) d within = absurd (omega (arith, within))
ascend_push (one ∷ two ∷ numbers) number up most zero d within = up 0 d (omega arith)
ascend_push (one ∷ two ∷ numbers) number up most (suc k) d within =
    let e : suc k + 1 ≡ suc (k + 1) = omega arith in
    rw e (ascend_push (two ∷ numbers) number (Ascend-tail one (two ∷ numbers) up) (omega (arith, most)) k d (omega (arith, within)))
