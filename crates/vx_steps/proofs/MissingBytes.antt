-- Where the bytes of a wanted segment did not come, it stands among the wanted ones without them.
use Rattle.std.proofs.Common.{◌≡◌, ℕ, zero, suc, ◌==◌, Bool, true, false, List, [], ◌∷◌, Option, Some, None, refl, ap, ◌∙◌, arith}
use Rattle.std.specs.Prelude.{if◌then◌else◌}
use Rattle.vx_steps.specs.ReadTable.{bytes_of, StandsAt}
use Rattle.vx_steps.specs.ReadTableData.{Wanted}
use Rattle.vx_steps.specs.Steps.{IsMissing}
use Rattle.vx_steps.specs.Wants.{IsAsked}

missing_here : (w : Wanted) (segment : ℕ) → w.segment ≡ segment → w.bytes ≡ None → Some w ≡ Some (record { segment = segment; bytes = None })
missing_here w segment e none = ap (λ (s : ℕ). Some (record { segment = s; bytes = w.bytes })) e ∙ ap (λ (b : Option (List ℕ)). Some (record { segment = segment; bytes = b })) none

asked_later : (w : Wanted) (wanted : List Wanted) (segment place : ℕ) → (w.segment == segment) ≡ false → StandsAt (w ∷ wanted) segment place → IsAsked wanted segment
asked_later w wanted segment zero e h = absurd (grind arith)
asked_later w wanted segment (suc place) e h = (place, h)

missing_by : (w : Wanted) (wanted : List Wanted) (segment : ℕ) (b : Bool) → (w.segment == segment) ≡ b → IsAsked (w ∷ wanted) segment → (IsAsked wanted segment → bytes_of wanted segment ≡ None → IsMissing wanted segment) → (if b then w.bytes else bytes_of wanted segment) ≡ None → IsMissing (w ∷ wanted) segment
missing_by w wanted segment true e asked later none =
    let same : w.segment ≡ segment = grind arith in
    (0, missing_here w segment same none)
missing_by w wanted segment false e asked later none =
    let m = later (asked_later w wanted segment asked.0 e asked.1) none in
    (suc m.0, m.1)

pub missing_first : (wanted : List Wanted) (segment : ℕ) → IsAsked wanted segment → bytes_of wanted segment ≡ None → IsMissing wanted segment
missing_first [] segment asked none = absurd asked.1
missing_first (w ∷ wanted) segment asked none = missing_by w wanted segment (w.segment == segment) refl asked (λ a n. missing_first wanted segment a n) none
