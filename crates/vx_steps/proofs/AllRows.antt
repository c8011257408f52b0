-- All rows of a plan, with what is handed in.
use Rattle.std.proofs.Common.{◌≡◌, ℕ, zero, suc, ◌+◌, ◌<◌, refl, ap, subst, arith}
use Rattle.vx_rows.specs.Derivations.{Derivation, also, each_row, Leaves}
use Rattle.vx_rows.specs.Given.{GivenValues, with_given, each_with_given, AreCertified, EachCertified}

pub rows_with : (v : GivenValues) (d : ℕ → Derivation) (from count : ℕ) → each_with_given v (each_row d from count) ≡ each_row (λ row. with_given v (d row)) from count
rows_with v d from zero = refl
rows_with v d from (suc count) = ap (also (with_given v (d from))) (rows_with v d (from + 1) count)

-- each row is the same with the one as with the other
pub rows_same : (f g : GivenValues) (d : ℕ → Derivation) (from count : ℕ) → ((row : ℕ) → row < from + count → with_given f (d row) ≡ with_given g (d row)) → each_with_given f (each_row d from count) ≡ each_with_given g (each_row d from count)
rows_same f g d from zero each = refl
rows_same f g d from (suc count) each =
    let p : with_given f (d from) ≡ with_given g (d from) = each from (omega arith) in
    let q : each_with_given f (each_row d (from + 1) count) ≡ each_with_given g (each_row d (from + 1) count) = rows_same f g d (from + 1) count (λ row less. each row (omega arith)) in
    cc

pub rows_certified : (leaves : Leaves) (v : GivenValues) (d : ℕ → Derivation) (from count : ℕ) → ((row : ℕ) → row < from + count → AreCertified leaves v (d row)) → EachCertified leaves v (each_row d from count)
rows_certified leaves v d from zero each = tt
rows_certified leaves v d from (suc count) each = (each from (omega arith), rows_certified leaves v d (from + 1) count (λ row less. each row (omega arith)))

certified_row : (leaves : Leaves) (v : GivenValues) (d : ℕ → Derivation) (from count row : ℕ) → row < count → EachCertified leaves v (each_row d from count) → AreCertified leaves v (d (from + row))
certified_row leaves v d from zero row less are = absurd (omega arith)
certified_row leaves v d from (suc count) zero less are =
    let e : from ≡ from + 0 = omega arith in
    subst (λ (r : ℕ). AreCertified leaves v (d r)) e are.0
certified_row leaves v d from (suc count) (suc row) less are =
    let e : from + 1 + row ≡ from + suc row = omega arith in
    subst (λ (r : ℕ). AreCertified leaves v (d r)) e (certified_row leaves v d (from + 1) count row (omega arith) are.1)

pub certified_at : (leaves : Leaves) (v : GivenValues) (d : ℕ → Derivation) (count row : ℕ) → row < count → EachCertified leaves v (each_row d 0 count) → AreCertified leaves v (d row)
certified_at leaves v d count row less are =
    let e : 0 + row ≡ row = omega arith in
    subst (λ (r : ℕ). AreCertified leaves v (d r)) e (certified_row leaves v d 0 count row less are)
