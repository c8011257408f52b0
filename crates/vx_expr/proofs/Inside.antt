-- Numbers inside a kind, and numbers of 128 bits.
use Rattle.std.proofs.Common.{◌≡◌, ℤ, pos, negsuc, Bool, true, false, ◌&&◌, if◌then◌else◌, Option, Some, None, option_and_then, FitsSigned, refl, ap, arith}
use Rattle.std.specs.Int.{w128}
use Rattle.std.specs.Prelude.{SomeIff, int_le, ◌≤ℤ◌}
use Rattle.std.proofs.lemmas.Int.{ints}
use Rattle.vx_base.specs.declared.dtypes.IntKind.{IntKind}
use Rattle.vx_base.specs.declared.dtypes.IntKind.TheVariants.{U8, U16, U32, U64, I8, I16, I32, I64}
use Rattle.vx_base.specs.Data.{number}
use Rattle.vx_base.specs.Fits.{least_of, greatest_of}
use Rattle.vx_base.proofs.Spelled.{le_from}
use Rattle.vx_expr.specs.Meaning.{if_inside}

-- what lies inside a kind fits in 128 bits
fits_128 : (kind : IntKind) (z : ℤ) → least_of kind ≤ℤ z → z ≤ℤ greatest_of kind → FitsSigned w128 z
fits_128 U8 (pos n) h k = record { sfits = omega (arith, ints, h, k) }
fits_128 U8 (negsuc n) h k = record { sfits = omega (arith, ints, h, k) }
fits_128 U16 (pos n) h k = record { sfits = omega (arith, ints, h, k) }
fits_128 U16 (negsuc n) h k = record { sfits = omega (arith, ints, h, k) }
fits_128 U32 (pos n) h k = record { sfits = omega (arith, ints, h, k) }
fits_128 U32 (negsuc n) h k = record { sfits = omega (arith, ints, h, k) }
fits_128 U64 (pos n) h k = record { sfits = omega (arith, ints, h, k) }
fits_128 U64 (negsuc n) h k = record { sfits = omega (arith, ints, h, k) }
fits_128 I8 (pos n) h k = record { sfits = omega (arith, ints, h, k) }
fits_128 I8 (negsuc n) h k = record { sfits = omega (arith, ints, h, k) }
fits_128 I16 (pos n) h k = record { sfits = omega (arith, ints, h, k) }
fits_128 I16 (negsuc n) h k = record { sfits = omega (arith, ints, h, k) }
fits_128 I32 (pos n) h k = record { sfits = omega (arith, ints, h, k) }
fits_128 I32 (negsuc n) h k = record { sfits = omega (arith, ints, h, k) }
fits_128 I64 (pos n) h k = record { sfits = omega (arith, ints, h, k) }
fits_128 I64 (negsuc n) h k = record { sfits = omega (arith, ints, h, k) }

neither : (z : ℤ) (a b : Bool) → (a ≡ true → b ≡ true → ⊥) → None ≡ (if a && b then Some (number z) else None)
neither z false b h = refl
neither z true false h = refl
neither z true true h = absurd (h refl refl)

-- what does not fit in 128 bits lies inside no kind
pub inside_same : (z : ℤ) (r : Option ℤ) (kind : IntKind) → SomeIff r (FitsSigned w128 z) z → option_and_then (if_inside kind) r ≡ if_inside kind z
inside_same z None kind h = neither z (int_le (least_of kind) z) (int_le z (greatest_of kind)) (λ p q. h (fits_128 kind z (le_from (least_of kind) z p) (le_from z (greatest_of kind) q)))
inside_same z (Some x) kind h = ap (if_inside kind) h.1
