-- The values of rows again, from what stands in their slots.
use Rattle.std.proofs.Common.{◌≡◌, pos, List, [], ◌∷◌, map, refl, ap, arith}
use Rattle.std.specs.List.{AllByRecursion}
use Rattle.std.proofs.lemmas.Int.{ints}
use Rattle.vx_types.specs.declared.dtypes.IntKind.{IntKind}
use Rattle.vx_types.specs.declared.dtypes.IntKind.TheVariants.{U8, U16, U32, U64, I8, I16, I32, I64}
use Rattle.vx_types.specs.declared.dtypes.Nullability.{Nullability}
use Rattle.vx_types.specs.Data.{bool_type, int_type, utf8_type, Datum, null, truth, number, text}
use Rattle.vx_types.specs.Fits.{Fits, IsInside}
use Rattle.vx_types.specs.Slots.{is_value, truth_in, number_in, text_in, where_valid}

-- ---- the values
pub truths_again : (n : Nullability) (values : List Datum) → AllByRecursion (Fits (bool_type n)) values → where_valid (map is_value values) (map truth (map truth_in values)) ≡ values
truths_again n [] h = refl
truths_again n (null ∷ vs) h = ap (λ (ws : List Datum). null ∷ ws) (truths_again n vs h.1)
truths_again n (truth b ∷ vs) h = ap (λ (ws : List Datum). truth b ∷ ws) (truths_again n vs h.1)
truths_again n (_ ∷ vs) h = absurd h.0

pub again_where_valid : (kind : IntKind) (n : Nullability) (values : List Datum) → AllByRecursion (Fits (int_type kind n)) values → where_valid (map is_value values) (map number (map number_in values)) ≡ values
again_where_valid kind n [] h = refl
again_where_valid kind n (null ∷ vs) h = ap (λ (ws : List Datum). null ∷ ws) (again_where_valid kind n vs h.1)
again_where_valid kind n (number z ∷ vs) h = ap (λ (ws : List Datum). number z ∷ ws) (again_where_valid kind n vs h.1)
again_where_valid kind n (_ ∷ vs) h = absurd h.0

pub texts_where_valid : (n : Nullability) (values : List Datum) → AllByRecursion (Fits (utf8_type n)) values → where_valid (map is_value values) (map text (map text_in values)) ≡ values
texts_where_valid n [] h = refl
texts_where_valid n (null ∷ vs) h = ap (λ (ws : List Datum). null ∷ ws) (texts_where_valid n vs h.1)
texts_where_valid n (text bytes ∷ vs) h = ap (λ (ws : List Datum). text bytes ∷ ws) (texts_where_valid n vs h.1)
texts_where_valid n (_ ∷ vs) h = absurd h.0

-- ---- numbers
zero_inside : (kind : IntKind) → IsInside kind (pos 0)
zero_inside U8 = (omega (arith, ints), omega (arith, ints))
zero_inside U16 = (omega (arith, ints), omega (arith, ints))
zero_inside U32 = (omega (arith, ints), omega (arith, ints))
zero_inside U64 = (omega (arith, ints), omega (arith, ints))
zero_inside I8 = (omega (arith, ints), omega (arith, ints))
zero_inside I16 = (omega (arith, ints), omega (arith, ints))
zero_inside I32 = (omega (arith, ints), omega (arith, ints))
zero_inside I64 = (omega (arith, ints), omega (arith, ints))

pub all_inside : (kind : IntKind) (n : Nullability) (values : List Datum) → AllByRecursion (Fits (int_type kind n)) values → AllByRecursion (IsInside kind) (map number_in values)
all_inside kind n [] h = tt
all_inside kind n (null ∷ vs) h = (zero_inside kind, all_inside kind n vs h.1)
all_inside kind n (number z ∷ vs) h = (h.0, all_inside kind n vs h.1)
all_inside kind n (_ ∷ vs) h = absurd h.0
