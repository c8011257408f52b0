-- What is read from bytes is what they spell.
use Rattle.std.proofs.Common.{◌≡◌, ℕ, ℤ, Bool, true, false, ◌&&◌, cond, T, eqb, List, [], ◌∷◌, length, Option, Some, None, refl, sym, ap, subst, ◌∙◌}
use Rattle.std.specs.Prelude.{◌≤ℤ◌, int_le, nat_lt}
use Rattle.std.specs.List.{AllByRecursion, list_all}
use Rattle.std.proofs.lemmas.Bool.{and_parts, eqb-true, ltb-true}
use Rattle.std.proofs.lemmas.Slice.Eq.{bytes_eq-Decides}
use Rattle.std.proofs.lemmas.Str.{IsUtf8-from_is_utf8}
use Rattle.std.proofs.lemmas.Option.{same_Some}
use Rattle.vx_types.specs.declared.dtypes.Nullability.{Nullability}
use Rattle.vx_types.specs.declared.dtypes.Nullability.TheVariants.{NonNullable, Nullable}
use Rattle.vx_types.specs.Data.{DataType, bool_type, int_type, utf8_type, struct_type, list_type, Datum, null, truth, number, text}
use Rattle.vx_types.specs.Fits.{Fits, TakesNull, takes_null, least_of, greatest_of}
use Rattle.vx_types.specs.Slots.{IsShort, text_in}
use Rattle.vx_types.specs.Limits.{text_limit}
use Rattle.vx_segments.specs.Segment.{Spells, spelling}
use Rattle.vx_segments.specs.Reading.{decoded, is_spelled, if_spelled, fits_leaf, spelled_as, leaf_read}
use Rattle.vx_segments.specs.Laws.{HasOneSpelling, ReadsSpelled}

four_parts : (a b c d : Bool) → (a && b && c && d) ≡ true → (a ≡ true) × (b ≡ true) × (c ≡ true) × (d ≡ true)
four_parts true true true true e = (refl, refl, refl, refl)
four_parts true true true false e = absurd cc
four_parts true true false d e = absurd cc
four_parts true false c d e = absurd cc
four_parts false b c d e = absurd cc

pub picked : {A : Type 0} (b : Bool) (x y : A) → cond b (Some x) None ≡ Some y → (b ≡ true) × (x ≡ y)
picked true x y e = (refl, cc)
picked false x y e = absurd cc

null_fits : (n : Nullability) → takes_null n ≡ true → TakesNull n
null_fits NonNullable e = absurd cc
null_fits Nullable e = tt

pub le_from : (a b : ℤ) → int_le a b ≡ true → a ≤ℤ b
le_from a b e = record { le = subst T (sym e) tt }

pub leaf_fits : (t : DataType) (v : Datum) → fits_leaf t v ≡ true → Fits t v
leaf_fits (bool_type n) null e = null_fits n e
leaf_fits (bool_type n) (truth b) e = tt
leaf_fits (int_type kind n) null e = null_fits n e
leaf_fits (int_type kind n) (number z) e =
    let p = and_parts (int_le (least_of kind) z) (int_le z (greatest_of kind)) e in
    (le_from (least_of kind) z p.0, le_from z (greatest_of kind) p.1)
leaf_fits (utf8_type n) null e = null_fits n e
leaf_fits (utf8_type n) (text bytes) e = IsUtf8-from_is_utf8 bytes e
leaf_fits _ _ e = absurd cc

all_fit : (t : DataType) (vs : List Datum) → list_all (fits_leaf t) vs ≡ true → AllByRecursion (Fits t) vs
all_fit t [] e = tt
all_fit t (v ∷ vs) e = let p = and_parts (fits_leaf t v) (list_all (fits_leaf t) vs) e in (leaf_fits t v p.0, all_fit t vs p.1)

all_short : (vs : List Datum) → list_all (λ v. nat_lt (length (text_in v)) text_limit) vs ≡ true → AllByRecursion IsShort vs
all_short [] e = tt
all_short (v ∷ vs) e = let p = and_parts (nat_lt (length (text_in v)) text_limit) (list_all (λ w. nat_lt (length (text_in w)) text_limit) vs) e in (ltb-true (length (text_in v)) text_limit p.0, all_short vs p.1)

abbrev pub some_bytes : List ℕ → Option (List ℕ)
some_bytes bytes = Some bytes

spelled_from : (o : Option (List ℕ)) (bytes : List ℕ) → spelled_as o bytes ≡ true → o ≡ Some bytes
spelled_from None bytes e = absurd cc
spelled_from (Some spelt) bytes e = ap some_bytes ((bytes_eq-Decides spelt bytes).0 e)

spells_from : (t : DataType) (rows : ℕ) (bytes : List ℕ) (values : List Datum) → is_spelled t rows bytes values ≡ true → Spells t rows bytes values
spells_from t rows bytes values e =
    let p = four_parts (eqb (length values) rows) (list_all (fits_leaf t) values) (list_all (λ v. nat_lt (length (text_in v)) text_limit) values) (spelled_as (spelling t values) bytes) e in
    record { count = eqb-true (length values) rows p.0; fit = all_fit t values p.1; short = all_short values p.2; spelled = spelled_from (spelling t values) bytes p.3 }

spells_if : (t : DataType) (rows : ℕ) (bytes : List ℕ) (read values : List Datum) → if_spelled t rows bytes read ≡ Some values → Spells t rows bytes values
spells_if t rows bytes read values e =
    let p = picked (is_spelled t rows bytes read) read values e in
    subst (λ (vs : List Datum). Spells t rows bytes vs) p.1 (spells_from t rows bytes read p.0)

pub reads_spelled : ReadsSpelled
unfolding decoded
reads_spelled (bool_type n) rows bytes values e = spells_if (bool_type n) rows bytes (leaf_read (bool_type n) n rows bytes) values e
reads_spelled (int_type kind n) rows bytes values e = spells_if (int_type kind n) rows bytes (leaf_read (int_type kind n) n rows bytes) values e
reads_spelled (utf8_type n) rows bytes values e = spells_if (utf8_type n) rows bytes (leaf_read (utf8_type n) n rows bytes) values e
reads_spelled (struct_type ms n) rows bytes values e = absurd cc
reads_spelled (list_type t n) rows bytes values e = absurd cc

pub has_one_spelling : HasOneSpelling
has_one_spelling t rows values a b p q =
    same_Some a b (sym p.spelled ∙ q.spelled)
