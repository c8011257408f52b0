-- Lists of values and items.
use Rattle.std.proofs.Common.{◌≡◌, ℕ, zero, suc, ◌+◌, ◌<◌, ◌≤◌, List, [], ◌∷◌, length, map, get_or, take, Option, Some, refl, sym, ap, subst, ◌∙◌, arith, add-one}
use Rattle.std.specs.List.{slice_get}
use Rattle.std.proofs.lemmas.List.{length-map}
use Rattle.std.proofs.lemmas.Option.{slice_get-map, slice_get-get_or}
use Rattle.vx_types.specs.declared.dtypes.Field.{Field}
use Rattle.vx_types.specs.declared.values.Value.{Value}
use Rattle.vx_types.specs.Data.{Members, Datum, Items}
use Rattle.vx_types.specs.Fits.{Fits, EachFits}
use Rattle.vx_types.specs.Sizes.{datum_size, items_size}
use Rattle.vx_types.specs.Views.{data_type, members_of}
use Rattle.vx_types.specs.ValueViews.{datum, data_in, items_from, items_of}

data_in-items_from : (vs : List Datum) → data_in (items_from vs) ≡ vs
data_in-items_from [] = refl
data_in-items_from (v ∷ vs) = ap (λ (ws : List Datum). v ∷ ws) (data_in-items_from vs)

-- the values that a view has
pub data_in_view : (values : List Value) (vs : Items) → items_of values ≡ vs → data_in vs ≡ map datum values
data_in_view values vs e = ap data_in (sym e) ∙ data_in-items_from (map datum values)

abbrev pub some_datum : Datum → Option Datum
some_datum v = Some v

-- a value is no larger than all of them together
pub datum_size_at : (values : List Value) (i : ℕ) (value : Value) → i < length values → value ≡ get_or values i value → datum_size (datum value) ≤ items_size (items_of values)
datum_size_at [] i value lt e = absurd (omega arith)
datum_size_at (one ∷ values) zero value lt e = omega (arith, ap (λ (v : Value). datum_size (datum v)) e)
datum_size_at (one ∷ values) (suc i) value lt e = omega (arith, datum_size_at values i value (omega arith) e)

-- equal items have equal values at each place
pub data_agree : (xs ys : List Value) (vs ws : Items) (i : ℕ) (x y : Value) → items_of xs ≡ vs → items_of ys ≡ ws → i < length xs → length xs ≡ length ys → x ≡ get_or xs i x → y ≡ get_or ys i y → vs ≡ ws → datum x ≡ datum y
data_agree xs ys vs ws i x y e f lt len p q same =
    let a : slice_get (data_in vs) i ≡ some_datum (datum x) = rw (data_in_view xs vs e, slice_get-map datum xs i, slice_get-get_or xs i x lt) (ap (λ (v : Value). some_datum (datum v)) (sym p)) in
    let b : slice_get (data_in ws) i ≡ some_datum (datum y) = rw (data_in_view ys ws f, slice_get-map datum ys i, slice_get-get_or ys i y (omega arith)) (ap (λ (v : Value). some_datum (datum v)) (sym q)) in
    let c : some_datum (datum x) ≡ some_datum (datum y) = sym a ∙ ap (λ (us : Items). slice_get (data_in us) i) same ∙ b in
    cc

pub counts_agree : (xs ys : List Value) (vs ws : Items) → items_of xs ≡ vs → items_of ys ≡ ws → vs ≡ ws → length xs ≡ length ys
counts_agree xs ys vs ws e f same =
    sym (length-map xs datum) ∙ ap length (sym (data_in_view xs vs e)) ∙ ap (λ (us : Items). length (data_in us)) same ∙ ap length (data_in_view ys ws f) ∙ length-map ys datum

-- ---- values that fit the fields
pub each_lengths : (fs : List Field) (vs : List Value) → EachFits (members_of fs) (items_of vs) → length fs ≡ length vs
each_lengths [] [] h = refl
each_lengths (f ∷ fs) (v ∷ vs) h = ap suc (each_lengths fs vs h.1)
each_lengths [] (v ∷ vs) h = absurd h
each_lengths (f ∷ fs) [] h = absurd h

pub each_at : (fs : List Field) (vs : List Value) (i : ℕ) (f : Field) (v : Value) → i < length fs → i < length vs → f ≡ get_or fs i f → v ≡ get_or vs i v → EachFits (members_of fs) (items_of vs) → Fits (data_type f.dtype) (datum v)
each_at [] vs i f v lt lu p q h = absurd (omega arith)
each_at (g ∷ fs) [] i f v lt lu p q h = absurd (omega arith)
each_at (g ∷ fs) (w ∷ vs) zero f v lt lu p q h = subst (λ (k : Field). Fits (data_type k.dtype) (datum v)) (sym p) (subst (λ (u : Value). Fits (data_type g.dtype) (datum u)) (sym q) h.0)
each_at (g ∷ fs) (w ∷ vs) (suc i) f v lt lu p q h = each_at fs vs i f v (omega arith) (omega arith) p q h.1

each_more_suc : (fs : List Field) (vs : List Value) (i : ℕ) (f : Field) (v : Value) → i < length fs → i < length vs → f ≡ get_or fs i f → v ≡ get_or vs i v → Fits (data_type f.dtype) (datum v)
    → EachFits (members_of (take i fs)) (items_of (take i vs)) → EachFits (members_of (take (suc i) fs)) (items_of (take (suc i) vs))
each_more_suc [] vs i f v lt lu p q fit h = absurd (omega arith)
each_more_suc (g ∷ fs) [] i f v lt lu p q fit h = absurd (omega arith)
each_more_suc (g ∷ fs) (w ∷ vs) zero f v lt lu p q fit h = (subst (λ (k : Field). Fits (data_type k.dtype) (datum w)) p (subst (λ (u : Value). Fits (data_type f.dtype) (datum u)) q fit), tt)
each_more_suc (g ∷ fs) (w ∷ vs) (suc i) f v lt lu p q fit h = (h.0, each_more_suc fs vs i f v (omega arith) (omega arith) p q fit h.1)

pub each_more : (fs : List Field) (vs : List Value) (i : ℕ) (f : Field) (v : Value) → i < length fs → i < length vs → f ≡ get_or fs i f → v ≡ get_or vs i v → Fits (data_type f.dtype) (datum v)
    → EachFits (members_of (take i fs)) (items_of (take i vs)) → EachFits (members_of (take (i + 1) fs)) (items_of (take (i + 1) vs))
each_more fs vs i f v lt lu p q fit h = rw add-one (each_more_suc fs vs i f v lt lu p q fit h)

pub each_of : (fs : List Field) (vs : List Value) (ms : Members) (ws : Items) → members_of fs ≡ ms → items_of vs ≡ ws → EachFits ms ws → EachFits (members_of fs) (items_of vs)
each_of fs vs ms ws e f h = subst (λ (m : Members). EachFits m (items_of vs)) (sym e) (subst (λ (u : Items). EachFits ms u) (sym f) h)
