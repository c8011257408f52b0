-- A null holds false, 0 or the empty text.
use Rattle.std.proofs.Common.{false, List, [], ◌∷◌, map, refl, pos}
use Rattle.std.specs.List.{AllByRecursion}
use Rattle.vx_masks.specs.Rows.{NullsHold}
use Rattle.vx_types.specs.declared.dtypes.Nullability.{Nullability}
use Rattle.vx_types.specs.Data.{bool_type, Datum, null, truth, int_type, number, utf8_type, text}
use Rattle.vx_types.specs.Fits.{Fits}
use Rattle.vx_types.specs.Slots.{is_value, truth_in, number_in, text_in}
use Rattle.vx_types.specs.declared.dtypes.IntKind.{IntKind}

pub nulls_are_false : (n : Nullability) (values : List Datum) → AllByRecursion (Fits (bool_type n)) values → NullsHold false (map is_value values) (map truth_in values)
nulls_are_false n [] h = tt
nulls_are_false n (null ∷ vs) h = (refl, nulls_are_false n vs h.1)
nulls_are_false n (truth b ∷ vs) h = nulls_are_false n vs h.1
nulls_are_false n (_ ∷ vs) h = absurd h.0

pub nulls_are_zero : (kind : IntKind) (n : Nullability) (values : List Datum) → AllByRecursion (Fits (int_type kind n)) values → NullsHold (pos 0) (map is_value values) (map number_in values)
nulls_are_zero kind n [] h = tt
nulls_are_zero kind n (null ∷ vs) h = (refl, nulls_are_zero kind n vs h.1)
nulls_are_zero kind n (number z ∷ vs) h = nulls_are_zero kind n vs h.1
nulls_are_zero kind n (_ ∷ vs) h = absurd h.0

pub nulls_are_empty : (n : Nullability) (values : List Datum) → AllByRecursion (Fits (utf8_type n)) values → NullsHold [] (map is_value values) (map text_in values)
nulls_are_empty n [] h = tt
nulls_are_empty n (null ∷ vs) h = (refl, nulls_are_empty n vs h.1)
nulls_are_empty n (text t ∷ vs) h = nulls_are_empty n vs h.1
nulls_are_empty n (_ ∷ vs) h = absurd h.0
