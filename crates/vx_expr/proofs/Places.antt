-- The values of a struct, place by place.
use Rattle.std.proofs.Common.{◌≡◌, ℕ, List, Option, Some, None, option_map, slice_get, Bor, refl, ap}
use Rattle.std.specs.Slice.{IsItemAt}
use Rattle.std.proofs.lemmas.Option.{slice_get-map, slice_get-get_or, slice_get_past}
use Rattle.vx_base.specs.declared.values.Value.{Value}
use Rattle.vx_base.specs.Data.{Items}
use Rattle.vx_base.specs.ValueViews.{datum, data_in, items_of}
use Rattle.vx_base.proofs.Items.{data_in_view}

-- what stands at a place of the values stands there in their view
pub found_at : (values : List Value) (vs : Items) (i : ℕ) (r : Option (Bor Value)) → items_of values ≡ vs → IsItemAt values i r → option_map (λ (v : Bor Value). datum v.now) r ≡ slice_get (data_in vs) i
found_at values vs i None e h = rw (data_in_view values vs e, slice_get-map datum values i, slice_get_past values i h.3) refl
found_at values vs i (Some x) e h =
    let here = h.1 in
    let inside = h.3.0 in
    rw (data_in_view values vs e, slice_get-map datum values i, slice_get-get_or values i x.now inside) (ap (λ (v : Value). Some (datum v)) here)
