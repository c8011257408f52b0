use Rattle.std.proofs.Common.{◌≡◌, ◌∙◌, ap, sym, subst, length, map, ℕ, List}
use Rattle.std.specs.List.{AllByRecursion}
use Rattle.vx_types.specs.ColumnCalls.{IsCodeBelow, nullable_where, value_at}
use Rattle.vx_types.specs.Data.{Datum}
use Rattle.vx_types.specs.Fits.{nullability_of}
use Rattle.vx_types.specs.Views.{data_type}
use Rattle.vx_columns.specs.StoredRows.{row_data}
use Rattle.vx_arrays.specs.LookUps.{code_places}
use Rattle.vx_arrays.proofs.LookedUp.{column_found, found_values}
use Rattle.vx_columns.proofs.columns.Column.look_up.Goals as goal

pub of_array-requires : goal.of_array-requires
of_array-requires c =
    let t = c.args.values.now.dtype in
    let rows = row_data c.rows-found.result.now in
    let codes = c.args.codes.now.values in
    let below : AllByRecursion (IsCodeBelow (length rows.values)) codes = subst (λ (vs : List Datum). AllByRecursion (IsCodeBelow (length vs)) codes) (sym c.rows-found.ensures.values) c.requires.below in
    let at : c.as_slice.result.now ≡ code_places (length rows.values) codes = c.as_slice.ensures.value ∙ c.in_ok-places.ensures ∙ ap (λ (n : ℕ). code_places n codes) c.len.ensures in
    column_found c.args.codes.now.dtype t (data_type c.in_ok-dtype.dtype) rows c.in_ok-rows.rows codes c.as_slice.result.now c.rows-found.ensures.column c.requires.unsigned c.len-codes_fit.ensures.fit below at c.in_ok-rows.ensures
    (c.in_ok-dtype.ensures ∙ (λ i. nullable_where (nullability_of (c.dtype.ensures i)) (c.dtype-2.ensures i)))

pub returns-clause-values : goal.returns-clause-values
returns-clause-values c =
    let rows = row_data c.rows-found.result.now in
    let codes = c.args.codes.now.values in
    let at : c.as_slice.result.now ≡ code_places (length rows.values) codes = c.as_slice.ensures.value ∙ c.in_ok-places.ensures ∙ ap (λ (n : ℕ). code_places n codes) c.len.ensures in
    c.of_array.ensures.values ∙ found_values rows c.in_ok-rows.rows codes c.as_slice.result.now at c.in_ok-rows.ensures
    ∙ ap (λ (vs : List Datum). map (value_at vs) codes) c.rows-found.ensures.values
