use Rattle.std.proofs.Common.{◌≡◌, Bool, List, true, length, map, ap, sym, subst, ◌∙◌, arith, rules}
use Rattle.std.proofs.lemmas.List.{length-map, length-replicate}
use Rattle.vx_base.specs.Columns.{ColumnData}
use Rattle.vx_base.specs.Data.{structure}
use Rattle.vx_base.specs.Slots.{where_valid}
use Rattle.vx_base.specs.Views.{data_type, fields_in}
use Rattle.vx_operators.specs.ColumnarValues.{columnar_rows}
use Rattle.vx_arrays.specs.ArrayRows.{StructRows, rows_of, members_in, HaveRows}
use Rattle.vx_expr.specs.Packs.{rows_along, typed_columns, FitEach}
use Rattle.vx_expr.proofs.PackedColumns.{columns_fit, have_rows, members_same, structs_same, structs_len, struct_bare}
use Rattle.vx_expr.proofs.fitting.fitting_fields.Goals as goal

pub fitting_columnar_values-requires : goal.fitting_columnar_values-requires
fitting_columnar_values-requires c =
    let k = c.fewest_rows-count.result in
    let n = c.args.rows in
    let ms = c.args.fields.now in
    let columns = map columnar_rows c.args.columnar_values.items in
    let count : k ≡ length (rows_along n columns) = search rules in
    columns_fit (data_type c.args.dtype.now) ms k n columns c.requires.structs count c.requires.fit

pub of-requires : goal.of-requires
of-requires c =
    let k = c.fewest_rows-count.result in
    let n = c.args.rows in
    let ms = c.args.fields.now in
    let columns = map columnar_rows c.args.columnar_values.items in
    let count : k ≡ length (rows_along n columns) = search rules in
    let fit : FitEach k ms columns = columns_fit (data_type c.args.dtype.now) ms k n columns c.requires.structs count c.requires.fit in
    subst (λ (parts : List ColumnData). HaveRows k parts) (sym c.in_ok-parts.ensures) (have_rows k ms columns fit)

pub of_structs-requires : goal.of_structs-requires
of_structs-requires c =
    let k = c.fewest_rows-count.result in
    let n = c.args.rows in
    let ms = c.args.fields.now in
    let columns = map columnar_rows c.args.columnar_values.items in
    let count : k ≡ length (rows_along n columns) = search rules in
    let each : length (fields_in ms) ≡ length columns = omega (arith, c.requires.count, length-map c.args.columnar_values.items columnar_rows) in
    let is : c.of.result.rows ≡ rows_of k (typed_columns k ms columns) = ap (λ (s : StructRows). s.rows) c.of.ensures ∙ ap (λ (parts : List ColumnData). rows_of k parts) c.in_ok-parts.ensures in
    ap length c.in_ok-validity.ensures ∙ length-replicate k true ∙ sym (structs_len k n ms columns c.of.result.rows each count is)

pub returns-clause-dtype : goal.returns-clause-dtype
returns-clause-dtype c =
    let k = c.fewest_rows-count.result in
    let ms = c.args.fields.now in
    let columns = map columnar_rows c.args.columnar_values.items in
    let each : length (fields_in ms) ≡ length columns = omega (arith, c.requires.count, length-map c.args.columnar_values.items columnar_rows) in
    let members = ap (λ (s : StructRows). s.members) c.of.ensures ∙ ap members_in c.in_ok-parts.ensures ∙ members_same k ms columns each in
    c.of_structs.ensures.dtype ∙ struct_bare (data_type c.args.dtype.now) ms c.of.result.members c.requires.structs members

pub returns-clause-values : goal.returns-clause-values
returns-clause-values c =
    let k = c.fewest_rows-count.result in
    let n = c.args.rows in
    let ms = c.args.fields.now in
    let columns = map columnar_rows c.args.columnar_values.items in
    let count : k ≡ length (rows_along n columns) = search rules in
    let each : length (fields_in ms) ≡ length columns = omega (arith, c.requires.count, length-map c.args.columnar_values.items columnar_rows) in
    let is : c.of.result.rows ≡ rows_of k (typed_columns k ms columns) = ap (λ (s : StructRows). s.rows) c.of.ensures ∙ ap (λ (parts : List ColumnData). rows_of k parts) c.in_ok-parts.ensures in
    c.of_structs.ensures.values ∙ ap (λ (mask : List Bool). where_valid mask (map structure c.of.result.rows)) c.in_ok-validity.ensures ∙ structs_same k n ms columns c.of.result.rows each count is
