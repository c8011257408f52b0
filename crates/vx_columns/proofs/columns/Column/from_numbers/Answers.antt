use Rattle.std.proofs.Common.{◌≡◌, ◌∙◌, pos, Bool, List, length, map, refl, sym, ap, subst, arith}
use Rattle.std.specs.List.{AllByRecursion}
use Rattle.std.proofs.lemmas.List.{length-map}
use Rattle.vx_types.specs.declared.dtypes.IntKind.TheVariants.{U64}
use Rattle.vx_types.specs.declared.dtypes.Nullability.TheVariants.{NonNullable}
use Rattle.vx_types.specs.Data.{number}
use Rattle.vx_types.specs.Slots.{where_valid}
use Rattle.vx_masks.specs.Rows.{NullsHold}
use Rattle.vx_arrays.specs.Buffers.{Takes}
use Rattle.vx_arrays.proofs.PackedRows.{column_of_numbers}
use Rattle.vx_columns.proofs.ColumnRows.{all_held, all_there, all_taken, naturals}
use Rattle.vx_columns.proofs.columns.Column.from_numbers.Goals as goal

pub of_numbers-array-requires-clause-held : goal.of_numbers-array-requires-clause-held
of_numbers-array-requires-clause-held c = subst (λ (bits : List Bool). NullsHold (pos 0) bits c.of.result) (sym c.in_ok-validity.ensures) (all_held c.len.result c.of.result)

pub of_array-requires : goal.of_array-requires
of_array-requires c =
    column_of_numbers U64 U64 NonNullable c.in_ok-validity.validity c.of.result c.of_numbers-array.result refl c.of_numbers-array.ensures.dtype c.of_numbers-array.ensures.values c.len-inside.ensures.inside
    (subst (AllByRecursion (Takes NonNullable)) (sym c.in_ok-validity.ensures) (all_taken c.len.result))

pub returns-clause-values : goal.returns-clause-values
returns-clause-values c =
    let zs = c.of.result in
    let ns = c.args.numbers.items in
    let count : length zs ≡ c.len.result = omega (arith, ap length c.of.ensures, length-map ns pos, c.len.ensures) in
    c.of_array.ensures.values ∙ c.of_numbers-array.ensures.values ∙ ap (λ (bits : List Bool). where_valid bits (map number zs)) c.in_ok-validity.ensures
    ∙ all_there c.len.result zs count ∙ ap (map number) c.of.ensures ∙ naturals ns
