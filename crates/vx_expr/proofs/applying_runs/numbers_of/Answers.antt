use Rattle.std.proofs.Common.{◌≡◌, ◌∙◌, pos, Bool, List, length, map, refl, sym, ap, subst, arith}
use Rattle.std.specs.List.{AllByRecursion}
use Rattle.std.proofs.lemmas.List.{length-map}
use Rattle.vx_arrays.specs.Buffers.{Takes}
use Rattle.vx_arrays.proofs.PackedRows.{column_of_numbers}
use Rattle.vx_base.specs.declared.dtypes.IntKind.TheVariants.{U64}
use Rattle.vx_base.specs.declared.dtypes.Nullability.TheVariants.{NonNullable}
use Rattle.vx_base.specs.Data.{number}
use Rattle.vx_base.specs.Rows.{NullsHold}
use Rattle.vx_base.specs.Slots.{where_valid}
use Rattle.vx_base.proofs.ColumnRows.{all_held, all_there, all_taken}
use Rattle.vx_expr.proofs.applying_runs.numbers_of.Goals as goal

pub of_numbers-array-requires-clause-held : goal.of_numbers-array-requires-clause-held
of_numbers-array-requires-clause-held c = subst (λ (bits : List Bool). NullsHold (pos 0) bits c.of.result) (sym c.in_ok-validity.ensures) (all_held (length c.args.ends.now) c.of.result)

pub returns-clause-numbered : goal.returns-clause-numbered
returns-clause-numbered c =
    let column = column_of_numbers U64 U64 NonNullable c.in_ok-validity.validity c.of.result c.of_numbers-array.result refl c.of_numbers-array.ensures.dtype c.of_numbers-array.ensures.values c.len-inside.ensures.inside
    (subst (AllByRecursion (Takes NonNullable)) (sym c.in_ok-validity.ensures) (all_taken (length c.args.ends.now))) in
    column.fit

pub returns-clause-count : goal.returns-clause-count
returns-clause-count c =
    let zs = c.of.result in
    let rows = length c.args.ends.now in
    let count : length zs ≡ rows = ap length c.of.ensures ∙ length-map c.in_ok-copied.copied.items pos ∙ ap length c.in_ok-copied.ensures.items in
    ap length (c.of_numbers-array.ensures.values ∙ ap (λ (bits : List Bool). where_valid bits (map number zs)) c.in_ok-validity.ensures ∙ all_there rows zs count) ∙ length-map zs number ∙ count
