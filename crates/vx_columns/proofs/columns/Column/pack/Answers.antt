use Rattle.std.proofs.Common.{sym, subst, ◌∙◌}
use Rattle.vx_types.specs.declared.dtypes.Nullability.{Nullability}
use Rattle.vx_types.specs.Data.{struct_type}
use Rattle.vx_arrays.specs.PackedColumns.{IsColumn}
use Rattle.vx_arrays.proofs.PackedArrays.{made_have, validity_len, struct_values, struct_packed}
use Rattle.vx_columns.proofs.columns.Column.pack.Goals as goal

pub of-structs-requires : goal.of-structs-requires
of-structs-requires c = made_have c.args.fields c.args.rows c.args.parts.items c.in_ok-parts.parts.items c.requires.parts c.in_ok-parts.ensures.rows

pub of_structs-packed-requires : goal.of_structs-packed-requires
of_structs-packed-requires c = validity_len c.args.rows c.args.parts.items c.in_ok-parts.parts.items c.args.fields c.in_ok-validity.validity c.of-structs.result c.requires.parts c.in_ok-parts.ensures.rows c.of-structs.ensures c.in_ok-validity.ensures.rows

pub of_array-requires : goal.of_array-requires
of_array-requires c =
    subst (λ (n : Nullability). IsColumn (struct_type c.args.fields n) c.of_structs-packed.result) (sym c.nullability_for-nullability.ensures)
    (struct_packed c.args.fields c.args.rows c.args.parts.items c.in_ok-parts.parts.items c.args.validity c.in_ok-validity.validity c.of-structs.result c.of_structs-packed.result c.requires.parts c.in_ok-parts.ensures.fit c.in_ok-parts.ensures.rows c.in_ok-validity.ensures.valid c.of-structs.ensures c.of_structs-packed.ensures.dtype c.of_structs-packed.ensures.values)

pub returns-clause-values : goal.returns-clause-values
returns-clause-values c = c.of_array.ensures.values ∙ struct_values c.args.fields c.args.rows c.args.parts.items c.in_ok-parts.parts.items c.args.validity c.in_ok-validity.validity c.of-structs.result c.of_structs-packed.result c.requires.parts c.in_ok-parts.ensures.rows c.in_ok-validity.ensures.valid c.of-structs.ensures c.of_structs-packed.ensures.values
