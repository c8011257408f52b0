use Rattle.std.proofs.Common.{◌∙◌, [], false, ap, sym, subst, arith, map, refl, List}
use Rattle.vx_types.specs.Columns.{ColumnData}
use Rattle.vx_types.specs.Data.{structure}
use Rattle.vx_types.specs.Sizes.{members_size}
use Rattle.vx_types.specs.Views.{data_type}
use Rattle.vx_types.proofs.Members.{size_at}
use Rattle.vx_arrays.specs.ArrayRows.{HaveRows}
use Rattle.vx_arrays.proofs.ValueRows.{structs_type, have_for, columns_all, none_valid, none_held, no_structs}
use Rattle.vx_arrays.proofs.arrays.+with_room.Goals as goal

pub Array::with_room-of_truths-requires-clause-held : goal.Array::with_room-of_truths-requires-clause-held
Array::with_room-of_truths-requires-clause-held t c = none_held false c.in_ok-validity.validity c.in_ok-truths-in-Bool.truths c.in_ok-validity.ensures

pub Array::with_room-of_structs-requires : goal.Array::with_room-of_structs-requires
Array::with_room-of_structs-requires t c = no_structs c.in-Struct.fields c.in_ok-validity.validity c.in_ok-arrays-in-Struct.arrays c.in_ok-validity.ensures c.in_ok-arrays-in-Struct.ensures

pub Array::with_room-returns-in_ok-arrays-in-Struct-clause-dtype : goal.Array::with_room-returns-in_ok-arrays-in-Struct-clause-dtype
Array::with_room-returns-in_ok-arrays-in-Struct-clause-dtype t c =
    c.of_structs.ensures.dtype ∙ structs_type (data_type c.args.dtype.now) c.in-Struct.fields c.in-Struct.field-1 [] c.in_ok-arrays-in-Struct.arrays (ap data_type c.in-Struct.is) c.in_ok-arrays-in-Struct.ensures

pub Array::with_room-returns-in_ok-arrays-in-Struct-clause-values : goal.Array::with_room-returns-in_ok-arrays-in-Struct-clause-values
Array::with_room-returns-in_ok-arrays-in-Struct-clause-values t c = c.of_structs.ensures.values ∙ none_valid c.in_ok-validity.validity (map structure c.in_ok-arrays-in-Struct.arrays.rows) c.in_ok-validity.ensures

pub ChildArrays::with_room-with_room-requires : goal.ChildArrays::with_room-with_room-requires
ChildArrays::with_room-with_room-requires t c =
    (omega (arith, size_at c.items-members.result.now c.loop-field.field-index c.field-item.result c.loop-field-test.true c.field-item.is, ap members_size c.items-members.ensures), tt)

pub ChildArrays::with_room-of-requires : goal.ChildArrays::with_room-of-requires
ChildArrays::with_room-of-requires t c =
    let all = columns_all c.args.fields.now c.items-members.result.now c.loop-field.field-index [] c.loop-field.arrays.items c.items-members.ensures c.loop-field-test.false c.loop-field.invariant in
    subst (λ (arrays : List ColumnData). HaveRows 0 arrays) (sym all) (have_for 0 c.args.fields.now [] 0 refl)
