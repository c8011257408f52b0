use Rattle.std.proofs.Common.{◌∙◌, ap, sym, subst, arith, length, map, ℕ, List}
use Rattle.std.proofs.lemmas.List.{length-map}
use Rattle.vx_types.specs.Columns.{ColumnData}
use Rattle.vx_types.specs.Sizes.{members_size}
use Rattle.vx_types.specs.Views.{data_type}
use Rattle.vx_types.specs.ValueViews.{datum}
use Rattle.vx_arrays.specs.Fields.{columns_for}
use Rattle.vx_arrays.specs.Numbers.{numbers_in}
use Rattle.vx_arrays.specs.ArrayRows.{struct_rows, HaveRows}
use Rattle.vx_types.proofs.Members.{size_at}
use Rattle.vx_arrays.proofs.ValueRows.{truths_null, truths_rows, numbers_inside, numbers_null, numbers_rows, texts_null, texts_rows, structs_count, structs_rows, structs_type, lists_rows, column_fits, have_for, columns_all}
use Rattle.vx_arrays.proofs.arrays.+of_values.Goals as goal

pub Array::of_values-of_truths-requires-clause-held : goal.Array::of_values-of_truths-requires-clause-held
Array::of_values-of_truths-requires-clause-held t c = truths_null (data_type c.args.dtype.now) c.in-Bool.field-0 (map datum c.args.values.now) c.in_ok-validity.validity c.in_ok-truths-in-Bool.truths (ap data_type c.in-Bool.is) c.requires c.in_ok-validity.ensures c.in_ok-truths-in-Bool.ensures

pub Array::of_values-numbers_of-requires : goal.Array::of_values-numbers_of-requires
Array::of_values-numbers_of-requires t c = numbers_inside (data_type c.args.dtype.now) c.in-Int.kind c.in-Int.field-1 (map datum c.args.values.now) (ap data_type c.in-Int.is) c.requires

pub Array::of_values-of_numbers-requires-clause-held : goal.Array::of_values-of_numbers-requires-clause-held
Array::of_values-of_numbers-requires-clause-held t c = numbers_null (data_type c.args.dtype.now) c.in-Int.kind c.in-Int.field-1 (map datum c.args.values.now) c.in_ok-validity.validity (numbers_in c.in_ok-numbers-in-Int.numbers) (ap data_type c.in-Int.is) c.requires c.in_ok-validity.ensures c.in_ok-numbers-in-Int.ensures.numbers

pub Array::of_values-of_texts-requires-clause-held : goal.Array::of_values-of_texts-requires-clause-held
Array::of_values-of_texts-requires-clause-held t c = texts_null (data_type c.args.dtype.now) c.in-Utf8.field-0 (map datum c.args.values.now) c.in_ok-validity.validity c.in_ok-texts-in-Utf8.texts (ap data_type c.in-Utf8.is) c.requires c.in_ok-validity.ensures c.in_ok-texts-in-Utf8.ensures

pub Array::of_values-of_structs-requires : goal.Array::of_values-of_structs-requires
Array::of_values-of_structs-requires t c =
    structs_count c.in-Struct.fields (map datum c.args.values.now) c.in_ok-validity.validity c.in_ok-arrays-in-Struct.arrays
    (c.in_ok-arrays-in-Struct.ensures ∙ ap (λ (n : ℕ). struct_rows n (columns_for 0 c.in-Struct.fields (map datum c.args.values.now))) (sym (length-map c.args.values.now datum))) c.in_ok-validity.ensures

pub Array::of_values-returns-in_ok-truths-in-Bool-clause-values : goal.Array::of_values-returns-in_ok-truths-in-Bool-clause-values
Array::of_values-returns-in_ok-truths-in-Bool-clause-values t c = c.of_truths.ensures.values ∙ truths_rows (data_type c.args.dtype.now) c.in-Bool.field-0 (map datum c.args.values.now) c.in_ok-validity.validity c.in_ok-truths-in-Bool.truths (ap data_type c.in-Bool.is) c.requires c.in_ok-validity.ensures c.in_ok-truths-in-Bool.ensures

pub Array::of_values-returns-in_ok-numbers-in-Int-clause-values : goal.Array::of_values-returns-in_ok-numbers-in-Int-clause-values
Array::of_values-returns-in_ok-numbers-in-Int-clause-values t c = c.of_numbers.ensures.values ∙ numbers_rows (data_type c.args.dtype.now) c.in-Int.kind c.in-Int.field-1 (map datum c.args.values.now) c.in_ok-validity.validity (numbers_in c.in_ok-numbers-in-Int.numbers) (ap data_type c.in-Int.is) c.requires c.in_ok-validity.ensures c.in_ok-numbers-in-Int.ensures.numbers

pub Array::of_values-returns-in_ok-texts-in-Utf8-clause-values : goal.Array::of_values-returns-in_ok-texts-in-Utf8-clause-values
Array::of_values-returns-in_ok-texts-in-Utf8-clause-values t c = c.of_texts.ensures.values ∙ texts_rows (data_type c.args.dtype.now) c.in-Utf8.field-0 (map datum c.args.values.now) c.in_ok-validity.validity c.in_ok-texts-in-Utf8.texts (ap data_type c.in-Utf8.is) c.requires c.in_ok-validity.ensures c.in_ok-texts-in-Utf8.ensures

pub Array::of_values-returns-in_ok-arrays-in-Struct-clause-dtype : goal.Array::of_values-returns-in_ok-arrays-in-Struct-clause-dtype
Array::of_values-returns-in_ok-arrays-in-Struct-clause-dtype t c =
    c.of_structs.ensures.dtype ∙ structs_type (data_type c.args.dtype.now) c.in-Struct.fields c.in-Struct.field-1 (map datum c.args.values.now) c.in_ok-arrays-in-Struct.arrays (ap data_type c.in-Struct.is)
    (c.in_ok-arrays-in-Struct.ensures ∙ ap (λ (n : ℕ). struct_rows n (columns_for 0 c.in-Struct.fields (map datum c.args.values.now))) (sym (length-map c.args.values.now datum)))

pub Array::of_values-returns-in_ok-arrays-in-Struct-clause-values : goal.Array::of_values-returns-in_ok-arrays-in-Struct-clause-values
Array::of_values-returns-in_ok-arrays-in-Struct-clause-values t c =
    c.of_structs.ensures.values ∙ structs_rows (data_type c.args.dtype.now) c.in-Struct.fields c.in-Struct.field-1 (map datum c.args.values.now) c.in_ok-validity.validity c.in_ok-arrays-in-Struct.arrays (ap data_type c.in-Struct.is) c.requires
    (c.in_ok-arrays-in-Struct.ensures ∙ ap (λ (n : ℕ). struct_rows n (columns_for 0 c.in-Struct.fields (map datum c.args.values.now))) (sym (length-map c.args.values.now datum))) c.in_ok-validity.ensures

pub Array::of_values-returns-in_ok-nulls-in-List-clause-values : goal.Array::of_values-returns-in_ok-nulls-in-List-clause-values
Array::of_values-returns-in_ok-nulls-in-List-clause-values t c =
    c.in_ok-nulls-in-List.ensures.values ∙ lists_rows (data_type c.args.dtype.now) c.in-List.field-0 c.in-List.field-1 (map datum c.args.values.now) (length c.args.values.now) (ap data_type c.in-List.is) c.requires (sym (length-map c.args.values.now datum))

pub ChildArrays::of_values-of_values-requires : goal.ChildArrays::of_values-of_values-requires
ChildArrays::of_values-of_values-requires t c =
    let members = c.items-members.result.now in
    let place = c.loop-place.place in
    let field = c.index-members-place.result in (
      omega (arith, size_at members place field c.loop-place-test.true c.index-members-place.is, ap members_size c.items-members.ensures),
      column_fits c.args.fields.now members place field c.args.values.now c.as_slice.result.now c.items-members.ensures c.loop-place-test.true c.index-members-place.is (ap (map datum) c.as_slice.ensures.value ∙ c.in_ok-column.ensures) c.requires,
    )

pub ChildArrays::of_values-of-requires : goal.ChildArrays::of_values-of-requires
ChildArrays::of_values-of-requires t c =
    let vs = map datum c.args.values.now in
    let n = length c.args.values.now in
    let all = columns_all c.args.fields.now c.items-members.result.now c.loop-place.place vs c.loop-place.arrays.items c.items-members.ensures c.loop-place-test.false c.loop-place.invariant in
    subst (λ (arrays : List ColumnData). HaveRows n arrays) (sym all) (have_for 0 c.args.fields.now vs n (sym (length-map c.args.values.now datum)))
