use Rattle.std.proofs.Common.{◌≡◌, [], ◌∙◌, ap, sym, arith, rules}
use Rattle.std.specs.Vec.Iter.{into_iter_items}
use Rattle.vx_types.specs.Columns.{ColumnData}
use Rattle.vx_arrays.specs.ArrayRows.{joined}
use Rattle.vx_arrays.specs.Buffers.{buffer_type}
use Rattle.vx_arrays.proofs.ArrayRanges.{array_appended, array_joined}
use Rattle.vx_arrays.proofs.JoinedArrays.{next_pair, pair_same, pair_smaller, none_left, none_left_have, none_left_members, none_left_rows, some_left, never_short, nothing_left, join_begins}
use Rattle.vx_arrays.proofs.arrays.+append.Goals as goal

pub Array::append-invariant_of-result : goal.Array::append-invariant_of-result
Array::append-invariant_of-result t c =
    let types : buffer_type c.other.inside.buffers ≡ buffer_type c.self.inside.buffers = ap (λ (a : ColumnData). a.dtype) c.other.view_is ∙ c.requires ∙ sym (ap (λ (a : ColumnData). a.dtype) c.self.view_is) in
    array_appended c.self.inside.validity c.other.inside.validity c.in_ok-validity.validity c.self.inside.buffers c.other.inside.buffers c.in_ok-buffers.buffers c.self.invariant c.other.invariant types c.in_ok-buffers.ensures.dtype c.in_ok-buffers.ensures.values c.in_ok-validity.ensures

pub Array::append-returns : goal.Array::append-returns
Array::append-returns t c =
    array_joined c.self.inside.validity c.other.inside.validity c.in_ok-validity.validity c.self.inside.buffers c.other.inside.buffers c.in_ok-buffers.buffers c.self.invariant c.in_ok-buffers.ensures.dtype c.in_ok-buffers.ensures.values c.in_ok-validity.ensures
    ∙ (λ i. joined (c.self.view_is i) (c.other.view_is i))

pub ChildArrays::append-append-requires : goal.ChildArrays::append-append-requires
ChildArrays::append-append-requires t c =
    let pair = next_pair c.args.rows c.args.self c.args.other.now c.loop-one.arrays.items (into_iter_items c.loop-one.one-iterator) c.loop-one.others.now (into_iter_items c.next.new.self) c.in-Some-split_first.rest.now c.in-Some.one c.in-Some-split_first.two.now c.in-Some.ensures.steps.0 c.in-Some-split_first.ensures.cases.0 c.loop-one.invariant in
    (omega (arith, pair_smaller c.args.rows c.args.self c.args.other.now c.loop-one.arrays.items (into_iter_items c.next.new.self) c.in-Some-split_first.rest.now c.in-Some.one c.in-Some-split_first.two.now pair), pair_same c.args.rows c.args.self c.args.other.now c.loop-one.arrays.items (into_iter_items c.next.new.self) c.in-Some-split_first.rest.now c.in-Some.one c.in-Some-split_first.two.now pair)

pub ChildArrays::append-unreachable-requires : goal.ChildArrays::append-unreachable-requires
ChildArrays::append-unreachable-requires t c =
    let none : c.loop-one.others.now ≡ [] = nothing_left c.loop-one.others.now c.in-None-split_first.ensures.cases in
    never_short c.args.rows c.args.self c.args.other.now c.loop-one.arrays.items c.loop-one.others.now (into_iter_items c.next.new.self) c.in-Some.one none (some_left c.args.rows c.args.self c.args.other.now c.loop-one.arrays.items (into_iter_items c.loop-one.one-iterator) c.loop-one.others.now (into_iter_items c.next.new.self) c.in-Some.one c.in-Some.ensures.steps.0 c.loop-one.invariant)

pub ChildArrays::append-invariant_of-result : goal.ChildArrays::append-invariant_of-result
ChildArrays::append-invariant_of-result t c =
    let none : into_iter_items c.loop-one.one-iterator ≡ [] = nothing_left (into_iter_items c.loop-one.one-iterator) (omega (arith, c.in-None.ensures.steps.0, c.loop-one.one-iterator.rest.ok)) in
    none_left_have c.args.rows c.args.self c.args.other.now c.loop-one.arrays.items c.loop-one.others.now (none_left c.args.rows c.args.self c.args.other.now c.loop-one.arrays.items (into_iter_items c.loop-one.one-iterator) c.loop-one.others.now none c.loop-one.invariant)

pub ChildArrays::append-returns-clause-members : goal.ChildArrays::append-returns-clause-members
ChildArrays::append-returns-clause-members t c =
    let none : into_iter_items c.loop-one.one-iterator ≡ [] = nothing_left (into_iter_items c.loop-one.one-iterator) (omega (arith, c.in-None.ensures.steps.0, c.loop-one.one-iterator.rest.ok)) in
    none_left_members c.args.rows c.args.self c.args.other.now c.loop-one.arrays.items c.loop-one.others.now (none_left c.args.rows c.args.self c.args.other.now c.loop-one.arrays.items (into_iter_items c.loop-one.one-iterator) c.loop-one.others.now none c.loop-one.invariant)

pub ChildArrays::append-returns-clause-rows : goal.ChildArrays::append-returns-clause-rows
ChildArrays::append-returns-clause-rows t c =
    let none : into_iter_items c.loop-one.one-iterator ≡ [] = nothing_left (into_iter_items c.loop-one.one-iterator) (omega (arith, c.in-None.ensures.steps.0, c.loop-one.one-iterator.rest.ok)) in
    none_left_rows c.args.rows c.args.self c.args.other.now c.loop-one.arrays.items c.loop-one.others.now (none_left c.args.rows c.args.self c.args.other.now c.loop-one.arrays.items (into_iter_items c.loop-one.one-iterator) c.loop-one.others.now none c.loop-one.invariant)

pub ChildArrays::append-loop-one-init : goal.ChildArrays::append-loop-one-init
ChildArrays::append-loop-one-init t c =
    let here : into_iter_items c.into_iter-one-iterator.result ≡ c.self.inside.arrays.items = search rules in
    join_begins c.self.inside.rows c.other.inside.rows c.args.rows c.args.self c.args.other.now c.in_ok-arrays.arrays.items c.self.inside.arrays.items c.other.inside.arrays.items (into_iter_items c.into_iter-one-iterator.result) c.as_slice-others.result.now c.self.view_is c.other.view_is c.self.invariant c.other.invariant c.requires.members c.requires.rows c.in_ok-arrays.ensures.items here c.as_slice-others.ensures.value
