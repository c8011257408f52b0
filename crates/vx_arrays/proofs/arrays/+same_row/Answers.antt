use Rattle.std.proofs.Common.{◌≡◌, ◌∙◌, ◌<◌, sym, ap, arith, length, true, false, refl}
use Rattle.std.proofs.lemmas.List.{length-map}
use Rattle.vx_types.specs.Data.{truth, text, structure}
use Rattle.vx_arrays.specs.Buffers.{buffer_values}
use Rattle.vx_arrays.proofs.ArrayRows.{array_of}
use Rattle.vx_arrays.proofs.SameRows.{row_values, row_null, bits_agree, not_true, true_not, beq_same, same_beq, members_alike, counts_same, types_same, row_seen, rows_same, same_rows, agree_more, agree_at, agree_all, buffers_agree, agree_buffers, structs_agree, agree_structs, texts_back, truths_back}
use Rattle.vx_arrays.proofs.arrays.+same_row.Goals as goal

pub Array::same_row-returns-then-value-2 : goal.Array::same_row-returns-then-value-2
Array::same_row-returns-then-value-2 t c =
    let one = row_values c.self.inside.validity c.self.inside.buffers c.args.self.now c.args.row c.self.view_is c.self.invariant (rw c.if-value.true at c.value.ensures) in
    let two = row_values c.other.inside.validity c.other.inside.buffers c.args.other.now c.args.second c.other.view_is c.other.invariant (rw c.if-value-2.true at c.value-then-value.ensures) in
    (λ h. one ∙ c.same_row.ensures.0 h ∙ sym two, λ e. c.same_row.ensures.1 (sym one ∙ e ∙ two))

pub Array::same_row-returns-else-value-2 : goal.Array::same_row-returns-else-value-2
Array::same_row-returns-else-value-2 t c = (
  λ h. absurd cc,
  λ e.
      let differ = bits_agree c.self.inside.validity c.other.inside.validity c.self.inside.buffers c.other.inside.buffers c.args.self.now c.args.other.now c.args.row c.args.second true false c.self.view_is c.other.view_is c.self.invariant c.other.invariant (rw c.if-value.true at c.value.ensures) (rw c.if-value-2.false at c.value-then-value.ensures) c.requires.inside e in
      absurd cc,
)

pub Array::same_row-returns-else-value : goal.Array::same_row-returns-else-value
Array::same_row-returns-else-value t c =
    let here = rw c.if-value.false at c.value.ensures in
    let one = row_null c.self.inside.validity c.self.inside.buffers c.args.self.now c.args.row c.self.view_is c.self.invariant here in (
      λ h.
          let no = not_true c.value-else-value.result h in
          one ∙ sym (row_null c.other.inside.validity c.other.inside.buffers c.args.other.now c.args.second c.other.view_is c.other.invariant (rw no at c.value-else-value.ensures)),
      λ e. true_not c.value-else-value.result (sym (bits_agree c.self.inside.validity c.other.inside.validity c.self.inside.buffers c.other.inside.buffers c.args.self.now c.args.other.now c.args.row c.args.second false c.value-else-value.result c.self.view_is c.other.view_is c.self.invariant c.other.invariant here c.value-else-value.ensures c.requires.inside e)),
    )

pub ChildArrays::same_row-bounds-others-place : goal.ChildArrays::same_row-bounds-others-place
ChildArrays::same_row-bounds-others-place t c =
    let alike = members_alike c.self.inside.rows c.other.inside.rows c.self.inside.arrays.items c.other.inside.arrays.items c.as_slice-ones.result.now c.as_slice-others.result.now c.args.self.now c.args.other.now c.self.view_is c.other.view_is c.as_slice-ones.ensures.value c.as_slice-others.ensures.value c.requires.members in
    omega (arith, counts_same c.as_slice-ones.result.now c.as_slice-others.result.now alike, c.loop-place-test.true)

pub ChildArrays::same_row-same_row-requires : goal.ChildArrays::same_row-same_row-requires
ChildArrays::same_row-same_row-requires t c =
    let ones = c.as_slice-ones.result.now in
    let others = c.as_slice-others.result.now in
    let alike = members_alike c.self.inside.rows c.other.inside.rows c.self.inside.arrays.items c.other.inside.arrays.items ones others c.args.self.now c.args.other.now c.self.view_is c.other.view_is c.as_slice-ones.ensures.value c.as_slice-others.ensures.value c.requires.members in
    let count : length others ≡ length ones = counts_same ones others alike in
    let one = array_of c.self.inside.rows c.self.inside.arrays.items ones c.loop-place.place c.index-ones-place.result c.args.self.now c.as_slice-ones.ensures.value c.self.view_is c.self.invariant c.loop-place-test.true c.index-ones-place.is in
    let two = array_of c.other.inside.rows c.other.inside.arrays.items others c.loop-place.place c.index-others-place.result c.args.other.now c.as_slice-others.ensures.value c.other.view_is c.other.invariant (omega (arith, count, c.loop-place-test.true)) c.index-others-place.is in
    (omega (arith, one.smaller), (types_same ones others c.loop-place.place c.index-ones-place.result c.index-others-place.result alike c.loop-place-test.true c.index-ones-place.is c.index-others-place.is, (omega (arith, c.requires.inside, one.rows), omega (arith, c.requires.other_inside, two.rows))))

pub ChildArrays::same_row-returns-then-not-same_row : goal.ChildArrays::same_row-returns-then-not-same_row
ChildArrays::same_row-returns-then-not-same_row t c = (
  λ h. absurd cc,
  λ e.
      let ones = c.as_slice-ones.result.now in
      let others = c.as_slice-others.result.now in
      let alike = members_alike c.self.inside.rows c.other.inside.rows c.self.inside.arrays.items c.other.inside.arrays.items ones others c.args.self.now c.args.other.now c.self.view_is c.other.view_is c.as_slice-ones.ensures.value c.as_slice-others.ensures.value c.requires.members in
      let count : length others ≡ length ones = counts_same ones others alike in
      let one = array_of c.self.inside.rows c.self.inside.arrays.items ones c.loop-place.place c.index-ones-place.result c.args.self.now c.as_slice-ones.ensures.value c.self.view_is c.self.invariant c.loop-place-test.true c.index-ones-place.is in
      let two = array_of c.other.inside.rows c.other.inside.arrays.items others c.loop-place.place c.index-others-place.result c.args.other.now c.as_slice-others.ensures.value c.other.view_is c.other.invariant (omega (arith, count, c.loop-place-test.true)) c.index-others-place.is in
      let first = row_seen c.self.inside.rows c.args.row c.self.inside.arrays.items ones c.args.self.now c.self.view_is c.as_slice-ones.ensures.value c.self.invariant c.requires.inside in
      let second = row_seen c.other.inside.rows c.args.second c.other.inside.arrays.items others c.args.other.now c.other.view_is c.as_slice-others.ensures.value c.other.invariant c.requires.other_inside in
      let yes = c.same_row.ensures.1 (agree_at c.args.row c.args.second c.loop-place.place ones others c.index-ones-place.result c.index-others-place.result c.loop-place-test.true count c.index-ones-place.is c.index-others-place.is (omega (arith, c.requires.inside, one.rows)) (omega (arith, c.requires.other_inside, two.rows)) (same_rows c.args.row c.args.second ones others c.args.self.now c.args.other.now first second e)) in
      absurd cc,
)

pub ChildArrays::same_row-loop-place-preserved : goal.ChildArrays::same_row-loop-place-preserved
ChildArrays::same_row-loop-place-preserved t c =
    let ones = c.as_slice-ones.result.now in
    let others = c.as_slice-others.result.now in
    let alike = members_alike c.self.inside.rows c.other.inside.rows c.self.inside.arrays.items c.other.inside.arrays.items ones others c.args.self.now c.args.other.now c.self.view_is c.other.view_is c.as_slice-ones.ensures.value c.as_slice-others.ensures.value c.requires.members in
    let count : length others ≡ length ones = counts_same ones others alike in
    let one = array_of c.self.inside.rows c.self.inside.arrays.items ones c.loop-place.place c.index-ones-place.result c.args.self.now c.as_slice-ones.ensures.value c.self.view_is c.self.invariant c.loop-place-test.true c.index-ones-place.is in
    let two = array_of c.other.inside.rows c.other.inside.arrays.items others c.loop-place.place c.index-others-place.result c.args.other.now c.as_slice-others.ensures.value c.other.view_is c.other.invariant (omega (arith, count, c.loop-place-test.true)) c.index-others-place.is in
    agree_more c.args.row c.args.second c.loop-place.place ones others c.index-ones-place.result c.index-others-place.result c.loop-place-test.true count c.index-ones-place.is c.index-others-place.is (omega (arith, c.requires.inside, one.rows)) (omega (arith, c.requires.other_inside, two.rows)) (c.same_row.ensures.0 cc) c.loop-place.invariant

pub ChildArrays::same_row-returns : goal.ChildArrays::same_row-returns
ChildArrays::same_row-returns t c = (
  λ h.
      let ones = c.as_slice-ones.result.now in
      let others = c.as_slice-others.result.now in
      let alike = members_alike c.self.inside.rows c.other.inside.rows c.self.inside.arrays.items c.other.inside.arrays.items ones others c.args.self.now c.args.other.now c.self.view_is c.other.view_is c.as_slice-ones.ensures.value c.as_slice-others.ensures.value c.requires.members in
      let first = row_seen c.self.inside.rows c.args.row c.self.inside.arrays.items ones c.args.self.now c.self.view_is c.as_slice-ones.ensures.value c.self.invariant c.requires.inside in
      let second = row_seen c.other.inside.rows c.args.second c.other.inside.arrays.items others c.args.other.now c.other.view_is c.as_slice-others.ensures.value c.other.invariant c.requires.other_inside in
      rows_same c.args.row c.args.second ones others c.args.self.now c.args.other.now first second (agree_all c.args.row c.args.second c.loop-place.place ones others (omega (arith, c.loop-place-test.false)) (counts_same ones others alike) c.loop-place.invariant),
  λ e. refl,
)

pub Buffers::same_row-returns-in-Texts-Texts : goal.Buffers::same_row-returns-in-Texts-Texts
Buffers::same_row-returns-in-Texts-Texts t c =
    let one = ap buffer_values c.in-Texts-Texts.is-0 in
    let two = ap buffer_values c.in-Texts-Texts.is-1 in (
      λ h. buffers_agree text c.args.self.now c.args.other.now c.in-Texts-Texts.ones c.in-Texts-Texts.others c.args.row c.args.second c.text.result.now c.text-in-Texts-Texts.result.now one two c.text.ensures c.text-in-Texts-Texts.ensures (c.same_text.ensures.0 h),
      λ e. c.same_text.ensures.1 (agree_buffers text texts_back c.args.self.now c.args.other.now c.in-Texts-Texts.ones c.in-Texts-Texts.others c.args.row c.args.second c.text.result.now c.text-in-Texts-Texts.result.now one two c.text.ensures c.text-in-Texts-Texts.ensures e),
    )

pub Buffers::same_row-returns-in-Structs-Structs : goal.Buffers::same_row-returns-in-Structs-Structs
Buffers::same_row-returns-in-Structs-Structs t c =
    let one = ap buffer_values c.in-Structs-Structs.is-0 in
    let two = ap buffer_values c.in-Structs-Structs.is-1 in
    let lt : c.args.row < length c.in-Structs-Structs.ones.rows = omega (arith, c.requires.inside, ap length one, length-map c.in-Structs-Structs.ones.rows structure) in
    let lu : c.args.second < length c.in-Structs-Structs.others.rows = omega (arith, c.requires.other_inside, ap length two, length-map c.in-Structs-Structs.others.rows structure) in (
      λ h. structs_agree c.args.self.now c.args.other.now c.in-Structs-Structs.ones.rows c.in-Structs-Structs.others.rows c.args.row c.args.second one two lt lu (c.same_row.ensures.0 h),
      λ e. c.same_row.ensures.1 (agree_structs c.args.self.now c.args.other.now c.in-Structs-Structs.ones.rows c.in-Structs-Structs.others.rows c.args.row c.args.second one two lt lu e),
    )

pub Buffers::same_row-returns-in-Lists-Lists : goal.Buffers::same_row-returns-in-Lists-Lists
Buffers::same_row-returns-in-Lists-Lists t c =
    let one = ap buffer_values c.in-Lists-Lists.is-0 in
    let two = ap buffer_values c.in-Lists-Lists.is-1 in
    let x = c.value-in-Lists-Lists.result in
    let y = c.value-in-Lists-Lists-2.result in (
      λ h. buffers_agree truth c.args.self.now c.args.other.now c.in-Lists-Lists.ones c.in-Lists-Lists.others c.args.row c.args.second x y one two c.value-in-Lists-Lists.ensures c.value-in-Lists-Lists-2.ensures (beq_same x y h),
      λ e. same_beq x y (agree_buffers truth truths_back c.args.self.now c.args.other.now c.in-Lists-Lists.ones c.in-Lists-Lists.others c.args.row c.args.second x y one two c.value-in-Lists-Lists.ensures c.value-in-Lists-Lists-2.ensures e),
    )
