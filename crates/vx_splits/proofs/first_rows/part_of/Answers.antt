use Rattle.std.proofs.Common.{arith, ◌+◌}
use Rattle.vx_splits.proofs.FirstChunks.{cut_inside}
use Rattle.vx_splits.proofs.first_rows.part_of.Goals as goal

pub overflow_add-rows : goal.overflow_add-rows
overflow_add-rows c =
    let more = c.if-count-limit.false in
    let count = c.requires.count in
    let place = c.place_of-rows.ensures in
    let some = c.requires.some in
    let inside = cut_inside c.args.chunk (c.place_of-rows.result + 1) c.args.limit (record { some = some; more = omega (arith, more, count); place = omega (arith, place) }) in
    let long = c.requires.tight.mask in
    omega (arith, inside, long)

pub slice-requires-clause-inside : goal.slice-requires-clause-inside
slice-requires-clause-inside c =
    let more = c.if-count-limit.false in
    let count = c.requires.count in
    let place = c.place_of-rows.ensures in
    let some = c.requires.some in
    cut_inside c.args.chunk (c.place_of-rows.result + 1) c.args.limit (record { some = some; more = omega (arith, more, count); place = omega (arith, place) })

pub overflow_add-scope : goal.overflow_add-scope
overflow_add-scope c =
    let more = c.if-count-limit.false in
    let count = c.requires.count in
    let place = c.place_of-rows.ensures in
    let some = c.requires.some in
    let inside = cut_inside c.args.chunk (c.place_of-rows.result + 1) c.args.limit (record { some = some; more = omega (arith, more, count); place = omega (arith, place) }) in
    let long = c.requires.tight.mask in
    omega (arith, inside, long)
