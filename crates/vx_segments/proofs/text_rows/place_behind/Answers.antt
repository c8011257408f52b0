use Rattle.std.proofs.Common.{◌<◌, ◌^◌, arith, refl, rules}
use Rattle.std.specs.Prelude.{IsTrue}
use Rattle.vx_segments.proofs.TextRows.{lie_none, lie_more, lie_all, not_inside, not_well}
use Rattle.vx_segments.proofs.text_rows.place_behind.Goals as goal

pub loop-done-init : goal.loop-done-init
loop-done-init c = lie_none c.args.buffer.now c.args.valid.now c.args.first c.args.count c.args.from c.args.lengths.now c.requires.lengths c.requires.within

pub returns-then-buffer-place : goal.returns-then-buffer-place
returns-then-buffer-place c =
    let fits : c.four_at-len.result.0 < 2 ^ 32 = search rules in
    not_inside c.args.buffer.now c.args.valid.now c.args.first c.args.count c.loop-done.done c.args.from c.args.lengths.now c.loop-done.place c.four_at-len.result.0 c.loop-done.rest.now c.four_at-len.result.1.now c.loop-done-test.true fits c.four_at-len.ensures (omega arith) c.loop-done.invariant

pub returns-then-not-ends_well : goal.returns-then-not-ends_well
returns-then-not-ends_well c =
    let fits : c.four_at-len.result.0 < 2 ^ 32 = search rules in
    not_well c.args.buffer.now c.args.valid.now c.args.first c.args.count c.loop-done.done c.args.from c.args.lengths.now c.loop-done.place c.four_at-len.result.0 c.loop-done.rest.now c.four_at-len.result.1.now c.value.result c.loop-done-test.true fits c.four_at-len.ensures c.value.ensures
    (λ well. let yes : IsTrue c.ends_well.result = c.ends_well.ensures.1 well in absurd cc) c.loop-done.invariant

pub loop-done-preserved : goal.loop-done-preserved
loop-done-preserved c =
    let fits : c.four_at-len.result.0 < 2 ^ 32 = search rules in
    let yes : IsTrue c.ends_well.result = cc in
    lie_more c.args.buffer.now c.args.valid.now c.args.first c.args.count c.loop-done.done c.args.from c.args.lengths.now c.loop-done.place c.four_at-len.result.0 _ c.loop-done.rest.now c.four_at-len.result.1.now c.value.result c.loop-done-test.true fits c.four_at-len.ensures (omega arith) refl c.value.ensures
    (c.ends_well.ensures.0 yes) c.loop-done.invariant

pub returns : goal.returns
returns c = lie_all c.args.buffer.now c.args.valid.now c.args.first c.args.count c.loop-done.done c.args.from c.args.lengths.now c.loop-done.place c.loop-done.rest.now (omega arith) c.loop-done.invariant
