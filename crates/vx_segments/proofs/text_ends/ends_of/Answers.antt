use Rattle.std.proofs.Common.{◌<◌, ◌^◌, arith, rules, refl}
use Rattle.vx_segments.proofs.TextEnds.{ends_more, ends_past, ends_all, ends_short}
use Rattle.vx_segments.proofs.text_ends.ends_of.Goals as goal

pub returns-then-room-end-clause-none : goal.returns-then-room-end-clause-none
returns-then-room-end-clause-none c = λ none are.
    let len : c.four_at-len.result.0 < 2 ^ 32 = search rules in
    ends_past c.args.rows c.loop-row._row c.args.room c.args.lengths.now c.loop-row.ends.items c.loop-row.end c.four_at-len.result.0 c.loop-row.rest.now c.four_at-len.result.1.now c.loop-row-test.true len c.four_at-len.ensures (omega arith) c.loop-row.invariant are

pub loop-row-preserved : goal.loop-row-preserved
loop-row-preserved c =
    let len : c.four_at-len.result.0 < 2 ^ 32 = search rules in
    ends_more c.args.rows c.loop-row._row c.args.room c.args.lengths.now c.loop-row.ends.items c.push.new.self.items c.loop-row.end c.four_at-len.result.0 _ c.loop-row.rest.now c.four_at-len.result.1.now c.loop-row-test.true len c.four_at-len.ensures (omega arith) refl c.in_ok-push.ensures.items c.loop-row.invariant

pub returns-then-end-room-clause-ends : goal.returns-then-end-room-clause-ends
returns-then-end-room-clause-ends c = ends_all c.args.rows c.loop-row._row c.args.room c.args.lengths.now c.loop-row.ends.items c.loop-row.end c.loop-row.rest.now (omega arith) c.loop-row.invariant

pub returns-else-end-room-clause-none : goal.returns-else-end-room-clause-none
returns-else-end-room-clause-none c = λ none are. ends_short c.args.rows c.loop-row._row c.args.room c.args.lengths.now c.loop-row.ends.items c.loop-row.end c.loop-row.rest.now (omega arith) (λ e. omega arith) c.loop-row.invariant are
