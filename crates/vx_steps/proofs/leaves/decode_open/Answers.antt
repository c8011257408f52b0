use Rattle.std.proofs.Common.{refl}
use Rattle.vx_steps.proofs.Counting.{counted_closed, counted_kept, spent_closed}
use Rattle.vx_steps.proofs.Releasing.{lets_spent}
use Rattle.vx_steps.proofs.leaves.decode_open.Goals as goal

pub returns-in-Ok-false-clause-counted : goal.returns-in-Ok-false-clause-counted
returns-in-Ok-false-clause-counted c = counted_kept c.args.table.now c.args.leaves.now.all c.decode_need.new.leaves.all c.args.segments.now c.in-Ok-false.ensures.keeps.grows c.requires.counted

pub returns-in-Err-clause-counted : goal.returns-in-Err-clause-counted
returns-in-Err-clause-counted c = counted_kept c.args.table.now c.args.leaves.now.all c.decode_need.new.leaves.all c.args.segments.now c.in-Err.ensures.keeps.grows c.requires.counted

pub returns-then-not-close-clause-counted : goal.returns-then-not-close-clause-counted
returns-then-not-close-clause-counted c =
    let there = rw c.in-Ok-true.field-0-test at c.in-Ok-true.ensures.there in
    let need = c.args.need in
    let none = c.if-is_kept.ensures in
    counted_closed c.args.table.now c.args.leaves.now.all c.decode_need.new.leaves.all c.args.segments.now c.close.new.self need.segment need.leaf c.requires.leaf none there c.in-Ok-true.ensures.keeps.grows c.if-not-close.ensures.takes c.requires.counted

pub returns-clause-counted : goal.returns-clause-counted
returns-clause-counted c =
    let there = rw c.in-Ok-true.field-0-test at c.in-Ok-true.ensures.there in
    let need = c.args.need in
    let none = c.if-is_kept.ensures in
    counted_closed c.args.table.now c.args.leaves.now.all c.decode_need.new.leaves.all c.args.segments.now c.close.new.self need.segment need.leaf c.requires.leaf none there c.in-Ok-true.ensures.keeps.grows c.if-not-close.ensures.takes c.requires.counted

pub returns-clause-lets : goal.returns-clause-lets
returns-clause-lets c =
    let there = rw c.in-Ok-true.field-0-test at c.in-Ok-true.ensures.there in
    let need = c.args.need in
    let none = c.if-is_kept.ensures in
    let spent = spent_closed c.args.table.now c.args.leaves.now.all c.decode_need.new.leaves.all c.args.segments.now need.segment need.leaf c.requires.leaf none there c.in-Ok-true.ensures.keeps.grows (c.if-not-close.ensures.last refl) c.requires.counted in
    lets_spent c.args.table.now c.decode_need.new.leaves.all c.args.reads.now c.let_go.new.self need.segment spent c.let_go.ensures
