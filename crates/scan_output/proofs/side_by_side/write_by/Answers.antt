use Rattle.std.proofs.Common.{◌≡◌, ◌≤◌, ◌*◌, ◌-◌, length, drop, ap, arith, rules, subst, slice_range}
use Rattle.scan_output.specs.RowWriting.{batch_lines}
use Rattle.scan_output.specs.Writing.{WritingGives}
use Rattle.scan_output.proofs.SideBySides.{group_written, group_failed, length_take, range_then}
use Rattle.scan_output.proofs.side_by_side.write_by.Goals as goal

pub write_group-requires-clause-room : goal.write_group-requires-clause-room
write_group-requires-clause-room g c κs within =
    let few = length_take (c.min-end.result - c.loop-first.first) (drop c.loop-first.first c.args.batches.now) in
    let texts : length c.deref_mut.result.now ≡ c.args.workers = search rules in
    let size : length c.deref_mut.result.now * c.part_of-part.result ≡ c.args.workers * c.part_of-part.result = ap (λ n. n * c.part_of-part.result) texts in
    omega (arith, few, size, c.min-end.ensures, c.saturating_add.ensures, c.saturating_mul-size.ensures)

pub loop-first-preserved : goal.loop-first-preserved
loop-first-preserved g c =
    let le : c.loop-first.first ≤ c.min-end.result = omega (arith, c.loop-first-test.true, c.min-end.ensures, c.saturating_add.ensures) in
    let written = group_written c.args.batches.now c.loop-first.first c.min-end.result (g.K.Sink.state c.args.out.now) (g.K.Sink.state c.loop-first.out) (g.K.Sink.state c.write_group.new.out) (slice_range c.args.batches.now c.loop-first.first c.min-end.result)
    (range_then c.loop-first.first c.min-end.result c.args.batches.now le) c.loop-first.invariant.0 c.loop-first.invariant.1
    (subst (λ r. WritingGives r (batch_lines (slice_range c.args.batches.now c.loop-first.first c.min-end.result)) (g.K.Sink.state c.loop-first.out) (g.K.Sink.state c.write_group.new.out)) c.in-Ok-write_group.is c.write_group.ensures) in
    (written.0, written.1, c.loop-first.invariant.2)

pub returns-in-Err-write_group : goal.returns-in-Err-write_group
returns-in-Err-write_group g c =
    let le : c.loop-first.first ≤ c.min-end.result = omega (arith, c.loop-first-test.true, c.min-end.ensures, c.saturating_add.ensures) in
    group_failed c.in-Err-write_group.error c.args.batches.now c.loop-first.first c.min-end.result (g.K.Sink.state c.args.out.now) (g.K.Sink.state c.loop-first.out) (g.K.Sink.state c.write_group.new.out) (slice_range c.args.batches.now c.loop-first.first c.min-end.result)
    (range_then c.loop-first.first c.min-end.result c.args.batches.now le) c.loop-first.invariant.0 c.loop-first.invariant.1
    (subst (λ r. WritingGives r (batch_lines (slice_range c.args.batches.now c.loop-first.first c.min-end.result)) (g.K.Sink.state c.loop-first.out) (g.K.Sink.state c.write_group.new.out)) c.in-Err-write_group.is c.write_group.ensures)
