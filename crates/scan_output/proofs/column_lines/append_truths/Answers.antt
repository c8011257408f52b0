use Rattle.std.proofs.Common.{map}
use Rattle.scan_output.proofs.ColumnLines.{slot_more, none_yet, all_done}
use Rattle.scan_output.proofs.column_lines.append_truths.Goals as goal
use Rattle.vx_base.specs.Data.{truth}
use Rattle.vx_base.specs.Slots.{where_valid}
use Rattle.vx_base.proofs.Got.{got_mapped}

pub loop-row-init : goal.loop-row-init
loop-row-init c = λ t. none_yet t (where_valid c.args.valid.now (map truth c.args.truths.now)) c.args.rows.start c.reserve.new.self.items c.args.out.now.items c.reserve.ensures.items

pub loop-row-preserved : goal.loop-row-preserved
loop-row-preserved c = λ t.
    let row = c.loop-row.row in
    slot_more t c.args.valid.now (map truth c.args.truths.now) c.args.rows.start row c.value.result (truth c.value-in-loop-row.result) c.loop-row.out.items c.append_truth_line.new.out.items c.args.out.now.items
    c.loop-row.auto.row c.value.ensures (got_mapped truth c.args.truths.now row c.value-in-loop-row.result c.value-in-loop-row.ensures) (c.in_ok-append_truth_line.ensures t) (c.loop-row.invariant t)

pub returns : goal.returns
returns c = λ t. all_done t (where_valid c.args.valid.now (map truth c.args.truths.now)) c.args.rows.start c.loop-row.row c.args.rows.end c.loop-row.out.items c.args.out.now.items c.loop-row-test.false (c.loop-row.auto.row-end c.requires.forwards) (c.loop-row.invariant t)
