use Rattle.std.proofs.Common.{map, arith}
use Rattle.scan_output.proofs.ColumnLines.{slot_more, none_yet, all_done, read_at}
use Rattle.scan_output.proofs.column_lines.append_kind.Goals as goal
use Rattle.vx_base.specs.Data.{number}
use Rattle.vx_base.specs.Slots.{where_valid}
use Rattle.vx_base.proofs.Got.{got_mapped}

pub loop-row-init : goal.loop-row-init
loop-row-init g c = λ t. none_yet t (where_valid c.args.valid.now (map number (map g.T.Kind.number c.args.numbers.now))) c.args.rows.start c.reserve.new.self.items c.args.out.now.items c.reserve.ensures.items

pub loop-row-preserved : goal.loop-row-preserved
loop-row-preserved g c = λ t.
    let row = c.loop-row.row in
    let whole = g.T.Kind.number in
    let value = c.index-numbers-row.result in
    slot_more t c.args.valid.now (map number (map whole c.args.numbers.now)) c.args.rows.start row c.value.result (number (whole value)) c.loop-row.out.items c.append_number_line.new.out.items c.args.out.now.items
    c.loop-row.auto.row c.value.ensures
    (got_mapped number (map whole c.args.numbers.now) row (whole value) (got_mapped whole c.args.numbers.now row value (read_at c.args.numbers.now row value (omega (arith, c.requires.inside, c.loop-row-test.true)) c.index-numbers-row.is)))
    (c.in_ok-append_number_line.ensures t) (c.loop-row.invariant t)

pub returns : goal.returns
returns g c = λ t. all_done t (where_valid c.args.valid.now (map number (map g.T.Kind.number c.args.numbers.now))) c.args.rows.start c.loop-row.row c.args.rows.end c.loop-row.out.items c.args.out.now.items c.loop-row-test.false (c.loop-row.auto.row-end c.requires.forwards) (c.loop-row.invariant t)
