use Rattle.std.proofs.Common.{map, refl}
use Rattle.scan_output.proofs.ColumnLines.{slot_more, none_yet, all_done}
use Rattle.scan_output.proofs.column_lines.append_texts.Goals as goal
use Rattle.vx_base.specs.Data.{text}
use Rattle.vx_base.specs.Slots.{where_valid}
use Rattle.vx_base.proofs.Got.{got_mapped}

pub loop-row-init : goal.loop-row-init
loop-row-init c = λ t. none_yet t (where_valid c.args.valid.now (map text c.args.texts.now)) c.args.rows.start c.args.out.now.items c.args.out.now.items refl

pub loop-row-preserved : goal.loop-row-preserved
loop-row-preserved c = λ t.
    let row = c.loop-row.row in
    let value = c.text.result.now in
    slot_more t c.args.valid.now (map text c.args.texts.now) c.args.rows.start row c.value.result (text value) c.loop-row.out.items c.append_text_line.new.out.items c.args.out.now.items
    c.loop-row.auto.row c.value.ensures (got_mapped text c.args.texts.now row value c.text.ensures) (c.in_ok-append_text_line.ensures t) (c.loop-row.invariant t)

pub returns : goal.returns
returns c = λ t. all_done t (where_valid c.args.valid.now (map text c.args.texts.now)) c.args.rows.start c.loop-row.row c.args.rows.end c.loop-row.out.items c.args.out.now.items c.loop-row-test.false (c.loop-row.auto.row-end c.requires.forwards) (c.loop-row.invariant t)
