use Rattle.vx_arrays.specs.Numbers.{numbers_in}
use Rattle.scan_output.proofs.ColumnLines.{slots_inside}
use Rattle.scan_output.proofs.column_lines.append_packed_lines.Goals as goal
use Rattle.vx_base.specs.Data.{number, text, truth}

pub append_truths-requires-clause-inside : goal.append_truths-requires-clause-inside
append_truths-requires-clause-inside c =
    slots_inside truth c.in-Truths.valid.now c.in-Truths.truths.now c.args.array.now.values c.args.column.now.values c.args.rows.end c.in-Truths.ensures.array_view.0 c.in-Truths.ensures.values c.requires.packed c.requires.inside

pub append_numbers-requires-clause-inside : goal.append_numbers-requires-clause-inside
append_numbers-requires-clause-inside c =
    slots_inside number c.in-Numbers.valid.now (numbers_in c.in-Numbers.numbers.now) c.args.array.now.values c.args.column.now.values c.args.rows.end c.in-Numbers.ensures.array_view c.in-Numbers.ensures.values c.requires.packed c.requires.inside

pub append_texts-requires-clause-inside : goal.append_texts-requires-clause-inside
append_texts-requires-clause-inside c =
    slots_inside text c.in-Texts.valid.now c.in-Texts.texts.now c.args.array.now.values c.args.column.now.values c.args.rows.end c.in-Texts.ensures.array_view c.in-Texts.ensures.values c.requires.packed c.requires.inside
