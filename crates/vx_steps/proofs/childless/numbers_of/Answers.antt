use Rattle.std.proofs.Common.{◌+◌, length, sym, ap, ◌∙◌}
use Rattle.std.proofs.lemmas.List.{length-map}
use Rattle.vx_base.specs.ColumnCalls.{natural}
use Rattle.vx_picking.specs.Rows.{rows_of}
use Rattle.vx_picking.proofs.SelectedRows.{rows_count}
use Rattle.vx_steps.specs.Held.{held}
use Rattle.vx_steps.proofs.ComputedRows.{numbers_computed}
use Rattle.vx_steps.proofs.Shaping.{numbers_law, numbers_type}
use Rattle.vx_steps.proofs.childless.numbers_of.Goals as goal

pub returns-clause-dtype : goal.returns-clause-dtype
returns-clause-dtype c = c.in_ok-numbered.ensures.dtype ∙ sym (numbers_type c.args.from.table.now c.args.plan c.requires.known c.requires.numbers)

pub returns-clause-rows : goal.returns-clause-rows
returns-clause-rows c = ap length c.in_ok-numbered.ensures.values ∙ length-map (rows_of c.args.start c.args.mask.now) (λ row. natural (row + c.args.from.offset)) ∙ rows_count c.args.start c.args.mask.now

pub returns-clause-computed : goal.returns-clause-computed
returns-clause-computed c = numbers_computed (held c.args.from) c.args.plan c.args.start c.args.mask.now c.in_ok-numbered.field-0 (numbers_law c.args.from.table.now c.args.plan c.requires.known c.requires.numbers) c.in_ok-numbered.ensures.values
