use Rattle.vx_reads.specs.Truths.{column_meaning}
use Rattle.vx_reads.proofs.FilterFaults.{column_fault_told}
use Rattle.vx_reads.proofs.Filtering.{truths_are, truths_count}
use Rattle.vx_reads.proofs.filters.truths_at.Goals as goal

pub returns-in_ok-truths-in-Ok-clause-truths : goal.returns-in_ok-truths-in-Ok-clause-truths
returns-in_ok-truths-in-Ok-clause-truths c = truths_are c.args.column.now c.in_ok-root.root c.args.expression.now.term c.args.start c.args.rows.now _ c.in-Ok.worth.values c.in_ok-root.ensures.dtype c.in_ok-root.ensures.values c.requires.inside c.in-Ok.ensures.values c.in_ok-truths-in-Ok.ensures

pub returns-in_ok-truths-in-Ok-clause-count : goal.returns-in_ok-truths-in-Ok-clause-count
returns-in_ok-truths-in-Ok-clause-count c = truths_count (column_meaning c.args.column.now c.args.expression.now.term) c.args.start c.args.rows.now _ (truths_are c.args.column.now c.in_ok-root.root c.args.expression.now.term c.args.start c.args.rows.now _ c.in-Ok.worth.values c.in_ok-root.ensures.dtype c.in_ok-root.ensures.values c.requires.inside c.in-Ok.ensures.values c.in_ok-truths-in-Ok.ensures)

pub returns-in-Err-clause-cause : goal.returns-in-Err-clause-cause
returns-in-Err-clause-cause c = rw c.apply_fault.ensures.is (column_fault_told c.args.column.now c.in_ok-root.root c.args.expression.now.term c.args.start c.args.first c.args.rows.now c.in-Err.error c.in_ok-root.ensures.dtype c.in_ok-root.ensures.values c.requires.inside c.in-Err.ensures.fault)
