use Rattle.std.proofs.Common.{ℕ, length, replicate, true, ap, ◌∙◌}
use Rattle.vx_reads.proofs.FilterFaults.{pushed_looked, pushed_worked}
use Rattle.vx_reads.proofs.Filtering.{looked_count, pushed_kept}
use Rattle.vx_reads.proofs.Knowing.{codes_known}
use Rattle.vx_reads.proofs.MaskKinds.{ranked_rows}
use Rattle.vx_picking.specs.RowFaults.{root_meaning}
use Rattle.vx_reads.proofs.filters.pushed_filter.Goals as goal

pub returns-in-Ok-found-clause-kept : goal.returns-in-Ok-found-clause-kept
returns-in-Ok-found-clause-kept c = λ code_at coded.
    c.in_ok-intersect_by_rank-in-Ok-found.ensures
    ∙ pushed_kept c.strict_is_null.ensures c.args.values.now c.args.expression.now.term c.in-Ok.worth.values c.requires.strict c.in-Ok.ensures.values code_at c.args.start c.args.mask.now c.in_ok-truths-in-Ok-found.truths c.args.codes.now.values c.in-Ok-found.found.values coded c.in-Ok-found.ensures.values c.in_ok-truths-in-Ok-found.ensures

pub returns-in-Ok-found-clause-rows : goal.returns-in-Ok-found-clause-rows
returns-in-Ok-found-clause-rows c = ranked_rows c.args.mask.now c.in_ok-truths-in-Ok-found.truths c.in_ok-intersect_by_rank-in-Ok-found.field-0 c.in_ok-intersect_by_rank-in-Ok-found.ensures

pub returns-in-Err-clause-cause : goal.returns-in-Err-clause-cause
returns-in-Err-clause-cause c =
    let all = c.in_ok-all.ensures ∙ ap (λ (k : ℕ). replicate k true) c.len.ensures.rows in
    rw c.apply_fault.ensures.is (pushed_worked c.args.values.now c.args.expression.now.term c.args.codes.now.values c.args.start c.args.mask.now c.args.node c.in_ok-all.all c.in-Err.error all c.in-Err.ensures.fault)

pub returns-clause-cause : goal.returns-clause-cause
returns-clause-cause c =
    let count = looked_count (root_meaning c.args.values.now.dtype c.args.expression.now.term) c.args.values.now.values c.in-Ok.worth.values c.in-Ok.ensures.values in
    rw c.look_up_fault.ensures.is (pushed_looked c.args.values.now c.args.expression.now.term c.args.codes.now.values c.args.start c.args.mask.now c.args.node (length c.in-Ok.worth.values) c.in-Err-found.error count c.in-Err-found.ensures.fault)

pub returns-in-Ok-found-clause-known : goal.returns-in-Ok-found-clause-known
returns-in-Ok-found-clause-known c = λ code_at coded.
    codes_known c.args.values.now c.args.expression.now.term c.in-Ok.worth.values c.in-Ok.ensures.values code_at c.args.start c.args.mask.now c.args.codes.now.values c.in-Ok-found.found.values coded c.in-Ok-found.ensures.values
