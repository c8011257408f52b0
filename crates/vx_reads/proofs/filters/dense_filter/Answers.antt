use Rattle.std.proofs.Common.{◌∙◌, ap, subst, Bool, List, true, replicate, ℕ}
use Rattle.vx_reads.specs.FilterFaults.{IsColumnFault}
use Rattle.vx_reads.specs.Truths.{column_meaning}
use Rattle.vx_reads.proofs.Filtering.{dense_truths}
use Rattle.vx_reads.proofs.Knowing.{dense_worth}
use Rattle.vx_reads.proofs.filters.dense_filter.Goals as goal

pub returns-in-Ok-clause-kept : goal.returns-in-Ok-clause-kept
returns-in-Ok-clause-kept c =
    let all = c.in_ok-all.ensures ∙ ap (λ (k : ℕ). replicate k true) c.len.ensures in
    c.in_ok-kept-in-Ok.ensures ∙ dense_truths (column_meaning c.args.column.now c.args.expression.now.term) c.args.start c.args.mask.now c.in_ok-all.all c.in-Ok.truths all c.in-Ok.ensures.truths

pub returns-clause-cause : goal.returns-clause-cause
returns-clause-cause c =
    let all = c.in_ok-all.ensures ∙ ap (λ (k : ℕ). replicate k true) c.len.ensures in
    let F : List Bool → Type 0 = λ rows. IsColumnFault c.args.column.now c.args.expression.now.term c.args.start c.args.first rows c.in-Err.error in
    subst F all c.in-Err.ensures.cause

pub returns-in-Ok-clause-worth : goal.returns-in-Ok-clause-worth
returns-in-Ok-clause-worth c =
    let all = c.in_ok-all.ensures ∙ ap (λ (k : ℕ). replicate k true) c.len.ensures in
    dense_worth (column_meaning c.args.column.now c.args.expression.now.term) c.args.start c.args.mask.now c.in_ok-all.all c.in-Ok.ensures.truths.0 all c.in-Ok.ensures.truths.1
