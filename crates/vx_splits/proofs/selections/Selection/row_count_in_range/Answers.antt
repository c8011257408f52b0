use Rattle.std.proofs.Common.{arith, ap, length, ◌∙◌, sym}
use Rattle.vx_splits.proofs.Trims.{count_all, count_excluded}
use Rattle.vx_splits.proofs.selections.Selection.row_count_in_range.Goals as goal

pub overflow_sub-result : goal.overflow_sub-result
overflow_sub-result c =
    let both = count_excluded c.in-ExcludeByIndex.indices c.args.rows.now.start c.args.rows.now.end in
    let these = ap length c.within-in-ExcludeByIndex.ensures in
    omega arith

pub returns-in-All : goal.returns-in-All
returns-in-All c = rw c.in-All.is (c.saturating_sub.ensures ∙ sym (count_all c.args.rows.now.start c.args.rows.now.end))

pub returns-in-ExcludeByIndex : goal.returns-in-ExcludeByIndex
returns-in-ExcludeByIndex c =
    let both = count_excluded c.in-ExcludeByIndex.indices c.args.rows.now.start c.args.rows.now.end in
    let these = ap length c.within-in-ExcludeByIndex.ensures in
    rw c.in-ExcludeByIndex.is (omega arith)
