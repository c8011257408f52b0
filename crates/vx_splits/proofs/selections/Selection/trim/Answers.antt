use Rattle.std.proofs.Common.{arith, subst, sym, All, ◌≤◌, ◌<◌, ◌≡◌, [], MatchOption, List, ℕ}
use Rattle.vx_base.specs.Masks.{Ascend, is_among}
use Rattle.vx_splits.specs.Trimmed.{AllAmong, IsSpan, IsLeft}
use Rattle.vx_splits.proofs.Between.{all_from, all_below, ascend_kept}
use Rattle.vx_splits.proofs.Trims.{include_trims, exclude_trims}
use Rattle.vx_splits.proofs.selections.Selection.trim.Goals as goal

pub spanned-requires : goal.spanned-requires
spanned-requires c = subst (All (λ row. row < 18446744073709551615)) (sym c.within.ensures) (λ k d lt. let below = all_below (is_among c.in-IncludeByIndex.indices) c.args.rows.now.start c.args.rows.now.end k d lt in omega arith)

pub left_of-requires-clause-ascending : goal.left_of-requires-clause-ascending
left_of-requires-clause-ascending c = subst Ascend (sym c.within-in-ExcludeByIndex.ensures) (ascend_kept (is_among c.in-ExcludeByIndex.indices) c.args.rows.now.start c.args.rows.now.end)

pub left_of-requires-clause-from : goal.left_of-requires-clause-from
left_of-requires-clause-from c = subst (All (λ row. c.args.rows.now.start ≤ row)) (sym c.within-in-ExcludeByIndex.ensures) (all_from (is_among c.in-ExcludeByIndex.indices) c.args.rows.now.start c.args.rows.now.end)

pub left_of-requires-clause-below : goal.left_of-requires-clause-below
left_of-requires-clause-below c = subst (All (λ row. row < c.args.rows.now.end)) (sym c.within-in-ExcludeByIndex.ensures) (all_below (is_among c.in-ExcludeByIndex.indices) c.args.rows.now.start c.args.rows.now.end)

pub returns-in-IncludeByIndex : goal.returns-in-IncludeByIndex
returns-in-IncludeByIndex c =
    let given = subst (λ (rows : List ℕ). MatchOption c.spanned.result (rows ≡ []) (λ span. IsSpan rows span)) c.within.ensures c.spanned.ensures in
    let h = include_trims c.in-IncludeByIndex.indices c.args.rows.now.start c.args.rows.now.end c.spanned.result given in
    rw c.in-IncludeByIndex.is record { none = h.none; some = h.some }

pub returns-in-ExcludeByIndex : goal.returns-in-ExcludeByIndex
returns-in-ExcludeByIndex c =
    let start = c.args.rows.now.start in
    let end = c.args.rows.now.end in
    let given = subst (λ (rows : List ℕ). MatchOption c.left_of.result (AllAmong rows start end) (λ left. IsLeft rows start end left)) c.within-in-ExcludeByIndex.ensures c.left_of.ensures in
    let h = exclude_trims c.in-ExcludeByIndex.indices start end c.left_of.result given in
    rw c.in-ExcludeByIndex.is record { none = h.none; some = h.some }
