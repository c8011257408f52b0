use Rattle.std.proofs.Common.{subst, sym, All, ◌≤◌, ◌<◌, ◌≡◌, ◌∙◌, IfOk, List, Bool, ℕ, map, ap, true, false}
use Rattle.vx_base.specs.Masks.{Ascend, is_among}
use Rattle.vx_splits.specs.Taken.{rows_between}
use Rattle.vx_splits.specs.Trimmed.{marked_as}
use Rattle.vx_splits.proofs.Between.{all_from, all_below, ascend_kept}
use Rattle.vx_splits.proofs.Trims.{mask_all, mask_included, mask_excluded}
use Rattle.vx_splits.proofs.selections.Selection.row_mask.Goals as goal

pub chosen_at-requires-clause-ascending : goal.chosen_at-requires-clause-ascending
chosen_at-requires-clause-ascending c = subst Ascend (sym c.within.ensures) (ascend_kept (is_among c.in-IncludeByIndex.indices) c.args.rows.now.start c.args.rows.now.end)

pub chosen_at-requires-clause-from : goal.chosen_at-requires-clause-from
chosen_at-requires-clause-from c = subst (All (λ row. c.args.rows.now.start ≤ row)) (sym c.within.ensures) (all_from (is_among c.in-IncludeByIndex.indices) c.args.rows.now.start c.args.rows.now.end)

pub chosen_at-requires-clause-below : goal.chosen_at-requires-clause-below
chosen_at-requires-clause-below c = subst (All (λ row. row < c.args.rows.now.end)) (sym c.within.ensures) (all_below (is_among c.in-IncludeByIndex.indices) c.args.rows.now.start c.args.rows.now.end)

pub marked-requires-clause-from : goal.marked-requires-clause-from
marked-requires-clause-from c = subst (All (λ row. c.args.rows.now.start ≤ row)) (sym c.within-in-ExcludeByIndex.ensures) (all_from (is_among c.in-ExcludeByIndex.indices) c.args.rows.now.start c.args.rows.now.end)

pub marked-requires-clause-below : goal.marked-requires-clause-below
marked-requires-clause-below c = subst (All (λ row. row < c.args.rows.now.end)) (sym c.within-in-ExcludeByIndex.ensures) (all_below (is_among c.in-ExcludeByIndex.indices) c.args.rows.now.start c.args.rows.now.end)

pub returns-in-All : goal.returns-in-All
returns-in-All c = rw c.in-All.is (subst (λ (bits : List Bool). IfOk c.new_true.result (λ mask. mask ≡ bits)) (mask_all c.args.rows.now.start c.args.rows.now.end) c.new_true.ensures)

pub returns-in-IncludeByIndex : goal.returns-in-IncludeByIndex
returns-in-IncludeByIndex c =
    let start = c.args.rows.now.start in
    let end = c.args.rows.now.end in
    let e = ap (λ (rows : List ℕ). map (λ row. marked_as true (is_among rows row)) (rows_between start end)) c.within.ensures ∙ mask_included c.in-IncludeByIndex.indices start end in
    rw c.in-IncludeByIndex.is (subst (λ (bits : List Bool). IfOk c.chosen_at.result (λ mask. mask ≡ bits)) e c.chosen_at.ensures)

pub returns-in-ExcludeByIndex : goal.returns-in-ExcludeByIndex
returns-in-ExcludeByIndex c =
    let start = c.args.rows.now.start in
    let end = c.args.rows.now.end in
    let e = ap (λ (rows : List ℕ). map (λ row. marked_as false (is_among rows row)) (rows_between start end)) c.within-in-ExcludeByIndex.ensures ∙ mask_excluded c.in-ExcludeByIndex.indices start end in
    rw c.in-ExcludeByIndex.is (subst (λ (bits : List Bool). IfOk c.marked.result (λ mask. mask ≡ bits)) e c.marked.ensures)
