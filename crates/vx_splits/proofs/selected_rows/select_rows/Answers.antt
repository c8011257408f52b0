use Rattle.std.proofs.Common.{◌≡◌, arith, refl, ◌∙◌, ap, ℕ, ◌-◌, min, List, Bool, length, slice_get}
use Rattle.vx_base.specs.Masks.{chosen}
use Rattle.vx_splits.specs.Taken.{rows_between, selects, selected_rows}
use Rattle.vx_splits.proofs.Between.{chosen_kept, mask_at, last_mask_at}
use Rattle.vx_splits.proofs.selected_rows.select_rows.Goals as goal

pub returns-clause-trimmed : goal.returns-clause-trimmed
returns-clause-trimmed c =
    let rows = c.in-Some.rows in
    let h = c.in-Some.ensures.some in
    let some = h.some in
    let mask = c.in_ok-mask.ensures in
    let test = selects c.args.selection.now in
    record {
      file = refl;
      starts = h.starts;
      ends = h.ends;
      mask = mask;
      keeps = ap (λ (bits : List Bool). chosen bits (rows_between rows.start rows.end)) mask ∙ chosen_kept test (rows_between rows.start rows.end) ∙ h.keeps;
      begins_with_true = ap (λ (bits : List Bool). slice_get bits 0) mask ∙ mask_at test rows.start rows.end 0 rows.start (omega arith) some h.first;
      ends_with_true = ap (λ (bits : List Bool). slice_get bits (length bits - 1)) mask ∙ last_mask_at test rows.start rows.end some h.last;
    }

pub returns-clause-taken : goal.returns-clause-taken
returns-clause-taken c = λ row_count le.
    let rows = c.in-Some.rows in
    let test = selects c.args.selection.now in
    let end : c.args.scope.rows.end ≡ min c.args.scope.rows.end row_count = omega arith in
    ap (λ (bits : List Bool). chosen bits (rows_between rows.start rows.end)) c.in_ok-mask.ensures ∙ chosen_kept test (rows_between rows.start rows.end) ∙ c.in-Some.ensures.some.keeps
    ∙ ap (λ (k : ℕ). selected_rows c.args.selection.now c.args.scope.rows.start k) end
