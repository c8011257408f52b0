-- The selected rows of a range and the rows of a scan, one by one.
use Rattle.std.proofs.Common.{inl, inr, ◌≡◌, ℕ, suc, min, true, List, [], ◌∷◌, Some, None, sym, ap, ◌∙◌, arith, ne_eqb}
use Rattle.std.specs.List.{Contains}
use Rattle.std.proofs.lemmas.Bool.{cases_eq}
use Rattle.std.proofs.lemmas.List.Elements.{filter_passes}
use Rattle.vx_base.specs.Masks.{is_among}
use Rattle.vx_splits.specs.declared.selections.Selection.{Selection}
use Rattle.vx_splits.specs.Taken.{rows_between, selects, selected_rows, IsSelected, AreRowsWith, SelectsRows, TakesRows}
use Rattle.vx_splits.proofs.Between.{all_from, all_below, among_kept, ascend_kept, or_false}

among_contains : (rows : List ℕ) (row : ℕ) → is_among rows row ≡ true → Contains rows row
among_contains [] row e = absurd (cc)
among_contains (first ∷ rows) row e =
    elim (cases_eq first row) [
      | inl same ↦ (0, omega arith, same)
      | inr other ↦
          let rest = among_contains rows row (sym (or_false (is_among rows row) (ne_eqb first row other)) ∙ e) in
          (suc rest.0, omega (arith, rest.1), rest.2)
    ]

selected_one : (selection : Selection) (start end row : ℕ) → Contains (selected_rows selection start end) row → IsSelected selection start end row
selected_one selection start end row h =
    let test = selects selection in
    let from = all_from test start end h.0 row h.1 in
    let below = all_below test start end h.0 row h.1 in
    let passes = filter_passes test (rows_between start end) h.0 row h.1 in
    (omega (arith, h.2), omega (arith, h.2), sym (ap test h.2) ∙ passes)

one_selected : (selection : Selection) (start end row : ℕ) → IsSelected selection start end row → Contains (selected_rows selection start end) row
one_selected selection start end row h = among_contains (selected_rows selection start end) row (among_kept (selects selection) start end row h.0 h.1 ∙ h.2)

pub selects_rows : SelectsRows
selects_rows selection start end = record {
  ascend = ascend_kept (selects selection) start end;
  each = λ row. (selected_one selection start end row, one_selected selection start end row);
}

pub takes_rows : TakesRows
takes_rows selection None row_count =
    let h : AreRowsWith (IsSelected selection 0 row_count) (selected_rows selection 0 row_count) = selects_rows selection 0 row_count in
    record {
      ascend = h.ascend;
      each = λ row. (λ there. let found = (h.each row).0 there in (found.1, found.2), λ taken. (h.each row).1 (omega arith, taken.0, taken.1));
    }
takes_rows selection (Some range) row_count =
    let end : ℕ = min range.end row_count in
    let h : AreRowsWith (IsSelected selection range.start end) (selected_rows selection range.start end) = selects_rows selection range.start end in
    record {
      ascend = h.ascend;
      each = λ row. (λ there. let found = (h.each row).0 there in (omega (arith, found.1), (found.0, omega (arith, found.1), found.2)), λ taken. (h.each row).1 (taken.1.0, omega (arith, taken.0, taken.1.1), taken.1.2));
    }
