use Rattle.std.proofs.Common.{◌≡◌, ◌+◌, ◌-◌, ◌≤◌, ◌++◌, length, take, drop, sym, ap, ◌∙◌, arith}
use Rattle.std.proofs.lemmas.List.{length-drop}
use Rattle.vx_masks.proofs.Chosen.{full_rows, chosen_full}
use Rattle.vx_masks.proofs.filters.push_rows.Goals as goal

pub returns-in_ok-extend_from_slice : goal.returns-in_ok-extend_from_slice
returns-in_ok-extend_from_slice g c =
    let start = c.args.start in
    let values = c.args.values.now in
    let word = c.args.word in
    let all = c.if-word-eq18446744073709551615.true in
    let long : 64 ≤ length (drop start values) = omega (arith, full_rows word (length values - start) all c.requires, length-drop start values) in
    let part : start + 64 - start ≡ 64 = omega arith in
    c.in_ok-extend_from_slice.ensures.items ∙ ap (λ k. c.args.kept.now.items ++ take k (drop start values)) part
    ∙ ap (λ ys. c.args.kept.now.items ++ ys) (sym (chosen_full g.row.T.Denot word (drop start values) all long))
