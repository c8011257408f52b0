use Rattle.std.proofs.Common.{arith, rules, ◌≡◌, max, lt-ltb, ltb-true}
use Rattle.vx_splits.proofs.Trims.{some_past}
use Rattle.vx_splits.proofs.selections.Selection.reaches_past.Goals as goal

pub returns : goal.returns
returns c =
    let is : c.max.result ≡ max c.args.rows.now.start c.args.count = search rules in
    let h = some_past c.args.self.now c.args.rows.now.start c.args.rows.now.end c.args.count c.max.result is in
    let count = c.row_count_in_range.ensures in
    (λ e. let some = ltb-true 0 c.row_count_in_range.result e in h.0 (omega arith), λ any. let some = h.1 any in lt-ltb 0 c.row_count_in_range.result (omega arith))
