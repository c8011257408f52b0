use Rattle.std.proofs.Common.{◌≡◌, rules}
use Rattle.vx_arrays.proofs.TextRows.{both_more}
use Rattle.vx_arrays.proofs.texts.Texts.same.Goals as goal

pub loop-row-preserved : goal.loop-row-preserved
loop-row-preserved c =
    let e : c.text.result.now ≡ c.text-in-loop-row.result.now = search rules in
    both_more c.args.self.now c.args.other.now c.loop-row.row c.text.result.now c.text-in-loop-row.result.now c.text.ensures c.text-in-loop-row.ensures e c.loop-row.invariant
