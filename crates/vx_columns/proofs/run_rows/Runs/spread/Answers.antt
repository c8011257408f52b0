use Rattle.std.proofs.lemmas.Result.{IfOk-weaker}
use Rattle.vx_columns.proofs.RunRows.{spread_all}
use Rattle.vx_columns.proofs.run_rows.Runs.spread.Goals as goal

pub returns : goal.returns
returns c =
    IfOk-weaker c.take.result _ _
    (λ rows is. spread_all c.self.inside.values rows c.args.self.now c.self.inside.ends.items c.as_slice.result.now c.in_ok-places.places.items c.as_slice-2.result.now c.self.view_is c.self.invariant.same c.as_slice.ensures.value c.in_ok-places.ensures c.as_slice-2.ensures.value is) c.take.ensures
