use Rattle.std.proofs.Common.{arith}
use Rattle.std.proofs.lemmas.Result.{IfOk-weaker}
use Rattle.vx_columns.proofs.SpreadRuns.{alike_more, alike_all}
use Rattle.vx_columns.proofs.run_rows.append_alike.Goals as goal

pub loop-preserved : goal.loop-preserved
loop-preserved c = alike_more c.args.mask c.loop.made c.in_ok-piece.piece c.in_ok-made.made c.args.bit c.loop.counter c.in_ok-piece.ensures c.in_ok-made.ensures c.loop.invariant

pub returns : goal.returns
returns c =
    IfOk-weaker c.append-2.result _ _ (λ made is. alike_all c.args.mask c.loop.made c.in_ok-rest.rest made c.args.bit c.args.rows c.loop.counter (omega (arith, c.loop-test.false)) (omega (arith, c.loop.auto.counter-end)) c.in_ok-rest.ensures is c.loop.invariant) c.append-2.ensures
