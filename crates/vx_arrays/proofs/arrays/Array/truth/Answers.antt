use Rattle.std.proofs.lemmas.Result.{IfOk-weaker}
use Rattle.vx_arrays.proofs.ArrayRanges.{truths_are}
use Rattle.vx_arrays.proofs.arrays.Array.truth.Goals as goal

pub returns : goal.returns
returns c = IfOk-weaker c.copy.result _ _ (λ mask is. truths_are c.self.inside.validity c.in-Truths.truths mask c.self.inside.buffers c.args.self.now c.self.view_is c.self.invariant c.in-Truths.is is) c.copy.ensures
