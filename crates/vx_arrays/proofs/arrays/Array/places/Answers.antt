use Rattle.std.proofs.Common.{◌∙◌, refl}
use Rattle.std.proofs.lemmas.Result.{IfOk-weaker}
use Rattle.vx_arrays.proofs.ArrayRanges.{array_places}
use Rattle.vx_arrays.proofs.arrays.Array.places.Goals as goal

pub returns : goal.returns
returns c =
    IfOk-weaker c.places.result _ _ (λ places is. is ∙ array_places c.args.past c.self.inside.validity c.self.inside.buffers c.in-Numbers.numbers c.self.inside.validity c.args.self.now c.in-Numbers.is refl c.self.view_is) c.places.ensures
