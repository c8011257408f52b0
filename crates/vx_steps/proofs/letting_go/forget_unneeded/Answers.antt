use Rattle.std.proofs.Common.{inr, sym}
use Rattle.vx_steps.specs.Places.{place_in}
use Rattle.vx_steps.proofs.LettingGo.{some_place}
use Rattle.vx_steps.proofs.letting_go.forget_unneeded.Goals as goal

pub returns-clause-leaves : goal.returns-clause-leaves
returns-clause-leaves c = inr (c.forget.ensures, some_place (place_in c.args.progress.now.needed.apart.places c.args.leaf) (sym c.if-not-has.ensures), c.if-is_leaf_ahead.ensures)
