use Rattle.vx_steps.proofs.LettingGo.{lets_unneeded}
use Rattle.vx_steps.proofs.letting_go.let_go_unneeded.Goals as goal

pub returns : goal.returns
returns c = lets_unneeded c.args.leaf c.args.segment c.args.splits c.args.progress.now c.forget_unneeded.new.progress c.release_unneeded.new.progress c.forget_unneeded.ensures.leaves c.forget_unneeded.ensures.same c.release_unneeded.ensures.segments c.release_unneeded.ensures.same
