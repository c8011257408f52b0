use Rattle.std.proofs.Common.{length, sym, ap, arith}
use Rattle.vx_plan.proofs.Growing.{pushed_added, pushed_good}
use Rattle.vx_plan.proofs.tables.PlanTable.add.Goals as goal

pub invariant_of-self-2 : goal.invariant_of-self-2
invariant_of-self-2 c = pushed_good c.self.inside.nodes.items c.push.new.self.items c.args.node c.deref.result.now c.args.self.now c.in_ok-push.ensures.items c.deref.ensures.value (sym c.self.view_is) c.self.invariant.0 c.requires.room c.requires.known c.requires.made c.in_ok-check.ensures.kept

pub returns-clause-added : goal.returns-clause-added
returns-clause-added c = pushed_added c.self.inside.nodes.items c.push.new.self.items c.args.node c.deref.result.now c.args.self.now c.len-number.result c.in_ok-push.ensures.items c.deref.ensures.value (sym c.self.view_is) (omega (arith, c.len-number.ensures, c.deref.ensures.len, ap length c.deref.ensures.value)) (pushed_good c.self.inside.nodes.items c.push.new.self.items c.args.node c.deref.result.now c.args.self.now c.in_ok-push.ensures.items c.deref.ensures.value (sym c.self.view_is) c.self.invariant.0 c.requires.room c.requires.known c.requires.made c.in_ok-check.ensures.kept).0 c.in_ok-check.ensures.kept
