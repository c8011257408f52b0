use Rattle.vx_steps.proofs.Ordering.{in_order, leaves_in_order, placed_in_order}
use Rattle.vx_steps.proofs.placed_reads.needs_of.Goals as goal

pub returns-clause-placed : goal.returns-clause-placed
returns-clause-placed c = placed_in_order c.args.table.now c.args.given.now c.args.plan c.args.start c.args.mask.now c.new-needs.result.items c.add_placed.new.needs.items c.sort_placed.new.needs.items c.new-needs.ensures.items c.in_ok-add_placed.ensures.added c.sort_placed.ensures.same

pub returns-clause-order : goal.returns-clause-order
returns-clause-order c = in_order c.sort_placed.new.needs.items c.in_ok-sort_placed.ensures.order

pub returns-clause-leaves : goal.returns-clause-leaves
returns-clause-leaves c = leaves_in_order c.args.table.now c.args.given.now c.args.plan c.args.start c.args.mask.now c.new-needs.result.items c.add_placed.new.needs.items c.sort_placed.new.needs.items c.new-needs.ensures.items c.in_ok-add_placed.ensures.added c.sort_placed.ensures.same

pub returns-clause-asks : goal.returns-clause-asks
returns-clause-asks c = λ is. (c.in_ok-add_placed.ensures.asks is).1
