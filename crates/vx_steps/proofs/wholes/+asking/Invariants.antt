use Rattle.vx_steps.proofs.wholes.+asking.Given as goal

abbrev pub decreases-asks_none : goal.decreases-asks_none
decreases-asks_none l = l.plan
