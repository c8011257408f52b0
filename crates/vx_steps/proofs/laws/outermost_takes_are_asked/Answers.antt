use Rattle.vx_steps.proofs.OutermostTakes.{take_asked, take_there}
use Rattle.vx_steps.proofs.Standing.{fault_outside, none_shared}
use Rattle.vx_steps.proofs.laws.outermost_takes_are_asked.Goals as goal

pub returns : goal.returns
returns c = record { asked = take_asked; there = take_there; tables = none_shared; faults = fault_outside }
