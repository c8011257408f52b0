use Rattle.std.proofs.Common.{ap, sym, subst, ◌∙◌}
use Rattle.vx_steps.specs.Structs.{front_parts, LastIsBool}
use Rattle.vx_steps.proofs.Structures.{bool_pushed, front_pushed, last_pushed}
use Rattle.vx_steps.proofs.picking.last_truths.Goals as goal

pub truth-truth-requires : goal.truth-truth-requires
truth-truth-requires c = bool_pushed c.pop.new.self.items c.in-Some.validity (subst LastIsBool c.in-Some.ensures.items c.requires)

pub returns-in_ok-truth-in-Some-clause-truths : goal.returns-in_ok-truth-in-Some-clause-truths
returns-in_ok-truth-in-Some-clause-truths c = rw (c.in-Some.ensures.items, last_pushed c.pop.new.self.items c.in-Some.validity, c.in_ok-truth-in-Some.ensures)

pub returns-in_ok-truth-in-Some-clause-left : goal.returns-in_ok-truth-in-Some-clause-left
returns-in_ok-truth-in-Some-clause-left c = sym (ap front_parts c.in-Some.ensures.items ∙ front_pushed c.pop.new.self.items c.in-Some.validity)
