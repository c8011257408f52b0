use Rattle.std.proofs.Common.{ℕ, None, subst}
use Rattle.vx_plan.specs.Refs.{number_of}
use Rattle.vx_steps.specs.Hindrances.{AreHindered, IsOne}
use Rattle.vx_steps.proofs.HinderedRows.{none_selected}
use Rattle.vx_steps.proofs.hindrances.first_hindrance.Goals as goal

pub returns-in_default : goal.returns-in_default
returns-in_default c =
    none_selected c.args.places c.args.table.now (number_of c.args.plan) c.args.start c.args.mask.now
    (subst (λ (count : ℕ). IsOne (AreHindered c.args.places c.args.table.now (number_of c.args.plan) c.args.start count) None) c.len.ensures c.in_default.ensures)
