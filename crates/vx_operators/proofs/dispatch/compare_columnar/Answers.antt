use Rattle.std.proofs.Common.{is_some, refl, sym, ap, ◌∙◌}
use Rattle.vx_operators.proofs.dispatch.compare_columnar.Goals as goal

pub returns-in_ok-array-in-Some-clause-made : goal.returns-in_ok-array-in-Some-clause-made
returns-in_ok-array-in-Some-clause-made c = (λ h. c.alike.ensures.alike.0 (ap is_some c.in-Some.is), λ a. refl)

pub returns-in-None-clause-made : goal.returns-in-None-clause-made
returns-in-None-clause-made c = (λ h. absurd cc, λ a. sym (ap is_some c.in-None.is) ∙ c.alike.ensures.alike.1 a)
