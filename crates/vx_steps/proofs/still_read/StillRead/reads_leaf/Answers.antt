use Rattle.std.proofs.Common.{ℕ, sym, ap, ◌∙◌}
use Rattle.std.specs.Prelude.{nat_lt}
use Rattle.vx_steps.proofs.Tallies.{leaf_tells}
use Rattle.vx_steps.proofs.still_read.StillRead.reads_leaf.Goals as goal

pub returns : goal.returns
returns c = λ reads tally. leaf_tells c.args.leaf reads (nat_lt 0 c.get.result) (ap (λ (n : ℕ). nat_lt 0 n) (sym (c.get.ensures.value ∙ tally.leaves c.args.leaf)))
