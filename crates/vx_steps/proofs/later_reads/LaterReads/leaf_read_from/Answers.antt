use Rattle.std.proofs.Common.{ℕ, sym, ap, ◌∙◌}
use Rattle.std.specs.Prelude.{nat_lt}
use Rattle.vx_steps.proofs.LastSplits.{leaf_tells}
use Rattle.vx_steps.proofs.later_reads.LaterReads.leaf_read_from.Goals as goal

pub returns : goal.returns
returns c = λ reads noted. leaf_tells c.args.leaf c.args.next reads (nat_lt c.args.next c.get.result) (ap (λ (n : ℕ). nat_lt c.args.next n) (sym (c.get.ensures.value ∙ noted.leaves c.args.leaf)))
