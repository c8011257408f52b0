use Rattle.std.proofs.Common.{ℕ, sym, ap, ◌∙◌}
use Rattle.std.specs.Prelude.{nat_lt}
use Rattle.vx_steps.proofs.Tallies.{segment_tells}
use Rattle.vx_steps.proofs.still_read.StillRead.reads_segment.Goals as goal

pub returns : goal.returns
returns c = λ reads tally. segment_tells c.args.segment reads (nat_lt 0 c.count_of.result) (ap (λ (n : ℕ). nat_lt 0 n) (sym (c.count_of.ensures ∙ tally.segments c.args.segment)))
