use Rattle.std.proofs.Common.{ℕ, sym, ap, ◌∙◌}
use Rattle.std.specs.Prelude.{nat_lt}
use Rattle.vx_steps.proofs.LastSplits.{segment_tells}
use Rattle.vx_steps.proofs.later_reads.LaterReads.segment_read_from.Goals as goal

pub returns : goal.returns
returns c = λ reads noted. segment_tells c.args.segment c.args.next reads (nat_lt c.args.next c.count_of.result) (ap (λ (n : ℕ). nat_lt c.args.next n) (sym (c.count_of.ensures ∙ noted.segments c.args.segment)))
