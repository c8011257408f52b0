use Rattle.std.proofs.Common.{◌<◌, ◌^◌, arith, rules}
use Rattle.vx_segments.proofs.CodedSegments.{few_ends}
use Rattle.vx_segments.proofs.run_segments.split_runs.Goals as goal

pub returns-then-rest-count-clause-none : goal.returns-then-rest-count-clause-none
returns-then-rest-count-clause-none c = λ none ends plain few e.
    let fits : c.four_at-count.result.0 < 2 ^ 32 = search rules in
    few_ends c.four_at-count.result.0 c.args.bytes.now c.four_at-count.result.1.now ends plain fits few c.four_at-count.ensures (omega (arith, c.if-rest-count.true)) e
