use Rattle.std.proofs.Common.{ℕ, ◌<◌, ◌-◌, ◌^◌, get_or, arith}
use Rattle.std.proofs.lemmas.List.Elements.{All-rest}
use Rattle.vx_splits.proofs.split_ranges.gather.Goals as goal

pub overflow_add-end : goal.overflow_add-end
overflow_add-end c =
    let rest = All-rest (λ (index : ℕ). index < 2 ^ 64 - 1) c.in-Some.first.now c.in-Some.indices.now c.args.indices.now c.in-Some.ensures.cases.0 c.requires in
    let below : get_or c.in-Some.indices.now c.loop-index.index-index 0 < 2 ^ 64 - 1 = rest _ 0 c.loop-index-test.true in
    omega arith
