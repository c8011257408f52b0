use Rattle.std.proofs.Common.{◌+◌, ◌*◌, ◌++◌, [], ◌∷◌, ℕ, List, sym, ap, ◌∙◌, arith}
use Rattle.std.proofs.lemmas.List.FromFn.{map-range_with_len_more}
use Rattle.vx_split_rules.proofs.split_rules.counted_splits.Goals as goal

pub loop-part-preserved : goal.loop-part-preserved
loop-part-preserved c =
    let more = map-range_with_len_more (λ (part : ℕ). c.args.rows.now.start + part * c.args.size) 0 c.loop-part.part c.loop-part.part (omega arith) in
    c.in_ok-push.ensures.items ∙ ap (λ (xs : List ℕ). xs ++ (c.args.rows.now.start + c.loop-part.part * c.args.size) ∷ []) c.loop-part.invariant ∙ sym more
