use Rattle.std.proofs.Common.{◌≡◌, arith, subst, IfOk, List, Bool}
use Rattle.vx_splits.proofs.Marks.{all_marked, marked_all}
use Rattle.vx_splits.proofs.selections.marked.Goals as goal

pub returns : goal.returns
returns c =
    subst (λ (bits : List Bool). IfOk c.of.result (λ mask. mask ≡ bits))
    (marked_all c.loop-index.bits.items c.args.rows.now.start c.args.rows.now.end c.args.mark c.args.indices.now c.loop-index.index-index (omega arith) c.loop-index.invariant)
    c.of.ensures

pub returns-then-not-mark : goal.returns-then-not-mark
returns-then-not-mark c =
    subst (λ (bits : List Bool). IfOk c.new_true.result (λ mask. mask ≡ bits))
    (all_marked c.args.rows.now.start c.args.rows.now.end c.args.mark c.args.indices.now c.is_empty.result c.is_empty.ensures c.if-is_empty.true c.if-not-mark.true)
    c.new_true.ensures
