use Rattle.std.proofs.Common.{List, ℕ, subst}
use Rattle.vx_split_rules.specs.Splits.{AreOrdered}
use Rattle.vx_split_rules.proofs.Ordered.{ordered_by}
use Rattle.vx_split_rules.proofs.row_splits.RowSplits.into_sorted_deduped.Goals as goal

pub returns : goal.returns
returns c =
    let F : List ℕ → Type 0 = λ pushed. AreOrdered pushed c.dedup.new.self.items in
    subst F c.self.view_is (ordered_by c.self.inside.rows.items c.sort_unstable.new.self.items c.dedup.new.self.items c.sort_unstable.ensures.permutation c.sort_unstable.ensures.sorted c.dedup.ensures.filtered)
