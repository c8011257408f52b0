use Rattle.std.proofs.Common.{ap, sym, ◌∙◌}
use Rattle.vx_steps.specs.Kept.{kept_at}
use Rattle.vx_steps.specs.LeavesData.{LeavesData}
use Rattle.vx_steps.proofs.Storing.{marked_at, unmarked_at}
use Rattle.vx_steps.proofs.leaf_columns.LeafColumns.find.Goals as goal

pub returns-then-get : goal.returns-then-get
returns-then-get c = sym (marked_at c.self.inside.gone c.self.inside.kept c.args.node (sym c.if-get.ensures)) ∙ ap (λ (leaves : LeavesData). kept_at leaves.here c.args.node) c.self.view_is

pub returns : goal.returns
returns c = c.find.ensures ∙ (sym (unmarked_at c.self.inside.gone c.self.inside.kept c.args.node (sym c.if-get.ensures)) ∙ ap (λ (leaves : LeavesData). kept_at leaves.here c.args.node) c.self.view_is)
