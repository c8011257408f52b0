use Rattle.std.proofs.Common.{◌≡◌, None, sym, ◌∙◌}
use Rattle.vx_zones.specs.Prunes.{root_comparison}
use Rattle.vx_zones.proofs.AlongZones.{not_compared}
use Rattle.vx_zones.proofs.tables.ZoneTable.pruned_by_comparison.Goals as goal

pub returns-in-None : goal.returns-in-None
returns-in-None c =
    let none : root_comparison c.args.op c.args.left.now c.args.right.now ≡ None = sym (c.in-None.ensures ∙ (λ i. root_comparison c.args.op (c.expr.ensures i) (c.expr-2.ensures i))) in
    not_compared c.args.op c.args.left.now c.args.right.now c.args.self.now c.nothing.result none c.nothing.ensures
