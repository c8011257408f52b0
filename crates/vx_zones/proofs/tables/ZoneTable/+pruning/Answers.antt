use Rattle.std.proofs.Common.{ap, ◌∙◌}
use Rattle.vx_expr.specs.Terms.{Term}
use Rattle.vx_zones.specs.Prunes.{prunes, pruned_zones}
use Rattle.vx_zones.specs.Tables.{zones_in}
use Rattle.vx_zones.proofs.AlongZones.{either_answered, both_answered}
use Rattle.vx_zones.proofs.tables.ZoneTable.+pruning.Goals as goal

pub pruned_by_either-returns : goal.pruned_by_either-returns
pruned_by_either-returns t c =
    let bound = c.args.bound in
    let table = c.args.self.now in
    either_answered (prunes bound c.args.left.now) (prunes bound c.args.right.now) (zones_in table) c.in_ok-one.one c.in_ok-other.other c.either.result c.either.ensures
    (c.in_ok-one.ensures ∙ ap (λ (e : Term). pruned_zones bound e table) c.expr.ensures)
    (c.in_ok-other.ensures ∙ ap (λ (e : Term). pruned_zones bound e table) c.expr-2.ensures)

pub pruned_by_both-returns : goal.pruned_by_both-returns
pruned_by_both-returns t c =
    let bound = c.args.bound in
    let table = c.args.self.now in
    both_answered (prunes bound c.args.left.now) (prunes bound c.args.right.now) (zones_in table) c.in_ok-one.one c.in_ok-other.other c.and.result c.and.ensures
    (c.in_ok-one.ensures ∙ ap (λ (e : Term). pruned_zones bound e table) c.expr.ensures)
    (c.in_ok-other.ensures ∙ ap (λ (e : Term). pruned_zones bound e table) c.expr-2.ensures)

pub pruned-returns-in-Compare : goal.pruned-returns-in-Compare
pruned-returns-in-Compare t c = rw c.in-Compare.is c.pruned_by_comparison.ensures
