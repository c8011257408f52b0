use Rattle.std.proofs.Common.{refl}
use Rattle.std.proofs.lemmas.List.Elements.{All-more}
use Rattle.vx_base.specs.Views.{data_type}
use Rattle.vx_expr.specs.declared.statistics.Statistic.TheVariants.{Min}
use Rattle.vx_rows.specs.Zones.{StandsOver}
use Rattle.vx_rows.proofs.Each.{each_passed}
use Rattle.vx_rows.proofs.zones.stand_over.Goals as goal

pub loop-stat-preserved : goal.loop-stat-preserved
loop-stat-preserved c = All-more (StandsOver (data_type c.args.dtype.now)) c.args.stats.now c.loop-stat.stat-index Min c.loop-stat-test.true c.loop-stat.invariant (c.stands_over.ensures.0 c.if-not-stands_over.false)

pub returns : goal.returns
returns c = (λ t. each_passed (StandsOver (data_type c.args.dtype.now)) c.args.stats.now c.loop-stat.stat-index c.loop-stat-test.false c.loop-stat.invariant, λ h. refl)
