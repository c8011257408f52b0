use Rattle.vx_types.proofs.AllFit.{all_more, first_unfit_at}
use Rattle.vx_types.specs.Fits.{Fits}
use Rattle.vx_types.specs.Views.{data_type}
use Rattle.vx_columns.proofs.columns.first_unfit.Goals as goal

pub returns-then-not-fits : goal.returns-then-not-fits
returns-then-not-fits c = first_unfit_at (data_type c.args.dtype.now) c.args.values.now c.loop-row.row c.index-values-row.result c.loop-row-test.true c.index-values-row.is (λ fit. let yes = c.fits.ensures.1 fit in cc) c.loop-row.invariant

pub loop-row-preserved : goal.loop-row-preserved
loop-row-preserved c = all_more (Fits (data_type c.args.dtype.now)) c.args.values.now c.loop-row.row c.index-values-row.result c.loop-row-test.true c.index-values-row.is (c.fits.ensures.0 cc) c.loop-row.invariant
