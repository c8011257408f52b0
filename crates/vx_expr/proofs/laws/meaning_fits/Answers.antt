use Rattle.vx_expr.proofs.FittingMeaning.{columnar_fits}
use Rattle.vx_expr.proofs.laws.meaning_fits.Goals as goal

pub returns : goal.returns
returns c = columnar_fits
