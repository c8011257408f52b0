use Rattle.vx_layout.proofs.FittingRows.{fits_row}
use Rattle.vx_layout.proofs.laws.values_fit.Goals as goal

pub returns : goal.returns
returns c = fits_row
