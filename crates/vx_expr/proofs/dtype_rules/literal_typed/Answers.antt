use Rattle.vx_base.specs.Views.{data_type}
use Rattle.vx_base.specs.ValueViews.{datum}
use Rattle.vx_expr.proofs.LiteralTypes.{leaf_type, literal_fits, literal_fails}
use Rattle.vx_expr.proofs.dtype_rules.literal_typed.Goals as goal

pub returns-then-fits : goal.returns-then-fits
returns-then-fits c = literal_fits (data_type c.args.dtype.now) (datum c.args.value.now) c.fits.result (leaf_type c.args.dtype.now c.in_default.not-Struct c.in_default.not-List) c.fits.ensures.0 c.fits.ensures.1 c.if-fits.true

pub returns-else-fits : goal.returns-else-fits
returns-else-fits c = literal_fails (data_type c.args.dtype.now) (datum c.args.value.now) c.fits.result (leaf_type c.args.dtype.now c.in_default.not-Struct c.in_default.not-List) c.fits.ensures.0 c.fits.ensures.1 c.if-fits.false
