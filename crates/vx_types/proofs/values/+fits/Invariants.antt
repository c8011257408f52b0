use Rattle.std.proofs.Common.{◌+◌, ◌*◌, take}
use Rattle.vx_types.specs.Fits.{EachFits}
use Rattle.vx_types.specs.Sizes.{datum_size, items_size}
use Rattle.vx_types.specs.Views.{members_of}
use Rattle.vx_types.specs.ValueViews.{datum, items_of}
use Rattle.vx_types.proofs.values.+fits.Given as goal

abbrev pub decreases-fits : goal.decreases-fits
decreases-fits l = 2 * datum_size (datum l.value.now)

abbrev pub decreases-each_fits : goal.decreases-each_fits
decreases-each_fits l = 2 * items_size l.values.now + 1

abbrev pub invariant-each_fits-loop-place : goal.invariant-each_fits-loop-place
invariant-each_fits-loop-place l = EachFits (members_of (take l.place l.members)) (items_of (take l.place l.items))
