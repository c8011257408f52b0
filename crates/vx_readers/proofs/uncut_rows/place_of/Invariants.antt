use Rattle.std.proofs.Common.{◌-◌, length}
use Rattle.vx_readers.proofs.Uncut.{PassesTo}
use Rattle.vx_readers.proofs.uncut_rows.place_of.Given as goal

abbrev pub invariant-passed : goal.invariant-passed
invariant-passed l = PassesTo l.parts l.fn.place l.fn.used l.place l.used

abbrev pub decreases-passed : goal.decreases-passed
decreases-passed l = length l.parts - l.place
