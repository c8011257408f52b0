-- The definitions are computed.
use Rattle.std.proofs.Common.{refl}
use Rattle.std.specs.Fmt.{digits}
use Rattle.scan_demo.proofs.by_hand.demo_by_hand.Goals as goal

pub returns-clause-named : goal.returns-clause-named
unfolding digits
returns-clause-named c = refl

pub returns-clause-bytes : goal.returns-clause-bytes
unfolding digits
returns-clause-bytes c = refl

pub returns-clause-locations : goal.returns-clause-locations
unfolding digits
returns-clause-locations c = refl

pub returns-clause-summary : goal.returns-clause-summary
unfolding digits
returns-clause-summary c = refl
