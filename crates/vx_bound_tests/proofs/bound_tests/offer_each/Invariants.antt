use Rattle.std.proofs.Common.{take}
use Rattle.vx_bound_tests.specs.Offering.{OffersEach}
use Rattle.vx_bound_tests.proofs.bound_tests.offer_each.Given as goal

abbrev pub invariant-loop-key : goal.invariant-loop-key
invariant-loop-key l = OffersEach l.bound l.fn.seat l.seat (take l.key-index l.keys)
