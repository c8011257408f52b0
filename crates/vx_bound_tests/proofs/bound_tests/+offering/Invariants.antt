use Rattle.std.proofs.Common.{length, ◌+◌, ◌*◌}
use Rattle.vx_bound_tests.proofs.bound_tests.+offering.Given as goal

abbrev pub decreases-offer_both-offer_others : goal.decreases-offer_both-offer_others
decreases-offer_both-offer_others g l = 4 * length l.others.now + 1

abbrev pub decreases-offer_both : goal.decreases-offer_both
decreases-offer_both g l = 4 * length l.others.now + 2

abbrev pub decreases-offer_side_by_side : goal.decreases-offer_side_by_side
decreases-offer_side_by_side g l = 4 * length l.lists.now
