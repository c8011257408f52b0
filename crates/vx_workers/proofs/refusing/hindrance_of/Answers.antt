use Rattle.std.proofs.Common.{ap, length}
use Rattle.vx_workers.proofs.HinderedChunks.{list_hindered, none_hinders, segment_hindered}
use Rattle.vx_workers.proofs.refusing.hindrance_of.Goals as goal

pub returns-in-Some-List : goal.returns-in-Some-List
returns-in-Some-List c = list_hindered c.args.plans.now c.args.chosen.now c.keeps_rules.ensures c.requires.plans.known c.requires.chunk (length c.as_slice-places.result.now) (ap length c.as_slice-places.ensures.value) c.in-Some-List.list (rw c.in-Some-List.field-0-is at c.in-Some-List.ensures)

pub returns-in-Some-Segment : goal.returns-in-Some-Segment
returns-in-Some-Segment c = segment_hindered c.args.plans.now c.args.chosen.now c.keeps_rules.ensures c.requires.plans.known c.requires.chunk (length c.as_slice-places.result.now) (ap length c.as_slice-places.ensures.value) c.in-Some-Segment.segment (rw c.in-Some-Segment.field-0-is at c.in-Some-Segment.ensures)

pub returns-in-None : goal.returns-in-None
returns-in-None c = none_hinders c.args.plans.now c.args.chosen.now c.keeps_rules.ensures c.requires.plans.known c.requires.chunk (length c.as_slice-places.result.now) (ap length c.as_slice-places.ensures.value) c.in-None.ensures
