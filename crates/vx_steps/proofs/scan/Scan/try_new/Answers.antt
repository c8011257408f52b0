use Rattle.std.proofs.Common.{rules}
use Rattle.std.specs.List.{AllByRecursion}
use Rattle.vx_plan.specs.Refs.{number_of}
use Rattle.vx_plan.specs.Rules.{node_at}
use Rattle.vx_steps.specs.Splits.{IsInside}
use Rattle.vx_steps.proofs.NewScans.{scan_new, IsNothing}
use Rattle.vx_steps.proofs.scan.Scan.try_new.Goals as goal

pub invariant_of-result : goal.invariant_of-result
invariant_of-result c =
    let nodes = c.args.table.now in
    let job = c.new.ensures in
    let progress = c.new-2.ensures in
    let new : IsNothing nodes c.new-2.result = record {
      next = progress.next;
      active = progress.active;
      wanted = progress.wanted;
      stored = progress.stored;
      passed = progress.passed;
      all = progress.all;
      counted = progress.counted nodes;
      found = progress.found;
      apart = progress.apart;
      tallies = progress.tallies;
      later = progress.later;
      noted = progress.noted;
      held = progress.held;
      made = progress.made;
      used = progress.used;
    } in
    let inside : AllByRecursion (IsInside (node_at nodes (number_of c.args.plan)).rows) c.args.splits.items = search rules in
    scan_new nodes (number_of c.args.plan) c.args.splits c.new.result c.new-2.result c.requires inside job.plan job.splits job.given job.offset new
