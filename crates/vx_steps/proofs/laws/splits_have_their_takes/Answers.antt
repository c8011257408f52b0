use Rattle.vx_steps.proofs.SplitTakes.{done_takes, fault_takes, one_takes, output_takes, same_takes, scan_takes, turn_takes, unstarted_takes}
use Rattle.vx_steps.proofs.laws.splits_have_their_takes.Goals as goal

pub returns : goal.returns
returns c = record {
  outputs = output_takes;
  faults = fault_takes;
  unstarted = unstarted_takes;
  turns = turn_takes;
  others = same_takes;
  done = done_takes;
  one = one_takes;
  scan = scan_takes;
}
