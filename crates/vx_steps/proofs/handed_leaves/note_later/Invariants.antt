use Rattle.std.proofs.Common.{◌≡◌, [], true}
use Rattle.vx_steps.specs.LaterReads.{IsNotedOf}
use Rattle.vx_steps.specs.Leavings.{behind_all}
use Rattle.vx_steps.proofs.Noting.{AreNotedTo}
use Rattle.vx_steps.proofs.handed_leaves.note_later.Given as goal

abbrev pub invariant-loop-number : goal.invariant-loop-number
invariant-loop-number l = record {
  same : l.needed ≡ record l.fn.needed { later = l.needed.later; row = l.needed.row; noted = l.needed.noted };
  row : l.needed.row ≡ behind_all l.job.splits.items;
  is_noted : l.needed.noted ≡ true;
  noted : IsNotedOf l.fn.needed.later [] → AreNotedTo l.table l.job l.number l.needed.later;
}
