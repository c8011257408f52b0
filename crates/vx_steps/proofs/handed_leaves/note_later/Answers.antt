use Rattle.std.proofs.Common.{rules, ◌≡◌, ap, refl}
use Rattle.vx_steps.specs.declared.needed.Needed.{Needed}
use Rattle.vx_steps.specs.Leavings.{behind_all}
use Rattle.vx_steps.proofs.Noting.{all_noted_to, next_noted_to, none_noted_to}
use Rattle.vx_steps.proofs.Starting.{got_at}
use Rattle.vx_steps.proofs.handed_leaves.note_later.Goals as goal

pub loop-number-init : goal.loop-number-init
loop-number-init c =
    let row : c.row_behind-needed.result ≡ behind_all c.args.job.now.splits.items = search rules in
    record { same = refl; row = row; is_noted = refl; noted = λ none. none_noted_to c.args.table.now c.args.job.now c.args.needed.now.later none }

pub loop-number-preserved : goal.loop-number-preserved
loop-number-preserved c =
    let i = c.loop-number.number in
    let split = c.index-split.result.now in
    let at = got_at c.args.job.now.splits.items i split (search rules) c.index-split.ensures in
    let notes = rw c.deref-in-loop-number.ensures.value at c.in_ok-note_split.ensures in
    record {
      same = ap (λ (n : Needed). record n { later = c.note_split.new.later }) c.loop-number.invariant.same;
      row = c.loop-number.invariant.row;
      is_noted = c.loop-number.invariant.is_noted;
      noted = λ none. next_noted_to c.args.table.now c.args.job.now i split c.in_ok-needs.needs.items c.loop-number.needed.later c.note_split.new.later at c.in_ok-needs.ensures.placed notes (c.loop-number.invariant.noted none);
    }

pub returns : goal.returns
returns c = record {
  noted = record {
    row = c.loop-number.invariant.row;
    is_noted = c.loop-number.invariant.is_noted;
    same = c.loop-number.invariant.same;
    noted = λ none many. all_noted_to c.args.table.now c.args.job.now c.loop-number.number c.loop-number.needed.later (search rules) (c.loop-number.invariant.noted none);
  };
}
