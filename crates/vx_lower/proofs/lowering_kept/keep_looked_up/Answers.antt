use Rattle.vx_layout.specs.Trees.{subtree}
use Rattle.vx_plan.specs.Refs.{number_of}
use Rattle.vx_plan.specs.Rules.{eval_node}
use Rattle.vx_plan.specs.Tables.{IsAdded}
use Rattle.vx_lower.specs.Keeping.{kept_of}
use Rattle.vx_lower.specs.Lowered.{lowered}
use Rattle.vx_lower.specs.Numbered.{AddsPlan}
use Rattle.vx_lower.proofs.Evals.{eval_can, eval_room, evaluated_adds, whole_can}
use Rattle.vx_lower.proofs.Nodes.{if_ok}
use Rattle.vx_lower.proofs.lowering_kept.keep_looked_up.Goals as goal

pub lower_look_up-requires-clause-can : goal.lower_look_up-requires-clause-can
lower_look_up-requires-clause-can c = whole_can c.args.tree.now c.args.node c.args.codes c.args.values c.args.keeping.now c.args.table.now c.requires.can c.requires.parts

pub add_eval-requires-clause-room : goal.add_eval-requires-clause-room
add_eval-requires-clause-room c = eval_room c.args.tree.now c.args.node c.args.codes c.args.values c.args.keeping.now c.args.table.now c.lower_look_up.new.table (number_of c.in_ok-whole.whole) c.requires.can c.requires.parts c.in_ok-whole.ensures

pub add_eval-requires-clause-kept : goal.add_eval-requires-clause-kept
add_eval-requires-clause-kept c = eval_can c.args.tree.now c.args.node c.args.keeping.now c.args.table.now c.lower_look_up.new.table c.in_ok-pack.pack (number_of c.in_ok-whole.whole) c.requires.can c.requires.keeping c.in_ok-pack.ensures c.in_ok-whole.ensures

pub returns : goal.returns
returns c =
    if_ok (λ plan. IsAdded c.lower_look_up.new.table c.add_eval.new.table (eval_node c.lower_look_up.new.table c.in_ok-pack.pack (number_of c.in_ok-whole.whole)) (number_of plan)) (λ plan. AddsPlan c.args.table.now c.add_eval.new.table (lowered (subtree c.args.tree.now c.args.node) (kept_of c.args.keeping.now)) (number_of plan))
    (λ plan added. evaluated_adds c.args.tree.now c.args.node c.args.codes c.args.values c.args.keeping.now c.args.table.now c.lower_look_up.new.table c.add_eval.new.table c.in_ok-pack.pack (number_of c.in_ok-whole.whole) (number_of plan) c.requires.can c.requires.parts c.requires.keeping c.in_ok-pack.ensures c.in_ok-whole.ensures added) c.add_eval.result c.add_eval.ensures
