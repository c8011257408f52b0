use Rattle.std.proofs.Common.{◌≡◌, ◌++◌, [], List, map, ap, ◌∙◌}
use Rattle.std.proofs.lemmas.Result.{on_ok_weaker}
use Rattle.vx_steps.specs.declared.leaf_reads.LeafRead.{LeafRead}
use Rattle.vx_steps.specs.Placed.{up_to}
use Rattle.vx_steps.proofs.PlacedLeaves.{under_is}
use Rattle.vx_steps.proofs.placed_reads.add_under.Goals as goal

pub returns : goal.returns
returns c =
    let none : c.new-found.result.items ≡ [] = c.new-found.ensures.items in
    on_ok_weaker c.add_for_all.result (λ is. under_is c.args.table.now c.args.given.now c.args.whole c.args.plan c.args.last c.args.needs.now.items c.add_for_all.new.needs.items c.new-found.result.items c.add_whole_reads.new.reads.items none (is ∙ ap (λ (xs : List LeafRead). c.args.needs.now.items ++ map (up_to c.args.last) xs) c.deref.ensures.value) c.in_ok-add_whole_reads.ensures.added c.in_ok-add_whole_reads.ensures.leaves) c.add_for_all.ensures
