use Rattle.std.proofs.Common.{◌++◌, ◌∷◌, [], List, map, get_or, ap, ◌∙◌, arith}
use Rattle.vx_steps.specs.declared.leaf_reads.LeafRead.{LeafRead}
use Rattle.vx_steps.specs.declared.placed_reads.PlacedRead.{PlacedRead}
use Rattle.vx_steps.specs.Placed.{up_to}
use Rattle.vx_steps.proofs.Indexing.{take_all}
use Rattle.vx_steps.proofs.PlacedLeaves.{one_more_for_all}
use Rattle.vx_steps.proofs.placed_reads.add_for_all.Goals as goal

pub loop-place-preserved : goal.loop-place-preserved
loop-place-preserved c =
    c.in_ok-add_need.ensures
    ∙ ap (λ (xs : List PlacedRead). xs ++ up_to c.args.last (get_or c.args.found.now c.loop-place.place (record { leaf = 0; segment = 0 })) ∷ []) c.loop-place.invariant
    ∙ one_more_for_all c.args.last c.args.needs.now.items c.args.found.now c.loop-place.place (omega (arith, c.loop-place-test.true))

pub returns : goal.returns
returns c = c.loop-place.invariant ∙ ap (λ (xs : List LeafRead). c.args.needs.now.items ++ map (up_to c.args.last) xs) (take_all c.args.found.now c.loop-place.place (omega (arith, c.loop-place-test.false)))
