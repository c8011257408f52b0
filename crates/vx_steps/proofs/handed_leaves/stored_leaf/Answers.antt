use Rattle.std.proofs.Common.{rules, ◌<◌, length, sym, subst}
use Rattle.vx_plan.specs.Refs.{number_of}
use Rattle.vx_steps.specs.declared.kept.KeptValue.{KeptValue}
use Rattle.vx_steps.specs.Kept.{IsKept}
use Rattle.vx_steps.specs.OpenSegments.{IsLeafOver}
use Rattle.vx_steps.proofs.Dropping.{kept_own}
use Rattle.vx_steps.proofs.handed_leaves.stored_leaf.Goals as goal

pub returns-in-Some : goal.returns-in-Some
returns-in-Some c =
    let columns = c.stored-columns.result.now in
    let x = c.index-columns-place.result in
    let inside : c.args.place < length columns = search rules in
    let K : KeptValue → Type 0 = λ v. IsKept c.args.leaves.now.all (number_of v.node) in
    let kept = subst K c.index-columns-place.is (c.stored-columns.ensures.only (number_of x.node) (kept_own columns c.args.place x inside c.index-columns-place.is)) in
    let same = sym c.in-Some.ensures.0 in
    (subst (IsLeafOver c.args.table.now c.in-Some.read.segment) same c.in-Some.ensures.1, subst (IsKept c.args.leaves.now.all) same kept)
