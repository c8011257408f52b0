use Rattle.std.proofs.Common.{List, sym, subst}
use Rattle.vx_steps.specs.KeptData.{Kept}
use Rattle.vx_steps.specs.OpenSegments.{AreCounted}
use Rattle.vx_steps.proofs.leaf_stores.LeafStore.make_ready.Goals as goal

pub find-requires : goal.find-requires
find-requires c =
    let P : List Kept → Type 0 = λ all. AreCounted c.args.table.now all c.args.self.now.segments in
    subst P (sym c.in_ok-index.ensures.all) c.requires

pub returns-in_err-index-clause-counted : goal.returns-in_err-index-clause-counted
returns-in_err-index-clause-counted c =
    let P : List Kept → Type 0 = λ all. AreCounted c.args.table.now all c.args.self.now.segments in
    subst P (sym c.in_err-index.ensures.all) c.requires

pub returns-then-splits-lt2-clause-counted : goal.returns-then-splits-lt2-clause-counted
returns-then-splits-lt2-clause-counted c =
    let P : List Kept → Type 0 = λ all. AreCounted c.args.table.now all c.args.self.now.segments in
    subst P (sym c.in_ok-index.ensures.all) c.requires
