use Rattle.std.proofs.Common.{◌≡◌, true, List, map, subst, sym, ◌++◌}
use Rattle.vx_steps.specs.Kept.{kept_data}
use Rattle.vx_steps.specs.KeptData.{Kept}
use Rattle.vx_steps.specs.LeafColumns.{seen_data, unmarked, ForgetsApart, MarksApart, StoresLeaves}
use Rattle.vx_steps.specs.LeavesData.{LeavesData}
use Rattle.vx_steps.specs.PlanMarks.{HasRoom}
use Rattle.vx_steps.proofs.Dropping.{forgets_dropped, stores_dropped}
use Rattle.vx_steps.proofs.leaf_columns.LeafColumns.forget_all.Goals as goal

pub mark_apart-requires : goal.mark_apart-requires
mark_apart-requires c =
    let R : LeavesData → Type 0 = λ leaves. leaves.ready ≡ true in
    subst (λ (ks : List Kept). HasRoom c.self.inside.gone ks) (sym c.columns.ensures) (c.self.invariant.room (subst R (sym c.self.view_is) c.requires))

pub invariant_of-self : goal.invariant_of-self
invariant_of-self c =
    let inside = c.self.inside in
    let all = map kept_data inside.handed.value.items ++ map seen_data inside.decoded.items in
    let marks = subst (λ (ks : List Kept). MarksApart c.args.apart.now ks inside.gone c.mark_apart.new.gone) c.columns.ensures c.mark_apart.ensures in
    subst (λ (ks : List Kept). StoresLeaves c.mark_apart.new.gone all ks inside.ready) (sym c.index-indexed.ensures) (stores_dropped c.args.apart.now inside.gone c.mark_apart.new.gone all inside.kept c.drop_marked.new.self inside.ready marks c.drop_marked.ensures c.self.invariant)

pub returns : goal.returns
returns c =
    let inside = c.self.inside in
    let all = map kept_data inside.handed.value.items ++ map seen_data inside.decoded.items in
    let marks = subst (λ (ks : List Kept). MarksApart c.args.apart.now ks inside.gone c.mark_apart.new.gone) c.columns.ensures c.mark_apart.ensures in
    let after : List Kept → LeavesData = λ ks. record { all = all; here = unmarked c.mark_apart.new.gone ks; ready = inside.ready } in
    subst (λ (old : LeavesData). ForgetsApart c.args.apart.now old (after c.index-indexed.new.self)) c.self.view_is (subst (λ (ks : List Kept). ForgetsApart c.args.apart.now (record { all = all; here = unmarked inside.gone inside.kept; ready = inside.ready }) (after ks)) (sym c.index-indexed.ensures) (forgets_dropped c.args.apart.now inside.gone c.mark_apart.new.gone all inside.kept c.drop_marked.new.self inside.ready marks c.drop_marked.ensures))
