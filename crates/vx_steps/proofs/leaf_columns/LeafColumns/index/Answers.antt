use Rattle.std.proofs.Common.{List, ap, map, subst, sym, true, ◌∙◌, ◌++◌}
use Rattle.vx_steps.specs.Kept.{kept_data}
use Rattle.vx_steps.specs.KeptData.{Kept}
use Rattle.vx_steps.specs.LeafColumns.{seen_data, unmarked, StoresLeaves}
use Rattle.vx_steps.specs.LeavesData.{LeavesData}
use Rattle.vx_steps.specs.PlanMarks.{HasRoom}
use Rattle.vx_steps.proofs.Storing.{stores_ready, stores_same, unmarked_same}
use Rattle.vx_steps.proofs.leaf_columns.LeafColumns.index.Goals as goal

pub invariant_of-self : goal.invariant_of-self
invariant_of-self c =
    let inside = c.self.inside in
    let S : List Kept → Type 0 = λ kept. StoresLeaves inside.gone (map kept_data inside.handed.value.items ++ map seen_data inside.decoded.items) kept inside.ready in
    subst S (sym c.in_err-index.ensures) c.self.invariant

pub invariant_of-self-in_err-reach_all : goal.invariant_of-self-in_err-reach_all
invariant_of-self-in_err-reach_all c =
    let inside = c.self.inside in
    let S : List Kept → Type 0 = λ kept. StoresLeaves c.reach_all.new.gone (map kept_data inside.handed.value.items ++ map seen_data inside.decoded.items) kept inside.ready in
    subst S (sym c.in_ok-index.ensures) (stores_same inside.gone c.reach_all.new.gone (map kept_data inside.handed.value.items ++ map seen_data inside.decoded.items) inside.kept inside.ready c.in_err-reach_all.ensures.marks c.self.invariant)

pub invariant_of-self-2 : goal.invariant_of-self-2
invariant_of-self-2 c =
    let inside = c.self.inside in
    let S : List Kept → Type 0 = λ kept. StoresLeaves c.reach_all.new.gone (map kept_data inside.handed.value.items ++ map seen_data inside.decoded.items) kept true in
    let R : List Kept → Type 0 = λ kept. HasRoom c.reach_all.new.gone kept in
    let room = subst R (c.columns.ensures ∙ c.in_ok-index.ensures) c.in_ok-reach_all.ensures.room in
    subst S (sym c.in_ok-index.ensures) (stores_ready inside.gone c.reach_all.new.gone (map kept_data inside.handed.value.items ++ map seen_data inside.decoded.items) inside.kept inside.ready c.in_ok-reach_all.ensures.marks room c.self.invariant)

pub returns-in_err-index-clause-here : goal.returns-in_err-index-clause-here
returns-in_err-index-clause-here c = ap (unmarked c.self.inside.gone) c.in_err-index.ensures ∙ ap (λ (leaves : LeavesData). leaves.here) c.self.view_is

pub returns-in_err-reach_all-clause-here : goal.returns-in_err-reach_all-clause-here
returns-in_err-reach_all-clause-here c =
    let inside = c.self.inside in
    ap (unmarked c.reach_all.new.gone) c.in_ok-index.ensures ∙ (unmarked_same inside.gone c.reach_all.new.gone inside.kept c.in_err-reach_all.ensures.marks ∙ ap (λ (leaves : LeavesData). leaves.here) c.self.view_is)

pub returns-clause-here : goal.returns-clause-here
returns-clause-here c =
    let inside = c.self.inside in
    ap (unmarked c.reach_all.new.gone) c.in_ok-index.ensures ∙ (unmarked_same inside.gone c.reach_all.new.gone inside.kept c.in_ok-reach_all.ensures.marks ∙ ap (λ (leaves : LeavesData). leaves.here) c.self.view_is)
