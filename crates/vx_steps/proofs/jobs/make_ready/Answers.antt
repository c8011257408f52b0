use Rattle.std.proofs.Common.{List, map, ap, sym, subst, ◌∙◌}
use Rattle.vx_steps.specs.declared.jobs.Progress.{Progress}
use Rattle.vx_steps.specs.declared.leaf_stores.LeafStore.{LeafStore}
use Rattle.vx_steps.specs.KeptData.{Kept}
use Rattle.vx_steps.specs.OpenSegments.{AreCounted}
use Rattle.vx_steps.specs.Standings.{split_left, standing_of, Standing}
use Rattle.vx_steps.proofs.jobs.make_ready.Goals as goal

pub make_ready-requires : goal.make_ready-requires
make_ready-requires c =
    let P : Progress → Type 0 = λ progress. AreCounted c.args.table.now progress.store.columns.all progress.store.segments in
    subst P (sym c.in_ok-index_handed.ensures.progress) c.requires.counted

pub returns-clause-standing : goal.returns-clause-standing
returns-clause-standing c =
    let old = c.args.progress.now in
    let same = c.in_ok-index_handed.ensures.progress in
    let F : Progress → Standing = λ progress. standing_of (record progress { store = c.make_ready.new.self }) in
    let L : List Kept → Standing = λ leaves. record { next = old.next; started = map split_left old.active.items; reads = old.reads; leaves = leaves; wholes = old.wholes; held = old.needed.held.held } in
    ap F same ∙ ap L (c.make_ready.ensures.all ∙ ap (λ (progress : Progress). progress.store.columns.all) same)

pub returns-clause-here : goal.returns-clause-here
returns-clause-here c = c.make_ready.ensures.here ∙ ap (λ (progress : Progress). progress.store.columns.here) c.in_ok-index_handed.ensures.progress

pub returns-clause-others : goal.returns-clause-others
returns-clause-others c = ap (λ (progress : Progress). record progress { store = c.make_ready.new.self }) c.in_ok-index_handed.ensures.progress

pub returns-in_err-index_handed-clause-standing : goal.returns-in_err-index_handed-clause-standing
returns-in_err-index_handed-clause-standing c = ap standing_of c.in_err-index_handed.ensures.progress

pub returns-in_err-index_handed-clause-counted : goal.returns-in_err-index_handed-clause-counted
returns-in_err-index_handed-clause-counted c =
    let P : Progress → Type 0 = λ progress. AreCounted c.args.table.now progress.store.columns.all progress.store.segments in
    subst P (sym c.in_err-index_handed.ensures.progress) c.requires.counted

pub returns-in_err-index_handed-clause-here : goal.returns-in_err-index_handed-clause-here
returns-in_err-index_handed-clause-here c = ap (λ (progress : Progress). progress.store.columns.here) c.in_err-index_handed.ensures.progress

pub returns-in_err-index_handed-clause-others : goal.returns-in_err-index_handed-clause-others
returns-in_err-index_handed-clause-others c =
    let same = c.in_err-index_handed.ensures.progress in
    same ∙ ap (λ (store : LeafStore). record c.args.progress.now { store = store }) (ap (λ (progress : Progress). progress.store) (sym same))
