use Rattle.std.proofs.Common.{ap, subst, ◌∙◌}
use Rattle.vx_steps.specs.declared.jobs.Progress.{Progress}
use Rattle.vx_steps.specs.declared.places.PlaceTable.{PlaceTable}
use Rattle.vx_steps.specs.LeafColumns.{ForgetsApart}
use Rattle.vx_steps.proofs.letting_go.end.Goals as goal

pub forget_all-requires : goal.forget_all-requires
forget_all-requires c = ap (λ (p : Progress). p.store.columns.ready) c.let_all_go.ensures.same ∙ c.requires

pub returns : goal.returns
returns c =
    let same = c.let_all_go.ensures.same in
    let mid = c.let_all_go.new.self in
    let columns = c.forget_all.new.self in
    let F : Progress → Type 0 = λ p. ForgetsApart p.needed.apart.places p.store.columns columns in
    record {
      active = c.clear.ensures.items;
      reads = c.let_all_go.ensures.reads;
      held = c.let_all_go.ensures.held;
      room = c.let_all_go.ensures.room;
      still = c.new.ensures;
      leaves = subst F same (subst (λ (apart : PlaceTable). ForgetsApart apart mid.store.columns columns) c.index-apart.ensures c.forget_all.ensures);
      same = ap (λ (p : Progress). record p { active = c.clear.new.self; store = record p.store { columns = columns }; needed = record p.needed { still = c.new.result } }) same;
    }
